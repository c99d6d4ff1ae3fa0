-- The law, clause by clause.
use Rattle.std.proofs.Common.{◌≡◌, ℕ, [], arith}
use Rattle.ib_rule.specs.Roles.{live}
use Rattle.ib_rule.proofs.Turning.{turn_answer, turn_keeps, turn_marks}
use Rattle.ib_rule.proofs.laws.step_law.Goals as goal

alive_by : (n : ℕ) → n ≡ 1 → n ≡ 0 → ⊥
alive_by n one none = absurd (omega arith)

pub returns-clause-kept : goal.returns-clause-kept
returns-clause-kept g c sizes s id v e left looks made closed can =
    turn_keeps g.L.Law.lawful g.L.Law.opening sizes s made.kept id v made.seat (alive_by (live v.role) made.session) e made.inside left made.leaves can looks closed []

pub returns-clause-marks : goal.returns-clause-marks
returns-clause-marks g c sizes s id v e left made = turn_marks g.L.Law.lawful g.L.Law.opening sizes s made.kept id v made.seat (alive_by (live v.role) made.session) e made.inside left made.leaves

pub returns-clause-answer : goal.returns-clause-answer
returns-clause-answer g c sizes s id v e left made = turn_answer g.L.Law.lawful g.L.Law.opening sizes s made.kept id v made.seat (alive_by (live v.role) made.session) e made.inside left made.leaves
