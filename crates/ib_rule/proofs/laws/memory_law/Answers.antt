-- The law, clause by clause.
use Rattle.std.proofs.Common.{◌≡◌, ◌+◌, ◌<◌, ℕ, subst, arith}
use Rattle.std.specs.Prelude.{slice_index}
use Rattle.ib_map.specs.Writes.{word_place}
use Rattle.ib_layout.specs.Places.{page_place}
use Rattle.ib_logrec.specs.Log.{by_place, memory_after}
use Rattle.ib_rule.specs.Laws.{HoldsSince}
use Rattle.ib_rule.specs.Memory.{IsAppending, base, page_places}
use Rattle.ib_rule.specs.Roles.{live, session_number_of}
use Rattle.ib_rule.proofs.Alone.{alone, number_live, one_claims}
use Rattle.ib_rule.proofs.Lists.{each_map}
use Rattle.ib_rule.proofs.laws.memory_law.Goals as goal

pub returns-clause-log : goal.returns-clause-log
returns-clause-log g c sizes s kept = let m = kept.memory in record { legal = m.legal; room = m.room; end = m.end; logged = m.logged }

pub returns-clause-pages : goal.returns-clause-pages
returns-clause-pages g c sizes s kept page index inside small none =
    let place : base sizes + word_place page index ≡ page_place sizes page index = omega arith in
    let within : word_place page index < page_places sizes = omega arith in
    subst (λ p. slice_index s.words p ≡ memory_after (by_place g.L.Law.opening sizes.pages) kept.log (word_place page index)) place (kept.memory.paged (word_place page index) within none)

pub returns-clause-stored : goal.returns-clause-stored
returns-clause-stored g c sizes s i v o kept at is =
    let f = kept.memory.follows i v at in
    let w = subst (λ a. IsAppending sizes (g.L.Law.lawful sizes.pages) s.words kept.log (session_number_of v.role) v.session v.memory a) is f.append in
    (w.fits.log_x, λ q stored. (w.fits.pages_x q (w.pages_done q stored).0).1)

pub returns-clause-seen : goal.returns-clause-seen
returns-clause-seen g c sizes s kept i v at = (kept.memory.follows i v at).seen

alive_by : (n : ℕ) → n ≡ 1 → n ≡ 0 → ⊥
alive_by n one none = absurd (omega arith)

pub returns-clause-own : goal.returns-clause-own
returns-clause-own g c sizes s kept i v at is = ((kept.memory.follows i v at).mine (number_live g.L.Law.lawful g.L.Law.opening sizes s kept i v at (alive_by (live v.role) is))).0

pub returns-clause-ended : goal.returns-clause-ended
returns-clause-ended g c sizes s kept i v at = kept.memory.ended i v at

pub returns-clause-undrawn : goal.returns-clause-undrawn
returns-clause-undrawn g c sizes s kept n above = kept.memory.undrawn n above

pub returns-clause-stable : goal.returns-clause-stable
returns-clause-stable g c sizes s kept i v at =
    each_map _ (HoldsSince (session_number_of v.role) v.session kept.log) v.memory.since (λ x fact. (fact.0.held, fact.2)) (kept.memory.follows i v at).since

pub returns-clause-loaded : goal.returns-clause-loaded
returns-clause-loaded g c sizes s kept i v at = (kept.memory.follows i v at).loaded

pub returns-clause-x_alone : goal.returns-clause-x_alone
returns-clause-x_alone g c sizes s latch i j u v kept at bt apart free owns = alone g.L.Law.lawful g.L.Law.opening sizes s kept i j u v at bt apart free latch owns

pub returns-clause-claim_alone : goal.returns-clause-claim_alone
returns-clause-claim_alone g c sizes s latch i j u v kept at bt apart has = one_claims g.L.Law.lawful g.L.Law.opening sizes s kept i j u v at bt apart latch has
