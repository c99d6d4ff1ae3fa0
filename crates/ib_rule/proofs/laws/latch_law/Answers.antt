-- The law, clause by clause.
use Rattle.std.proofs.Common.{◌≡◌, ⊎_elim, ℕ, List, [], ◌∷◌, subst, ◌∙◌}
use Rattle.std.specs.Prelude.{slice_index}
use Rattle.std.specs.List.{AllByRecursion}
use mathlib.Core.Logic.{dite}
use native.Mathlib.Decide.{ℕ_discrete}
use Rattle.ib_layout.specs.Places.{latches_of, writer_place}
use Rattle.ib_core.specs.declared.latch_word.LatchWord.TheVariants.{Lock}
use Rattle.ib_core.proofs.InWords.{compatible, word_of_counts}
use Rattle.ib_rule.specs.declared.view.View.{View}
use Rattle.ib_rule.specs.Roles.{session_number_of}
use Rattle.ib_rule.specs.Rule.{IsWriter, marks_in}
use Rattle.ib_rule.specs.Laws.{Stores, sessions_in_state}
use Rattle.ib_rule.proofs.Turning.{raises_few, readers_few}
use Rattle.ib_rule.proofs.Words.{tells_by}
use Rattle.ib_rule.proofs.laws.latch_law.Goals as goal

pub returns-clause-good : goal.returns-clause-good
returns-clause-good g c sizes s kept = (kept.latches.good, readers_few g.L.Law.lawful g.L.Law.opening sizes s kept)

pub returns-clause-counted : goal.returns-clause-counted
returns-clause-counted g c sizes s latch kept inside =
    tells_by (latches_of sizes) s.words latch inside (sessions_in_state s) kept.latches Lock ∙ word_of_counts (marks_in (latches_of sizes) s.words) (sessions_in_state s) latch kept.latches.good

pub returns-clause-compatible : goal.returns-clause-compatible
returns-clause-compatible g c sizes s latch kept = compatible (marks_in (latches_of sizes) s.words) (sessions_in_state s) kept.latches.good latch

pub returns-clause-one_next_writer : goal.returns-clause-one_next_writer
returns-clause-one_next_writer g c sizes s latch i j a b kept at bt next next' = dite (ℕ_discrete i j) (λ e. e)
    (λ n. absurd ((((compatible (marks_in (latches_of sizes) s.words) (sessions_in_state s) kept.latches.good latch).beside i j a b at bt n).one_next next).2 next'))

pub returns-clause-orderly : goal.returns-clause-orderly
returns-clause-orderly g c sizes s i a kept at = (kept.latches.good.proper i a at).orderly

found_writer : (latches : ℕ) (words : List ℕ) (v : View) (latch : ℕ) (ks : List ℕ) → AllByRecursion (IsWriter latches words v) ks → Stores latch ks → slice_index words (writer_place latch) ≡ session_number_of v.role
found_writer latches words v latch [] all stores = absurd stores
found_writer latches words v latch (k ∷ ks) all stores = ⊎_elim
    (λ (is : k ≡ latch). subst (λ (k : ℕ). slice_index words (writer_place k) ≡ session_number_of v.role) is all.0.1)
    (λ (rest : Stores latch ks). found_writer latches words v latch ks all.1 rest) stores

pub returns-clause-writer : goal.returns-clause-writer
returns-clause-writer g c sizes s latch i v kept at stores = found_writer (latches_of sizes) s.words v latch v.written (kept.writers i v at) stores

pub returns-clause-raises : goal.returns-clause-raises
returns-clause-raises g c sizes s latch kept inside = raises_few g.L.Law.lawful g.L.Law.opening sizes s kept latch inside
