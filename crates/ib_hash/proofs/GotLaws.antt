-- A lookup by a guess, and a descent where there is none or it is wrong: both are one call.
use Rattle.std.specs.List.{AllByRecursion}
use Rattle.std.specs.Prelude.{MatchOption}
use Rattle.std.proofs.Common.{◌≡◌, ◌≢◌, inl, inr, ℕ, ◌≤◌, true, List, ◌∷◌, length, take, drop, Option, Some, None, refl, sym, ap, subst, ◌∙◌, arith}
use Rattle.std.proofs.lemmas.List.{take-append-drop, take-append-le}
use Rattle.ib_map.specs.Keys.{MapKey}
use Rattle.ib_map.specs.Space.{has_pages}
use Rattle.ib_map.specs.declared.call.Call.TheVariants.{Get}
use Rattle.ib_map.specs.declared.call.Record.{Record}
use Rattle.ib_layout.specs.Geometry.{Sizes}
use Rattle.ib_logrec.specs.declared.entry.Entry.{Entry}
use Rattle.ib_logrec.specs.Log.{by_place}
use Rattle.ib_tree.specs.TreeLog.{opening}
use Rattle.ib_planned_log.specs.Kept.{IsKeptLog}
use Rattle.ib_planned_log.specs.KeptLog.{IsKeptLog-front}
use Rattle.ib_rule.specs.Conditions.{HasGrantsLeft}
use Rattle.ib_rule.specs.declared.looks.Grants.{Grants}
use Rattle.ib_rule.specs.Pass.{PassState}
use Rattle.ib_leaf.proofs.AfterLaws.{called-after_looks}
use Rattle.ib_hash.specs.Lookups.{HasGot, HasLookedByDescent, HasLookedByGuess, HasMissed, HasNotLooked}
use Rattle.ib_hash.specs.Pass.{GuessPassState, looked_at, stored_at}
use Rattle.ib_hash.specs.Right.{IsRightAfter}
use Rattle.ib_hash.specs.Slots.{slot_for}
use Rattle.ib_hash.proofs.LogLaws.{guess-none}

module _ (sizes : Sizes) (key : MapKey) (guess leaf : ℕ) (answer : Record) (gp : GuessPassState) (p q : PassState) where
  abbrev start : ℕ → ℕ
  start = by_place opening sizes.pages

  abbrev found : GuessPassState
  found = looked_at (slot_for key) guess gp

  pub got-right : HasLookedByGuess sizes (IsKeptLog sizes.pages) start key guess answer p q → HasGot sizes (IsKeptLog sizes.pages) start key answer gp found p q
  got-right looked = record { called = looked.called; guess = guess; by = inl (record { right = looked.right; grants = looked.grants; steps = refl }) }

  -- there is no guess
  got-none : has_pages sizes.pages ≡ true → guess ≡ 0 → HasLookedByDescent sizes (IsKeptLog sizes.pages) start key leaf answer p q → HasGot sizes (IsKeptLog sizes.pages) start key answer gp (stored_at (slot_for key) leaf found) p q
  got-none fits none looked =
      let front = take looked.called.first q.view.memory.seen in
      let legal : IsKeptLog sizes.pages front =
      IsKeptLog-front sizes.pages front (drop looked.called.first q.view.memory.seen) (subst (IsKeptLog sizes.pages) (sym (take-append-drop looked.called.first q.view.memory.seen)) looked.called.known.legal) in
      record {
        called = looked.called;
        guess = guess;
        by = inr (record {
          wrong = λ right. guess-none sizes fits front legal key (subst (λ (n : ℕ). IsRightAfter sizes front n key) none right);
          least = looked.least;
          s = let s = looked.s in omega arith;
          none = λ none. looked.s;
          sx = looked.sx;
          x = looked.x;
          steps = ap (λ (n : ℕ). stored_at (slot_for key) n found) looked.is_leaf;
        });
      }

  -- the guess is wrong
  got-wrong : (o : PassState) → guess ≢ 0 → HasMissed sizes key guess p o → HasLookedByDescent sizes (IsKeptLog sizes.pages) start key leaf answer o q → HasGot sizes (IsKeptLog sizes.pages) start key answer gp (stored_at (slot_for key) leaf found) p q
  got-wrong o some missed looked =
      let whole = called-after_looks sizes (IsKeptLog sizes.pages) start (Get key) answer p o q (λ h session one other reply place fits. fits) missed.stopped.went missed.first missed.rest missed.added looked.called in
      let within : AllByRecursion (λ k. (length p.view.memory.seen ≤ k) × (k ≤ length o.view.memory.seen)) (missed.first ∷ missed.rest) =
      subst (AllByRecursion (λ k. (length p.view.memory.seen ≤ k) × (k ≤ length o.view.memory.seen))) missed.added missed.stopped.went.bounds in
      let front : take missed.first q.view.memory.seen ≡ take missed.first o.view.memory.seen =
      ap (take missed.first) looked.called.seen ∙ take-append-le missed.first o.view.memory.seen looked.called.more within.0.1 in
      let same : take whole.0.first q.view.memory.seen ≡ take missed.first o.view.memory.seen = ap (λ (n : ℕ). take n q.view.memory.seen) whole.1 ∙ front in
      record {
        called = whole.0;
        guess = guess;
        by = inr (record {
          wrong = λ right. missed.wrong (subst (λ (log : List Entry). IsRightAfter sizes log guess key) same right);
          least = let one = ap (λ (g : Grants). g.s) missed.grants in let least = looked.least in omega arith;
          s = let one = ap (λ (g : Grants). g.s) missed.grants in let s = looked.s in omega arith;
          none = λ none. absurd (some none);
          sx = looked.sx ∙ ap (λ (g : Grants). g.sx) missed.grants;
          x = looked.x ∙ ap (λ (g : Grants). g.x) missed.grants;
          steps = ap (λ (n : ℕ). stored_at (slot_for key) n found) looked.is_leaf;
        });
      }

  pub got-else : has_pages sizes.pages ≡ true → (o : PassState) → HasNotLooked sizes key guess p o → HasLookedByDescent sizes (IsKeptLog sizes.pages) start key leaf answer o q → HasGot sizes (IsKeptLog sizes.pages) start key answer gp (stored_at (slot_for key) leaf found) p q
  got-else fits o (inl none) looked = got-none fits none.0 (subst (λ (s : PassState). HasLookedByDescent sizes (IsKeptLog sizes.pages) start key leaf answer s q) none.1 looked)
  got-else fits o (inr missed) looked = got-wrong o missed.0 missed.1 looked

-- a try by a guess takes one grant
pub room-of : (sizes : Sizes) (lawful : List Entry → Type 0) (opens : ℕ → ℕ) (key : MapKey) (guess : ℕ) (p q : PassState) (o : Option Record)
    → MatchOption o (HasMissed sizes key guess p q) (λ answer. HasLookedByGuess sizes lawful opens key guess answer p q) → HasGrantsLeft 65 p.view → HasGrantsLeft 64 q.view
room-of sizes lawful opens key guess p q None missed room =
    let s = ap (λ (g : Grants). g.s) missed.grants in let sx = ap (λ (g : Grants). g.sx) missed.grants in let x = ap (λ (g : Grants). g.x) missed.grants in omega arith
room-of sizes lawful opens key guess p q (Some answer) looked room =
    let s = ap (λ (g : Grants). g.s) looked.grants in let sx = ap (λ (g : Grants). g.sx) looked.grants in let x = ap (λ (g : Grants). g.x) looked.grants in omega arith

pub else-of : (sizes : Sizes) (lawful : List Entry → Type 0) (opens : ℕ → ℕ) (key : MapKey) (guess : ℕ) (p q : PassState) (o : Option Record)
    → guess ≢ 0
    → MatchOption o (HasMissed sizes key guess p q) (λ answer. HasLookedByGuess sizes lawful opens key guess answer p q)
    → MatchOption o (HasNotLooked sizes key guess p q) (λ answer. HasLookedByGuess sizes lawful opens key guess answer p q)
else-of sizes lawful opens key guess p q None some missed = inr (some, missed)
else-of sizes lawful opens key guess p q (Some answer) some looked = looked
