-- Calls by guesses: the call of the index after a guess that was no way to an answer is one with the look before it.
use Rattle.std.proofs.Common.{◌≡◌, inl, inr, ◌+◌, ◌≤◌, ℕ, Bool, true, false, [], ◌∷◌, Some, Ok, Err, ap, subst, arith}
use Rattle.ib_map.specs.Keys.{MapKey}
use Rattle.ib_map.specs.declared.call.Call.{Call}
use Rattle.ib_map.specs.declared.call.Call.TheVariants.{Get}
use Rattle.ib_map.specs.declared.call.Record.{Record}
use Rattle.ib_levels.specs.declared.level.Mode.TheVariants.{X}
use Rattle.ib_layout.specs.Geometry.{Sizes}
use Rattle.ib_logrec.specs.Log.{by_place}
use Rattle.ib_walk.specs.Pages.{PageState}
use Rattle.ib_tree.specs.TreeLog.{opening}
use Rattle.ib_planned_log.specs.Kept.{IsKeptLog}
use Rattle.ib_rule.specs.declared.looks.Grants.{Grants}
use Rattle.ib_rule.specs.Pass.{PassState}
use Rattle.ib_rule.specs.Views.{total, with_grant}
use Rattle.ib_leaf.specs.Calls.{HasCalled}
use Rattle.ib_leaf.specs.Ends.{HasStopped, grants_for, reaches_log}
use Rattle.ib_hash.specs.Lookups.{HasGot}
use Rattle.ib_hash.specs.Pass.{GuessPassState}
use Rattle.ib_hash.specs.Tries.{TriedBy}
use Rattle.ib_hash.specs.declared.miss.Miss.{Miss}
use Rattle.ib_hash.specs.declared.miss.Miss.TheVariants.{NoGuess, Wrong, NeedsTree}
use Rattle.ib_index.specs.Lookups.{HasLookedUp}
use Rattle.ib_leaf.proofs.AfterLaws.{IsFreeOfReach, called-after_stop}
use Rattle.ib_runs.specs.Access.{TakesByMode}
use Rattle.ib_runs.specs.Sessions.{IsRead, TakesGrants, most_grants}
use Rattle.ib_runs.proofs.GrantLaws.{takes_one}

module _ (sizes : Sizes) where
  abbrev starts : ℕ → ℕ
  starts = by_place opening sizes.pages

  abbrev IsCalled : Call → Record → PassState → PassState → Type 0
  IsCalled call answer p q = HasCalled sizes (IsKeptLog sizes.pages) starts call answer p q

  -- the call was answered, for these grants and of these modes
  abbrev pub IsAccessed : Bool → Call → Record → PassState → PassState → Type 0
  IsAccessed guesses call answer p q = IsCalled call answer p q × TakesGrants guesses (call ∷ []) p q × TakesByMode call p q

  -- a lookup by a descent
  pub accessed-looked : (key : MapKey) (answer : Record) (p q : PassState) → HasLookedUp sizes (IsKeptLog sizes.pages) starts key answer p q → IsAccessed false (Get key) answer p q
  accessed-looked key answer p q h =
      let least = h.least in let most = h.most in let sx = h.sx in let x = h.x in
      (h.called, takes_one false (Get key) p q (omega arith) (λ read. omega arith), record { reads = λ read. (sx, x); claims = omega arith })

  -- a lookup by a guess, or by the descent after it
  pub accessed-got : (key : MapKey) (answer : Record) (gp hp : GuessPassState) (p q : PassState) → HasGot sizes (IsKeptLog sizes.pages) starts key answer gp hp p q → IsAccessed true (Get key) answer p q
  accessed-got key answer gp hp p q h = (
    h.called,
    elim h.by [
      | inl right ↦ (let all = ap (λ (g : Grants). total g) right.grants in takes_one true (Get key) p q (omega arith) (λ read. omega arith))
      | inr wrong ↦ (let least = wrong.least in let s = wrong.s in let sx = wrong.sx in let x = wrong.x in takes_one true (Get key) p q (omega arith) (λ read. omega arith))
    ],
    elim h.by [
      | inl right ↦ (let sx = ap (λ (g : Grants). g.sx) right.grants in let x = ap (λ (g : Grants). g.x) right.grants in record { reads = λ read. (sx, x); claims = omega arith })
      | inr wrong ↦ (let sx = wrong.sx in let x = wrong.x in record { reads = λ read. (sx, x); claims = omega arith })
    ],
  )

  -- .. leaves the pass on guesses one of the same table
  pub got-table : (key : MapKey) (answer : Record) (gp hp : GuessPassState) (p q : PassState) → HasGot sizes (IsKeptLog sizes.pages) starts key answer gp hp p q → hp.table ≡ gp.table
  got-table key answer gp hp p q h = elim h.by [
    | inl right ↦ ap (λ (x : GuessPassState). x.table) right.steps
    | inr wrong ↦ ap (λ (x : GuessPassState). x.table) wrong.steps
  ]

  -- a change by a descent
  pub accessed-changed : (call : Call) (answer : Record) (p q : PassState) → most_grants false call ≡ 128 → (IsRead call → ⊥) → IsCalled call answer p q → total q.view.grants ≤ total p.view.grants + 128
      → q.view.grants.sx ≤ p.view.grants.sx + 1 → IsAccessed false call answer p q
  accessed-changed call answer p q most change called few claims = (called, takes_one false call p q (omega arith) (λ read. absurd (change read)), record { reads = λ read. absurd (change read); claims = claims })

  module _ (call : Call) (most : most_grants true call ≡ 129) (change : IsRead call → ⊥) where
    -- the grants of a change by its guess
    few-tried : (b : Bool) (p q : PassState) → q.view.grants ≡ grants_for b (with_grant (Some X) p.view.grants) → total q.view.grants ≤ total p.view.grants + most_grants true call
    few-tried false p q is = let all = ap (λ (g : Grants). total g) is in omega arith
    few-tried true p q is = let all = ap (λ (g : Grants). total g) is in omega arith

    -- .. of which none is of SX
    sx-tried : (b : Bool) (p q : PassState) → q.view.grants ≡ grants_for b (with_grant (Some X) p.view.grants) → q.view.grants.sx ≤ p.view.grants.sx + 1
    sx-tried false p q is = let sx = ap (λ (g : Grants). g.sx) is in omega arith
    sx-tried true p q is = let sx = ap (λ (g : Grants). g.sx) is in omega arith

    -- a change that claimed the index once at most
    by_mode : (p q : PassState) → q.view.grants.sx ≤ p.view.grants.sx + 1 → TakesByMode call p q
    by_mode p q claims = record { reads = λ read. absurd (change read); claims = claims }

    -- a change by a guess that was right and enough
    pub accessed-tried : (why : ℕ → PageState → Type 0) (key : MapKey) (guess : ℕ) (answer : Record) (p q : PassState) → TriedBy sizes (IsKeptLog sizes.pages) starts why key call guess (Ok answer) p q → IsAccessed true call answer p q
    accessed-tried why key guess answer p q tried =
        let reaches = reaches_log answer.reply in
        (tried.called, takes_one true call p q (few-tried reaches p q tried.grants) (λ read. absurd (change read)), by_mode p q (sx-tried reaches p q tried.grants))

    -- the call of the index after a guess that was tried and stopped
    again : (answer : Record) (p q r : PassState) → IsFreeOfReach call → HasStopped sizes p q → q.view.grants ≡ with_grant (Some X) p.view.grants → IsCalled call answer q r → total r.view.grants ≤ total q.view.grants + 128
        → r.view.grants.sx ≤ q.view.grants.sx + 1 → IsAccessed true call answer p r
    again answer p q r free stopped one called few claims =
        let all = ap (λ (g : Grants). total g) one in let sx = ap (λ (g : Grants). g.sx) one in
        (called-after_stop sizes (IsKeptLog sizes.pages) starts call answer p q r free stopped called, takes_one true call p r (omega arith) (λ read. absurd (change read)), by_mode p r (omega arith))

    -- a change by the index after its guess was no way to an answer
    pub accessed-missed : (why : ℕ → PageState → Type 0) (key : MapKey) (guess : ℕ) (miss : Miss) (answer : Record) (p q r : PassState) → IsFreeOfReach call
        → TriedBy sizes (IsKeptLog sizes.pages) starts why key call guess (Err miss) p q → IsCalled call answer q r → total r.view.grants ≤ total q.view.grants + 128
        → r.view.grants.sx ≤ q.view.grants.sx + 1 → IsAccessed true call answer p r
    accessed-missed why key guess NoGuess answer p q r free tried called few claims =
        let all = ap (λ (s : PassState). total s.view.grants) tried.1 in let sx = ap (λ (s : PassState). s.view.grants.sx) tried.1 in
        (subst (λ (s : PassState). IsCalled call answer s r) tried.1 called, takes_one true call p r (omega arith) (λ read. absurd (change read)), by_mode p r (omega arith))
    accessed-missed why key guess (Wrong page) answer p q r free tried called few claims = again answer p q r free tried.stopped tried.grants called few claims
    accessed-missed why key guess (NeedsTree page) answer p q r free tried called few claims = again answer p q r free tried.stopped tried.grants called few claims
