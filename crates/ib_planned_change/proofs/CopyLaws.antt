-- Pages that are copied into a work set.
use Rattle.std.specs.List.{All}
use Rattle.std.specs.Prelude.{IsSome, nat_lt}
use Rattle.std.proofs.Common.{◌≡◌, ℕ, ◌+◌, ◌<◌, ◌≤◌, Bool, true, false, cond, List, [], ◌∷◌, ◌++◌, length, Some, refl, arith, eqb, eq-eqb}
use Rattle.std.proofs.lemmas.List.Elements.{All-nil, All-cons, All-head, All-tail}
use Rattle.ib_page.specs.Memory.{image_at}
use Rattle.ib_page.specs.Work.{WorkPage, changed_of, with_page, with_read}
use Rattle.ib_plans.specs.Agreement.{IsThere}
use Rattle.ib_planned_change.specs.Copies.{IsCopy, AreCopies, HasCopied}

module _ (q : WorkPage) where
  all-with : (P : WorkPage → Type 0) (ps : List WorkPage) → P q → All P ps → All P (with_page q ps)
  all-with P [] here all = All-cons P q [] here all
  all-with P (p ∷ ps) here all =
      elim (nat_lt p.page q.page) as (λ b. All P (cond b (p ∷ with_page q ps) (q ∷ p ∷ ps))) [
        | true ↦ All-cons P p (with_page q ps) (All-head P p ps all) (all-with P ps here (All-tail P p ps all))
        | false ↦ All-cons P q (p ∷ ps) here all
      ]

  length-with : (ps : List WorkPage) → length (with_page q ps) ≡ length ps + 1
  length-with [] = refl
  length-with (p ∷ ps) =
      let r = length-with ps in
      elim (nat_lt p.page q.page) as (λ b. length (cond b (p ∷ with_page q ps) (q ∷ p ∷ ps)) ≡ length (p ∷ ps) + 1) [ true ↦ omega arith | false ↦ omega arith ]

  -- a page that is there, or in front of others
  some-cons : (n : ℕ) (p : WorkPage) (ps : List WorkPage) → IsSome (changed_of n ps) → IsSome (changed_of n (p ∷ ps))
  some-cons n p ps there = elim (eqb p.page n) as (λ b. IsSome (cond b (Some p.changed) (changed_of n ps))) [ true ↦ refl | false ↦ there ]

  some-head : (n : ℕ) (p : WorkPage) (ps qs : List WorkPage) → (IsSome (changed_of n ps) → IsSome (changed_of n qs)) → IsSome (changed_of n (p ∷ ps)) → IsSome (changed_of n (p ∷ qs))
  some-head n p ps qs more = go (eqb p.page n)
    where
      go : (b : Bool) → IsSome (cond b (Some p.changed) (changed_of n ps)) → IsSome (cond b (Some p.changed) (changed_of n qs))
      go true there = refl
      go false there = more there

  there-with : (n : ℕ) (ps : List WorkPage) → IsThere ps n → IsThere (with_page q ps) n
  there-with n [] there = absurd (cc)
  there-with n (p ∷ ps) there =
      elim (nat_lt p.page q.page) as (λ b. IsSome (changed_of n (cond b (p ∷ with_page q ps) (q ∷ p ∷ ps)))) [
        | true ↦ some-head n p ps (with_page q ps) (there-with n ps) there
        | false ↦ some-cons n q (p ∷ ps) there
      ]

  here-with : (ps : List WorkPage) → IsThere (with_page q ps) q.page
  here-with [] = let yes = eq-eqb q.page q.page refl in rw yes refl
  here-with (p ∷ ps) =
      let yes = eq-eqb q.page q.page refl in
      elim (nat_lt p.page q.page) as (λ b. IsSome (changed_of q.page (cond b (p ∷ with_page q ps) (q ∷ p ∷ ps)))) [
        | true ↦ some-cons q.page p (with_page q ps) (here-with ps)
        | false ↦ rw yes refl
      ]

module _ (images : List (List ℕ)) where
  -- nothing is copied, one page is, and more behind others
  pub copied-none : (most : ℕ) (work : List WorkPage) → HasCopied images most work work
  copied-none most work = record { copies = λ all. all; kept = λ n there. there; count = omega arith }

  pub copied-one : (page : ℕ) (image : List ℕ) (work : List WorkPage) → page < length images → image_at images page ≡ image → HasCopied images 1 work (with_read page image work)
  copied-one page image work lt is =
      let q : WorkPage = record { page = page; before = image; changed = image } in
      let copy : IsCopy images q = record { within = lt; before = is; same = refl } in
      let long = length-with q work in
      record { copies = λ all. all-with q (IsCopy images) work copy all; kept = λ n there. there-with q n work there; count = omega arith }

  pub copied-here : (page : ℕ) (image : List ℕ) (work : List WorkPage) → IsThere (with_read page image work) page
  copied-here page image work = here-with (record { page = page; before = image; changed = image }) work

  pub copied-both : (a b : ℕ) (old mid new : List WorkPage) → HasCopied images a old mid → HasCopied images b mid new → HasCopied images (a + b) old new
  copied-both a b old mid new one two = record {
    copies = λ all. two.copies (one.copies all);
    kept = λ n there. two.kept n (one.kept n there);
    count = let x = one.count in let y = two.count in omega arith;
  }

  pub copied-more : (a b : ℕ) (old new : List WorkPage) → a ≤ b → HasCopied images a old new → HasCopied images b old new
  copied-more a b old new le one = record { copies = one.copies; kept = one.kept; count = let x = one.count in omega arith }

  -- what was there is there, and one more
  pub there-more : (pages : List ℕ) (page : ℕ) (old new : List WorkPage) → HasCopied images 1 old new → All (IsThere old) pages → IsThere new page → All (IsThere new) (pages ++ page ∷ [])
  there-more [] page old new one all here = All-cons (IsThere new) page [] here (All-nil (IsThere new))
  there-more (p ∷ ps) page old new one all here =
      All-cons (IsThere new) p (ps ++ page ∷ []) (one.kept p (All-head (IsThere old) p ps all)) (there-more ps page old new one (All-tail (IsThere old) p ps all) here)

-- no page is there yet
pub copies-none : (images : List (List ℕ)) → AreCopies images []
copies-none images = All-nil (IsCopy images)

-- all that was there is
pub all-kept : (images : List (List ℕ)) (most : ℕ) (old new : List WorkPage) → HasCopied images most old new → (pages : List ℕ) → All (IsThere old) pages → All (IsThere new) pages
all-kept images most old new copied pages all = λ k d lt. copied.kept _ (all k d lt)
