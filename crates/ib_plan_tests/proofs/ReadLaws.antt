-- Work sets read from one memory, and lists of their pages.
use Rattle.std.proofs.Common.{◌≡◌, ℕ, ◌+◌, ◌<◌, ◌≤◌, List, [], ◌∷◌, length, get_or, sym, subst, inl, inr, ltb, arith}
use Rattle.std.specs.Prelude.{IfSome, IsSomeAnd, slice_get}
use Rattle.std.specs.List.{All}
use Rattle.std.proofs.lemmas.Bool.{cases_eq, cases_Bool, eq-eqb, ne_eqb}
use Rattle.std.proofs.lemmas.List.Elements.{All-from_get_or}
use Rattle.ib_map.specs.Keys.{MapKey, rank, end_rank}
use Rattle.ib_map.specs.Pairs.{Pairs}
use Rattle.ib_map.specs.Pairs.{first_rank}
use Rattle.ib_page.specs.Work.{WorkPage, changed_of, with_page}
use Rattle.ib_merge.specs.Deletes.{nodes_on_path}
use Rattle.ib_merge.proofs.OnPathLaws.{nodes-few, nodes-same}

-- what holds of the image of a page holds where another page is put in
pub put-at : (P : List ℕ → Type 0) (q : WorkPage) (work : List WorkPage) (n : ℕ) → (q.page ≡ n → P q.changed) → IfSome (changed_of n work) P → IfSome (changed_of n (with_page q work)) P
put-at P q [] n own here = elim (cases_eq q.page n) [
  | inl e ↦ let same = eq-eqb q.page n e in rw same (own e)
  | inr ne ↦ let no = ne_eqb q.page n ne in rw no here
]
put-at P q (w ∷ ws) n own here = elim (cases_Bool (ltb w.page q.page)) [
  | inl below ↦ rw below (elim (cases_eq w.page n) [
    | inl e ↦ let same = eq-eqb w.page n e in rw same (rw same at here)
    | inr ne ↦ let no = ne_eqb w.page n ne in rw no (put-at P q ws n own (rw no at here))
  ])
  | inr above ↦ rw above (elim (cases_eq q.page n) [
    | inl e ↦ let same = eq-eqb q.page n e in rw same (own e)
    | inr ne ↦ let no = ne_eqb q.page n ne in rw no here
  ])
]

-- one place more
pub one-more : (P : ℕ → Type 0) (k : ℕ) → ((i : ℕ) → i < k → P i) → P k → (i : ℕ) → i < k + 1 → P i
one-more P k below here i lt = elim (cases_eq i k) [
  | inl e ↦ subst P (sym e) here
  | inr ne ↦ below i (omega arith)
]

-- what holds at each place of a list
pub all-at : (P : ℕ → Type 0) (xs : List ℕ) (k : ℕ) → length xs ≤ k → ((i : ℕ) → i < k → P (get_or xs i 0)) → All P xs
all-at P xs k long at = All-from_get_or P xs 0 (λ i lt. at i (omega arith))

-- what holds of each page of a path but the last
pub nodes-all : (P : ℕ → Type 0) (path : List ℕ) (k : ℕ) → length path ≤ k + 1 → ((i : ℕ) → i < k → P (get_or path i 0)) → All P (nodes_on_path path)
nodes-all P path k long at = All-from_get_or P (nodes_on_path path) 0 (λ i lt. subst P (sym (nodes-same path i (nodes-few path i lt))) (at i (let c = nodes-few path i lt in omega arith)))

-- a node's first key is its first rank
pub first-le : (key : MapKey) (xs : Pairs) → 0 < length xs → IsSomeAnd (slice_get xs 0) (λ r. rank r.0 ≤ rank key) → first_rank xs end_rank ≤ rank key
first-le key [] some le = absurd (omega arith)
first-le key (x ∷ xs) some le = le
