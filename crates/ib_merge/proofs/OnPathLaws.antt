-- The pages of a path by their place, and pages that are there still.
use Rattle.std.proofs.Common.{◌≡◌, ℕ, zero, suc, ◌+◌, ◌<◌, ◌≤◌, List, [], ◌∷◌, ◌++◌, length, get_or, refl, sym, ap, subst, arith, Some, cond, eqb, true, false}
use Rattle.std.specs.List.{All}
use Rattle.std.specs.Prelude.{IsSome}
use Rattle.std.proofs.lemmas.List.Elements.{All-get_or, All-from_get_or}
use Rattle.ib_map.specs.Keys.{MapKey}
use Rattle.ib_page.specs.Work.{WorkPage, changed_of}
use Rattle.ib_walk.specs.Pages.{PageMemory}
use Rattle.ib_walk.specs.Search.{child_for, page_below}
use Rattle.ib_plans.specs.Agreement.{IsThere, reads_of, path_down}
use Rattle.ib_merge.specs.Deletes.{nodes_on_path}

-- the page at a place is the one so many levels below
pub path_down-at : (m : PageMemory) (key : MapKey) (height page depth : ℕ) → depth ≤ height → get_or (path_down m key height page) depth 0 ≡ page_below m key depth page
path_down-at m key zero page zero le = refl
path_down-at m key zero page (suc depth) le = absurd (omega arith)
path_down-at m key (suc height) page zero le = refl
path_down-at m key (suc height) page (suc depth) le = path_down-at m key height (child_for key 0 (m page).records) depth (omega arith)

-- the nodes of a path are its pages but the last
nodes-count : (path : List ℕ) → length path ≤ length (nodes_on_path path) + 1
nodes-count [] = omega arith
nodes-count (x ∷ []) = omega arith
nodes-count (x ∷ y ∷ ys) = let r = nodes-count (y ∷ ys) in omega arith

pub nodes-few : (path : List ℕ) (i : ℕ) → i < length (nodes_on_path path) → i + 1 < length path
nodes-few [] i lt = absurd (omega arith)
nodes-few (x ∷ []) i lt = absurd (omega arith)
nodes-few (x ∷ y ∷ ys) zero lt = omega arith
nodes-few (x ∷ y ∷ ys) (suc i) lt = let r = nodes-few (y ∷ ys) i (omega arith) in omega arith

pub nodes-same : (path : List ℕ) (i : ℕ) → i + 1 < length path → get_or (nodes_on_path path) i 0 ≡ get_or path i 0
nodes-same [] i lt = absurd (omega arith)
nodes-same (x ∷ []) i lt = absurd (omega arith)
nodes-same (x ∷ y ∷ ys) zero lt = refl
nodes-same (x ∷ y ∷ ys) (suc i) lt = nodes-same (y ∷ ys) i (omega arith)

-- what holds of them
pub nodes-at : (P : ℕ → Type 0) (path : List ℕ) (i : ℕ) → All P (nodes_on_path path) → i + 1 < length path → P (get_or path i 0)
nodes-at P path i all lt = subst P (nodes-same path i lt) (All-get_or P (nodes_on_path path) i 0 (let l = nodes-count path in omega arith) all)

pub nodes-all : (P : ℕ → Type 0) (path : List ℕ) → ((i : ℕ) → i + 1 < length path → P (get_or path i 0)) → All P (nodes_on_path path)
nodes-all P path each = All-from_get_or P (nodes_on_path path) 0 (λ i lt. let few = nodes-few path i lt in subst P (sym (nodes-same path i few)) (each i few))

-- a path goes one level further down
pub path_down-last : (m : PageMemory) (key : MapKey) (depth page : ℕ) → path_down m key (suc depth) page ≡ path_down m key depth page ++ page_below m key (suc depth) page ∷ []
path_down-last m key zero page = refl
path_down-last m key (suc depth) page = ap (λ ps. page ∷ ps) (path_down-last m key depth (child_for key 0 (m page).records))

-- where the pages read are the same, the same pages are there
pub there-reads : (old new : List WorkPage) (page : ℕ) → reads_of new ≡ reads_of old → IsThere old page → IsThere new page
there-reads [] new page same there = absurd (cc)
there-reads (w ∷ ws) [] page same there = absurd (cc)
there-reads (w ∷ ws) (v ∷ vs) page same there =
    let e : v.page ≡ w.page = ap (λ (rs : List (ℕ × List ℕ)). first rs) same in
    let rest : reads_of vs ≡ reads_of ws = ap (λ (rs : List (ℕ × List ℕ)). tail rs) same in
    subst (λ n. IsSome (cond (eqb n page) (Some v.changed) (changed_of page vs))) (sym e)
    (elim (eqb w.page page) as (λ b. IsSome (cond b (Some w.changed) (changed_of page ws)) → IsSome (cond b (Some v.changed) (changed_of page vs))) [
      | true ↦ λ h. refl
      | false ↦ λ h. there-reads ws vs page rest h
    ] there)
  where
    first : List (ℕ × List ℕ) → ℕ
    first [] = 0
    first (r ∷ rs) = r.0

    tail : List (ℕ × List ℕ) → List (ℕ × List ℕ)
    tail [] = []
    tail (r ∷ rs) = rs
