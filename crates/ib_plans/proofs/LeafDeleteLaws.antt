-- One pair fewer in the leaf of a key.
use Rattle.std.proofs.Common.{◌≡◌, ◌≢◌, ℕ, ◌<◌, ◌≤◌, ◌∙◌, ◌++◌, length, sym, ap, subst, arith}
use Rattle.ib_map.specs.Keys.{MapKey, end_rank, rank}
use Rattle.ib_map.specs.Pairs.{Rises, without}
use Rattle.ib_map.proofs.PairLaws.{Rises-without, without-before, without-behind}
use Rattle.ib_heap.specs.declared.TheConstants.{MOST_RECORDS}
use Rattle.ib_walk.specs.Pages.{PageMemory}
use Rattle.ib_walk.specs.Search.{leaf_for}
use Rattle.ib_walk.specs.Trees.{IsLawful, content_of, weight_of}
use Rattle.ib_walk.specs.Walk.{Visit}
use Rattle.ib_walk.proofs.LeafLaws.{Around-edit, IsLawful-edit, IsLeafEdit, content_of-other, weight_of-edit}
use Rattle.ib_walk.proofs.MeetLaws.{HasLinks}
use Rattle.ib_plans.proofs.RecordLaws.{length-without_le}

-- the leaf has no pair of the key any more
pub record IsLeafDelete (m new : PageMemory) (key : MapKey) (page : ℕ) : Type 0 where
  pub other : (n : ℕ) → n ≢ page → new n ≡ m n
  pub kind : (new page).kind ≡ (m page).kind
  pub level : (new page).level ≡ (m page).level
  pub links : HasLinks (new page) (m page)
  pub records : (new page).records ≡ without key (m page).records

-- what is left fits each range
pub IsLeafEdit-delete : (m new : PageMemory) (key : MapKey) (page : ℕ) → IsLeafDelete m new key page → IsLeafEdit m new key page
IsLeafEdit-delete m new key page i = record {
  other = i.other;
  kind = i.kind;
  level = i.level;
  links = i.links;
  fits = λ low high r le lt. subst (λ xs. Rises low xs high) (sym i.records) (Rises-without key low (m page).records high r);
}

-- a delete in a leaf: all of the law, the content, and each visit as it was
pub record IsDeleted (m new : PageMemory) (bits : ℕ → ℕ) (roots : ℕ) (key : MapKey) (root : ℕ) : Type 0 where
  pub lawful : IsLawful new bits roots
  pub holds : content_of new root ≡ without key (content_of m root)
  pub others : (r : ℕ) → 0 < r → r ≤ roots → r ≢ root → content_of new r ≡ content_of m r
  pub ranges : (f : ℕ → Visit → ℕ) (r : ℕ) → 0 < r → r ≤ roots → weight_of f new r ≡ weight_of f m r

pub IsDeleted-leaf : (m new : PageMemory) (bits : ℕ → ℕ) (roots : ℕ) (key : MapKey) (root : ℕ) → IsLawful m bits roots → 0 < root → root ≤ roots → rank key < end_rank
    → IsLeafDelete m new key (leaf_for m key root) → length (m (leaf_for m key root)).records ≤ MOST_RECORDS → IsDeleted m new bits roots key root
IsDeleted-leaf m new bits roots key root law some le in-range i short =
    let e = IsLeafEdit-delete m new key (leaf_for m key root) i in
    let n : length (new (leaf_for m key root)).records ≤ MOST_RECORDS = let a = ap length i.records in let b = length-without_le key (m (leaf_for m key root)).records in omega arith in
    let a = Around-edit (λ n. MOST_RECORDS) m new bits roots key root law some le in-range e in
    let p = without-behind key 0 a.before a.low ((m (leaf_for m key root)).records ++ a.behind) a.rises_before a.le in
    let q = without-before key (m (leaf_for m key root)).records a.high a.behind end_rank a.rises_behind a.lt in
    record {
      lawful = IsLawful-edit (λ n. MOST_RECORDS) m new bits roots key root law some le in-range e (λ n. MOST_RECORDS) (λ n ne. omega arith) n;
      holds = a.changed ∙ (ap (λ rs. a.before ++ (rs ++ a.behind)) i.records ∙ (ap (λ rs. a.before ++ rs) (sym q) ∙ (sym p ∙ ap (without key) (sym a.old))));
      others = content_of-other (λ n. MOST_RECORDS) m new bits roots key root law some le in-range e;
      ranges = weight_of-edit (λ n. MOST_RECORDS) m new bits roots key root law some le in-range e;
    }
