-- What an image of a page of the tree says of its links and its records, and where its state says so.
use Rattle.std.proofs.Common.{◌≡◌, ◌∙◌, ℕ, cond, ◌+◌, ◌≤◌, List, length, refl, sym, ap, subst, Option, Some, None}
use Rattle.std.specs.Prelude.{Result, Ok, Err, OnOk, OnErr, IfOk, IfErr, is_some, IsNone, ◌↔◌, IsSomeAnd}
use Rattle.ib_map.specs.Keys.{MapKey}
use Rattle.ib_map.specs.Pairs.{Pairs, index_of, value_at, without}
use Rattle.ib_map.proofs.PairLaws.{without-none}
use Rattle.ib_heap.specs.declared.TheConstants.{MOST_RECORDS}
use Rattle.ib_heap.specs.Heap.{read_heap}
use Rattle.ib_heap.specs.Take.{remove_in}
use Rattle.ib_heap.specs.declared.fault.PageFault.{PageFault}
use Rattle.ib_heap.specs.declared.fault.PageFault.TheVariants.{Missing}
use Rattle.ib_page.specs.Form.{page_of}
use Rattle.ib_page.specs.Page.{PageValue, HoldsTree, HoldsPage, page_in}
use Rattle.ib_page.specs.Page.PageValue.{Malformed as NoValue, Free as FreeValue, Tree as TreeValue}
use Rattle.ib_page.specs.Image.{value_with_records, value_with_clock, IsTreePage, IsFormed, clock_of, records_of}
use Rattle.ib_page.specs.Work.{WorkPage, changed_of, with_changed}
use Rattle.ib_heap.proofs.FormLaws.{tree_fits}
use Rattle.ib_walk.specs.Pages.{Tree}
use Rattle.ib_walk.specs.Words.{state_of}
use Rattle.ib_plans.specs.Moves.{heap_without}
use Rattle.ib_plans.specs.Agreement.{state_or_free, memory_in, Sets, tick}
use Rattle.ib_plans.proofs.EditLaws.{state-tree}
use Rattle.ib_merge.specs.Deletes.{without_record}

-- a page has few records
tree-few : (ws : List ℕ) (v : PageValue) → page_of ws ≡ v → HoldsTree v → length (page_in v).records ≤ MOST_RECORDS
tree-few ws (TreeValue p) is tree = (tree_fits ws p is).few
tree-few ws (FreeValue clock) is tree = absurd tree
tree-few ws NoValue is tree = absurd tree

pub records-few : (ws : List ℕ) → HoldsTree (page_of ws) → length (page_in (page_of ws)).records ≤ MOST_RECORDS
records-few ws tree = tree-few ws (page_of ws) refl tree

-- other records change neither level nor links
pub level-with_records : (records : Pairs) (v : PageValue) → (page_in (value_with_records records v)).level ≡ (page_in v).level
level-with_records records (TreeValue p) = refl
level-with_records records (FreeValue clock) = refl
level-with_records records NoValue = refl

-- what is left where a record was taken out, or was not there
pub removed-is : (result : Result ℕ PageFault) (key : MapKey) (old new : List ℕ) → HoldsTree (page_of old)
    → OnOk result (page_of new ≡ value_with_records (without key (page_in (page_of old)).records) (page_of old))
    → ((result ≡ Err Missing) ↔ IsNone (value_at key (page_in (page_of old)).records)) → IfErr result (λ fault. fault ≡ Missing) → OnErr result (new ≡ old)
    → page_of new ≡ value_with_records (without key (page_in (page_of old)).records) (page_of old)
removed-is (Ok value) key old new tree removed missing only same = removed
removed-is (Err fault) key old new tree removed missing only same =
    let none = missing.0 (ap Err only) in
    ap page_of same ∙ (sym (keeps (page_of old) tree) ∙ ap (λ rs. value_with_records rs (page_of old)) (sym (without-none key (page_in (page_of old)).records (is-none (value_at key (page_in (page_of old)).records) none))))
  where
    keeps : (v : PageValue) → HoldsTree v → value_with_records (page_in v).records v ≡ v
    keeps (TreeValue p) tree = refl
    keeps (FreeValue clock) tree = absurd tree
    keeps NoValue tree = absurd tree

    is-none : (o : Option ℕ) → IsNone o → o ≡ None
    is-none None h = refl
    is-none (Some x) h = absurd (cc)

-- .. and the heap
pub removed-heap : (result : Result ℕ PageFault) (key : MapKey) (old new : List ℕ) → IfOk result (λ value. value_at key (records_of old) ≡ Some value)
    → OnOk result (read_heap new ≡ remove_in (index_of key (records_of old)) (read_heap old)) → ((result ≡ Err Missing) ↔ IsNone (value_at key (records_of old)))
    → IfErr result (λ fault. fault ≡ Missing) → OnErr result (new ≡ old) → read_heap new ≡ heap_without key (records_of old) (read_heap old)
removed-heap (Ok value) key old new there heap missing only same = heap ∙ sym (ap (λ o. cond (is_some o) (remove_in (index_of key (records_of old)) (read_heap old)) (read_heap old)) there)
removed-heap (Err fault) key old new there heap missing only same = ap read_heap same ∙ sym (absent (value_at key (records_of old)) (missing.0 (ap Err only)))
  where
    absent : (o : Option ℕ) → IsNone o → cond (is_some o) (remove_in (index_of key (records_of old)) (read_heap old)) (read_heap old) ≡ read_heap old
    absent None h = refl
    absent (Some x) h = absurd (cc)

-- a page that is there is one of the tree where its state is one of a tree
pub there-tree : (o : Option (List ℕ)) → (state_or_free o).kind ≡ Tree → IsSomeAnd o IsTreePage
there-tree None is = cc
there-tree (Some image) is = state-tree (page_of image) is

pub tree-there : (o : Option (List ℕ)) → IsSomeAnd o IsTreePage → (state_or_free o).kind ≡ Tree
tree-there None is = absurd is
tree-there (Some image) is = value-tree (page_of image) is
  where
    value-tree : (v : PageValue) → HoldsTree v → (state_of v).kind ≡ Tree
    value-tree (TreeValue p) tree = refl
    value-tree (FreeValue clock) tree = absurd tree
    value-tree NoValue tree = absurd tree

-- the state of a page without a record, whose clock has ticked
pub state-removed : (key : MapKey) (old mid new : List ℕ) (o : Option (List ℕ)) → HoldsTree (page_of old) → o ≡ Some old
    → page_of mid ≡ value_with_records (without key (page_in (page_of old)).records) (page_of old) → page_of new ≡ value_with_clock ((page_in (page_of mid)).clock + 1) (page_of mid)
    → state_of (page_of new) ≡ tick (without_record key (state_or_free o))
state-removed key old mid new o tree there removed ticks =
    ap state_of ticks ∙ (ap (λ v. state_of (value_with_clock ((page_in v).clock + 1) v)) removed ∙ (by-value (page_of old) tree ∙ ap (λ q. tick (without_record key (state_or_free q))) (sym there)))
  where
    by-value : (v : PageValue) → HoldsTree v → state_of (value_with_clock ((page_in (value_with_records (without key (page_in v).records) v)).clock + 1) (value_with_records (without key (page_in v).records) v))
        ≡ tick (without_record key (state_of v))
    by-value (TreeValue p) tree = refl
    by-value (FreeValue clock) tree = absurd tree
    by-value NoValue tree = absurd tree

-- a page whose clock has ticked is formed
pub ticked-formed : (old new : List ℕ) → IsTreePage old → page_of new ≡ value_with_clock ((page_in (page_of old)).clock + 1) (page_of old) → IsFormed new
ticked-formed old new tree is = subst HoldsPage (sym is) (by-value (page_of old) tree ((page_in (page_of old)).clock + 1))
  where
    by-value : (v : PageValue) → HoldsTree v → (clock : ℕ) → HoldsPage (value_with_clock clock v)
    by-value (TreeValue p) tree clock = tt
    by-value (FreeValue was) tree clock = absurd tree
    by-value NoValue tree clock = absurd tree

pub formed-is : (o : Option (List ℕ)) (image : List ℕ) → o ≡ Some image → IsSomeAnd o IsFormed → IsFormed image
formed-is o image is formed = subst (λ (q : Option (List ℕ)). IsSomeAnd q IsFormed) is formed

-- a page whose clock has ticked, be it free or not
pub touched-sets : (page : ℕ) (work : List WorkPage) (was now : List ℕ) → changed_of page work ≡ Some was → IsFormed was
    → page_of now ≡ value_with_clock (clock_of was + 1) (page_of was) → Sets page (tick (memory_in work page)) work (with_changed page now work)
touched-sets page work was now there formed ticks = record {
  image = now;
  work = λ i. with_changed page now work;
  formed = subst HoldsPage (sym ticks) (still (page_of was) formed (clock_of was + 1));
  state = ap state_of ticks ∙ (by-value (page_of was) formed ∙ ap (λ o. tick (state_or_free o)) (sym there));
}
  where
    still : (v : PageValue) → HoldsPage v → (clock : ℕ) → HoldsPage (value_with_clock clock v)
    still (TreeValue p) formed clock = tt
    still (FreeValue was) formed clock = tt
    still NoValue formed clock = absurd formed

    by-value : (v : PageValue) → HoldsPage v → state_of (value_with_clock ((page_in v).clock + 1) v) ≡ tick (state_of v)
    by-value (TreeValue p) formed = refl
    by-value (FreeValue clock) formed = refl
    by-value NoValue formed = absurd formed
