-- An insert and a delete that may change the tree's structure: which pages an insert takes, or what is full, and that both may be planned.
use Rattle.std.specs.List.{All}
use Rattle.std.specs.Prelude.{IsSome, IsErr, IfSome, OnOk, Result, Ok, Err, ◌↔◌, take}
use Rattle.std.proofs.Common.{◌≡◌, ℕ, zero, suc, ◌+◌, ◌<◌, ◌≤◌, true, false, List, ◌∷◌, length, get_or, Option, Some, None, refl, sym, ap, subst, ◌∙◌, arith, inl, inr}
use Rattle.std.proofs.lemmas.Bool.{cases_eq, lt-ltb}
use Rattle.std.proofs.lemmas.List.Elements.{All-nil, All-cons}
use Rattle.ib_map.specs.Keys.{MapKey}
use Rattle.ib_map.specs.Pairs.{value_at}
use Rattle.ib_map.specs.declared.call.Change.TheVariants.{Insert}
use Rattle.ib_logrec.specs.declared.entry.Entry.{Entry}
use Rattle.ib_logrec.specs.declared.fault.FullKind.TheVariants.{High, Space}
use Rattle.ib_logrec.specs.Log.{memory_after, by_place}
use Rattle.ib_page.specs.Work.{WorkPage, IsWork, changed_of}
use Rattle.ib_walk.specs.Full.{chosen, free_of, free_pages_from, is_root_full, is_too_high, need_of}
use Rattle.ib_walk.specs.Pages.{PageMemory, PageState, Tree}
use Rattle.ib_walk.specs.Trees.{height_of, most_height}
use Rattle.ib_walk.specs.Words.{bits_of}
use Rattle.ib_walk.proofs.ChoiceLaws.{cond-eq, cond-ne}
use Rattle.ib_plans.specs.Agreement.{Agrees, HasBits, HasTreePages, IsThere, bits_in, last_of, memory_in, path_of, reads_of}
use Rattle.ib_split.specs.Inserts.{CanInsert, HasFresh, IsPlannedInsertForAll}
use Rattle.ib_tree.specs.TreeLog.{opening}
use Rattle.ib_planned_log.specs.LeafChange.{kept_pages}
use Rattle.ib_planned_log.proofs.LeadLaws.{low-enough}
use Rattle.ib_planned_change.specs.Changes.{IsPlannedIn, most_changed}
use Rattle.ib_planned_change.specs.Copies.{AreCopies, IsBehind}
use Rattle.ib_planned_change.specs.Full.{full_behind}
use Rattle.ib_planned_change.specs.Steps.{HasBehind}
use Rattle.ib_planned_change.proofs.BehindLaws.{agrees-behind, lawful-behind, memory-is, ticks-behind, tree-there}
use Rattle.ib_planned_change.proofs.ChangeLaws.{insert-planned}
use Rattle.ib_planned_change.proofs.DescentLaws.{way-last, way-trees}
use Rattle.ib_planned_change.proofs.MadeLaws.{made-insert, not-full, planned-tree}

-- the pages that are chosen are pages of the space
take-inside : (bits : ℕ → ℕ) (page n k : ℕ) → All (λ q. q < page + n) (take k (free_pages_from bits page n))
take-inside bits page n zero = All-nil (λ q. q < page + n)
take-inside bits page zero (suc k) = All-nil (λ q. q < page + 0)
take-inside bits page (suc n) (suc k) =
    let end : page + 1 + n ≡ page + suc n = omega arith in
    elim (cases_eq (bits page) 0) [
      | inl z ↦
          let e = cond-eq (bits page) 0 (page ∷ free_pages_from bits (page + 1) n) (free_pages_from bits (page + 1) n) z in
          subst (λ xs. All (λ q. q < page + suc n) (take (suc k) xs)) (sym e)
          (All-cons (λ q. q < page + suc n) page (take k (free_pages_from bits (page + 1) n)) (omega arith) (subst (λ b. All (λ q. q < b) (take k (free_pages_from bits (page + 1) n))) end (take-inside bits (page + 1) n k)))
      | inr ne ↦
          let e = cond-ne (bits page) 0 (page ∷ free_pages_from bits (page + 1) n) (free_pages_from bits (page + 1) n) ne in
          subst (λ xs. All (λ q. q < page + suc n) (take (suc k) xs)) (sym e) (subst (λ b. All (λ q. q < b) (take (suc k) (free_pages_from bits (page + 1) n))) end (take-inside bits (page + 1) n (suc k)))
    ]

pub chosen-inside : (bits : ℕ → ℕ) (pages need : ℕ) → All (λ q. q < pages) (chosen bits pages need)
chosen-inside bits pages need = let z : 0 + pages ≡ pages = omega arith in subst (λ b. All (λ q. q < b) (chosen bits pages need)) z (take-inside bits 0 pages need)

pub image-there : (o : Option (List ℕ)) → IsSome o → (image : List ℕ) × (o ≡ Some image)
image-there None some = absurd (cc)
image-there (Some image) some = (image, refl)

-- what is refused only for what is not so is done
pub done : {A E : Type 0} (r : Result A E) (P Q : Type 0) → (IsErr r ↔ Q) → (Q → ⊥) → OnOk r P → P
done (Ok x) P Q refuses none p = p
done (Err e) P Q refuses none p = absurd (none (refuses.0 refl))

none-some : (o : Option ℕ) → o ≡ None → IsSome o → ⊥
none-some None none some = cc
none-some (Some v) none some = cc

some-none : (o : Option ℕ) → IsSome o → o ≡ None → ⊥
some-none o some none = none-some o none some

module _ (log : List Entry) (images : List (List ℕ)) (b : IsBehind log images) (key : MapKey) where
  abbrev m : PageMemory
  m = kept_pages (length images) log

  abbrev bits : ℕ → ℕ
  bits = bits_of (length images) (memory_after (by_place opening (length images)) log)

  -- ---- what is full

  pub is-high : (value : ℕ) → is_too_high 1 (kept_pages (length images) log) key 1 ≡ true → full_behind (length images) log (Insert key value) ≡ Some High
  is-high value high = rw high refl

  module _ (path : List ℕ) (way : path ≡ path_of (kept_pages (length images) log) key 1) (work : List WorkPage) (copies : AreCopies images work) where
    pub agrees-here : Agrees (length images) 1 1 key path work (kept_pages (length images) log) (bits_of (length images) (memory_after (by_place opening (length images)) log))
    agrees-here = agrees-behind log images b work copies key path way

    pub path-trees : All (IsThere work) path → HasTreePages path work
    path-trees there k d lt =
        tree-there log images b work copies (get_or path k d) (there k d lt) (way-trees log images b key path way (λ n. (m n).kind ≡ Tree) (λ n kind. kind) k d lt)

    bits-same : (image : List ℕ) → changed_of 0 work ≡ Some image → bits_in (length images) image ≡ bits_of (length images) (memory_after (by_place opening (length images)) log)
    bits-same image there =
        let has : HasBits (length images) bits image = subst (λ (o : Option (List ℕ)). IfSome o (HasBits (length images) bits)) there agrees-here.space in
        λ j n. sym (has.1 n) j

    -- page 0 says which pages are free
    module _ (image : List ℕ) (there : changed_of 0 work ≡ Some image) (need : ℕ) (low : is_too_high 1 (kept_pages (length images) log) key 1 ≡ false) (needed : need ≡ need_of (kept_pages (length images) log) key 1) where
      pub is-space : (value : ℕ) → free_of (bits_in (length images) image) (length images) < need → full_behind (length images) log (Insert key value) ≡ Some Space
      is-space value short =
          let same = ap (λ bs. free_of bs (length images)) (bits-same image there) in
          let yes = lt-ltb (free_of bits (length images)) (need_of m key 1) (omega arith) in
          rw low (rw yes refl)

      pub is-fresh : (fresh : List ℕ) → fresh ≡ chosen (bits_in (length images) image) (length images) need → need ≤ free_of (bits_in (length images) image) (length images)
          → HasFresh (length images) 1 1 key fresh (kept_pages (length images) log) (bits_of (length images) (memory_after (by_place opening (length images)) log))
      is-fresh fresh are enough =
          let same = bits-same image there in
          let free = ap (λ bs. free_of bs (length images)) same in
          let high = ((lawful-behind log images b).law.trees 1 (omega arith) (omega arith)).1 in
          record {
            chosen_are = are ∙ (ap (λ bs. chosen bs (length images) need) same ∙ ap (chosen bits (length images)) needed);
            enough = omega arith;
            low = low-enough (is_root_full m key 1) (height_of m 1) (most_height 1) low high;
          }

    -- ---- an insert may be planned

    module _ (there : All (IsThere work) path) (leaf-there : IsThere work (last_of path)) (behind : HasBehind (kept_pages (length images) log) work (last_of path)) (zero-there : IsThere work 0) (fresh : List ℕ) (fresh-there : All (IsThere work) fresh)
        (low : is_too_high 1 (kept_pages (length images) log) key 1 ≡ false)
        (fresh-are : HasFresh (length images) 1 1 key fresh (kept_pages (length images) log) (bits_of (length images) (memory_after (by_place opening (length images)) log))) where
      leaf-is : memory_in work (last_of path) ≡ kept_pages (length images) log (last_of path)
      leaf-is = memory-is log images b work copies (last_of path) leaf-there

      pub can-insert : CanInsert path fresh key work
      can-insert = record {
        pages = length images;
        roots = 1;
        root = 1;
        memory = m;
        bits = bits;
        agrees = agrees-here;
        fits = fresh-are;
        images = record {
          path_there = path-trees there;
          fresh_there = fresh-there;
          next_there = λ full ne. let next = ap (λ (s : PageState). s.next) leaf-is in subst (IsThere work) (sym next) (behind (λ z. ne (next ∙ z)));
          space_there = λ some. zero-there;
        };
        clocks = ticks-behind log images b work copies;
      }

      pub insert-missing : value_at key (kept_pages (length images) log (last_of path)).records ≡ None → IsSome (value_at key (memory_in work (last_of path)).records) → ⊥
      insert-missing missing some = none-some (value_at key (memory_in work (last_of path)).records) (ap (λ (s : PageState). value_at key s.records) leaf-is ∙ missing) some

      pub insert-done : (value : ℕ) (new : List WorkPage) → value_at key (kept_pages (length images) log (last_of path)).records ≡ None → IsPlannedInsertForAll path fresh key value work new
          → reads_of new ≡ reads_of work → IsWork new → length work ≤ most_changed → IsPlannedIn log images (Insert key value) new
      insert-done value new missing planned reads is-work few =
          planned-tree log images b key (Insert key value) work new copies (made-insert log images b key (last_of path) (way-last log images b key path way) value missing)
          (not-full log images b key value low fresh-are.enough) is-work few reads
          (insert-planned (length images) key value fresh m bits work new low fresh-are (planned (length images) 1 1 m bits agrees-here fresh-are))
