use Rattle.std.proofs.Common.{◌≡◌, ◌∙◌, ℕ, List, Bool, sym, ap, subst, arith, length}
use Rattle.std.proofs.lemmas.List.FromFn.{length-map-range_with_len}
use Rattle.ib_page.specs.Opening.{opening_words}
use Rattle.ib_validate.specs.Forms.{AreForms}
use Rattle.ib_validate.specs.Positions.{marks_of}
use Rattle.ib_validate.proofs.PositionLaws.{marks_of-replicate}
use Rattle.ib_validate.proofs.ListedLaws.{settled-memory}
use Rattle.ib_validate.proofs.tree_pages.TreePages.opening.Goals as goal

pub returns-clause-settled : goal.returns-clause-settled
returns-clause-settled c = record {
  images = c.in_ok-new.ensures ∙ sym c.in_ok-old.ensures;
  positions = c.in_ok-opening_table-2.ensures.positions ∙ sym c.in_ok-opening_table.ensures.positions;
  unwritten = λ page. ap (λ (bs : List Bool). marks_of bs page) (c.in_ok-vec.ensures.items_if_clones_equal (λ y h. h)) ∙ marks_of-replicate c.args.pages page;
  pages = c.in_ok-with_capacity.ensures.items;
}

pub invariant_of-result : goal.invariant_of-result
invariant_of-result c =
    let size : length c.in_ok-old.old.items ≡ c.args.pages = ap (length {A = List ℕ}) c.in_ok-old.ensures ∙ length-map-range_with_len (opening_words 1) 0 c.args.pages in record {
      kept = settled-memory _ (c.in_ok-new.ensures ∙ sym c.in_ok-old.ensures) (c.in_ok-opening_table.ensures.size ∙ sym size) (c.in_ok-opening_table-2.ensures.size ∙ sym size)
          (omega (arith, c.in_ok-vec.ensures.len, c.in_ok-vec.field-0.ok, size)) (omega (arith, c.requires.least, size)) (omega (arith, c.requires.most, size))
          (λ page. ap (λ (bs : List Bool). marks_of bs page) (c.in_ok-vec.ensures.items_if_clones_equal (λ y h. h)) ∙ marks_of-replicate c.args.pages page) c.in_ok-with_capacity.ensures.items;
      room = omega (arith, c.in_ok-with_capacity.ensures.capacity, size);
      forms_before = subst (λ (m : List (List ℕ)). AreForms m c.in_ok-tested.field-0.items) c.deref.ensures.value c.in_ok-tested.ensures;
      forms_after = subst (λ (m : List (List ℕ)). AreForms m c.in_ok-tested-2.field-0.items) c.deref-2.ensures.value c.in_ok-tested-2.ensures;
    }

pub tested-requires : goal.tested-requires
tested-requires c =
    let size : length c.in_ok-old.old.items ≡ c.args.pages = ap (length {A = List ℕ}) c.in_ok-old.ensures ∙ length-map-range_with_len (opening_words 1) 0 c.args.pages in
    let most = c.requires.most in let same = ap (length {A = List ℕ}) c.deref.ensures.value in omega arith
