use Rattle.std.proofs.Common.{◌≡◌, ◌≢◌, ◌∙◌, ◌++◌, ℕ, List, Bool, Option, sym, ap, subst, arith, length, take, drop, All}
use Rattle.ib_validate.specs.declared.position.PagePosition.{PagePosition}
use Rattle.ib_page.specs.Memory.{image_at}
use Rattle.ib_validate.specs.Forms.{AreForms}
use Rattle.ib_validate.specs.Positions.{marks_of}
use Rattle.ib_validate.proofs.FormMarks.{still-right}
use Rattle.ib_validate.proofs.ListedLaws.{listed-within, settled-memory, unlisted, written-back}
use Rattle.ib_validate.proofs.tree_pages.TreePages.settle.Goals as goal

pub invariant_of-self : goal.invariant_of-self
invariant_of-self c =
    let kept = c.self.invariant.kept in
    let images : take c.self.inside.before.len (c.settle_pages.new.before ++ drop (length c.settle_pages.new.before) c.self.inside.before.items) ≡ c.settle_pages.new.before =
    written-back _ c.self.inside.before.items c.self.inside.before.len (omega (arith, c.settle_pages.auto.before, c.deref_mut.ensures.len, c.self.inside.before.ok)) in
    let positions : take c.self.inside.met_before.len (c.settle_pages.new.met_before ++ drop (length c.settle_pages.new.met_before) c.self.inside.met_before.items) ≡ c.settle_pages.new.met_before =
    written-back _ c.self.inside.met_before.items c.self.inside.met_before.len (omega (arith, c.settle_pages.auto.met_before, c.deref_mut-2.ensures.len, c.self.inside.met_before.ok)) in
    let marks : take c.self.inside.written.len (c.settle_pages.new.written ++ drop (length c.settle_pages.new.written) c.self.inside.written.items) ≡ c.settle_pages.new.written =
    written-back _ c.self.inside.written.items c.self.inside.written.len (omega (arith, c.settle_pages.auto.written, c.deref_mut-3.ensures.len, c.self.inside.written.ok)) in
    let same = images ∙ (c.settle_pages.ensures.images ∙ c.deref.ensures.value) in
    let size = ap (length {A = List ℕ}) same in
    let met = ap (length {A = Option PagePosition}) positions in
    let marked = ap (length {A = Bool}) marks in
    record {
      kept = settled-memory _ (sym same)
          (omega (arith, met, size, kept.met_before, kept.after, c.settle_pages.auto.met_before, c.deref_mut-2.ensures.len, c.self.inside.met_before.ok))
          (omega (arith, size, kept.met_after, kept.after))
          (omega (arith, marked, size, kept.written, kept.after, c.settle_pages.auto.written, c.deref_mut-3.ensures.len, c.self.inside.written.ok))
          (omega (arith, size, kept.some, kept.after)) (omega (arith, size, kept.few, kept.after))
          (λ page. ap (λ (bs : List Bool). marks_of bs page) marks ∙ c.settle_pages.ensures.marks page) c.clear.ensures.items;
      room = omega (arith, size, kept.after, c.self.invariant.room, c.clear.ensures.capacity);
      forms_before =
          let copied : take c.self.inside.forms_before.len (c.copy_forms.new.to ++ drop (length c.copy_forms.new.to) c.self.inside.forms_before.items) ≡ c.copy_forms.new.to =
          written-back _ c.self.inside.forms_before.items c.self.inside.forms_before.len (omega (arith, c.copy_forms.auto.to, c.deref_mut-4.ensures.len, c.self.inside.forms_before.ok)) in
          let settled : List (List ℕ) = take c.self.inside.before.len (c.settle_pages.new.before ++ drop (length c.settle_pages.new.before) c.self.inside.before.items) in
          subst (λ (ms : List Bool). AreForms settled ms) (sym copied)
          (subst (λ (m : List (List ℕ)). AreForms m c.copy_forms.new.to) (c.deref-5.ensures.value ∙ sym same) c.copy_forms.ensures);
      forms_after = c.self.invariant.forms_after;
    }

pub copy_forms-requires-clause-in_range : goal.copy_forms-requires-clause-in_range
copy_forms-requires-clause-in_range c =
    let kept = c.self.invariant.kept in
    listed-within _ kept c.deref-6.result.now (length c.deref-5.result.now) c.deref-6.ensures.value (ap (length {A = List ℕ}) c.deref-5.ensures.value ∙ kept.after)

pub copy_forms-requires-clause-others : goal.copy_forms-requires-clause-others
copy_forms-requires-clause-others c = λ page lt none.
    let kept = c.self.invariant.kept in
    let off = unlisted _ kept page (subst (λ (ps : List ℕ). All (λ p. p ≢ page) ps) c.deref-6.ensures.value none) in
    let size = ap (length {A = List ℕ}) c.deref-5.ensures.value ∙ kept.after in
    still-right c.self.inside.before.items c.deref-5.result.now c.self.inside.forms_before.items c.deref_mut-4.result.now page
    (ap (λ (m : List (List ℕ)). image_at m page) c.deref-5.ensures.value ∙ kept.same page off) c.deref_mut-4.ensures.value (c.self.invariant.forms_before.right page (omega arith))
