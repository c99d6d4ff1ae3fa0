-- An empty page of this level and clock gets the links.
use Rattle.std.proofs.Common.{◌≡◌, ◌∙◌, sym, ap, subst, arith}
use Rattle.ib_heap.specs.Page.{HoldsTree, page_in}
use Rattle.ib_heap.specs.Image.{level_of}
use Rattle.ib_heap.proofs.FormLaws.{links-none}
use Rattle.ib_heap.proofs.SeekLaws.{size-of}
use Rattle.ib_heap.proofs.rebuild.clear.Goals as goal

pub copy_from_slice-requires : goal.copy_from_slice-requires
copy_from_slice-requires c = size-of c.args.words.now c.requires ∙ sym (size-of c.empty_page-empty.result (subst HoldsTree (sym c.empty_page-empty.ensures.page) tt))

pub set_links-requires-clause-prev : goal.set_links-requires-clause-prev
set_links-requires-clause-prev c = λ lt.
    let level : level_of c.copy_from_slice.new.self ≡ c.level.result = ap level_of c.copy_from_slice.ensures.after ∙ ap (λ v. (page_in v).level) c.empty_page-empty.ensures.page in
    let same = c.level.ensures.level in
    c.prev-before.ensures ∙ (links-none c.args.words.now c.requires (omega arith)).0

pub set_links-requires-clause-next : goal.set_links-requires-clause-next
set_links-requires-clause-next c = λ lt.
    let level : level_of c.copy_from_slice.new.self ≡ c.level.result = ap level_of c.copy_from_slice.ensures.after ∙ ap (λ v. (page_in v).level) c.empty_page-empty.ensures.page in
    let same = c.level.ensures.level in
    c.next-behind.ensures ∙ (links-none c.args.words.now c.requires (omega arith)).1
