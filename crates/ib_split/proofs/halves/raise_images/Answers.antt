-- The right page has records, and its first key is above the least one.
use Rattle.std.proofs.Common.{◌≡◌, ◌∙◌, ◌<◌, length, ap, arith, subst, sym}
use Rattle.ib_map.specs.Keys.{rank, least}
use Rattle.ib_map.specs.Pairs.{put}
use Rattle.ib_page.specs.Form.{page_of}
use Rattle.ib_page.specs.Page.{HoldsTree}
use Rattle.ib_page.specs.Image.{records_of}
use Rattle.ib_heap.proofs.SeekLaws.{records_ascend}
use Rattle.ib_plans.specs.Split.{right_part, first_key}
use Rattle.ib_split.proofs.HalfLaws.{right_page-records, right_part-some, right_part-above}
use Rattle.ib_split.proofs.halves.raise_images.Goals as goal

pub first_key-requires-clause-some : goal.first_key-requires-clause-some
first_key-requires-clause-some c =
    let records : records_of c.link_two.new.high ≡ right_part (put c.args.key c.args.value (records_of c.args.root.now)) =
    right_page-records c.args.key c.args.value _ _ (page_of c.args.root.now) (page_of c.args.low.now) (page_of c.cut.new.right) (page_of c.args.high.now) (page_of c.halve.new.right) (page_of c.link_two.new.high)
    (subst HoldsTree (sym c.requires.low_empty) tt) (subst HoldsTree (sym c.requires.high_empty) tt) c.cut.ensures.right c.halve.ensures.right c.link_two.ensures.high in
    let s = right_part-some c.args.key c.args.value (records_of c.args.root.now) c.requires.full in
    let l = ap length records in omega arith

pub give_children-requires-clause-above : goal.give_children-requires-clause-above
give_children-requires-clause-above c =
    let records : records_of c.link_two.new.high ≡ right_part (put c.args.key c.args.value (records_of c.args.root.now)) =
    right_page-records c.args.key c.args.value _ _ (page_of c.args.root.now) (page_of c.args.low.now) (page_of c.cut.new.right) (page_of c.args.high.now) (page_of c.halve.new.right) (page_of c.link_two.new.high)
    (subst HoldsTree (sym c.requires.low_empty) tt) (subst HoldsTree (sym c.requires.high_empty) tt) c.cut.ensures.right c.halve.ensures.right c.link_two.ensures.high in
    subst (λ k. rank least < rank k) (sym (c.first_key.ensures ∙ ap first_key records))
    (right_part-above c.args.key c.args.value (records_of c.args.root.now) c.requires.full c.requires.absent (records_ascend c.args.root.now c.requires.tree))
