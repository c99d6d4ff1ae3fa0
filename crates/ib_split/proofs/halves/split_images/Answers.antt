-- The fresh page has records.
use Rattle.std.proofs.Common.{◌≡◌, ◌∙◌, length, ap, arith, subst, sym}
use Rattle.ib_map.specs.Pairs.{put}
use Rattle.ib_page.specs.Form.{page_of}
use Rattle.ib_page.specs.Page.{page_in, HoldsTree}
use Rattle.ib_page.specs.Image.{records_of}
use Rattle.ib_plans.specs.Split.{right_part}
use Rattle.ib_split.proofs.HalfLaws.{records-with_records, records-with_links, records-with_clock, right_part-some}
use Rattle.ib_split.proofs.halves.split_images.Goals as goal

pub first_key-requires-clause-some : goal.first_key-requires-clause-some
first_key-requires-clause-some c =
    let e : records_of c.touch-2.new.self ≡ right_part (put c.args.key c.args.value (records_of c.args.left.now)) =
    ap (λ v. (page_in v).records) c.touch-2.ensures.page ∙ (records-with_clock _ (page_of c.link.new.right)
    ∙ (ap (λ v. (page_in v).records) c.link.ensures.right ∙ (records-with_links _ _ (page_of c.halve.new.right)
    ∙ (ap (λ v. (page_in v).records) c.halve.ensures.right ∙ records-with_records (page_of c.args.right.now) _ (subst HoldsTree (sym c.requires.empty) tt))))) in
    let s = right_part-some c.args.key c.args.value (records_of c.args.left.now) c.requires.full in
    let l = ap length e in omega arith
