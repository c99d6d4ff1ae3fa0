-- The last page of the path is there.
use Rattle.std.proofs.Common.{◌∙◌, ◌-◌, length, get_or, ap, sym, arith}
use Rattle.ib_map.specs.Pairs.{value_at}
use Rattle.ib_page.specs.Form.{page_of}
use Rattle.ib_page.specs.Image.{IsTreePage}
use Rattle.ib_page.specs.Work.{changed_of}
use Rattle.ib_plans.specs.Agreement.{state_or_free, memory_in}
use Rattle.ib_plans.proofs.EditLaws.{IsSome-and, state-records, there-is}
use Rattle.ib_plans.proofs.PathListLaws.{last_of-at}
use Rattle.ib_split.proofs.insert.value_in.Goals as goal

pub image_of-requires : goal.image_of-requires
image_of-requires c = IsSome-and IsTreePage (changed_of (get_or c.args.path.now (length c.args.path.now - 1) 0) c.args.work.now) (c.requires.there (length c.args.path.now - 1) 0 (let s = c.requires.some in omega arith))

pub get-requires : goal.get-requires
get-requires c =
    there-is (changed_of (get_or c.args.path.now (length c.args.path.now - 1) 0) c.args.work.now) c.image_of.result.now c.image_of.ensures
    (c.requires.there (length c.args.path.now - 1) 0 (let s = c.requires.some in omega arith))

pub returns : goal.returns
returns c =
    c.get.ensures ∙ (ap (value_at c.args.key) (sym (state-records (page_of c.image_of.result.now)))
    ∙ (ap (λ o. value_at c.args.key (state_or_free o).records) (sym c.image_of.ensures)
    ∙ ap (λ n. value_at c.args.key (memory_in c.args.work.now n).records) (last_of-at c.args.path.now (length c.args.path.now - 1) (let s = c.requires.some in omega arith))))
