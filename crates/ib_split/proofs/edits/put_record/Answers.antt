-- The record is put in, since it was not there and there is room.
use Rattle.std.proofs.Common.{◌≡◌, ◌∙◌, List, ℕ, Option, Some, ap, sym, length, arith}
use Rattle.ib_map.specs.Pairs.{Pairs, index_of, value_at}
use Rattle.ib_heap.specs.Heap.{read_heap}
use Rattle.ib_heap.specs.Put.{put_in}
use Rattle.ib_page.specs.Form.{page_of}
use Rattle.ib_page.specs.Image.{IsTreePage, records_of}
use Rattle.ib_page.specs.Work.{changed_of}
use Rattle.ib_plans.specs.Agreement.{state_or_free}
use Rattle.ib_plans.specs.Moves.{Puts}
use Rattle.ib_plans.proofs.EditLaws.{changed_of-same, IsSome-and, state-records}
use Rattle.ib_plans.proofs.MoveLaws.{moved-some}
use Rattle.ib_split.proofs.HalfLaws.{put-done}
use Rattle.ib_split.proofs.edits.put_record.Goals as goal

-- the records of an image that is there
records-there : (image : List ℕ) (o : Option (List ℕ)) → o ≡ Some image → (state_or_free o).records ≡ records_of image
records-there image o is = ap (λ q. (state_or_free q).records) is ∙ state-records (page_of image)

pub returns-clause-put : goal.returns-clause-put
returns-clause-put c =
    let same = records-there c.edit-image.result.now (changed_of c.args.page c.args.work.now) c.edit-image.ensures.image in
    moved-some (Puts c.args.key) (changed_of c.args.page c.args.work.now) _ c.edit-image.result.now c.touch.new.self c.edit-image.ensures.image
    (changed_of-same c.args.page c.touch.new.self c.args.work.now (IsSome-and IsTreePage (changed_of c.args.page c.args.work.now) c.requires.tree))
    (c.touch.ensures.heap ∙ put-done (read_heap c.insert.new.self ≡ put_in (index_of c.args.key (records_of c.edit-image.result.now)) (read_heap c.edit-image.result.now)) c.insert.result c.args.key (records_of c.edit-image.result.now)
    (ap (value_at c.args.key) (sym same) ∙ c.requires.absent) (let l = ap (λ (rs : Pairs). length rs) same in let r = c.requires.room in omega arith)
    c.insert.ensures.duplicate c.insert.ensures.full c.insert.ensures.never_missing c.insert.ensures.heap)
