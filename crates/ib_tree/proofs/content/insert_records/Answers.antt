use Rattle.std.proofs.Common.{◌∙◌, ap}
use Rattle.ib_map.specs.Pairs.{put}
use Rattle.ib_page.specs.Form.{page_of}
use Rattle.ib_walk.specs.Words.{state_of}
use Rattle.ib_tree.proofs.ContentLaws.{put-next}
use Rattle.ib_tree.proofs.content.insert_records.Goals as goal

pub loop-place-preserved : goal.loop-place-preserved
loop-place-preserved c =
    c.in_ok-insert.ensures
    ∙ (ap (put c.record_at-value.result.0 c.record_at-value.result.1) c.loop-place.invariant
    ∙ put-next c.args.map.now (state_of (page_of c.args.leaf.now)).records c.loop-place.place c.record_at-value.result c.record_at-value.ensures c.requires)
