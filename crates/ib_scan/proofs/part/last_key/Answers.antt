use Rattle.ib_page.specs.Image.{records_of}
use Rattle.ib_scan.proofs.KeyLaws.{last_at}
use Rattle.ib_scan.proofs.part.last_key.Goals as goal

pub returns : goal.returns
returns c = last_at (records_of c.args.image.now) c.len-len.result c.record_at.result c.len-len.ensures.count (λ z. c.if-len-eq0.false z) c.record_at.ensures
