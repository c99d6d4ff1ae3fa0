-- What is restored is that file's memory, and a fault is the first one.
use Rattle.ib_image.proofs.LogCopyLaws.{log_image}
use Rattle.ib_image.proofs.OneImage.{only_image, only_image_fault}
use Rattle.ib_image.proofs.reading.restore.Goals as goal

pub returns-clause-only : goal.returns-clause-only
returns-clause-only c = only_image c.args.bytes.now c.restore_bytes.result c.restore_bytes.ensures.restored c.restore_bytes.ensures.fault

pub returns-clause-refused : goal.returns-clause-refused
returns-clause-refused c = only_image_fault c.args.bytes.now c.restore_bytes.result c.restore_bytes.ensures.restored c.restore_bytes.ensures.fault

pub returns-clause-log : goal.returns-clause-log
returns-clause-log c = λ pages log copy is. log_image c.args.bytes.now pages log copy is c.restore_bytes.result c.restore_bytes.ensures.restored c.restore_bytes.ensures.map c.restore_bytes.ensures.fault
