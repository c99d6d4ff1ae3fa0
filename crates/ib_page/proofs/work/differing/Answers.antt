-- What is not edited does not differ.
use Rattle.std.proofs.Common.{refl}
use Rattle.ib_map.specs.declared.TheConstants.{PAGE_WORDS}
use Rattle.ib_page.specs.Rooms.{image_in}
use Rattle.ib_page.proofs.WriteLaws.{writes_same}
use Rattle.ib_page.proofs.work.differing.Goals as goal

pub returns-else-slot-clause-count : goal.returns-else-slot-clause-count
returns-else-slot-clause-count c = rw (c.if-slot.false, writes_same c.args.slot.page (image_in c.args.before.now c.args.slot.room) PAGE_WORDS) refl
