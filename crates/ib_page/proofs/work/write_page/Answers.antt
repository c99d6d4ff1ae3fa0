-- What is not edited is not written.
use Rattle.std.proofs.Common.{◌≡◌, ◌∙◌, ◌+◌, ◌*◌, ◌++◌, [], ap, arith, take, drop}
use Rattle.ib_map.specs.declared.TheConstants.{PAGE_WORDS}
use Rattle.ib_page.specs.Rooms.{image_in}
use Rattle.ib_page.proofs.WriteLaws.{writes_same, put_none}
use Rattle.ib_page.proofs.work.write_page.Goals as goal

pub returns-else-slot-clause-words : goal.returns-else-slot-clause-words
returns-else-slot-clause-words c = rw (c.if-slot.false, writes_same c.args.slot.page (image_in c.args.before.now c.args.slot.room) PAGE_WORDS)
    (let e : 2 * c.args.count ≡ 2 * (c.args.count + 0) = omega arith in
    put_none c.args.out.now (2 * c.args.count) ∙ ap (λ k. take (2 * c.args.count) c.args.out.now ++ [] ++ drop k c.args.out.now) e)

pub returns-else-slot-clause-count : goal.returns-else-slot-clause-count
returns-else-slot-clause-count c = rw (c.if-slot.false, writes_same c.args.slot.page (image_in c.args.before.now c.args.slot.room) PAGE_WORDS) (omega arith)
