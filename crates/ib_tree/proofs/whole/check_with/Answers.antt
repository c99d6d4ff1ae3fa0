use Rattle.std.proofs.Common.{◌∙◌, ap, take, length, arith, rules}
use Rattle.ib_tree.proofs.WholeTestLaws.{opening-front, marks-front, take-pages_below}
use Rattle.ib_tree.proofs.whole.check_with.Goals as goal

pub is_lawful-requires-clause-may : goal.is_lawful-requires-clause-may
is_lawful-requires-clause-may c =
    let few = c.requires.few in let least = c.requires.least in
    let kept = c.list_pages.auto.pages in let room = c.requires.page_room in
    rw c.new.ensures (record {
      size = search rules;
      old_size = search rules;
      marks_size = search rules;
      opening = opening-front c.meet_opening.new.table (length c.args.memory.now) c.args.roots (omega arith) c.meet_opening.ensures;
      same = opening-front c.meet_opening-2.new.table (length c.args.memory.now) c.args.roots (omega arith) c.meet_opening-2.ensures;
      marks = marks-front c.args.written.now (length c.args.memory.now) c.requires.mark_room c.requires.marked;
      pages_are = ap (take (length c.args.memory.now)) c.list_pages.ensures ∙ take-pages_below (length c.args.pages.now) (length c.args.memory.now) room;
    })
