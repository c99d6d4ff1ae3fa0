use Rattle.std.proofs.Common.{sym, refl, length}
use Rattle.ib_validate.proofs.ListedLaws.{listed-within, unlisted}
use Rattle.ib_validate.proofs.copies.settle_pages.Goals as goal

pub copy_images-requires-clause-in_range : goal.copy_images-requires-clause-in_range
copy_images-requires-clause-in_range c = listed-within _ c.requires.memory c.args.pages.now (length c.args.after.now) refl c.requires.memory.after

pub copy_images-requires-clause-others : goal.copy_images-requires-clause-others
copy_images-requires-clause-others c page none = sym (c.requires.memory.same page (unlisted _ c.requires.memory page none))

pub copy_positions-requires-clause-in_range : goal.copy_positions-requires-clause-in_range
copy_positions-requires-clause-in_range c = listed-within _ c.requires.memory c.args.pages.now (length c.args.met_after.now) refl c.requires.memory.met_after

pub copy_positions-requires-clause-others : goal.copy_positions-requires-clause-others
copy_positions-requires-clause-others c page none = sym (c.requires.rest page (unlisted _ c.requires.memory page none))

pub clear_marks-requires-clause-in_range : goal.clear_marks-requires-clause-in_range
clear_marks-requires-clause-in_range c = listed-within _ c.requires.memory c.args.pages.now (length c.args.written.now) refl c.requires.memory.written

pub clear_marks-requires-clause-others : goal.clear_marks-requires-clause-others
clear_marks-requires-clause-others c page none = unlisted _ c.requires.memory page none
