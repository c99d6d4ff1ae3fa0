-- These are the words of a free page.
use Rattle.std.proofs.Common.{ap, ◌∙◌}
use Rattle.ib_heap.specs.Form.{page_of}
use Rattle.ib_heap.proofs.FormLaws.{page_of-free_page_words}
use Rattle.ib_page.proofs.image.Image.free.Goals as goal

pub returns-clause-page : goal.returns-clause-page
returns-clause-page c = ap page_of c.free_page.ensures ∙ page_of-free_page_words c.args.clock
