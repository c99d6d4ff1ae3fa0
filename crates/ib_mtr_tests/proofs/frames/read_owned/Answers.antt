use Rattle.ib_frames.proofs.Trying.{held_by_x}
use Rattle.ib_mtr_tests.proofs.frames.read_owned.Goals as goal

pub read_page-requires-clause-held : goal.read_page-requires-clause-held
read_page-requires-clause-held c = held_by_x 5 c.args.pass.now.view.session c.requires.frame
