use Rattle.ib_text.proofs.HexLanes.{lane-numbers}
use Rattle.ib_text.proofs.spelling.digit_numbers.Goals as goal

pub returns : goal.returns
returns c = lane-numbers 16 c.args.digits c.fits-digits.0 c.fits-digits.1
