-- `apart` meets its contract: the digits and their power of two, of a subnormal float and of any other. Assumes nothing.
use Rattle.root.proofs.Scales.{apart_low, apart-high}
use Rattle.root.proofs.apart.Goals as goal

pub returns-then-bits-lt-HIDDEN : goal.returns-then-bits-lt-HIDDEN
returns-then-bits-lt-HIDDEN c = search apart_low

pub returns : goal.returns
returns c = search apart-high
