-- `floats::not_a_number` is safe and ends. Assumes nothing.
use lib.Ieee.{nan_bits}
use Rattle.ask.proofs.floats.not_a_number.Goals as goal

pub float_from_bits-infinite : goal.float_from_bits-infinite
unfolding nan_bits
float_from_bits-infinite c = tt
