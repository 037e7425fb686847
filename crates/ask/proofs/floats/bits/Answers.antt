-- `floats::bits` is safe: a float that equals itself has bits. Assumes nothing.
use Rattle.ask.proofs.Nan.{equals_itself}
use Rattle.ask.proofs.floats.bits.Goals as goal

pub float_to_bits-result : goal.float_to_bits-result
float_to_bits-result c = search equals_itself
