-- `floats::of_bits` is safe: a pattern that is not above infinity's is no NaN's. Assumes nothing.
use borrow.Author.Rules.{rules}
use Rattle.ask.proofs.Nan.{below_nan}
use Rattle.ask.proofs.floats.of_bits.Goals as goal

pub float_from_bits-result : goal.float_from_bits-result
float_from_bits-result c = search (rules, below_nan)
