-- `zeros` meets its contract: the leading zeros of 64 digits, less those above the leading digit of a float. Assumes nothing.
use native.Mathlib.Omega.{arith}
use Rattle.root.proofs.Scales.{zeros-some, zeros-fit, zeros-told}
use Rattle.root.proofs.zeros.Goals as goal

pub overflow_cast-result : goal.overflow_cast-result
overflow_cast-result c = record { fits = search zeros-fit }

pub overflow_sub-result : goal.overflow_sub-result
overflow_sub-result c = omega (arith, zeros-some _ c.requires.bits_nonzero c.requires.bits_lt_hidden)

pub returns : goal.returns
returns c = search zeros-told
