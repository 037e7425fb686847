-- `root_of` meets its contract: above 0 by the bits, else by cases of the float. Assumes nothing.
use lib.Ieee.{nan_bits}
use Rattle.root.proofs.Signs.{below-zero, neither, not-below, no_nan, bits-some, bits-under, root_told, finite-bits}
use Rattle.root.proofs.root_of.Goals as goal

pub float_from_bits-t-3 : goal.float_from_bits-t-3
unfolding nan_bits
float_from_bits-t-3 c = tt

pub float_to_bits-x : goal.float_to_bits-x
float_to_bits-x c = search no_nan

pub root_bits-requires : goal.root_bits-requires
root_bits-requires c = record { bits_nonzero = search bits-some; bits_lt_infinite = search bits-under }

pub float_from_bits-result : goal.float_from_bits-result
float_from_bits-result c = search finite-bits

pub returns-then-x-2 : goal.returns-then-x-2
returns-then-x-2 c = search root_told

pub returns-then-x : goal.returns-then-x
returns-then-x c = search not-below

pub returns-then-x-3 : goal.returns-then-x-3
returns-then-x-3 c = search below-zero

pub returns-else-x-3 : goal.returns-else-x-3
returns-else-x-3 c = search neither
