-- The definitions compute the examples.
use mathlib.Core.Path.{refl}
use lib.Ieee.{add, mul, of_bits}
use Rattle.jk.specs.Sums.{product, over_sigma, over_lambda, entry_of, list_from, matrix_of}
use Rattle.jk.specs.Examples.{Each, examples}

pub examples-hold : Each examples
unfolding matrix_of list_from entry_of over_lambda over_sigma product add mul of_bits
examples-hold = (refl, (refl, (refl, (refl, (refl, (refl, (refl, tt)))))))
