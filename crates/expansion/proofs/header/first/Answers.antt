-- `first` meets its contract.
use mathlib.Core.Path.{refl}
use Rattle.expansion.specs.inner.View.{path_prefactors, five_bits}
use Rattle.expansion.proofs.header.first.Goals as goal

pub returns : goal.returns
unfolding path_prefactors five_bits
returns c = refl
