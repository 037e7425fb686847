-- `get_r12_squared` meets its contract: the definition's own operations. Assumes nothing.
use mathlib.Core.Path.{refl}
use Rattle.geometry.specs.Geometry.{r12_squared}
use Rattle.geometry.proofs.get_r12_squared.Goals as goal

pub returns : goal.returns
unfolding r12_squared
returns c = refl
