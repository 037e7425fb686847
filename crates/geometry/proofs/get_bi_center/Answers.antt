-- `get_bi_center` meets its contract: the definition's own operations. Assumes nothing.
use mathlib.Core.Path.{refl}
use Rattle.geometry.specs.Geometry.{bi_center}
use Rattle.geometry.proofs.get_bi_center.Goals as goal

pub returns : goal.returns
unfolding bi_center
returns c = refl
