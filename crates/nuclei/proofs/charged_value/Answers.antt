-- `charged_value` meets its contract: the nucleus' table bars the sum, or leaves it to be charged. Assumes nothing.
use Rattle.nuclei.proofs.NucleiLaws.{product-kept, product-not}
use Rattle.nuclei.proofs.charged_value.Goals as goal

pub returns-then-not-geometry_finite : goal.returns-then-not-geometry_finite
returns-then-not-geometry_finite c = search product-not

pub returns : goal.returns
returns c = search product-kept
