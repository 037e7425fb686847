-- `product_of` meets its contract: an end past the bytes is their end. Assumes nothing.
use Rattle.integrals.proofs.SumsLaws.{product-within}
use Rattle.integrals.proofs.sums.product_of.Goals as goal

pub returns : goal.returns
returns c = search product-within
