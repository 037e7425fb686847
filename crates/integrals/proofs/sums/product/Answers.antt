-- `product` meets its contract: what is left of the prefactors gives the whole product. Assumes nothing.
use Rattle.integrals.proofs.SumsLaws.{product-more, product-done}
use Rattle.integrals.proofs.sums.product.Goals as goal

pub loop-at-preserved : goal.loop-at-preserved
loop-at-preserved c = search product-more

pub returns : goal.returns
returns c = search product-done
