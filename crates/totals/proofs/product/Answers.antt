-- `product` meets its contract. The three numbers are the kind's, and their product fits.
use Rattle.totals.proofs.RunLaws.{listed-may-x, listed-may-y, listed-may-z, two_fits, three-fits, product_is}
use Rattle.totals.proofs.product.Goals as goal

pub listed-x-requires : goal.listed-x-requires
listed-x-requires c = search listed-may-x

pub listed-y-requires : goal.listed-y-requires
listed-y-requires c = search listed-may-y

pub listed-z-requires : goal.listed-z-requires
listed-z-requires c = search listed-may-z

pub overflow_mul-result : goal.overflow_mul-result
overflow_mul-result c = search two_fits

pub overflow_mul-result-2 : goal.overflow_mul-result-2
overflow_mul-result-2 c = search three-fits

pub returns : goal.returns
returns c = search product_is
