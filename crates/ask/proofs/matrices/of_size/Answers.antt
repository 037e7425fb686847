-- `matrices::of_size` is safe: the products of a size within the limit fit. Assumes nothing.
use Rattle.jk.proofs.Sizes.{square-fits, fourth-fits}
use Rattle.ask.proofs.matrices.of_size.Goals as goal

pub overflow_mul-square : goal.overflow_mul-square
overflow_mul-square c = search square-fits

pub overflow_mul-tensor : goal.overflow_mul-tensor
overflow_mul-tensor c = search fourth-fits
