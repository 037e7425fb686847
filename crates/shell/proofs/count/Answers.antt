-- `count` meets its contract: 01's formula, which is small. Assumes nothing.
use native.Mathlib.Omega.{arith}
use Rattle.shell.proofs.Listing.{count_small, counts-triples}
use Rattle.shell.proofs.count.Goals as goal

pub overflow_mul-result : goal.overflow_mul-result
overflow_mul-result c = omega (arith, count_small c.args.m c.requires)

pub returns : goal.returns
returns c = search counts-triples
