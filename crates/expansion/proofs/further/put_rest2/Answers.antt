-- `put_rest2` meets its contract.
use lib.ListN.{length-set}
use native.Mathlib.Omega.{arith}
use Rattle.expansion.proofs.FurtherBytes.{kept-three, rest-emitted2}
use Rattle.expansion.proofs.further.put_rest2.Goals as goal

pub bounds-out-at-2 : goal.bounds-out-at-2
bounds-out-at-2 c = simp length-set (omega arith)

pub bounds-out-at-3 : goal.bounds-out-at-3
bounds-out-at-3 c = simp length-set (omega arith)

pub shape_of-out : goal.shape_of-out
shape_of-out c = search kept-three

pub returns : goal.returns
returns c = search rest-emitted2
