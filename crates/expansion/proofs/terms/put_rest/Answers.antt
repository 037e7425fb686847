-- `put_rest` meets its contract.
use native.Mathlib.Omega.{arith}
use lib.ListN.{length-set}
use Rattle.expansion.proofs.TermsBytes.{rest-emitted, kept-two}
use Rattle.expansion.proofs.terms.put_rest.Goals as goal

pub bounds-out-at-2 : goal.bounds-out-at-2
bounds-out-at-2 c = simp length-set (omega arith)

pub shape_of-out : goal.shape_of-out
shape_of-out c = search kept-two

pub returns : goal.returns
returns c = search rest-emitted
