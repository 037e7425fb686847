-- `prefactors` meets its contract: a law for each way out. Assumes nothing.
use borrow.Author.Rules.{rules}
use native.Mathlib.Omega.{arith}
use Rattle.roll.proofs.FieldLaws.{taken-below}
use Rattle.roll.proofs.TermsLaws.{filling-more, filling-refused, filling-done}
use Rattle.roll.proofs.terms.prefactors.Goals as goal

pub returns-in_err-prefactor : goal.returns-in_err-prefactor
returns-in_err-prefactor c = search (rules, filling-refused)

pub overflow_cast-values : goal.overflow_cast-values
overflow_cast-values c = omega (arith, taken-below _ _ _ _ _ _ _ c.within.ensures c.in_ok-prefactor.was)

pub loop-i-preserved : goal.loop-i-preserved
loop-i-preserved c = filling-more _ _ _ _ _ _ _ _ _ _ c.loop-i.invariant c.loop-i-test.true c.within.ensures c.in_ok-prefactor.was

pub returns : goal.returns
returns c = search (rules, filling-done)
