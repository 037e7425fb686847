-- `more` meets its contract. The loop's invariant is `Placing`: what is told of those still to be read is told of all. Assumes nothing.
use Rattle.std.proofs.lemmas.Result.{err_from_is_err_and}
use borrow.Author.Rules.{rules}
use Rattle.form2.proofs.TermsLaws.{prefactor-fits, placing-more, placing-refused, placing-done}
use Rattle.form2.proofs.terms.more.Goals as goal

pub returns-in_err-prefactor : goal.returns-in_err-prefactor
returns-in_err-prefactor c = let p = err_from_is_err_and c.from_residual.result c.from_residual.ensures.1 in rw (p.1, p.2) (placing-refused _ _ _ _ _ _ _ _ _ _ _ c.loop-i.invariant c.loop-i-test.true c.within.ensures c.in_err-prefactor.was)

pub overflow_cast-values : goal.overflow_cast-values
overflow_cast-values c = prefactor-fits _ _ _ _ _ _ _ _ c.requires c.within.ensures c.in_ok-prefactor.was

pub loop-i-preserved : goal.loop-i-preserved
loop-i-preserved c = placing-more _ _ _ _ _ _ _ _ _ _ _ _ c.loop-i.invariant c.loop-i-test.true c.within.ensures c.in_ok-prefactor.was

pub returns : goal.returns
returns c = search (rules, placing-done)
