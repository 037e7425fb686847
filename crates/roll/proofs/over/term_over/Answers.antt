-- `term_over` meets its contract: a law for each way out. Assumes nothing.
use borrow.Author.Rules.{rules}
use Rattle.std.proofs.lemmas.Result.{err_from_is_err_and}
use Rattle.roll.proofs.OverLaws.{term-went, count-refused, boys-refused, scale-refused}
use Rattle.roll.proofs.over.term_over.Goals as goal

pub returns-in_err-next : goal.returns-in_err-next
returns-in_err-next c = search (rules, scale-refused)

pub returns-in_err-next-2 : goal.returns-in_err-next-2
returns-in_err-next-2 c = let p = err_from_is_err_and c.from_residual-in_err-next-2.result c.from_residual-in_err-next-2.ensures.1 in rw (p.1, p.2) (boys-refused _ _ _ _ _ _ _ _ _ _ c.within.ensures c.in_ok-next.was c.within-2.ensures c.in_err-next-2.was)

pub returns-in_err-count : goal.returns-in_err-count
returns-in_err-count c = let p = err_from_is_err_and c.from_residual-in_err-count.result c.from_residual-in_err-count.ensures.1 in rw (p.1, p.2) (count-refused _ _ _ _ _ _ _ _ _ _ _ _ _ c.within.ensures c.in_ok-next.was c.within-2.ensures c.in_ok-next-2.was c.within-3.ensures c.in_err-count.was)

pub returns : goal.returns
returns c = term-went _ _ _ _ _ _ _ _ _ _ _ _ _ _ _ c.within.ensures c.in_ok-next.was c.within-2.ensures c.in_ok-next-2.was c.within-3.ensures c.in_ok-count.was c.prefactors_over.ensures
