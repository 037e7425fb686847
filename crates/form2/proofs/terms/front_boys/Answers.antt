-- `front_boys` meets its contract: three numbers, one after the other, each within its limit. Assumes nothing.
use Rattle.std.proofs.lemmas.Result.{err_from_is_err_and}
use borrow.Author.Rules.{rules}
use Rattle.form2.proofs.TermsLaws.{shared-few, front-read, count-unread, shared-unread, boys-unread}
use Rattle.form2.proofs.terms.front_boys.Goals as goal

pub returns-in_err-boys : goal.returns-in_err-boys
returns-in_err-boys c = search (rules, boys-unread)

pub returns-in_err-shared : goal.returns-in_err-shared
returns-in_err-shared c = let p = err_from_is_err_and c.from_residual-in_err-shared.result c.from_residual-in_err-shared.ensures.1 in rw (p.1, p.2) (shared-unread _ _ _ _ _ _ _ _ _ _ _ _ c.most_boys.ensures c.within.ensures c.in_ok-boys.was c.within-2.ensures c.in_err-shared.was)

pub overflow_sub-most : goal.overflow_sub-most
overflow_sub-most c = search (rules, shared-few)

pub returns-in_err-further : goal.returns-in_err-further
returns-in_err-further c = let p = err_from_is_err_and c.from_residual-in_err-further.result c.from_residual-in_err-further.ensures.1 in rw (p.1, p.2) (count-unread _ _ _ _ _ _ _ _ _ _ _ _ _ _ _ _ c.most_boys.ensures c.within.ensures c.in_ok-boys.was c.within-2.ensures c.in_ok-shared.was c.most_prefactors-most.ensures c.within-3.ensures c.in_err-further.was)

pub returns : goal.returns
returns c = front-read _ _ _ _ _ _ _ _ _ _ _ _ _ _ _ _ _ c.most_boys.ensures c.within.ensures c.in_ok-boys.was c.within-2.ensures c.in_ok-shared.was c.most_prefactors-most.ensures c.within-3.ensures c.in_ok-further.was
