-- `term_after` meets its contract: the numbers, then the further prefactors behind those that are shared. Assumes nothing.
use Rattle.std.proofs.lemmas.Result.{err_from_is_err_and}
use borrow.Author.Rules.{rules}
use Rattle.form2.proofs.TermsLaws.{after-may, after_more, after-unmore, after-unread}
use Rattle.form2.proofs.terms.term_after.Goals as goal

pub returns-in_err-read : goal.returns-in_err-read
returns-in_err-read c = let p = err_from_is_err_and c.from_residual.result c.from_residual.ensures.1 in rw (p.1, p.2) (after-unread _ _ _ _ _ _ _ c.requires.after_may c.front.ensures c.requires.values_len _ c.in_err-read.was)

pub further-requires-clause-more_may : goal.further-requires-clause-more_may
further-requires-clause-more_may c = search (rules, after-may)

pub returns-in_err-count : goal.returns-in_err-count
returns-in_err-count c = let p = err_from_is_err_and c.from_residual-in_err-count.result c.from_residual-in_err-count.ensures.1 in rw (p.1, p.2) (after-unmore _ _ _ _ _ _ _ c.requires.after_may c.front.ensures c.requires.values_len _ _ _ _ _ c.in_ok-read.was c.table.ensures c.further.ensures c.in_err-count.was)

pub returns : goal.returns
returns c = after_more _ _ _ _ _ _ _ c.requires.after_may c.front.ensures c.requires.values_len _ _ _ _ _ _ c.in_ok-read.was c.table.ensures c.further.ensures c.in_ok-count.was
