-- `next_term` meets its contract: the short way, or the long one. Assumes nothing.
use Rattle.std.proofs.lemmas.Result.{err_from_is_err_and}
use borrow.Author.Rules.{rules}
use Rattle.form2.proofs.QuickLaws.{next-may, next_fits, next-placed, next-long, next-else}
use Rattle.form2.proofs.TermsLaws.{after-unread}
use Rattle.form2.proofs.judge.next_term.Goals as goal

pub returns-in_err-read : goal.returns-in_err-read
returns-in_err-read c = let p = err_from_is_err_and c.from_residual.result c.from_residual.ensures.1 in rw (p.1, p.2) (after-unread _ _ _ _ _ _ _ c.requires.after_may c.numbers.ensures c.requires.values_len _ c.in_err-read.was)

pub place_short-requires : goal.place_short-requires
place_short-requires c = search (rules, next-may)

pub overflow_cast-result : goal.overflow_cast-result
overflow_cast-result c = search (rules, next_fits)

pub returns-then-place_short : goal.returns-then-place_short
returns-then-place_short c = next-placed _ _ _ _ _ _ _ c.requires.after_may c.numbers.ensures c.requires.values_len _ _ c.in_ok-read.was c.table-table.ensures _ _ c.place_short.ensures c.if-place_short.true

pub term_after-requires-clause-values_len : goal.term_after-requires-clause-values_len
term_after-requires-clause-values_len c = search (rules, next-long)

pub returns : goal.returns
returns c = search (rules, next-else)
