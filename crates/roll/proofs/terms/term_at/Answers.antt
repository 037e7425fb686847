-- `term_at` meets its contract: a law for each way out. Assumes nothing.
use borrow.Author.Rules.{rules}
use Rattle.std.proofs.lemmas.Result.{err_from_is_err_and}
use native.Mathlib.Omega.{arith}
use Rattle.roll.proofs.FieldLaws.{taken-below}
use Rattle.roll.proofs.TermsLaws.{term-read, boys-unread, scale-unread}
use Rattle.roll.proofs.terms.term_at.Goals as goal

pub returns-in_err-scale : goal.returns-in_err-scale
returns-in_err-scale c = search (rules, scale-unread)

pub returns-in_err-boys : goal.returns-in_err-boys
returns-in_err-boys c = let p = err_from_is_err_and c.from_residual-in_err-boys.result c.from_residual-in_err-boys.ensures.1 in rw (p.1, p.2) (boys-unread _ _ _ _ _ _ _ _ _ _ c.within.ensures c.in_ok-scale.was c.most_boys.ensures c.within-2.ensures c.in_err-boys.was)

pub overflow_cast-boys : goal.overflow_cast-boys
overflow_cast-boys c = omega (arith, taken-below _ _ _ _ _ _ _ c.within-2.ensures c.in_ok-boys.was)

pub returns : goal.returns
returns c = term-read _ _ _ _ _ _ _ _ _ _ _ _ c.within.ensures c.in_ok-scale.was c.most_boys.ensures c.within-2.ensures c.in_ok-boys.was c.term_count.ensures
