-- `further` meets its contract: the first is not the one that follows in the term before. Assumes nothing.
use Rattle.std.proofs.lemmas.Result.{err_from_is_err_and}
use borrow.Author.Rules.{rules}
use Rattle.form2.proofs.TermsLaws.{prefactor-fits, further-none, further-goes, further-parts, further-unread}
use Rattle.form2.proofs.terms.further.Goals as goal

pub returns-then-left-eq0 : goal.returns-then-left-eq0
returns-then-left-eq0 c = search (rules, further-none)

pub returns-in_err-prefactor : goal.returns-in_err-prefactor
returns-in_err-prefactor c = let p = err_from_is_err_and c.from_residual.result c.from_residual.ensures.1 in rw (p.1, p.2) (further-unread _ _ _ _ _ _ _ _ _ c.if-left-eq0.false c.within.ensures c.in_err-prefactor.was)

pub returns-then-goes_on : goal.returns-then-goes_on
returns-then-goes_on c = rw c.bad_roll.ensures (further-goes _ _ _ _ _ _ _ c.requires.count_le_most_l_any.1 c.requires.count_le_most_l_any.0 _ _ _ c.if-left-eq0.false c.within.ensures c.in_ok-prefactor.was _ c.wide-there.ensures _ c.goes_on.ensures c.if-goes_on.true)

pub overflow_cast-values : goal.overflow_cast-values
overflow_cast-values c = prefactor-fits _ _ _ _ _ _ _ _ c.requires.more_may c.within.ensures c.in_ok-prefactor.was

pub returns : goal.returns
returns c = further-parts _ _ _ _ _ _ _ c.requires.count_le_most_l_any.1 c.requires.count_le_most_l_any.0 _ _ _ c.if-left-eq0.false c.within.ensures c.in_ok-prefactor.was _ c.wide-there.ensures _ c.goes_on.ensures _ _ c.if-goes_on.false c.more.ensures
