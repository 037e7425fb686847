-- `listing` meets its contract: a roll that the check takes is one that reads. Assumes nothing.
use borrow.Author.Rules.{rules}
use Rattle.std.proofs.lemmas.Result.{err_from_is_err_and}
use Rattle.roll.proofs.Checked.{checked-judged}
use Rattle.listing.proofs.Rolls.{listing-over, listing-told, listing-refused}
use Rattle.listing.proofs.listing.Goals as goal

pub returns-then-roll-gt-MOST_LISTED : goal.returns-then-roll-gt-MOST_LISTED
returns-then-roll-gt-MOST_LISTED c = rw c.from.ensures (search listing-over)

pub written-requires : goal.written-requires
written-requires c = search (rules, checked-judged)

pub returns : goal.returns
returns c = listing-told _ _ _ _ _ _ _ c.if-roll-gt-MOST_LISTED.false c.check.ensures c.in_ok-opened.was c.written.ensures

pub returns-in_err-opened : goal.returns-in_err-opened
returns-in_err-opened c =
    let p = err_from_is_err_and c.from_residual.result c.from_residual.ensures.1 in
    rw (p.1, p.2) (listing-refused _ _ _ _ _ c.if-roll-gt-MOST_LISTED.false c.check.ensures c.in_err-opened.was)
