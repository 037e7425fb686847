-- `if_fresh` meets its contract. A request of the profile is never refused.
use Rattle.small.proofs.CheckLaws.{fresh-same, fresh-differs, fresh-never}
use Rattle.small.proofs.check.if_fresh.Goals as goal

pub returns-in_err-against : goal.returns-in_err-against
returns-in_err-against c = fresh-never _ _ c.requires _ c.against.ensures _ _ c.in_err-against.was

pub returns-in-Same : goal.returns-in-Same
returns-in-Same c = fresh-same _ _ c.requires _ c.against.ensures _ _ _ c.in_ok-against.was c.in-Same.is

pub returns-in-Differs : goal.returns-in-Differs
returns-in-Differs c = fresh-differs _ _ c.requires _ c.against.ensures _ _ c.in_ok-against.was c.in-Differs.is
