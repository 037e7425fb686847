-- `check` meets its contract: a law for each way out. Assumes nothing.
use borrow.Author.Rules.{rules}
use Rattle.roll.proofs.JudgeLaws.{check-refused, judge-small, check-stopped, check-known, check-read}
use Rattle.roll.proofs.judge.check.Goals as goal

pub returns-in_err-opened : goal.returns-in_err-opened
returns-in_err-opened c = search (rules, check-refused)

pub judge-requires : goal.judge-requires
judge-requires c = search (rules, judge-small)

pub returns-in_err-judge-in-Some : goal.returns-in_err-judge-in-Some
returns-in_err-judge-in-Some c = search (rules, check-stopped)

pub returns-in-None : goal.returns-in-None
returns-in-None c = check-known _ _ _ _ c.open.ensures c.in_ok-opened.was c.of.ensures c.in-None.is

pub returns : goal.returns
returns c = search (rules, check-read)
