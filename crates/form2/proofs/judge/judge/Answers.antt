-- `judge` meets its contract: the header, then the terms. Assumes nothing.
use borrow.Author.Rules.{rules}
use Rattle.form2.proofs.JudgeLaws.{judge-small2, judge-sized, judge-stopped, judge-known, judge-refused}
use Rattle.form2.proofs.judge.judge.Goals as goal

pub returns-in_err-opened : goal.returns-in_err-opened
returns-in_err-opened c = search (rules, judge-refused)

pub terms_size-requires : goal.terms_size-requires
terms_size-requires c = search (rules, judge-small2)

pub returns-in_err-size-in-Some : goal.returns-in_err-size-in-Some
returns-in_err-size-in-Some c = search (rules, judge-stopped)

pub returns-in-None : goal.returns-in-None
returns-in-None c = search (rules, judge-known)

pub returns : goal.returns
returns c = search (rules, judge-sized)
