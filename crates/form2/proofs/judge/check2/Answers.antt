-- `check2` meets its contract. Assumes nothing.
use borrow.Author.Rules.{rules}
use Rattle.form2.proofs.JudgeLaws.{check2-is, check2-not}
use Rattle.form2.proofs.judge.check2.Goals as goal

pub returns-in_err-sized : goal.returns-in_err-sized
returns-in_err-sized c = search (rules, check2-not)

pub returns : goal.returns
returns c = search (rules, check2-is)
