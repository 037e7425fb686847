-- `choose` meets its contract.
use borrow.Author.Rules.{rules}
use Rattle.expansion.proofs.WalkCycle.{choose-none, choose-nowhere, choose-at}
use Rattle.expansion.proofs.walk.choose.Goals as goal

pub returns-in_err-centre : goal.returns-in_err-centre
returns-in_err-centre c = search (rules, choose-none)

pub returns-in_err-axis : goal.returns-in_err-axis
returns-in_err-axis c = search (rules, choose-nowhere)

pub returns : goal.returns
returns c = search (rules, choose-at)
