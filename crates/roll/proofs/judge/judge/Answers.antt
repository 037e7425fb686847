-- `judge` meets its contract: a law for each way out. Assumes nothing.
use borrow.Author.Rules.{rules}
use Rattle.roll.proofs.OverLaws.{went-over}
use Rattle.roll.proofs.judge.judge.Goals as goal

pub returns : goal.returns
returns c = search (rules, went-over)
