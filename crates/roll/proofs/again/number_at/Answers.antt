-- `number_at` meets its contract: a law for each way out. Assumes nothing.
use borrow.Author.Rules.{rules}
use Rattle.roll.proofs.AgainLaws.{seen-is, seen-not}
use Rattle.roll.proofs.again.number_at.Goals as goal

pub returns-in-Ok : goal.returns-in-Ok
returns-in-Ok c = search (rules, seen-is)

pub returns-in-Err : goal.returns-in-Err
returns-in-Err c = search (rules, seen-not)
