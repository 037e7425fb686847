-- `next` meets its contract: a law for each way out. Assumes nothing.
use borrow.Author.Rules.{rules}
use Rattle.roll.proofs.CursorLaws.{step-kind, step-unknown}
use Rattle.roll.proofs.cursor.Cursor.next.Goals as goal

pub returns-in-Some : goal.returns-in-Some
returns-in-Some c = search (rules, step-kind)

pub returns-in-None : goal.returns-in-None
returns-in-None c = search (rules, step-unknown)
