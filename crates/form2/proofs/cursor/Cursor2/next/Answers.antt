-- `next` meets its contract: by the kind that the cursor names. Assumes nothing.
use borrow.Author.Rules.{rules}
use Rattle.form2.proofs.CursorLaws.{step-kind2, step-unknown2}
use Rattle.form2.proofs.cursor.Cursor2.next.Goals as goal

pub returns-in-Some : goal.returns-in-Some
returns-in-Some c = search (rules, step-kind2)

pub returns-in-None : goal.returns-in-None
returns-in-None c = search (rules, step-unknown2)
