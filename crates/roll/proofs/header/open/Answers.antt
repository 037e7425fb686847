-- `open` meets its contract: a law for each way out. Assumes nothing.
use borrow.Author.Rules.{rules}
use native.Mathlib.Omega.{arith}
use Rattle.roll.proofs.FieldLaws.{taken-below}
use Rattle.roll.proofs.HeaderLaws.{open-kind, open_unknown, open-unread}
use Rattle.roll.proofs.header.open.Goals as goal

pub returns-in_err-number : goal.returns-in_err-number
returns-in_err-number c = search (rules, open-unread)

pub overflow_cast-number-2 : goal.overflow_cast-number-2
overflow_cast-number-2 c = omega (arith, taken-below _ _ _ _ _ _ _ c.within.ensures c.in_ok-number.was)

pub returns-in-Some : goal.returns-in-Some
returns-in-Some c = search (rules, open-kind)

pub returns-in-None : goal.returns-in-None
returns-in-None c = search (rules, open_unknown)
