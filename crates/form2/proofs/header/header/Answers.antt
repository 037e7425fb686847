-- `header` meets its contract: kind + 16, then what both forms have. Assumes nothing.
use borrow.Author.Rules.{rules}
use native.Mathlib.Omega.{arith}
use Rattle.roll.proofs.FieldLaws.{taken, taken-below}
use Rattle.form2.proofs.HeaderLaws.{header-kind, header-unknown, header-unread}
use Rattle.form2.proofs.header.header.Goals as goal

pub returns-in_err-number : goal.returns-in_err-number
returns-in_err-number c = search (rules, header-unread)

pub overflow_sub-number : goal.overflow_sub-number
overflow_sub-number c = omega (arith, (taken _ _ _ _ _ _ _ c.within.ensures c.in_ok-number.was).above)

pub overflow_cast-number : goal.overflow_cast-number
overflow_cast-number c = omega (arith, taken-below _ _ _ _ _ _ _ c.within.ensures c.in_ok-number.was)

pub returns-in-Some : goal.returns-in-Some
returns-in-Some c = search (rules, header-kind)

pub returns-in-None : goal.returns-in-None
returns-in-None c = search (rules, header-unknown)
