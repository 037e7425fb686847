-- `open_kind` meets its contract: a law for each way out. Assumes nothing.
use borrow.Author.Rules.{rules}
use native.Mathlib.Omega.{arith}
use Rattle.roll.proofs.HeaderLaws.{orders-few, orders-places, kind-opened, kind-uncounted, kind-unordered}
use Rattle.roll.proofs.header.open_kind.Goals as goal

pub returns-in_err-read : goal.returns-in_err-read
returns-in_err-read c = search (rules, kind-unordered)

pub returns-in_err-terms : goal.returns-in_err-terms
returns-in_err-terms c = search (rules, kind-uncounted)

pub overflow_cast-cursor : goal.overflow_cast-cursor
overflow_cast-cursor c = omega (arith, orders-few _ _ _ _ _ (orders-places _ _ c.orders.ensures) c.orders-2.ensures c.in_ok-read.was)

pub returns : goal.returns
returns c = search (rules, kind-opened)
