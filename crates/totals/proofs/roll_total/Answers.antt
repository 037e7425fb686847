-- `roll_total` meets its contract.
use borrow.Author.Rules.{rules}
use Prim.Native.Nat.{ℕ}
use native.Mathlib.Omega.{arith}
use Rattle.totals.proofs.SumLaws.{sum-reads, sum-refused}
use Rattle.totals.proofs.roll_total.Goals as goal

pub returns-in_err-opened : goal.returns-in_err-opened
returns-in_err-opened c = search (rules, sum-refused)

pub returns : goal.returns
returns c = sum-reads _ _ _ _ (λ (i : ℕ). omega (arith, c.type_inv.roll i)) c.check.ensures c.in_ok-opened.was c.sum_from.ensures
