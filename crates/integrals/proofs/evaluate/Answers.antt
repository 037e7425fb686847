-- `evaluate` meets its contract: what the judge says of the roll, and the terms it then has. Assumes nothing.
use Prim.Native.Nat.{ℕ}
use native.Mathlib.Omega.{arith}
use Rattle.std.proofs.lemmas.Result.{err_from_is_err_and}
use Rattle.integrals.proofs.Rolls.{evaluate-refused, evaluate-barred, evaluate-value}
use Rattle.integrals.proofs.evaluate.Goals as goal

pub returns-in_err-opened : goal.returns-in_err-opened
returns-in_err-opened c =
    let p = err_from_is_err_and c.from_residual.result c.from_residual.ensures.1 in
    rw (p.1, p.2) (evaluate-refused _ _ _ _ _ _ _ _ c.check.ensures _ c.in_err-opened.was)

pub returns-in_err-from_cursor : goal.returns-in_err-from_cursor
returns-in_err-from_cursor c =
    let p = err_from_is_err_and c.from_residual-in_err-from_cursor.result c.from_residual-in_err-from_cursor.ensures.1 in
    rw (p.1, p.2) (evaluate-barred _ _ _ _ _ _ _ _ c.check.ensures _ _ (λ (i : ℕ). omega (arith, c.type_inv.roll i)) c.in_ok-opened.was c.from_cursor.ensures _ c.in_err-from_cursor.was)

pub returns : goal.returns
returns c = evaluate-value _ _ _ _ _ _ _ _ c.check.ensures _ _ (λ (i : ℕ). omega (arith, c.type_inv.roll i)) c.in_ok-opened.was c.from_cursor.ensures _ c.in_ok-from_cursor.was
