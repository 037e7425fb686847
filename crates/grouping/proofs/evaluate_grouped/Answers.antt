-- `evaluate_grouped` meets its contract: what the judge says of the roll, and what is then done with its cursor. Assumes nothing.
use Prim.Native.Nat.{ℕ}
use native.Mathlib.Omega.{arith}
use Rattle.std.proofs.lemmas.Result.{err_from_is_err_and}
use Rattle.grouping.proofs.GroupedLaws.{cursor-may, evaluate-refused, evaluate-value, evaluate-barred}
use Rattle.grouping.proofs.evaluate_grouped.Goals as goal

pub returns-in_err-opened : goal.returns-in_err-opened
returns-in_err-opened c =
    let p = err_from_is_err_and c.from_residual.result c.from_residual.ensures.1 in
    rw (p.1, p.2) (evaluate-refused _ _ _ _ _ _ _ _ _ c.check.ensures _ c.in_err-opened.was)

pub by_kind-requires : goal.by_kind-requires
by_kind-requires c = cursor-may _ _ _ (λ (i : ℕ). omega (arith, c.type_inv.roll i)) c.check.ensures c.in_ok-opened.was

pub returns-in_err-by_kind : goal.returns-in_err-by_kind
returns-in_err-by_kind c =
    let p = err_from_is_err_and c.from_residual-in_err-by_kind.result c.from_residual-in_err-by_kind.ensures.1 in
    rw (p.1, p.2) (evaluate-barred _ _ _ _ _ _ _ _ _ c.check.ensures _ _ _ (λ (i : ℕ). omega (arith, c.type_inv.roll i)) c.in_ok-opened.was c.by_kind.ensures _ c.in_err-by_kind.was)

pub returns : goal.returns
returns c = evaluate-value _ _ _ _ _ _ _ _ _ c.check.ensures _ _ _ (λ (i : ℕ). omega (arith, c.type_inv.roll i)) c.in_ok-opened.was c.by_kind.ensures _ c.in_ok-by_kind.was
