-- `renew` meets its contract: worked out afresh, then the damaged roll is held against it. Assumes nothing.
use native.Mathlib.Omega.{arith}
use Rattle.std.proofs.lemmas.Result.{err_from_is_err_and}
use Rattle.salvaging.proofs.RenewLaws.{renew-room, renew-end, renew-may, renew-told, renew-refused}
use Rattle.salvaging.proofs.renew.Goals as goal

pub returns-in_err-fresh : goal.returns-in_err-fresh
returns-in_err-fresh c =
    let p = err_from_is_err_and c.from_residual.result c.from_residual.ensures.1 in
    rw (p.1, p.2) (renew-refused _ _ _ _ _ c.requires _ _ c.expanded.ensures _ c.in_err-fresh.was)

pub overflow_add-end : goal.overflow_add-end
overflow_add-end c = omega (arith, renew-room _ _ _ _ _ c.requires _ _ c.expanded.ensures _ c.in_ok-fresh.was)

pub slice_bounds-compared-end : goal.slice_bounds-compared-end
slice_bounds-compared-end c = let end = renew-end _ _ _ _ _ c.requires _ _ c.expanded.ensures _ c.in_ok-fresh.was in search end

pub compared-requires : goal.compared-requires
compared-requires c = renew-may _ _ _ _ _ c.requires _ _ c.expanded.ensures _ c.in_ok-fresh.was

pub returns : goal.returns
returns c = renew-told _ _ _ _ _ c.requires _ _ c.expanded.ensures _ c.in_ok-fresh.was _ c.compared.ensures
