-- `salvage` meets its contract: the form, the header, then the fresh roll. Assumes nothing.
use native.Mathlib.Omega.{arith}
use Prim.Native.Nat.{ℕ}
use Rattle.std.proofs.lemmas.Result.{err_from_is_err_and}
use Rattle.salvaging.proofs.RenewLaws.{renew-first, salvage-told, salvage-refused}
use Rattle.salvaging.proofs.salvage.Goals as goal

pub returns-in_err-opened : goal.returns-in_err-opened
returns-in_err-opened c =
    let p = err_from_is_err_and c.from_residual.result c.from_residual.ensures.1 in
    rw (p.1, p.2) (salvage-refused _ _ _ c.opened.ensures _ _ _ c.form_of-form.ensures c.in_err-opened.was)

pub renew-requires : goal.renew-requires
renew-requires c = renew-first _ _ _ c.opened.ensures _ (λ (i : ℕ). omega (arith, c.type_inv.roll i)) c.in_ok-opened.was

pub returns : goal.returns
returns c = search salvage-told
