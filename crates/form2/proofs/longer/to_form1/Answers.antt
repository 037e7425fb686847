-- `to_form1` meets its contract: judged, then written. Assumes nothing.
use native.Mathlib.Omega.{arith}
use Prim.Native.Nat.{ℕ}
use Rattle.std.proofs.lemmas.Result.{err_from_is_err_and}
use Rattle.form2.proofs.LongerLaws.{judged-may1, refused1}
use Rattle.form2.proofs.longer.to_form1.Goals as goal

pub returns-in_err-sized : goal.returns-in_err-sized
returns-in_err-sized c = let p = err_from_is_err_and c.from_residual.result c.from_residual.ensures.1 in rw (p.1, p.2) (refused1 _ _ _ _ _ c.judge.ensures c.in_err-sized.was)

pub write-requires : goal.write-requires
write-requires c = judged-may1 _ _ _ (λ (i : ℕ). omega (arith, c.type_inv.roll i)) c.judge.ensures c.in_ok-sized.was
