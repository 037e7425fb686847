-- `to_form2` meets its contract: judged, then written. Assumes nothing.
use native.Mathlib.Omega.{arith}
use Prim.Native.Nat.{ℕ}
use borrow.Author.Rules.{rules}
use Rattle.number.specs.Numbers.{Bytes}
use Rattle.std.proofs.lemmas.Result.{err_from_is_err_and}
use Rattle.form2.proofs.MovedLaws.{judged-may2, refused2}
use Rattle.form2.proofs.shorter.to_form2.Goals as goal

pub returns-in_err-opened : goal.returns-in_err-opened
returns-in_err-opened c = let p = err_from_is_err_and c.from_residual.result c.from_residual.ensures.1 in rw (p.1, p.2) (refused2 _ _ _ _ _ c.check.ensures c.in_err-opened.was)

pub write-requires : goal.write-requires
write-requires c = let bytes : Bytes c.args.roll.now = λ (i : ℕ). omega (arith, c.type_inv.roll i) in search (rules, judged-may2, bytes)
