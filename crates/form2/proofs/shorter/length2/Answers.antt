-- `length2` meets its contract. Assumes nothing.
use native.Mathlib.Omega.{arith}
use Rattle.form2.proofs.JudgeLaws.{few_bytes}
use Rattle.form2.proofs.ShorterLaws.{length2-is}
use Rattle.form2.proofs.shorter.length2.Goals as goal

pub overflow_add-front : goal.overflow_add-front
overflow_add-front c = omega (arith, few_bytes _ _ c.length-2.ensures, few_bytes _ _ c.length.ensures)

pub overflow_add-result : goal.overflow_add-result
overflow_add-result c = omega (arith, few_bytes _ _ c.length-3.ensures, few_bytes _ _ c.length-2.ensures, few_bytes _ _ c.length.ensures)

pub overflow_add-result-2 : goal.overflow_add-result-2
overflow_add-result-2 c = omega (arith, few_bytes _ _ c.length-4.ensures, few_bytes _ _ c.length-3.ensures, few_bytes _ _ c.length-2.ensures, few_bytes _ _ c.length.ensures)

pub overflow_add-result-3 : goal.overflow_add-result-3
overflow_add-result-3 c = omega (arith, few_bytes _ _ c.length-4.ensures, few_bytes _ _ c.length-3.ensures, few_bytes _ _ c.length-2.ensures, few_bytes _ _ c.length.ensures)

pub returns : goal.returns
returns c = search length2-is
