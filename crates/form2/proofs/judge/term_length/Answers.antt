-- `term_length` meets its contract. Assumes nothing.
use native.Mathlib.Omega.{arith}
use Rattle.form2.proofs.JudgeLaws.{few_bytes, length-is}
use Rattle.form2.proofs.judge.term_length.Goals as goal

pub overflow_add-result : goal.overflow_add-result
overflow_add-result c = omega (arith, few_bytes _ _ c.length.ensures, few_bytes _ _ c.length-2.ensures)

pub overflow_add-result-2 : goal.overflow_add-result-2
overflow_add-result-2 c = omega (arith, few_bytes _ _ c.length.ensures, few_bytes _ _ c.length-2.ensures, few_bytes _ _ c.length-3.ensures)

pub overflow_add-result-3 : goal.overflow_add-result-3
overflow_add-result-3 c = omega (arith, few_bytes _ _ c.length.ensures, few_bytes _ _ c.length-2.ensures, few_bytes _ _ c.length-3.ensures)

pub returns : goal.returns
returns c = search length-is
