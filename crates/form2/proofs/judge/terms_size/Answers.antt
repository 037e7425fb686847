-- `terms_size` meets its contract. The loop's invariant is `Sizing`: what was measured, and the terms left, make the whole. Assumes nothing.
use borrow.Author.Rules.{rules}
use native.Mathlib.Omega.{arith}
use Rattle.std.proofs.lemmas.Result.{err_from_is_err_and}
use Rattle.form2.proofs.JudgeLaws.{read-few, sizing-fits, sizing-more, sizing-refused, sizing-done}
use Rattle.form2.proofs.judge.terms_size.Goals as goal

pub returns-in_err-read : goal.returns-in_err-read
returns-in_err-read c = let p = err_from_is_err_and c.from_residual.result c.from_residual.ensures.1 in rw (p.1, p.2) (sizing-refused _ _ _ _ _ _ _ _ _ _ _ _ c.loop-done.invariant c.loop-done-test.true c.next_term.ensures _ c.in_err-read.was)

pub term_length-size-requires : goal.term_length-size-requires
term_length-size-requires c = read-few _ _ _ _ _ _ _ _ _ _ _ _ c.loop-done.invariant c.loop-done-test.true c.next_term.ensures _ c.in_ok-read.was

pub overflow_add-size : goal.overflow_add-size
overflow_add-size c = omega (arith, sizing-fits _ _ _ _ _ _ _ _ _ _ _ _ c.loop-done.invariant c.loop-done-test.true c.next_term.ensures _ _ c.in_ok-read.was c.term_length-size.ensures)

pub loop-done-preserved : goal.loop-done-preserved
loop-done-preserved c = sizing-more _ _ _ _ _ _ _ _ _ _ _ _ c.loop-done.invariant c.loop-done-test.true c.next_term.ensures _ _ c.in_ok-read.was c.term_length-size.ensures

pub returns : goal.returns
returns c = search (rules, sizing-done)
