-- `term_line` meets its contract, a law for each answer. Assumes nothing.
use Rattle.std.proofs.lemmas.Result.{err_from_is_err_and}
use Rattle.importing.proofs.Judging.{line-missing, line-short, line_taken, line-wrong, shaped-is, line-unshaped}
use Rattle.importing.proofs.judge.term_line.Goals as goal

pub returns-then-s-at : goal.returns-then-s-at
returns-then-s-at c = search line-missing

pub returns-in_err-n : goal.returns-in_err-n
returns-in_err-n c =
    let p = err_from_is_err_and c.from_residual.result c.from_residual.ensures.1 in
    rw (p.1, p.2) (line-unshaped _ _ _ _ _ _ _ c.if-s-at.false c.shape_at.ensures c.ok_or.ensures.value c.in_err-n.was)

pub returns-then-n-lt2 : goal.returns-then-n-lt2
returns-then-n-lt2 c = line-short _ _ _ _ _ _ _ c.if-s-at.false c.shape_at.ensures (shaped-is _ _ _ _ c.ok_or.ensures.value c.in_ok-n.was) c.if-n-lt2.true

pub returns-in-Some : goal.returns-in-Some
returns-in-Some c = line_taken _ _ _ _ _ _ _ _ _ _ c.if-s-at.false c.shape_at.ensures (shaped-is _ _ _ _ c.ok_or.ensures.value c.in_ok-n.was) c.if-n-lt2.false c.term.ensures c.in-Some.is

pub returns-in-None : goal.returns-in-None
returns-in-None c = line-wrong _ _ _ _ _ _ _ _ c.if-s-at.false c.shape_at.ensures (shaped-is _ _ _ _ c.ok_or.ensures.value c.in_ok-n.was) c.if-n-lt2.false c.term.ensures c.in-None.is
