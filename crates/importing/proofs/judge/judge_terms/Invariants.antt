-- `judge_terms` meets its contract: what is left says what the whole says. Assumes nothing.
use Rattle.importing.proofs.Judging.{Lines}
use Rattle.importing.proofs.judge.judge_terms.Given as goal

abbrev pub invariant-loop-line : goal.invariant-loop-line
invariant-loop-line l = Lines l.s l.at l.count l.kind l.l l.first l.place l.size l.line l.after
