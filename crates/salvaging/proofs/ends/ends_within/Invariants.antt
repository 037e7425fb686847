-- `ends_within` meets its contract. The loop's invariant is `Ending`: so many end within, and of those that are left as many as further on. Assumes nothing.
use Rattle.salvaging.proofs.EndsLaws.{Ending}
use Rattle.salvaging.proofs.ends.ends_within.Given as goal

abbrev pub invariant-loop-count : goal.invariant-loop-count
invariant-loop-count l = Ending l.behind l.fresh l.most l.terms l.place l.count
