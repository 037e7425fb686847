-- `entries` meets its contract: the first `p` entries stand. Assumes nothing.
use Rattle.jk.specs.inner.Rows.{UpTo}
use Rattle.jk.proofs.entries.Given as goal

abbrev pub invariant-loop-p : goal.invariant-loop-p
invariant-loop-p l = UpTo l.m l.n l.i l.d l.all l.p
