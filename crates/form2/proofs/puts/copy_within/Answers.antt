-- `copy_within` meets its contract. The loop's invariant is `Copying`: the first so many bytes stand there. Assumes nothing.
use Rattle.form2.proofs.PutsLaws.{within_more}
use Rattle.form2.proofs.puts.copy_within.Goals as goal

pub loop-i-preserved : goal.loop-i-preserved
loop-i-preserved c = search within_more
