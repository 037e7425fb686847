-- `place_bytes` meets its contract. The loop's invariant is `Placed`: the first so many bytes stand there. Assumes nothing.
use Rattle.form2.proofs.QuickLaws.{placed-more, placed-done}
use Rattle.form2.proofs.quick.place_bytes.Goals as goal

pub loop-i-preserved : goal.loop-i-preserved
loop-i-preserved c = search placed-more

pub returns : goal.returns
returns c = search placed-done
