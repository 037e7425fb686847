-- Each step leaves fewer terms.
use Rattle.comparing.proofs.DifferLaws.{counting-less}
use Rattle.compare.proofs.write_lines.Goals as goal

pub loop-met-smaller : goal.loop-met-smaller
loop-met-smaller g c = search counting-less
