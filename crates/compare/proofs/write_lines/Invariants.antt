-- Each step leaves fewer terms.
use Rattle.comparing.specs.Pairs.{terms_left}
use Rattle.compare.proofs.write_lines.Given as goal

abbrev pub decreases-loop-met : goal.decreases-loop-met
decreases-loop-met g l = terms_left l.at
