-- `say_pair` meets its contract: three pieces, or nothing. Assumes nothing.
use Rattle.comparing.proofs.SaysLaws.{pair-said, pair-none}
use Rattle.comparing.proofs.says.say_pair.Goals as goal

pub returns-then-on : goal.returns-then-on
returns-then-on c = search pair-said

pub returns : goal.returns
returns c = search pair-none
