-- `head` meets its contract: the short way gives what the head gives. Assumes nothing.
use Rattle.form2.proofs.ShorterLaws.{short-head}
use Rattle.form2.proofs.shorter.head.Goals as goal

pub returns-then-is_short : goal.returns-then-is_short
returns-then-is_short c = search short-head
