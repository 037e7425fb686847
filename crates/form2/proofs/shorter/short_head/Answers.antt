-- `short_head` meets its contract. Assumes nothing.
use Rattle.form2.proofs.ShorterLaws.{short-made}
use Rattle.form2.proofs.shorter.short_head.Goals as goal

pub returns : goal.returns
returns c = search short-made
