-- `xew_shell_list` meets its contract: the answer below in fields. Assumes nothing.
use Rattle.xewumbal.proofs.Fields.{list-answered}
use Rattle.xewumbal.proofs.xew_shell_list.Goals as goal

pub returns : goal.returns
returns c = search list-answered
