-- `get_shell2` meets its contract: its quadruples are the pairs with six zeros. Assumes nothing.
use Rattle.shell.proofs.Components.{pair-of-four}
use Rattle.shell.proofs.get_shell2.Goals as goal

pub returns : goal.returns
returns c = search pair-of-four
