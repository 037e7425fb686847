-- `xew_grouped_term` meets its contract: the answer below in fields. Assumes nothing.
use Rattle.xewumbal.proofs.Fields.{grouped-term-answered}
use Rattle.xewumbal.proofs.xew_grouped_term.Goals as goal

pub returns : goal.returns
returns c = search grouped-term-answered
