-- `pushed` meets its contract.
use Rattle.expansion.proofs.TermsWords.{pushed-over, pushed-on}
use Rattle.expansion.proofs.terms.pushed.Goals as goal

pub returns-then-path-eq12 : goal.returns-then-path-eq12
returns-then-path-eq12 c = search pushed-over

pub returns : goal.returns
returns c = search pushed-on
