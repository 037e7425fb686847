-- `unpacked` meets its contract.
use Rattle.expansion.proofs.MeasureWords.{unpacked-fits, unpacked-over}
use Rattle.expansion.proofs.measure.unpacked.Goals as goal

pub returns-then-word-lt-OVER : goal.returns-then-word-lt-OVER
returns-then-word-lt-OVER c = search unpacked-fits

pub returns : goal.returns
returns c = search unpacked-over
