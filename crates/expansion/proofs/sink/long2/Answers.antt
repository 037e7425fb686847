-- `long2` meets its contract.
use Rattle.expansion.proofs.SinkTerms.{long-front, long-whole}
use Rattle.expansion.proofs.sink.long2.Goals as goal

pub overflow_add-result : goal.overflow_add-result
overflow_add-result c = record { fits = search long-front }

pub overflow_add-result-2 : goal.overflow_add-result-2
overflow_add-result-2 c = record { fits = search long-whole }
