-- `packed` meets its contract.
use Rattle.expansion.proofs.RequestLaws.{packed_none, packed-mul, packed-add, packed_more, packed-last}
use Rattle.expansion.proofs.request.packed.Goals as goal

pub loop-i-init : goal.loop-i-init
loop-i-init c = search packed_none

pub overflow_mul-word : goal.overflow_mul-word
overflow_mul-word c = record { fits = search packed-mul }

pub overflow_add-word : goal.overflow_add-word
overflow_add-word c = record { fits = search packed-add }

pub loop-i-preserved : goal.loop-i-preserved
loop-i-preserved c = search packed_more

pub returns : goal.returns
returns c = search packed-last
