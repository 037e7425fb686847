-- `emit2` meets its contract.
use Rattle.expansion.proofs.SinkTerms.{earlier-few, same-few, size_fits, size-taken, emits_two, emitted-two}
use Rattle.expansion.proofs.sink.emit2.Goals as goal

pub shared_with-same-requires : goal.shared_with-same-requires
shared_with-same-requires c = (search earlier-few, search)

pub long2-requires : goal.long2-requires
long2-requires c = (search, search, search same-few)

pub overflow_add-next : goal.overflow_add-next
overflow_add-next c = record { fits = search size_fits }

pub returns-then-doing-eq-SIZE2 : goal.returns-then-doing-eq-SIZE2
returns-then-doing-eq-SIZE2 c = search size-taken

pub put_term2-next-requires : goal.put_term2-next-requires
put_term2-next-requires c = search emits_two

pub returns : goal.returns
returns c = search emitted-two
