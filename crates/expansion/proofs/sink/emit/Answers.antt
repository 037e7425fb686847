-- `emit` meets its contract.
use Rattle.expansion.proofs.SinkTerms.{emits_one, emitted-one}
use Rattle.expansion.proofs.sink.emit.Goals as goal

pub put_term-next-requires : goal.put_term-next-requires
put_term-next-requires c = search emits_one

pub returns-then-doing-eq-FORM1 : goal.returns-then-doing-eq-FORM1
returns-then-doing-eq-FORM1 c = search emitted-one

pub emit2-requires : goal.emit2-requires
emit2-requires c = record { emit_may = search; fact = search }
