-- `measure_node` meets its contract.
use Rattle.expansion.proofs.MeasureCycle.{leaf-scale, leaf-count, leaf-told, node-told}
use Rattle.expansion.proofs.measure.measure_node.Goals as goal

pub leaf-requires : goal.leaf-requires
leaf-requires c = (search leaf-scale, search leaf-count)

pub returns-then-left-eq0 : goal.returns-then-left-eq0
returns-then-left-eq0 c = search leaf-told

pub measure_inner-word-requires : goal.measure_inner-word-requires
measure_inner-word-requires c = record { measure_may = search; fact = search }

pub returns : goal.returns
returns c = search node-told
