-- `put_term2` meets its contract.
use Rattle.expansion.proofs.FurtherBytes.{emits-scale2, emits-rest2, emitted-after}
use Rattle.expansion.proofs.further.put_term2.Goals as goal

pub put_number-next-requires : goal.put_number-next-requires
put_number-next-requires c = search emits-scale2

pub put_rest2-requires : goal.put_rest2-requires
put_rest2-requires c = search emits-rest2

pub returns : goal.returns
returns c = search emitted-after
