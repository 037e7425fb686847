-- `put_term` meets its contract.
use Rattle.expansion.proofs.TermsBytes.{emits-scale, emits-rest, emitted}
use Rattle.expansion.proofs.terms.put_term.Goals as goal

pub put_number-next-requires : goal.put_number-next-requires
put_number-next-requires c = search emits-scale

pub put_rest-requires : goal.put_rest-requires
put_rest-requires c = search emits-rest

pub returns : goal.returns
returns c = search emitted
