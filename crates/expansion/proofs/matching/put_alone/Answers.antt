-- `put_alone` meets its contract: by a sink of its own.
use Rattle.expansion.proofs.MatchTerms.{alone-may, alone-put}
use Rattle.expansion.proofs.matching.put_alone.Goals as goal

pub emit-requires : goal.emit-requires
emit-requires c = search alone-may

pub returns : goal.returns
returns c = search alone-put
