-- One answer alone meets the public contract of this crate, and it is the definition's.
use Rattle.laws.proofs.Contract.{Alone, alone, end}
use Rattle.term.specs.Terms.{no_term}
use Rattle.term.proofs.Term.none.Reads.{Post as None}

pub none_only : Alone (λ r. None tt end r end) no_term
none_only = alone (λ r p. p)
