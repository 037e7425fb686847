-- One answer alone meets each public contract of this crate, and it is the definition's.
use lib.Ieee.{Float}
use Rattle.laws.proofs.Contract.{Alone, alone, ◌▸◌, end}
use Rattle.root.specs.Root.{root_of, rooted_of}
use Rattle.root.proofs.root_of.Reads.{Post as RootOf}
use Rattle.root.proofs.root.Reads.{Post as Root}

pub root-of-only : (x : Float) → let g = x ▸ end in Alone (λ r. RootOf tt g r g) (root_of x)
root-of-only x = alone (λ r p. p)

pub root-only : (x : Float) → let g = x ▸ end in Alone (λ r. Root tt g r g) (rooted_of x)
root-only x = alone (λ r p. p)
