-- Every limit is within what the words of the walk hold. A limit that is raised further is refused here first, by the name of the packing that is too narrow.
use Prim.Native.Nat.{◌+◌, ◌*◌, ◌≤◌, ◌<◌}
use native.Mathlib.Omega.{arith}
use Rattle.kind.specs.declared.Kind.{Kind}
use Rattle.kind.specs.declared.Kind.TheVariants.{Overlap, Kinetic, Nuclear, Moment, Coulomb}
use Rattle.kind.specs.Kinds.{most_l, most_prefactors, table_of}
use Rattle.kind.specs.Limits.{most_order, most_terms}
use Rattle.expansion.specs.inner.Packings.{order_values, prefactor_values, prefactor_places, measured_bytes}

pub order-held : most_order < order_values
order-held = omega arith

pub prefactor-held : (k : Kind) → table_of k ≤ prefactor_values
prefactor-held Overlap = omega arith
prefactor-held Kinetic = omega arith
prefactor-held Nuclear = omega arith
prefactor-held Moment = omega arith
prefactor-held Coulomb = omega arith

pub prefactors-held : (k : Kind) → most_prefactors k (most_l k) ≤ prefactor_places
prefactors-held Overlap = omega arith
prefactors-held Kinetic = omega arith
prefactors-held Nuclear = omega arith
prefactors-held Moment = omega arith
prefactors-held Coulomb = omega arith

-- a term takes at most 32 bytes, and a sum goes on to at most twice the limit before it stops
pub bytes-held : 32 * (3 * (most_terms + 1)) < measured_bytes
bytes-held = omega arith
