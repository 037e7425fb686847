-- What each kind has of its own is within the limits of all.
use Prim.Native.Nat.{◌≤◌}
use native.Mathlib.Omega.{arith}
use Rattle.kind.specs.declared.Kind.{Kind}
use Rattle.kind.specs.declared.Kind.TheVariants.{Overlap, Kinetic, Nuclear, Moment, Coulomb}
use Rattle.kind.specs.Kinds.{number_of, orders_of, most_l, table_of}
use Rattle.kind.specs.Limits.{most_l·any, request_orders, table_places}

pub number-within : (k : Kind) → number_of k ≤ number_of Coulomb
number-within Overlap = omega arith
number-within Kinetic = omega arith
number-within Nuclear = omega arith
number-within Moment = omega arith
number-within Coulomb = omega arith

pub orders-within : (k : Kind) → orders_of k ≤ request_orders
orders-within Overlap = omega arith
orders-within Kinetic = omega arith
orders-within Nuclear = omega arith
orders-within Moment = omega arith
orders-within Coulomb = omega arith

pub l-within : (k : Kind) → most_l k ≤ most_l·any
l-within Overlap = omega arith
l-within Kinetic = omega arith
l-within Nuclear = omega arith
l-within Moment = omega arith
l-within Coulomb = omega arith

pub some-entries : (k : Kind) → 1 ≤ table_of k
some-entries Overlap = omega arith
some-entries Kinetic = omega arith
some-entries Nuclear = omega arith
some-entries Moment = omega arith
some-entries Coulomb = omega arith

pub table-within : (k : Kind) → table_of k ≤ table_places
table-within Overlap = omega arith
table-within Kinetic = omega arith
table-within Nuclear = omega arith
table-within Moment = omega arith
table-within Coulomb = omega arith
