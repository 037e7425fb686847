-- Inside the crate: what each reading is as the code holds it, and the same answers made of what is held.
use Rattle.std.specs.Prelude.{ℕ, ◌-◌, List, ◌++◌, length, take, replicate, Result, Ok, Err}
use Rattle.kind.specs.Limits.{most_l·any, request_orders}
use Rattle.kind.specs.Kinds.{number_of}
use Rattle.kind.specs.declared.Kind.{Kind}
use Rattle.term.specs.declared.Term.{Term as Held}
use Rattle.term.specs.Terms.{Term, held}
use Rattle.kind.specs.declared.refusals.Fault.{Fault}
use Rattle.roll.specs.declared.header.ReadOrders.{ReadOrders}
use Rattle.roll.specs.declared.header.Opened.{Opened}
use Rattle.laws.specs.Total.{total}
use Rattle.roll.specs.Field.{Field, fault}
use Rattle.roll.specs.Field as field
use Rattle.roll.specs.Reading.{Reading, got, refused}

-- the term that the code holds: no count goes past the prefactors' places
abbrev pub from_held : Held → Term
from_held t = record { scale = t.scale; boys = t.boys; prefactors = take t.count t.prefactors }

-- what was read with zeros after it, and the place after what was read
abbrev pub held_prefactors : Reading (List ℕ) → Result (List ℕ × ℕ) Fault
held_prefactors (got ps next) = Ok (ps ++ replicate (most_l·any - length ps) 0, next)
held_prefactors (refused r place) = Err (fault r place)

abbrev pub held_orders : Reading (List ℕ) → Result ReadOrders Fault
held_orders (got os next) = Ok (record { values = os ++ replicate (request_orders - length os) 0; l = total os; end = next })
held_orders (refused r place) = Err (fault r place)

abbrev pub held_term : Reading Term → Result (Held × ℕ) Fault
held_term (got t next) = Ok (held t, next)
held_term (refused r place) = Err (fault r place)

-- ---- a header

-- a header of orders as the code holds them
abbrev pub counted_from : Kind → ReadOrders → Field → Result Opened Fault
counted_from k read (field.Is terms next) = Ok (record { cursor = record { place = next; left = terms; kind = number_of k; l = read.l }; orders = read.values })
counted_from k read (Err e) = Err e
