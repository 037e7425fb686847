-- Inside the crate: how the terms of a judged roll are summed, as the code goes over them.
use Rattle.std.specs.Prelude.{ℕ, List, cond, eqb, Float, Option, Some, None, Err}
use Rattle.term.specs.Terms.{Term}
use Rattle.geometry.specs.Floats.{◌⊕◌, ◌⊗◌, one}
use Rattle.kind.specs.declared.Kind.{Kind}
use Rattle.kind.specs.declared.refusals.Refusal.TheVariants.{BadRoll}
use Rattle.geometry.specs.declared.Centre.{Centre}
use Rattle.roll.specs.declared.cursor.Cursor.{Cursor}
use Rattle.roll.specs.inner.Again.{terms_again}
use Rattle.integrals.specs.Sums.{boys_number, stays_kinetic, plain_of, kinetic_of, nuclear_of, coulomb_of}
use Rattle.integrals.specs.Values.{Value, value_of}
use Rattle.integrals.specs.declared.sums.Adds.{Adds}
use Rattle.integrals.specs.declared.sums.Adds.TheVariants.{Plain, Kinetic, Nuclear}

-- what one term adds in the pass of a Boys order, with b = F(order)·s
unfoldable pub add_order_of : ℕ → Float → List Float → Term → Float → Float
add_order_of order b table t sum = cond (eqb t.boys order) (sum ⊕ coulomb_of table b t) sum

-- where g starts
unfoldable pub start_of : Adds → List ℕ → Float
start_of Plain ps = one
start_of (Kinetic kinetic) ps = cond (stays_kinetic ps) kinetic one
start_of Nuclear ps = one

-- what one term adds outside Coulomb
unfoldable pub addend_of : Adds → List Float → Float → List Float → Term → Float
addend_of Plain table aux boys t = plain_of table aux t
addend_of (Kinetic kinetic) table aux boys t = kinetic_of kinetic table aux t
addend_of Nuclear table aux boys t = nuclear_of table aux boys t

-- what one term adds where the terms stand by Boys order, each with b = F(order)·s of its own order
unfoldable pub own_order_of : List Float → Float → List Float → Term → Float
own_order_of table s boys t = coulomb_of table (boys_number boys t.boys ⊗ s) t

-- the terms from a cursor on
abbrev pub again_from : List ℕ → Cursor → List Term
again_from s cursor = terms_again s cursor.place cursor.left

-- the value of the terms from a cursor on; a cursor that the judge gives has a kind (D-63)
unfoldable pub of_cursor : Option Kind → Cursor → Centre → Centre → Centre → Centre → Float → List Float → List ℕ → Value
of_cursor (Some k) cursor a b c d aux boys roll = value_of k cursor.l a b c d aux boys (again_from roll cursor)
of_cursor None cursor a b c d aux boys roll = Err BadRoll
