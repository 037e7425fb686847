-- 02, Q-11: the scales of all terms added up, and the number that they come to, worked out from the orders alone.
use Rattle.std.specs.Prelude.{ℕ, zero, suc, ◌+◌, ◌*◌, ◌-◌, Bool, true, false, cond, List, Option, Some, None, Result, Ok, Err}
use Rattle.laws.specs.Total.{total}
use Rattle.kind.specs.declared.Kind.{Kind}
use Rattle.kind.specs.declared.Kind.TheVariants.{Overlap, Kinetic, Nuclear, Moment, Coulomb}
use Rattle.kind.specs.declared.refusals.Refusal.{Refusal}
use Rattle.kind.specs.declared.refusals.Refusal.TheVariants.{WrongKind, OrderSum, UnusedOrder}
use Rattle.kind.specs.declared.refusals.Fault.{Fault}
use Rattle.kind.specs.Refusals.{refusal_number}
use Rattle.kind.specs.Kinds.{kind_of}
use Rattle.term.specs.Terms.{Term}
use Rattle.steps.specs.declared.CentreName.TheVariants.{A, B}
use Rattle.steps.specs.declared.Axis.{Axis}
use Rattle.steps.specs.declared.Axis.TheVariants.{X, Y, Z}
use Rattle.steps.specs.Choice.{operator, order_of}
use Rattle.roll.specs.Reading.{Reading, got, refused, Roll, roll_at}
use Rattle.roll.specs.Field.{fault}
use Rattle.roll.specs.Before.{scales}
use Rattle.expansion.specs.Expanding.{too_high, unused_set}

-- "Add the scales of all terms."
abbrev pub scale_sum : List Term → ℕ
scale_sum ts = total (scales ts)

-- ---- the number by hand

-- "For overlap and moment .. For nuclear": of kinetic and Coulomb nothing is claimed (D-90, D-91)
abbrev pub claimed : Kind → Bool
claimed Overlap = true
claimed Kinetic = false
claimed Nuclear = true
claimed Moment = true
claimed Coulomb = false

-- "the list, numbered p from 0, that starts 1, 1 and goes on as the last plus (p−1) times the one before"
unfoldable pub plain_list : ℕ → ℕ
plain_list zero = 1
plain_list (suc zero) = 1
plain_list (suc (suc n)) = let p = suc (suc n) in plain_list (suc n) + (p - 1) * plain_list n

-- "For nuclear the list starts 1, 2 and goes on as twice the last plus 2(p−1) times the one before"
unfoldable pub nuclear_list : ℕ → ℕ
nuclear_list zero = 1
nuclear_list (suc zero) = 2
nuclear_list (suc (suc n)) = let p = suc (suc n) in 2 * nuclear_list (suc n) + 2 * (p - 1) * nuclear_list n

-- number p of a kind's list; kinetic and Coulomb have none
abbrev pub listed : Kind → ℕ → ℕ
listed Overlap p = plain_list p
listed Kinetic p = 0
listed Nuclear p = nuclear_list p
listed Moment p = plain_list p
listed Coulomb p = 0

-- "the summed orders along x, y and z, the operator included": the centres of these kinds are A and B, the operator stands in C's place
abbrev pub along : Axis → List ℕ → ℕ
along x orders = order_of orders A x + order_of orders B x + order_of orders operator x

-- "the product of three numbers from the list"
unfoldable pub scale_total : Kind → List ℕ → ℕ
scale_total k orders = listed k (along X orders) * listed k (along Y orders) * listed k (along Z orders)

-- ---- answers

-- the number, or none where none is claimed of the kind; or a refusal
abbrev pub Total : Type 0
Total = Result (Option ℕ) Refusal

-- the sum of a roll's scales, or a refusal with its place
abbrev pub RollTotal : Type 0
RollTotal = Result ℕ Fault

-- of a request within the limits
abbrev pub claimed_total : Kind → List ℕ → Option ℕ
claimed_total k orders = cond (claimed k) (Some (scale_total k orders)) None

-- of a kind: 2, 3 in this order, as a request's; then the number, where one is claimed
unfoldable pub kind_total : Kind → List ℕ → Total
kind_total k orders =
    cond (too_high k orders) (Err OrderSum)
    (cond (unused_set k orders) (Err UnusedOrder)
    (Ok (claimed_total k orders)))

-- before them 1, for a kind above 4
abbrev pub named_total : Option Kind → List ℕ → Total
named_total None orders = Err WrongKind
named_total (Some k) orders = kind_total k orders

abbrev pub total_of : ℕ → List ℕ → Total
total_of kind orders = named_total (kind_of kind) orders

-- the sum of a roll that reads; one that does not is refused with its place
abbrev pub sum_in : Reading Roll → RollTotal
sum_in (got roll end) = Ok (scale_sum roll.terms)
sum_in (refused r place) = Err (fault r place)

unfoldable pub roll_total_of : List ℕ → RollTotal
roll_total_of s = sum_in (roll_at s)

-- the number and 01's refusal of each answer; 0 is none
abbrev pub total_in : Total → ℕ
total_in (Ok (Some n)) = n
total_in (Ok None) = 0
total_in (Err r) = 0

abbrev pub refusal_of : Total → ℕ
refusal_of (Ok t) = 0
refusal_of (Err r) = refusal_number r

-- the sum of each answer of a roll; 01's refusal and its place are `refusal_of` and `place_of` of roll's Header.antt
abbrev pub scales_in : RollTotal → ℕ
scales_in (Ok n) = n
scales_in (Err e) = 0
