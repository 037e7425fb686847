-- 01, "Limits and refusal numbers" and "The roll", and 02, Q-7: what the expansion of a request answers and writes, in either form.
use Rattle.std.specs.Prelude.{ℕ, ◌+◌, ◌*◌, ◌≡◌, Bool, cond, ◌||◌, List, ltb, length, take, drop, Option, Some, None, Ok}
use Rattle.laws.specs.Placed.{placed}
use Rattle.kind.specs.declared.Kind.{Kind}
use Rattle.kind.specs.declared.Kind.TheVariants.{Overlap, Kinetic, Nuclear, Moment, Coulomb}
use Rattle.kind.specs.declared.refusals.Refusal.TheVariants.{WrongKind, OrderSum, UnusedOrder, TooManyTerms, StartBeyondEnd, NoRoom}
use Rattle.kind.specs.Refusals.{refusal_number}
use Rattle.kind.specs.Limits.{most_order, most_terms, most_scale}
use Rattle.kind.specs.Kinds.{kind_of, number_of, orders_of, most_l, most_prefactors, table_of}
use Rattle.number.specs.Numbers.{length_of}
use Rattle.term.specs.Terms.{Term}
use Rattle.steps.specs.declared.CentreName.TheVariants.{A, B, C, D}
use Rattle.steps.specs.Choice.{sum_of, operator}
use Rattle.laws.specs.Total.{total}
use Rattle.steps.specs.States.{start}
use Rattle.histories.specs.History.{expand}
use Rattle.roll.specs.Bytes.{roll_bytes}
use Rattle.form2.specs.Bytes.{roll_bytes2}
use Rattle.expansion.specs.Answer.{Answer, Roll, Refused}

infix 60 ◌exceeds◌
abbrev pub ◌exceeds◌ : ℕ → ℕ → Bool
n exceeds most = ltb most n

-- 2: an order sum that the kind uses is above the limit
abbrev pub too_high : Kind → List ℕ → Bool
too_high Overlap orders = sum_of orders A exceeds most_order || sum_of orders B exceeds most_order
too_high Kinetic orders = sum_of orders A exceeds most_order || sum_of orders B exceeds most_order
too_high Nuclear orders = sum_of orders A exceeds most_order || sum_of orders B exceeds most_order
too_high Moment orders = (sum_of orders A exceeds most_order || sum_of orders B exceeds most_order) || sum_of orders operator exceeds most_order
too_high Coulomb orders = ((sum_of orders A exceeds most_order || sum_of orders B exceeds most_order) || sum_of orders C exceeds most_order) || sum_of orders D exceeds most_order

-- 3: one of the orders unused by the kind is not 0
abbrev pub unused_set : Kind → List ℕ → Bool
unused_set k orders = total (drop (orders_of k) orders) exceeds 0

-- one term for each complete history
abbrev pub terms_of : Kind → List ℕ → List Term
terms_of k orders = expand (start k orders)

-- 4: more complete histories than a list may have terms
abbrev pub too_many : Kind → List ℕ → Bool
too_many k orders = length (terms_of k orders) exceeds most_terms

-- what is written of a request: its roll, in one of the two forms
abbrev pub Form : Type 0
Form = Kind → List ℕ → List ℕ

-- kind; the orders that it uses; term count; terms
unfoldable pub roll_of : Form
roll_of k orders = roll_bytes k (take (orders_of k) orders) (terms_of k orders)

-- 02, Q-7: the same in form 2
unfoldable pub roll_of2 : Form
roll_of2 k orders = roll_bytes2 k (take (orders_of k) orders) (terms_of k orders)

-- ---- in either form

-- of a kind: 2, 3, 5, 4, 6 in this order, or the roll's length and its term count (D-3, D-4, D-5, D-68)
unfoldable pub kind_in : Form → Kind → List ℕ → List ℕ → ℕ → Answer
kind_in roll k orders out begin =
    cond (too_high k orders) (Refused OrderSum)
    (cond (unused_set k orders) (Refused UnusedOrder)
    (cond (begin exceeds length out) (Refused StartBeyondEnd)
    (cond (too_many k orders) (Refused TooManyTerms)
    (cond (begin + length (roll k orders) exceeds length out) (Refused NoRoom)
    (Roll (length (roll k orders)) (length (terms_of k orders)))))))

-- before them 1, for a kind above 4
abbrev pub named_in : Form → Option Kind → List ℕ → List ℕ → ℕ → Answer
named_in roll None orders out begin = Refused WrongKind
named_in roll (Some k) orders out begin = kind_in roll k orders out begin

-- a refusal changes no byte; a success only those of the roll
abbrev pub out_in : Form → Answer → Option Kind → List ℕ → List ℕ → ℕ → List ℕ
out_in roll (Refused n) k orders out begin = out
out_in roll (Ok e) None orders out begin = out
out_in roll (Ok e) (Some k) orders out begin = placed out begin (roll k orders)

pub record FormTold (roll : Form) (kind : ℕ) (orders before : List ℕ) (begin : ℕ) (r : Answer) (after : List ℕ) : Type 0 where
  pub answer : r ≡ named_in roll (kind_of kind) orders before begin
  pub out : after ≡ out_in roll (named_in roll (kind_of kind) orders before begin) (kind_of kind) orders before begin

-- ---- in form 1

abbrev pub kind_told : Kind → List ℕ → List ℕ → ℕ → Answer
kind_told k orders out begin = kind_in roll_of k orders out begin

abbrev pub named_told : Option Kind → List ℕ → List ℕ → ℕ → Answer
named_told k orders out begin = named_in roll_of k orders out begin

abbrev pub named_out : Answer → Option Kind → List ℕ → List ℕ → ℕ → List ℕ
named_out r k orders out begin = out_in roll_of r k orders out begin

abbrev pub ExpandTold : ℕ → List ℕ → List ℕ → ℕ → Answer → List ℕ → Type 0
ExpandTold kind orders before begin r after = FormTold roll_of kind orders before begin r after

-- ---- 02, Q-7: in form 2

abbrev pub named_told2 : Option Kind → List ℕ → List ℕ → ℕ → Answer
named_told2 k orders out begin = named_in roll_of2 k orders out begin

abbrev pub named_out2 : Answer → Option Kind → List ℕ → List ℕ → ℕ → List ℕ
named_out2 r k orders out begin = out_in roll_of2 r k orders out begin

abbrev pub Expand2Told : ℕ → List ℕ → List ℕ → ℕ → Answer → List ℕ → Type 0
Expand2Told kind orders before begin r after = FormTold roll_of2 kind orders before begin r after

-- 02, Q-6: a request's roll measured and not written: 2, 3, 4 in this order, or its length and its term count (D-88)
unfoldable pub kind_measured : Kind → List ℕ → Answer
kind_measured k orders =
    cond (too_high k orders) (Refused OrderSum)
    (cond (unused_set k orders) (Refused UnusedOrder)
    (cond (too_many k orders) (Refused TooManyTerms)
    (Roll (length (roll_of k orders)) (length (terms_of k orders)))))

-- before them 1, for a kind above 4
abbrev pub named_measured : Option Kind → List ℕ → Answer
named_measured None orders = Refused WrongKind
named_measured (Some k) orders = kind_measured k orders

-- what `expand` makes of it, from a start place within a buffer on: 6 where the roll does not fit (`named-tells` of proofs/Sizes.antt)
abbrev pub where_room : Answer → List ℕ → ℕ → Answer
where_room (Refused n) out begin = Refused n
where_room (Ok e) out begin = cond (begin + e.length exceeds length out) (Refused NoRoom) (Ok e)

-- 01's refusal number, the length and the term count of each answer
abbrev pub refusal_of : Answer → ℕ
refusal_of (Ok e) = 0
refusal_of (Refused n) = refusal_number n

abbrev pub length_in : Answer → ℕ
length_in (Ok e) = e.length
length_in (Refused n) = 0

abbrev pub count_in : Answer → ℕ
count_in (Ok e) = e.terms
count_in (Refused n) = 0

-- ---- how many bytes a roll can have: every number of it at its limit

-- scale, Boys order, prefactor count, prefactors
abbrev pub most_term : Kind → ℕ
most_term k = length_of most_scale + length_of (most_l k) + length_of (most_prefactors k (most_l k)) + most_prefactors k (most_l k) * length_of (table_of k)

-- kind; its orders; term count; terms
abbrev pub most_roll_of : Kind → ℕ
most_roll_of k = length_of (number_of k) + orders_of k * length_of most_order + length_of most_terms + most_terms * most_term k

-- a roll of any kind: Coulomb has the most orders and the longest terms
abbrev pub most_roll : ℕ
most_roll = most_roll_of Coulomb
