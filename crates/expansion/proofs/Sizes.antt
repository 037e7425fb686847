-- What `measure` tells of a request, `expand` answers wherever the buffer has room.
use Prim.Native.Nat.{ℕ, ◌+◌, ◌≤◌}
use mathlib.Core.Path.{◌≡◌, refl, ap}
use mathlib.Core.Bool.{Bool, true, false, cond}
use mathlib.Core.List.{List}
use borrow.Author.Tests.{le-ltb, ltb-false}
use lib.ListN.{length}
use Rattle.laws.proofs.Cases.{clash}
use Rattle.kind.specs.declared.Kind.{Kind}
use Rattle.kind.specs.Limits.{most_terms}
use Rattle.expansion.specs.Answer.{Answer, Roll, Refused}
use Rattle.expansion.specs.Expanding.{Form, ◌exceeds◌, too_high, unused_set, terms_of, roll_of, kind_in, kind_told, kind_measured, named_told, named_measured, where_room, length_in, count_in}
use Rattle.std.specs.Prelude.{Option, Some, None, Ok}
use Rattle.kind.specs.declared.refusals.Refusal.TheVariants.{OrderSum, UnusedOrder, TooManyTerms, NoRoom}

-- the tests of both, and what they come to
in-turn : (out : List ℕ) (begin long count : ℕ) (high unused many : Bool) →
    cond high (Refused OrderSum) (cond unused (Refused UnusedOrder) (cond many (Refused TooManyTerms) (cond (begin + long exceeds length out) (Refused NoRoom) (Roll long count))))
    ≡ where_room (cond high (Refused OrderSum) (cond unused (Refused UnusedOrder) (cond many (Refused TooManyTerms) (Roll long count)))) out begin
in-turn out begin long count true unused many = refl
in-turn out begin long count false true many = refl
in-turn out begin long count false false true = refl
in-turn out begin long count false false false = refl

-- with a start place that is not beyond the end, `expand` answers what was measured, or 6 where it has no room
pub measured-tells : (k : Kind) (os out : List ℕ) (begin : ℕ) → begin ≤ length out → kind_told k os out begin ≡ where_room (kind_measured k os) out begin
unfolding kind_in kind_measured
measured-tells k os out begin inside =
    let turns = in-turn out begin (length (roll_of k os)) (length (terms_of k os)) (too_high k os) (unused_set k os) (length (terms_of k os) exceeds most_terms) in
    rw (le-ltb (length out) begin inside) turns

pub named-tells : (k : Option Kind) (os out : List ℕ) (begin : ℕ) → begin ≤ length out → named_told k os out begin ≡ where_room (named_measured k os) out begin
named-tells None os out begin inside = refl
named-tells (Some k) os out begin inside = measured-tells k os out begin inside

-- the same in either form: a refusal that was measured, or what the room says of the roll
abbrev pub room_told : Form → Kind → List ℕ → List ℕ → ℕ → Answer
room_told roll k os out begin = cond (begin + length (roll k os) exceeds length out) (Refused NoRoom) (Roll (length (roll k os)) (length (terms_of k os)))

abbrev pub after_size : Answer → Answer → Answer
after_size (Refused n) rest = Refused n
after_size (Ok e) rest = rest

after-size : (rest : Answer) (long count : ℕ) (high unused many : Bool) →
    cond high (Refused OrderSum) (cond unused (Refused UnusedOrder) (cond many (Refused TooManyTerms) rest))
    ≡ after_size (cond high (Refused OrderSum) (cond unused (Refused UnusedOrder) (cond many (Refused TooManyTerms) (Roll long count)))) rest
after-size rest long count true unused many = refl
after-size rest long count false true many = refl
after-size rest long count false false true = refl
after-size rest long count false false false = refl

pub measured-in : (roll : Form) (k : Kind) (os out : List ℕ) (begin : ℕ) → begin ≤ length out → kind_in roll k os out begin ≡ after_size (kind_measured k os) (room_told roll k os out begin)
unfolding kind_in kind_measured
measured-in roll k os out begin inside =
    let turns = after-size (room_told roll k os out begin) (length (roll_of k os)) (length (terms_of k os)) (too_high k os) (unused_set k os) (length (terms_of k os) exceeds most_terms) in
    rw (le-ltb (length out) begin inside) turns

-- what a length and a count that were measured are
pub record SizeIs (k : Kind) (os : List ℕ) (long count : ℕ) : Type 0 where
  pub few : length (terms_of k os) ≤ most_terms
  pub long-is : long ≡ length (roll_of k os)
  pub count-is : count ≡ length (terms_of k os)

pub measured-size : (k : Kind) (os : List ℕ) (long count : ℕ) → Roll long count ≡ kind_measured k os → SizeIs k os long count
unfolding kind_measured
measured-size k os long count e = at (too_high k os) (unused_set k os) (length (terms_of k os) exceeds most_terms) refl e
  where
    at : (high unused many : Bool) → (length (terms_of k os) exceeds most_terms) ≡ many
        → Roll long count ≡ cond high (Refused OrderSum) (cond unused (Refused UnusedOrder) (cond many (Refused TooManyTerms) (Roll (length (roll_of k os)) (length (terms_of k os))))) → SizeIs k os long count
    at true unused many t f = absurd (clash (cc))
    at false true many t f = absurd (clash (cc))
    at false false true t f = absurd (clash (cc))
    at false false false t f = record { few = ltb-false most_terms (length (terms_of k os)) t; long-is = ap length_in f; count-is = ap count_in f }
