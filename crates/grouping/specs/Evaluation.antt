-- 02, Q-9: the evaluation that is lent a grouping buffer. The f64 is the evaluation's own; only Coulomb rolls are grouped, other kinds run as before.
use Rattle.std.specs.Prelude.{ℕ, ◌*◌, ◌≡◌, Bool, true, false, cond, List, leb, Float, length, Err}
use Rattle.laws.specs.Total.{total}
use Rattle.laws.specs.Placed.{placed}
use Rattle.laws.specs.Unless.{unless}
use Rattle.kind.specs.declared.Kind.{Kind}
use Rattle.kind.specs.declared.Kind.TheVariants.{Overlap, Kinetic, Nuclear, Moment, Coulomb}
use Rattle.kind.specs.declared.refusals.Refusal.TheVariants.{NoRoom}
use Rattle.kind.specs.Refusals.{without_place}
use Rattle.geometry.specs.declared.Centre.{Centre}
use Rattle.roll.specs.Reading.{Reading, got, refused, Roll, roll_at}
use Rattle.roll.specs.Field.{fault}
use Rattle.integrals.specs.Values.{value_of}
use Rattle.integrals.specs.Evaluation.{Answer}
use Rattle.grouping.specs.Grouping.{grouping, entries_bytes}

-- bytes of the buffer for each term
abbrev pub entry_room : ℕ
entry_room = 40

-- only Coulomb rolls are grouped; for other kinds the buffer is not looked at
abbrev pub is_grouped : Kind → Bool
is_grouped Overlap = false
is_grouped Kinetic = false
is_grouped Nuclear = false
is_grouped Moment = false
is_grouped Coulomb = true

-- the buffer has 40 bytes a term (D-97)
abbrev pub enough : ℕ → Roll → Bool
enough size r = leb (entry_room * length r.terms) size

-- 6 when a Coulomb roll's buffer is under 40 bytes a term, right after the roll is read; then 17 (nuclear), 8, 9, 10, 11 and the integral
unfoldable pub of_roll : Reading Roll → ℕ → Centre → Centre → Centre → Centre → Float → List Float → Answer
of_roll (got r end) size a b c d aux boys =
    without_place (unless (cond (is_grouped r.kind) (enough size r) true) (Err NoRoom)
    (value_of r.kind (total r.orders) a b c d aux boys r.terms))
of_roll (refused n place) size a b c d aux boys = Err (fault n place)

-- the buffer then: the grouping of a Coulomb roll that reads and has room, whatever refusal follows; otherwise it is as it was
unfoldable pub buffer_of : Reading Roll → List ℕ → List ℕ
buffer_of (got r end) buffer = cond (is_grouped r.kind) (cond (enough (length buffer) r) (placed buffer 0 (entries_bytes (grouping (total r.orders) r.terms))) buffer) buffer
buffer_of (refused n place) buffer = buffer

pub record GroupedTold (s : List ℕ) (a b c d : Centre) (aux : Float) (boys : List Float) (lent : List ℕ) (r : Answer) (after : List ℕ) : Type 0 where
  pub answer : r ≡ of_roll (roll_at s) (length lent) a b c d aux boys
  pub buffer : after ≡ buffer_of (roll_at s) lent
