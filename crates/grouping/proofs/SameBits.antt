-- 02, Q-9: "The f64 result must have the same bits as before for every roll that reads." One law, over the kind: the answer is the evaluation's, but for 6.
use Prim.Native.Nat.{ℕ, ◌*◌, ◌<◌}
use mathlib.Core.Path.{◌≡◌, refl}
use mathlib.Core.Bool.{Bool, true, false, cond}
use mathlib.Core.List.{List}
use lib.Ieee.{Float}
use lib.ListN.{length}
use borrow.Author.Tests.{lt-leb}
use Rattle.laws.specs.Unless.{unless}
use Rattle.kind.specs.declared.Kind.TheVariants.{Coulomb}
use Rattle.geometry.specs.declared.Centre.{Centre}
use Rattle.roll.specs.Reading.{Reading, got, refused, Roll, roll_at}
use Rattle.std.specs.Prelude.{Err}
use Rattle.kind.specs.declared.refusals.Refusal.TheVariants.{NoRoom}
use Rattle.kind.specs.Refusals.{unplaced, without_place}
use Rattle.integrals.specs.Values.{value_of}
use Rattle.laws.specs.Total.{total}
use Rattle.integrals.specs.Evaluation.{evaluate_of, refusal_of, of_roll as evaluated}
use Rattle.grouping.specs.Evaluation.{entry_room, is_grouped, enough, of_roll}

module _ (size : ℕ) (a b c d : Centre) (aux : Float) (boys : List Float) where
  by-reading : (r : Reading Roll) → (refusal_of (of_roll r size a b c d aux boys) ≡ 6 → ⊥) → of_roll r size a b c d aux boys ≡ evaluated r a b c d aux boys
  unfolding of_roll evaluated unless
  by-reading (got r end) not-six = by (cond (is_grouped r.kind) (enough size r) true) not-six
    where
      by : (t : Bool) → (refusal_of (without_place (unless t (Err NoRoom) (value_of r.kind (total r.orders) a b c d aux boys r.terms))) ≡ 6 → ⊥) → without_place (unless t (Err NoRoom) (value_of r.kind (total r.orders) a b c d aux boys r.terms)) ≡ evaluated (got r end) a b c d aux boys
      by true differs = refl
      by false differs = absurd (differs refl)
  by-reading (refused n place) not-six = refl

  -- every answer but 6 is the evaluation's: the f64 with its bits, and every refusal with its place
  pub same_bits : (s : List ℕ) → (refusal_of (of_roll (roll_at s) size a b c d aux boys) ≡ 6 → ⊥) → of_roll (roll_at s) size a b c d aux boys ≡ evaluate_of s a b c d aux boys
  unfolding evaluate_of
  same_bits s not-six = by-reading (roll_at s) not-six

  -- 6 is given exactly to a Coulomb roll that reads, for a buffer under 40 bytes a term
  pub six-short : (s : List ℕ) (r : Roll) (end : ℕ) → roll_at s ≡ got r end → r.kind ≡ Coulomb → size < entry_room * length r.terms → of_roll (roll_at s) size a b c d aux boys ≡ Err (unplaced NoRoom)
  unfolding of_roll unless
  six-short s r end reads is short = let less : enough size r ≡ false = lt-leb (entry_room * length r.terms) size short in rw (reads, is, less)
