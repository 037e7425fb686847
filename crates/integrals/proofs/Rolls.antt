-- What the judge of a whole roll says, and the terms that are summed after it, are the roll's own.
use Prim.Native.Nat.{ℕ}
use mathlib.Core.Path.{◌≡◌, sym, ap, ◌∙◌}
use mathlib.Core.List.{List}
use Rattle.kind.specs.Kinds.{kind_of}
use Rattle.kind.proofs.KindNumber.{kind-number}
use lib.Ieee.{Float}
use Rattle.geometry.specs.declared.Centre.{Centre}
use Rattle.integrals.specs.Values.{Value}
use Rattle.integrals.specs.Evaluation.{of_roll, evaluate_of}
use Rattle.number.specs.Numbers.{Bytes}
use Rattle.roll.specs.declared.header.Opened.{Opened}
use Rattle.roll.specs.Header.{check_of}
use Rattle.roll.specs.inner.Judged.{Judged}
use Rattle.roll.proofs.Checked.{checked-judged, checked_refused, judged-kind, judged-l}
use Rattle.roll.proofs.AgainLaws.{judged-again}
use Rattle.integrals.specs.inner.Stored.{of_cursor}
use Rattle.std.specs.Prelude.{Result, Ok, Err}
use Rattle.kind.specs.declared.refusals.Refusal.{Refusal}
use Rattle.kind.specs.declared.refusals.Fault.{Fault}
use Rattle.kind.specs.Refusals.{unplaced, without_place}

module _ (a b c d : Centre) (aux : Float) (boys : List Float) (s : List ℕ) where
  from-judged : (o : Opened) (v : Value) → Bytes s → Judged o s → v ≡ of_cursor (kind_of o.cursor.kind) o.cursor a b c d aux boys s → without_place v ≡ evaluate_of s a b c d aux boys
  unfolding evaluate_of of_roll of_cursor
  from-judged o v bytes j g = rw j.reads (ap without_place (rw (judged-kind o s j, kind-number j.roll.kind, judged-l o s j, judged-again s o bytes j) at g))

  module _ (y : Result Opened Fault) (is : y ≡ check_of s) where
    pub evaluate-refused : (why : Fault) → y ≡ Err why → Err why ≡ evaluate_of s a b c d aux boys
    unfolding evaluate_of of_roll
    evaluate-refused why e = rw (checked_refused s y why is e)

    module _ (o : Opened) (v : Value) (bytes : Bytes s) (e : y ≡ Ok o) (f : v ≡ of_cursor (kind_of o.cursor.kind) o.cursor a b c d aux boys s) where
      pub evaluate-value : (x : Float) → v ≡ Ok x → Ok x ≡ evaluate_of s a b c d aux boys
      evaluate-value x g = ap without_place (sym g) ∙ from-judged o v bytes (checked-judged s y o is e) f

      pub evaluate-barred : (r : Refusal) → v ≡ Err r → Err (unplaced r) ≡ evaluate_of s a b c d aux boys
      evaluate-barred r g = ap without_place (sym g) ∙ from-judged o v bytes (checked-judged s y o is e) f
