-- One side: which form it has, and that the answers of both forms are those of the definition.
use Prim.Native.Nat.{ℕ, ◌-◌, ◌<◌}
use mathlib.Core.Path.{◌≡◌, refl, sym, ap, ◌∙◌}
use mathlib.Core.Bool.{Bool, true, false, cond, ◌||◌}
use mathlib.Core.List.{List}
use native.Mathlib.Omega.{arith}
use borrow.Author.Tests.{eqb-false}
use lib.Dec.{eqb}
use lib.ListN.{length}
use Rattle.std.specs.Prelude.{Option, Some, None, Result, Ok, Err}
use Rattle.std.specs.Result.{MatchResult, IsErrAnd}
use Rattle.kind.specs.Kinds.{kind_of}
use Rattle.kind.specs.declared.Kind.{Kind}
use Rattle.kind.specs.declared.refusals.Refusal.TheVariants.{BadRoll}
use Rattle.kind.specs.declared.refusals.Fault.{Fault}
use Rattle.laws.proofs.Cases.{clash, tested}
use Rattle.term.specs.Terms.{Term, held}
use Rattle.roll.specs.declared.cursor.Cursor.{Cursor}
use Rattle.roll.specs.declared.cursor.Step.{Step}
use Rattle.roll.specs.Reading.{Reading, got, refused, term_at}
use Rattle.roll.specs.Cursor.{Stepped, refused_step, end_step, stepped, step_with, forged, step_as, step_of}
use Rattle.form2.specs.declared.cursor.Cursor2.{Cursor2}
use Rattle.form2.specs.declared.cursor.Step2.{Step2}
use Rattle.form2.specs.Cursor.{earlier_of, refused_step2, end_step2, step_behind, stepped_after, step_with2, forged_earlier, step_as2, step2_of}
use Rattle.form2.specs.Header.{is_form2}
use Rattle.form2.specs.Reading.{term_after}
use Rattle.comparing.specs.declared.sides.Side.{Side}
use Rattle.comparing.specs.declared.sides.Sided.{Sided}
use Rattle.comparing.specs.Sides.{first_step, as_step2, step_side, refused_on, on_side}

-- ---- the answers

-- what `map_err` gives
mapped : {A : Type 0} (at : Side) (P : Fault → Sided → Type 0) (x : Result A Fault) (y : Result A Sided) → ((e : Fault) (d : Sided) → P e d → d ≡ refused_on at e) → MatchResult x (λ a. y ≡ Ok a) (λ e. IsErrAnd y (P e)) → y ≡ on_side at x
mapped at P (Ok a) y each h = h
mapped at P (Err e) (Ok b) each h = absurd h
mapped at P (Err e) (Err d) each h = ap (λ (d : Sided). Err d) (each e d h)

pub side-mapped : {A : Type 0} (at : Side) (P : Fault → Sided → Type 0) (x z : Result A Fault) (y : Result A Sided) → x ≡ z → ((e : Fault) (d : Sided) → P e d → d ≡ refused_on at e) → MatchResult x (λ a. y ≡ Ok a) (λ e. IsErrAnd y (P e)) → y ≡ on_side at z
side-mapped at P x z y is each h = mapped at P x y each h ∙ ap (on_side at) is

pub side-ok : {A : Type 0} (at : Side) (x : Result A Fault) (a : A) → on_side at x ≡ Ok a → x ≡ Ok a
side-ok at (Ok b) a e = cc
side-ok at (Err f) a e = absurd (clash (cc))

pub side-err : {A : Type 0} (at : Side) (x : Result A Fault) (d : Sided) → on_side at x ≡ Err d → (e : Fault) × (x ≡ Err e) × (d ≡ refused_on at e)
side-err at (Ok b) d e = absurd (clash (cc))
side-err at (Err f) d e = (f, refl, cc)

-- ---- a step that finds a term leaves one less, whatever the cursor is

abbrev Falls : ℕ → ℕ → Type 0
Falls before after = (0 < before) × (after ≡ before - 1)

end-not : (b : Bool) (place : ℕ) (y : Step) → cond b end_step (refused_step BadRoll place) ≡ Ok (Some y) → ⊥
end-not true place y e = clash (cc)
end-not false place y e = clash (cc)

falls-term : (c : Cursor) (x : Reading Term) (y : Step) → stepped c x ≡ Ok (Some y) → y.next.left ≡ c.left - 1
falls-term c (got t next) y e =
    let same : record { term = held t; next = record { place = next; left = c.left - 1; kind = c.kind; l = c.l } } ≡ y = cc in
    ap (λ (y : Step). y.next.left) (sym same)
falls-term c (refused r place) y e = absurd (clash (cc))

falls-with : (k : Kind) (c : Cursor) (s : List ℕ) (y : Step) (b : Bool) → eqb c.left 0 ≡ b → step_with k c s ≡ Ok (Some y) → Falls c.left y.next.left
falls-with k c s y true z e = absurd (end-not (eqb c.place (length s)) c.place y (rw z at e))
falls-with k c s y false z e =
    let some = eqb-false c.left 0 z in
    (omega (arith, some), falls-term c (term_at s c.place k c.l) y (rw z at e))

falls-as : (n : Option Kind) (c : Cursor) (s : List ℕ) (y : Step) → step_as n c s ≡ Ok (Some y) → Falls c.left y.next.left
falls-as (Some k) c s y e =
    tested (forged k c s)
    (λ t. let not : refused_step BadRoll c.place ≡ Ok (Some y) = rw t at e in absurd (clash (cc)))
    (λ f. falls-with k c s y (eqb c.left 0) refl (rw f at e))
falls-as None c s y e = absurd (clash (cc))

falls-one : (c : Cursor) (s : List ℕ) (y : Step) → step_of c s ≡ Ok (Some y) → Falls c.left y.next.left
unfolding step_of
falls-one c s y e = falls-as (kind_of c.kind) c s y e

end-not2 : (b : Bool) (place : ℕ) (y : Step2) → cond b end_step2 (refused_step2 BadRoll place) ≡ Ok (Some y) → ⊥
end-not2 true place y e = clash (cc)
end-not2 false place y e = clash (cc)

falls-term2 : (c : Cursor2) (x : Reading Term) (y : Step2) → stepped_after c x ≡ Ok (Some y) → y.next.cursor.left ≡ c.cursor.left - 1
falls-term2 c (got t next) y e = let same : step_behind c t next ≡ y = cc in ap (λ (y : Step2). y.next.cursor.left) (sym same)
falls-term2 c (refused r place) y e = absurd (clash (cc))

falls-with2 : (k : Kind) (c : Cursor2) (s : List ℕ) (y : Step2) (b : Bool) → eqb c.cursor.left 0 ≡ b → step_with2 k c s ≡ Ok (Some y) → Falls c.cursor.left y.next.cursor.left
falls-with2 k c s y true z e = absurd (end-not2 (eqb c.cursor.place (length s)) c.cursor.place y (rw z at e))
falls-with2 k c s y false z e =
    let some = eqb-false c.cursor.left 0 z in
    (omega (arith, some), falls-term2 c (term_after s c.cursor.place k c.cursor.l (earlier_of c)) y (rw z at e))

falls-as2 : (n : Option Kind) (c : Cursor2) (s : List ℕ) (y : Step2) → step_as2 n c s ≡ Ok (Some y) → Falls c.cursor.left y.next.cursor.left
falls-as2 (Some k) c s y e =
    tested (forged k c.cursor s || forged_earlier k c.cursor.l c.count c.earlier)
    (λ t. let not : refused_step2 BadRoll c.cursor.place ≡ Ok (Some y) = rw t at e in absurd (clash (cc)))
    (λ f. falls-with2 k c s y (eqb c.cursor.left 0) refl (rw f at e))
falls-as2 None c s y e = absurd (clash (cc))

falls-two : (c : Cursor2) (s : List ℕ) (y : Step2) → step2_of c s ≡ Ok (Some y) → Falls c.cursor.left y.next.cursor.left
unfolding step2_of
falls-two c s y e = falls-as2 (kind_of c.cursor.kind) c s y e

falls-first : (c : Cursor2) (s : List ℕ) (y : Step2) (x : Stepped) → step_of c.cursor s ≡ x → as_step2 x ≡ Ok (Some y) → Falls c.cursor.left y.next.cursor.left
falls-first c s y (Ok (Some x)) is e =
    let f = falls-one c.cursor s x is in
    let same : first_step x ≡ y = cc in
    (f.0, ap (λ (y : Step2). y.next.cursor.left) (sym same) ∙ f.1)
falls-first c s y (Ok None) is e = absurd (clash (cc))
falls-first c s y (Err why) is e = absurd (clash (cc))

pub step_falls : (c : Cursor2) (s : List ℕ) (y : Step2) → step_side c s ≡ Ok (Some y) → Falls c.cursor.left y.next.cursor.left
unfolding step_side
step_falls c s y e =
    tested (is_form2 s)
    (λ t. falls-two c s y (rw t at e))
    (λ f. falls-first c s y (step_of c.cursor s) refl (rw f at e))
