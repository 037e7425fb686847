-- The value of an evaluation once its checks have been made.
use Prim.Native.Nat.{ℕ}
use mathlib.Core.Path.{◌≡◌, refl, sym, ap, ◌∙◌}
use mathlib.Core.Bool.{Bool, true, false}
use mathlib.Core.List.{List}
use lib.Ieee.{Float}
use lib.ListN.{length}
use Rattle.kind.specs.declared.Kind.{Kind}
use Rattle.kind.specs.Limits.{table_places}
use Rattle.term.specs.Terms.{Term}
use Rattle.geometry.specs.declared.Centre.{Centre}
use Rattle.geometry.specs.declared.Point.{Point}
use Rattle.geometry.specs.Floats.{◌⊖◌, ◌⊗◌, two, three, in_places}
use Rattle.geometry.specs.Geometry.{point_of, r12_squared, e_of}
use Rattle.geometry.specs.Tables.{prefac}
use Rattle.geometry.specs.Charges.{charge_kept, charged}
use Rattle.geometry.specs.Checks.{exponents_above_zero, finite_with, geometry_finite}
use Rattle.geometry.proofs.Checks.{finite-table}
use Rattle.laws.specs.Unless.{unless}
use Rattle.integrals.specs.inner.Barred.{bars_with}
use Rattle.integrals.specs.Sums.{kinetic_start, total_of, factor_of, integral_of}
use Rattle.integrals.specs.Values.{Value, inputs_finite, boys_counted, refused_unless, result_of, value_of}
use Rattle.std.specs.Prelude.{Result, Ok, Err, ⊤}
use Rattle.kind.specs.declared.refusals.Refusal.{Refusal}
use Rattle.kind.specs.declared.refusals.Refusal.TheVariants.{InputNotFinite, Exponent, BoysCount, ResultNotFinite, Nuclei}

pub kinetic-made : (a b : Centre) (p q : Point) (ab : Float) → p ≡ point_of a → q ≡ point_of b → ab ≡ r12_squared p q → e_of a b ⊗ (three ⊖ two ⊗ e_of a b ⊗ ab) ≡ kinetic_start a b
unfolding kinetic_start
kinetic-made a b p q ab e f g = rw (g, e, f)

pub started : (k : Kind) (a b : Centre) (aux : Float) (boys : List Float) (l : ℕ) (ts : List Term) (table : List Float) (kinetic x : Float) → kinetic ≡ kinetic_start a b → x ≡ total_of k l kinetic table aux boys ts → x ≡ total_of k l (kinetic_start a b) table aux boys ts
started k a b aux boys l ts table kinetic x f g = rw (← f) g

-- ---- the value, once the checks have been made

abbrev after : Result ⊤ Refusal → Value → Value
after (Ok u) v = v
after (Err r) v = Err r

by-bars : (p q r s : Bool) (v : Value) → refused_unless p InputNotFinite (refused_unless q Exponent (refused_unless r BoysCount (refused_unless s ResultNotFinite v))) ≡ after (unless p (Err InputNotFinite) (unless q (Err Exponent) (unless r (Err BoysCount) (unless s (Err ResultNotFinite) (Ok tt))))) v
unfolding refused_unless unless
by-bars true true true true v = refl
by-bars true true true false v = refl
by-bars true true false s v = refl
by-bars true false r s v = refl
by-bars false q r s v = refl

module _ (k : Kind) (l : ℕ) (a b c d : Centre) (aux : Float) (boys : List Float) (ts : List Term) (t : Bool) (kept : t ≡ charge_kept k c) where
  pub value-uncharged : t ≡ false → Err Nuclei ≡ value_of k l a b c d aux boys ts
  unfolding value_of refused_unless
  value-uncharged none = rw (← kept, none)

  module _ (table : List Float) (m : Result ⊤ Refusal) (is : table ≡ in_places table_places (prefac k a b c d)) (e : m ≡ bars_with k l a b c d aux boys table) (some : t ≡ true) where
    -- of the centres' own table the checks are the evaluation's
    value-is : value_of k l a b c d aux boys ts ≡ after m (result_of (charged k c (integral_of k l a b c d aux boys ts)))
    unfolding value_of bars_with refused_unless
    value-is =
        let same : finite_with k a b c d table ≡ geometry_finite k a b c d = finite-table k a b c d table (finite_with k a b c d table) is refl in
        rw (e, same, ← kept, some) (by-bars (inputs_finite k a b c d aux boys) (exponents_above_zero k a b c d) (boys_counted k l (length boys)) (geometry_finite k a b c d) (result_of (charged k c (integral_of k l a b c d aux boys ts))))

    pub value-barred : (why : Refusal) → m ≡ Err why → Err why ≡ value_of k l a b c d aux boys ts
    value-barred why f = sym (value-is ∙ rw f)

    pub value-passed : (u : ⊤) (f x y : Float) (r : Value) → m ≡ Ok u → f ≡ factor_of k a b c d aux → x ≡ total_of k l (kinetic_start a b) table f boys ts → y ≡ charged k c x → r ≡ result_of y → r ≡ value_of k l a b c d aux boys ts
    unfolding integral_of
    value-passed o f x y r none w u v z =
        let whole : x ≡ integral_of k l a b c d aux boys ts = rw (← is, ← w) u in
        z ∙ ap result_of (v ∙ ap (charged k c) whole) ∙ sym (value-is ∙ rw none)
