-- 01, "Limits and refusal numbers", and 02, Q-10: an evaluation is refused 17, 8, 9, 10 or 11, in this order, once its roll has been read.
use Rattle.std.specs.Prelude.{ℕ, ◌+◌, Bool, true, false, ◌&&◌, cond, List, eqb, Float, length, Result, Ok, Err}
use Rattle.std.specs.Float.Ieee.Scale.{finite}
use Rattle.kind.specs.declared.Kind.{Kind}
use Rattle.kind.specs.declared.refusals.Refusal.{Refusal}
use Rattle.kind.specs.declared.refusals.Refusal.TheVariants.{InputNotFinite, Exponent, BoysCount, ResultNotFinite, Nuclei}
use Rattle.kind.specs.Kinds.{uses_boys}
use Rattle.term.specs.Terms.{Term}
use Rattle.geometry.specs.declared.Centre.{Centre}
use Rattle.geometry.specs.Floats.{all_finite}
use Rattle.geometry.specs.Charges.{charge_kept, charged}
use Rattle.geometry.specs.Checks.{used_finite, exponents_above_zero, geometry_finite}
use Rattle.integrals.specs.Sums.{integral_of}

-- 8 unless every used float is finite: the kind's, aux, and every lent Boys number (D-18)
unfoldable pub inputs_finite : Kind → Centre → Centre → Centre → Centre → Float → List Float → Bool
inputs_finite k a b c d aux boys = used_finite k a b c d && (finite aux && all_finite boys)

-- 10 unless the Boys numbers are exactly L+1 (kinds 2, 4) or 0 (others) (D-21)
unfoldable pub boys_counted : Kind → ℕ → ℕ → Bool
boys_counted k l count = eqb count (cond (uses_boys k) (l + 1) 0)

-- the value of a roll that reads, or why there is none
abbrev pub Value : Type 0
Value = Result Float Refusal

unfoldable pub refused_unless : Bool → Refusal → Value → Value
refused_unless true r v = v
refused_unless false r v = Err r

-- 11 also where the result is not finite
unfoldable pub result_of : Float → Value
result_of x = refused_unless (finite x) ResultNotFinite (Ok x)

-- 17, 8, 9, 10, 11; the nuclear value is the charge times the integral
unfoldable pub value_of : Kind → ℕ → Centre → Centre → Centre → Centre → Float → List Float → List Term → Value
value_of k l a b c d aux boys ts =
    refused_unless (charge_kept k c) Nuclei
    (refused_unless (inputs_finite k a b c d aux boys) InputNotFinite
    (refused_unless (exponents_above_zero k a b c d) Exponent
    (refused_unless (boys_counted k l (length boys)) BoysCount
    (refused_unless (geometry_finite k a b c d) ResultNotFinite
    (result_of (charged k c (integral_of k l a b c d aux boys ts)))))))
