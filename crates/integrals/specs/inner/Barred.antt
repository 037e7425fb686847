-- Between the crates: the checks that stand before a sum over terms, however these are stored.
use Rattle.std.specs.Prelude.{ℕ, List, Float, length, Result, Ok, Err, ⊤}
use Rattle.laws.specs.Unless.{unless}
use Rattle.kind.specs.declared.Kind.{Kind}
use Rattle.kind.specs.declared.refusals.Refusal.{Refusal}
use Rattle.kind.specs.declared.refusals.Refusal.TheVariants.{InputNotFinite, Exponent, BoysCount, ResultNotFinite}
use Rattle.geometry.specs.declared.Centre.{Centre}
use Rattle.geometry.specs.Checks.{exponents_above_zero, finite_with}
use Rattle.integrals.specs.Values.{inputs_finite, boys_counted}

-- the checks before a sum with this table: 8, 9, 10, and 11 of the geometry
unfoldable pub bars_with : Kind → ℕ → Centre → Centre → Centre → Centre → Float → List Float → List Float → Result ⊤ Refusal
bars_with k l a b c d aux boys table =
    unless (inputs_finite k a b c d aux boys) (Err InputNotFinite)
    (unless (exponents_above_zero k a b c d) (Err Exponent)
    (unless (boys_counted k l (length boys)) (Err BoysCount)
    (unless (finite_with k a b c d table) (Err ResultNotFinite) (Ok tt))))
