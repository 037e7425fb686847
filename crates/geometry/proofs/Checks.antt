-- The zeros in the places left of a table change nothing for check 11.
use mathlib.Core.Path.{◌≡◌, sym, ap, ◌∙◌}
use mathlib.Core.Bool.{Bool, ◌&&◌}
use mathlib.Core.List.{List, ◌++◌}
use lib.Ieee.{Float}
use Rattle.kind.specs.declared.Kind.{Kind}
use Rattle.kind.specs.Limits.{table_places}
use Rattle.geometry.specs.declared.Centre.{Centre}
use Rattle.geometry.specs.Tables.{prefac}
use Rattle.geometry.specs.Geometry.{geometry_numbers}
use Rattle.geometry.specs.Floats.{in_places, all_finite}
use Rattle.geometry.specs.Checks.{finite_with, geometry_finite}
use Rattle.geometry.proofs.FiniteFloats.{finite-both, finite-places}

pub finite-table : (k : Kind) (a b c d : Centre) (xs : List Float) (u : Bool) → xs ≡ in_places table_places (prefac k a b c d) → u ≡ finite_with k a b c d xs → u ≡ geometry_finite k a b c d
unfolding geometry_finite finite_with
finite-table k a b c d xs u e f =
    let own = geometry_numbers k a b c d in
    let table = prefac k a b c d in
    f
    ∙ ap (λ (ys : List Float). all_finite (own ++ ys)) e
    ∙ finite-both own (in_places table_places table)
    ∙ ap (λ (v : Bool). all_finite own && v) (finite-places table_places table)
    ∙ sym (finite-both own table)
