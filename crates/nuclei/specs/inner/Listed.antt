-- Inside the crate: one nucleus' product, and the rest of a list.
use Rattle.std.specs.Prelude.{ℕ, ◌+◌, List, [], ◌∷◌, eqb, Float, take, drop, Ok}
use Rattle.kind.specs.Kinds.{number_of}
use Rattle.kind.specs.declared.Kind.TheVariants.{Nuclear}
use Rattle.kind.specs.declared.refusals.Refusal.TheVariants.{WrongKind, ResultNotFinite}
use Rattle.term.specs.Terms.{Term}
use Rattle.geometry.specs.declared.Centre.{Centre}
use Rattle.geometry.specs.Floats.{◌⊕◌}
use Rattle.geometry.specs.Checks.{geometry_finite}
use Rattle.roll.specs.declared.cursor.Cursor.{Cursor}
use Rattle.integrals.specs.Values.{Value, refused_unless, result_of}
use Rattle.integrals.specs.inner.Stored.{again_from}
use Rattle.nuclei.specs.declared.Nuclei.{Nuclei}
use Rattle.nuclei.specs.Nuclei.{charged_value, list_of}

unfoldable pub product_of : ℕ → Centre → Centre → Centre → Float → List Float → List Term → Value
product_of l a b c aux boys ts = refused_unless (geometry_finite Nuclear a b c c) ResultNotFinite (Ok (charged_value l a b c aux boys ts))

-- check 11 and the sum of what is left of a list, nucleus by nucleus
unfoldable pub summed_from : ℕ → Centre → Centre → Float → List Centre → List Float → List Term → Float → Value
summed_from l a b aux [] boys ts sum = result_of sum
summed_from l a b aux (c ∷ cs) boys ts sum =
    refused_unless (geometry_finite Nuclear a b c c) ResultNotFinite
    (summed_from l a b aux cs (drop (l + 1) boys) ts (sum ⊕ charged_value l a b c aux (take (l + 1) boys) ts))

-- the list's value from a judged roll's cursor on
unfoldable pub of_cursor : Cursor → Centre → Centre → Nuclei → Float → List Float → List ℕ → Value
of_cursor cursor a b n aux boys roll = refused_unless (eqb cursor.kind (number_of Nuclear)) WrongKind (list_of cursor.l a b n aux boys (again_from roll cursor))
