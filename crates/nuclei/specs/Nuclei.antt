-- 02, Q-10: the nuclear value of a list of up to 32 nuclei, "the sum from 0.0 in list order"; 7 or 14 with its place, 1, 17, 8, 9, 10, 11.
use Rattle.std.specs.Prelude.{ℕ, ◌+◌, ◌*◌, Bool, true, false, ◌&&◌, List, [], ◌∷◌, leb, eqb, Float, length, take, drop, Err}
use Rattle.std.specs.List.{list_all}
use Rattle.std.specs.Float.Ieee.Scale.{finite}
use Rattle.laws.specs.Total.{total}
use Rattle.kind.specs.declared.Kind.{Kind}
use Rattle.kind.specs.declared.Kind.TheVariants.{Overlap, Kinetic, Nuclear, Moment, Coulomb}
use Rattle.kind.specs.declared.refusals.Refusal.TheVariants as refusal
use Rattle.kind.specs.declared.refusals.Refusal.TheVariants.{WrongKind, InputNotFinite, Exponent, BoysCount, ResultNotFinite}
use Rattle.kind.specs.Refusals.{without_place}
use Rattle.term.specs.Terms.{Term}
use Rattle.geometry.specs.declared.Centre.{Centre}
use Rattle.geometry.specs.Floats.{◌⊕◌, zero as 0·0, all_finite}
use Rattle.geometry.specs.Charges.{charge_kept, charged}
use Rattle.geometry.specs.Checks.{used_finite, exponents_above_zero, geometry_finite}
use Rattle.roll.specs.Reading.{Reading, got, refused, Roll, roll_at}
use Rattle.roll.specs.Field.{fault}
use Rattle.integrals.specs.Sums.{integral_of}
use Rattle.integrals.specs.Values.{Value, refused_unless, result_of}
use Rattle.integrals.specs.Evaluation.{Answer}
use Rattle.nuclei.specs.declared.Nuclei.{Nuclei}

-- a list of up to 32 nuclei
abbrev pub most_nuclei : ℕ
most_nuclei = 32

-- what lies beyond the count is not looked at (D-107)
abbrev pub nuclei_of : Nuclei → List Centre
nuclei_of n = take n.count n.centres

-- 17 unless the count is from 1 to 32 and every charge 118 at most
unfoldable pub list_kept : Nuclei → Bool
list_kept n = (leb 1 n.count && leb n.count most_nuclei) && list_all (charge_kept Nuclear) (nuclei_of n)

-- 8 unless every used float is finite: A's, B's, the nuclei's coordinates, aux, and every lent Boys number
unfoldable pub inputs_finite : Centre → Centre → List Centre → Float → List Float → Bool
inputs_finite a b cs aux boys = list_all (λ c. used_finite Nuclear a b c c) cs && (finite aux && all_finite boys)

-- 10 unless the Boys numbers are exactly L+1 for each nucleus
unfoldable pub boys_counted : ℕ → ℕ → ℕ → Bool
boys_counted l nuclei given = eqb given (nuclei * (l + 1))

-- charge times the old value, of one nucleus
abbrev pub charged_value : ℕ → Centre → Centre → Centre → Float → List Float → List Term → Float
charged_value l a b c aux boys ts = charged Nuclear c (integral_of Nuclear l a b c c aux boys ts)

-- the sum goes on in list order; the Boys lists follow one another, L+1 for each nucleus; one aux serves all
unfoldable pub sum_from : ℕ → Centre → Centre → Float → List Centre → List Float → List Term → Float → Float
sum_from l a b aux [] boys ts sum = sum
sum_from l a b aux (c ∷ cs) boys ts sum = sum_from l a b aux cs (drop (l + 1) boys) ts (sum ⊕ charged_value l a b c aux (take (l + 1) boys) ts)

-- 17, 8, 9, 10, 11, each over all nuclei before the next; a nucleus' exponent is not used
unfoldable pub list_of : ℕ → Centre → Centre → Nuclei → Float → List Float → List Term → Value
list_of l a b n aux boys ts =
    refused_unless (list_kept n) refusal.Nuclei
    (refused_unless (inputs_finite a b (nuclei_of n) aux boys) InputNotFinite
    (refused_unless (exponents_above_zero Nuclear a b a b) Exponent
    (refused_unless (boys_counted l n.count (length boys)) BoysCount
    (refused_unless (list_all (λ c. geometry_finite Nuclear a b c c) (nuclei_of n)) ResultNotFinite
    (result_of (sum_from l a b aux (nuclei_of n) boys ts 0·0))))))

abbrev pub is_nuclear : Kind → Bool
is_nuclear Overlap = false
is_nuclear Kinetic = false
is_nuclear Nuclear = true
is_nuclear Moment = false
is_nuclear Coulomb = false

-- 7 or 14 with its place, then 1 for a roll of another kind
unfoldable pub of_roll : Reading Roll → Centre → Centre → Nuclei → Float → List Float → Answer
of_roll (got r end) a b n aux boys = without_place (refused_unless (is_nuclear r.kind) WrongKind (list_of (total r.orders) a b n aux boys r.terms))
of_roll (refused r place) a b n aux boys = Err (fault r place)

unfoldable pub nuclear_of : List ℕ → Centre → Centre → Nuclei → Float → List Float → Answer
nuclear_of s a b n aux boys = of_roll (roll_at s) a b n aux boys
