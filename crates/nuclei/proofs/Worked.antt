-- 02, Q-10, worked out: 17 for a count outside 1 to 32 or a charge above 118, after 7, 14 and 1 and before 8.
use Prim.Native.Nat.{ℕ}
use mathlib.Core.Path.{◌≡◌, refl}
use mathlib.Core.Bool.{false}
use mathlib.Core.List.{List, [], ◌∷◌, map}
use lib.IntN.{pos}
use lib.Ieee.{nan, fin}
use lib.ListN.{replicate}
use Rattle.laws.specs.Total.{total}
use Rattle.number.specs.Numbers.{higher, read_from, read_at}
use Rattle.geometry.specs.declared.Centre.{Centre}
use Rattle.geometry.specs.Charges.{charge_kept}
use Rattle.roll.specs.Reading.{within_at, orders_at, counted_at, header_at, prefactors_at, count_at, boys_at, term_at, terms_at, roll_at}
use Rattle.std.specs.Prelude.{Err}
use Rattle.kind.specs.declared.refusals.Refusal.{Refusal}
use Rattle.kind.specs.declared.refusals.Refusal.TheVariants as refusal
use Rattle.kind.specs.declared.refusals.Refusal.TheVariants.{WrongKind, BadRoll, InputNotFinite, CutRoll}
use Rattle.roll.specs.Field.{fault}
use Rattle.integrals.specs.Evaluation.{Answer}
use Rattle.integrals.specs.Values.{refused_unless}
use Rattle.geometry.specs.Checks.{whole, used, used_finite}
use Rattle.geometry.specs.Floats.{all_finite}
use Rattle.nuclei.specs.Nuclei.{list_kept, inputs_finite, list_of, of_roll, nuclear_of}

-- a roll, the charge of every nucleus, the count, and the answer with an aux that is no number and no Boys numbers
pub record Case : Type 0 where
  pub roll : List ℕ
  pub charge : ℕ
  pub count : ℕ
  pub answer : Answer

abbrev at-none : Refusal → Answer
at-none r = Err (fault r 0)

abbrev case : List ℕ → ℕ → ℕ → Answer → Case
case roll charge count answer = record { roll = roll; charge = charge; count = count; answer = answer }

-- the roll of s,s of a kind
abbrev s-roll : ℕ → List ℕ
s-roll kind = kind ∷ 0 ∷ 0 ∷ 0 ∷ 0 ∷ 0 ∷ 0 ∷ 1 ∷ 1 ∷ 0 ∷ 0 ∷ []

abbrev pub cases : List Case
cases =
    case [] 119 0 (at-none CutRoll)
    ∷ case (9 ∷ []) 119 0 (at-none BadRoll)
    ∷ case (s-roll 0) 119 0 (at-none WrongKind)
    ∷ case (s-roll 1) 119 1 (at-none WrongKind)
    ∷ case (s-roll 2) 1 0 (at-none refusal.Nuclei)
    ∷ case (s-roll 2) 1 33 (at-none refusal.Nuclei)
    ∷ case (s-roll 2) 119 1 (at-none refusal.Nuclei)
    ∷ case (s-roll 2) 4294967295 32 (at-none refusal.Nuclei)
    ∷ case (s-roll 2) 300 2 (at-none refusal.Nuclei)
    ∷ case (s-roll 2) 118 1 (at-none InputNotFinite)
    ∷ case (s-roll 2) 118 32 (at-none InputNotFinite)
    ∷ case (s-roll 2) 0 1 (at-none InputNotFinite)
    ∷ []

-- centres of 0.0, and a list of 32 places
abbrev centre : ℕ → Centre
centre q = let nil = fin false 0 (pos 0) in record { x = nil; y = nil; z = nil; exponent = nil; charge = q }

abbrev worked : Case → Answer
worked c = nuclear_of c.roll (centre 1) (centre 1) (record { centres = replicate 32 (centre c.charge); count = c.count }) nan []

pub all-worked : map worked cases ≡ map (λ (c : Case). c.answer) cases
unfolding nuclear_of of_roll list_of list_kept inputs_finite used_finite used whole all_finite charge_kept refused_unless roll_at header_at orders_at counted_at within_at read_at read_from higher terms_at term_at boys_at count_at prefactors_at total
all-worked = refl
