-- 01, "Cases": the rows marked *, as the paper prints them.
use Rattle.std.specs.Prelude.{ℕ, ◌≡◌, List, [], ◌∷◌, take}
use Rattle.kind.specs.declared.Kind.{Kind}
use Rattle.kind.specs.declared.Kind.TheVariants.{Overlap, Kinetic, Nuclear, Moment, Coulomb}
use Rattle.term.specs.Terms.{Term}
use Rattle.steps.specs.States.{start}
use Rattle.histories.specs.Centres.{s, x1, x2, x3, at}
use Rattle.histories.specs.History.{expand}
use Rattle.roll.specs.Bytes.{roll_bytes}
use Rattle.shell.specs.Shells.{triples}
use Rattle.kind.specs.Kinds.{orders_of}

infix 70 ◌scaled◌o◌
-- a term is scale [prefactors] o_n
abbrev pub ◌scaled◌o◌ : ℕ → List ℕ → ℕ → Term
s scaled ps o n = record { scale = s; boys = n; prefactors = ps }

-- scale 1 and o0 are left unwritten
abbrev pub plain : List ℕ → Term
plain ps = 1 scaled ps o 0

-- the roll where 01 prints one
pub data Printed : Type 0 where
  no-roll : Printed
  as-roll : List ℕ → Printed

pub data Row : Type 0 where
  request : Kind → List ℕ → List Term → Printed → Row
  get-ijk-list : ℕ → List (List ℕ) → Row

abbrev pub rows : List Row
rows =
    request Overlap (at s s s s) (plain [] ∷ []) (as-roll (0x00 ∷ 0x00 ∷ 0x00 ∷ 0x00 ∷ 0x00 ∷ 0x00 ∷ 0x00 ∷ 0x01 ∷ 0x01 ∷ 0x00 ∷ 0x00 ∷ []))
    ∷ request Overlap (at x1 x1 s s) (plain (0 ∷ 1 ∷ []) ∷ plain (7 ∷ []) ∷ [])
    (as-roll (0x00 ∷ 0x01 ∷ 0x00 ∷ 0x00 ∷ 0x01 ∷ 0x00 ∷ 0x00 ∷ 0x02 ∷ 0x01 ∷ 0x00 ∷ 0x02 ∷ 0x00 ∷ 0x01 ∷ 0x01 ∷ 0x00 ∷ 0x01 ∷ 0x07 ∷ []))
    ∷ request Overlap (at x2 s s s) (plain (0 ∷ 0 ∷ []) ∷ plain (6 ∷ []) ∷ []) no-roll
    ∷ request Overlap (at x3 s s s) (plain (0 ∷ 0 ∷ 0 ∷ []) ∷ plain (0 ∷ 6 ∷ []) ∷ 2 scaled (6 ∷ 0 ∷ []) o 0 ∷ []) no-roll
    ∷ request Kinetic (at x1 s s s) (plain (0 ∷ []) ∷ plain (8 ∷ 0 ∷ []) ∷ []) no-roll
    ∷ request Kinetic (at x2 s s s)
    (plain (0 ∷ 0 ∷ []) ∷ plain (0 ∷ 8 ∷ 0 ∷ []) ∷ plain (6 ∷ []) ∷ plain (8 ∷ 0 ∷ 0 ∷ []) ∷ plain (8 ∷ 6 ∷ []) ∷ plain (9 ∷ []) ∷ []) no-roll
    ∷ request Nuclear (at x1 s s s) (plain (0 ∷ []) ∷ 1 scaled (6 ∷ []) o 1 ∷ []) no-roll
    ∷ request Moment (at s s x2 s) (plain (6 ∷ 6 ∷ []) ∷ plain (9 ∷ []) ∷ []) no-roll
    ∷ request Moment (at x1 s x1 s) (plain (0 ∷ 6 ∷ []) ∷ plain (11 ∷ []) ∷ []) no-roll
    ∷ request Coulomb (at x1 s x1 s)
    (plain (0 ∷ 2 ∷ []) ∷ 1 scaled (0 ∷ 5 ∷ []) o 1 ∷ 1 scaled (4 ∷ 2 ∷ []) o 1 ∷ 1 scaled (4 ∷ 5 ∷ []) o 2 ∷ 1 scaled (22 ∷ []) o 1 ∷ []) no-roll
    ∷ get-ijk-list 2 ((2 ∷ 0 ∷ 0 ∷ []) ∷ (1 ∷ 1 ∷ 0 ∷ []) ∷ (1 ∷ 0 ∷ 1 ∷ []) ∷ (0 ∷ 2 ∷ 0 ∷ []) ∷ (0 ∷ 1 ∷ 1 ∷ []) ∷ (0 ∷ 0 ∷ 2 ∷ []) ∷ [])
    ∷ []

-- what the definitions say of a row
abbrev pub RollIs : Kind → List ℕ → Printed → Type 0
RollIs k orders no-roll = Unit {0}
RollIs k orders (as-roll bytes) = roll_bytes k (take (orders_of k) orders) (expand (start k orders)) ≡ bytes

abbrev pub Holds : Row → Type 0
Holds (request k orders ts printed) = (expand (start k orders) ≡ ts) × RollIs k orders printed
Holds (get-ijk-list m list) = triples m ≡ list

abbrev pub AllHold : List Row → Type 0
AllHold [] = Unit {0}
AllHold (r ∷ rs) = Holds r × AllHold rs
