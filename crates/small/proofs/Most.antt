-- A request of the profile keeps every limit of the expansion: its order sums are not too high and its terms never too many, so 4 is never given.
use Prim.Native.Nat.{ℕ, ◌+◌}
use mathlib.Core.Path.{◌≡◌, sym, ap}
use mathlib.Core.Bool.{Bool, true, false, cond, not, ◌||◌}
use mathlib.Core.List.{List}
use native.Mathlib.Omega.{arith}
use borrow.Author.Tests.{leb-true, le-ltb}
use lib.ListN.{length}
use Rattle.laws.proofs.Cases.{tested, and_left, and_right, false-not-true}
use Rattle.kind.specs.declared.Kind.{Kind}
use Rattle.kind.specs.declared.Kind.TheVariants.{Overlap, Kinetic, Nuclear, Moment, Coulomb}
use Rattle.kind.specs.Kinds.{kind_of}
use Rattle.kind.specs.Limits.{most_order, most_terms}
use Rattle.steps.specs.declared.CentreName.{CentreName}
use Rattle.steps.specs.declared.CentreName.TheVariants.{A, B, C, D}
use Rattle.steps.specs.Choice.{sum_of}
use Rattle.expansion.specs.Answer.{Answer}
use Rattle.expansion.specs.Expanding.{◌exceeds◌, too_high, unused_set, too_many, terms_of, roll_of, refusal_of}
use Rattle.small.specs.Profile.{most_small, at_most, both_at_most, small}
use Rattle.small.specs.Expand.{small_kind, small_named}
use Rattle.small.specs.Shown.{SmallRequest, NeverFour, with_four, SameWithFour}
use Rattle.small.proofs.Units.{few-terms}
use Rattle.std.specs.Prelude.{Option, Some, None}

-- ---- 4

pub not-too-many : (k : Kind) (os : List ℕ) → SmallRequest k os → too_many k os ≡ false
not-too-many k os may = le-ltb most_terms (length (terms_of k os)) (let h = few-terms k os may in omega arith)

-- ---- 2

low : (os : List ℕ) (c : CentreName) → at_most os c ≡ true → (sum_of os c exceeds most_order) ≡ false
low os c h = le-ltb most_order (sum_of os c) (let l = leb-true (sum_of os c) most_small h in omega arith)

low-two : (os : List ℕ) (c d : CentreName) → both_at_most os c d ≡ true → (sum_of os c exceeds most_order || sum_of os d exceeds most_order) ≡ false
low-two os c d h = simp (low os c (and_left (at_most os c) (at_most os d) h), low os d (and_right (at_most os c) (at_most os d) h))

pub not-too-high : (k : Kind) (os : List ℕ) → small k os ≡ true → too_high k os ≡ false
unfolding small
not-too-high Overlap os h = low-two os A B h
not-too-high Kinetic os h = false-not-true h
not-too-high Nuclear os h = false-not-true h
not-too-high Moment os h = false-not-true h
not-too-high Coulomb os h =
    let ab = and_left (both_at_most os A B) (both_at_most os C D) h in
    let cd = and_right (both_at_most os A B) (both_at_most os C D) h in
    simp (low-two os A B ab, low os C (and_left (at_most os C) (at_most os D) cd), low os D (and_right (at_most os C) (at_most os D) cd))

-- ---- the answers

-- the line for 4 says nothing where the request keeps the profile, and is not reached where it does not
pub same-with-four : SameWithFour
unfolding with_four small_kind
same-with-four k os out begin in-full =
    tested (unused_set k os)
    (λ u. simp u)
    (λ u. tested (small k os)
    (λ w. simp (not-too-many k os (record { in-full = in-full; none-unused = u; within = w })))
    (λ w. simp w))

abbrev Not4 : Answer → Type 0
Not4 r = refusal_of r ≡ 4 → ⊥

neither : (b : Bool) (x y : Answer) → Not4 x → Not4 y → Not4 (cond b x y)
neither true x y f g = f
neither false x y f g = g

kind-not : (k : Kind) (os out : List ℕ) (begin : ℕ) → Not4 (small_kind k os out begin)
unfolding small_kind
kind-not k os out begin =
    neither (too_high k os) _ _ (λ e. omega (arith, e))
    (neither (unused_set k os) _ _ (λ e. omega (arith, e))
    (neither (not (small k os)) _ _ (λ e. omega (arith, e))
    (neither (begin exceeds length out) _ _ (λ e. omega (arith, e))
    (neither (begin + length (roll_of k os) exceeds length out) _ _ (λ e. omega (arith, e)) (λ e. omega (arith, e))))))

named-not : (n : Option Kind) (os out : List ℕ) (begin : ℕ) → Not4 (small_named n os out begin)
named-not None os out begin = λ e. omega (arith, e)
named-not (Some k) os out begin = kind-not k os out begin

pub never-four : NeverFour
never-four kind os before begin after told = named-not (kind_of kind) os before begin (ap refusal_of (sym told.answer))
