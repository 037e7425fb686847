-- The centre chosen is one of the kind's, and where no order is left none is chosen.
use Prim.Native.Nat.{ℕ}
use mathlib.Core.Path.{◌≡◌, refl, ap, subst, ◌∙◌}
use mathlib.Core.Bool.{true}
use mathlib.Core.List.{List, [], ◌∷◌, Memᴰ}
use native.Mathlib.Omega.{arith}
use Rattle.std.specs.Prelude.{Option, Some, None}
use Rattle.laws.proofs.Cases.{clash}
use Rattle.kind.specs.declared.Kind.{Kind}
use Rattle.kind.specs.declared.Kind.TheVariants.{Overlap, Kinetic, Nuclear, Moment, Coulomb}
use Rattle.steps.specs.declared.CentreName.{CentreName}
use Rattle.steps.specs.declared.CentreName.TheVariants.{A, B}
use Rattle.steps.specs.declared.Axis.TheVariants.{X, Y, Z}
use Rattle.steps.specs.Choice.{order_place, sum_of, chosen}
use Rattle.steps.specs.Chosen.{centres_of, operator_of, RightCentre, a-centre, the-operator, no-centre}
use Rattle.steps.proofs.Rightly.{chosen-rightly}
use Rattle.laws.specs.Total.{total}
use Rattle.steps.specs.States.{State, on_fun, nexts}
use Rattle.laws.proofs.Totals.{get_or-le-total}
use Rattle.histories.specs.inner.OnTheWay.{own}

two-own : (k : Kind) (d : CentreName) → own k A ≡ true → own k B ≡ true → Memᴰ d (A ∷ B ∷ []) → own k d ≡ true
two-own k d p q (Memᴰ.tail (Memᴰ.tail m)) = elim m [ ]
two-own k d p q (Memᴰ.head e) = ap (own k) e ∙ p
two-own k d p q (Memᴰ.tail (Memᴰ.head e)) = ap (own k) e ∙ q

-- the centres of a kind and its operator are its own
centres-own : (k : Kind) (d : CentreName) → Memᴰ d (centres_of k) → own k d ≡ true
centres-own Overlap d m = two-own Overlap d refl refl m
centres-own Kinetic d m = two-own Kinetic d refl refl m
centres-own Nuclear d m = two-own Nuclear d refl refl m
centres-own Moment d m = two-own Moment d refl refl m
centres-own Coulomb d m = refl

operator-own : (k : Kind) (d : CentreName) → Memᴰ d (operator_of k) → own k d ≡ true
operator-own Overlap d m = elim m [ ]
operator-own Kinetic d m = elim m [ ]
operator-own Nuclear d m = elim m [ ]
operator-own Moment d (Memᴰ.tail m) = elim m [ ]
operator-own Moment d (Memᴰ.head e) = ap (own Moment) e
operator-own Coulomb d m = elim m [ ]

pub chosen-own : (k : Kind) (left : List ℕ) (d : CentreName) → chosen k left ≡ Some d → own k d ≡ true
chosen-own k left d = by (chosen k left) (chosen-rightly left k)
  where
    by : (v : Option CentreName) → RightCentre k left v → v ≡ Some d → own k d ≡ true
    by v (a-centre c s) e = let same : c ≡ d = cc in subst (λ (b : CentreName). own k b ≡ true) same (centres-own k c s.one-of-them)
    by v (the-operator o out s) e = let same : o ≡ d = cc in subst (λ (b : CentreName). own k b ≡ true) same (operator-own k o s.one-of-them)
    by v (no-centre out rest) e = absurd (clash (cc))

module _ (left : List ℕ) (none : total left ≡ 0) where
  sum-none : (c : CentreName) → sum_of left c ≡ 0
  sum-none c =
      let x = get_or-le-total left (order_place c X) in
      let y = get_or-le-total left (order_place c Y) in
      let z = get_or-le-total left (order_place c Z) in
      omega arith

  chosen_none : (k : Kind) → chosen k left ≡ None
  chosen_none k = by (chosen k left) (chosen-rightly left k)
    where
      by : (v : Option CentreName) → RightCentre k left v → v ≡ None
      by v (a-centre c s) = let p = s.positive in let z = sum-none c in absurd (omega arith)
      by v (the-operator o out s) = let p = s.positive in let z = sum-none o in absurd (omega arith)
      by v (no-centre out rest) = refl

-- where no order is left, no branch is legal, kinetic 3 included
pub none-legal : (s : State) → total s.left ≡ 0 → nexts s ≡ []
unfolding nexts
none-legal s e = ap (λ (f : Option CentreName). on_fun f s) (chosen_none s.left e s.kind)
