-- What Choice works out is 01's choice: a list of centres in the order of their numbers is gone through from its end.
use Prim.Native.Nat.{ℕ, zero, suc, ◌≤◌, ◌<◌}
use mathlib.Core.Path.{◌≡◌, refl, ap, subst, ◌∙◌}
use mathlib.Core.Bool.{Bool, true, false, cond}
use mathlib.Core.List.Memᴰ
use mathlib.Core.List.{List, [], ◌∷◌, Memᴰ}
use native.Mathlib.Omega.{arith}
use lib.Dec.{ltb}
use borrow.Author.Tests.{ltb-true, ltb-false}
use Rattle.std.specs.Prelude.{Option, Some, None}
use Rattle.kind.specs.declared.Kind.{Kind}
use Rattle.kind.specs.declared.Kind.TheVariants.{Overlap, Kinetic, Nuclear, Moment, Coulomb}
use Rattle.steps.specs.declared.CentreName.{CentreName}
use Rattle.steps.specs.declared.CentreName.TheVariants.{A, B, C, D}
use Rattle.steps.specs.declared.Axis.{Axis}
use Rattle.steps.specs.declared.Axis.TheVariants.{X, Y, Z}
use Rattle.steps.specs.declared.Best.{Best}
use Rattle.steps.specs.Choice.{operator, centre_number, axis_number, order_of, sum_of, or_before, smallest, centre_of, once_exhausted, chosen, first_axis}
use Rattle.steps.specs.Chosen.{centres_of, operator_of, Smallest, Exhausted, RightCentre, a-centre, the-operator, no-centre, RightAxis, along, no-axis}

-- what is best of a list of centres
data BestOf (left : List ℕ) (cs : List CentreName) : Option Best → Type 0 where
  none : Exhausted left cs → BestOf left cs None
  one : (c : CentreName) → Smallest left cs c → BestOf left cs (Some (record { centre = c; sum = sum_of left c }))

-- each stands before those after it
abbrev Ahead : CentreName → List CentreName → Type 0
Ahead c cs = (d : CentreName) → Memᴰ d cs → centre_number c < centre_number d

module _ (left : List ℕ) (c : CentreName) (cs : List CentreName) (ahead : Ahead c cs) where
  -- a centre with nothing left changes nothing
  passed : (b : Option Best) → BestOf left cs b → sum_of left c ≡ 0 → BestOf left (c ∷ cs) b
  passed b (none out) e = none all
    where
      all : Exhausted left (c ∷ cs)
      all d (Memᴰ.head f) = ap (sum_of left) f ∙ e
      all d (Memᴰ.tail i) = out d i
  passed b (one x s) e = one x (record { one-of-them = Memᴰ.tail s.one-of-them; positive = s.positive; none-smaller = least; none_before = first })
    where
      least : (d : CentreName) → Memᴰ d (c ∷ cs) → 0 < sum_of left d → sum_of left x ≤ sum_of left d
      least d (Memᴰ.head f) p = let z : sum_of left d ≡ 0 = ap (sum_of left) f ∙ e in omega arith
      least d (Memᴰ.tail i) p = s.none-smaller d i p

      first : (d : CentreName) → Memᴰ d (c ∷ cs) → centre_number d < centre_number x → sum_of left d ≡ sum_of left x → ⊥
      first d (Memᴰ.head f) h q = let z : sum_of left d ≡ 0 = ap (sum_of left) f ∙ e in let p = s.positive in omega arith
      first d (Memᴰ.tail i) h q = s.none_before d i h q

  -- a smaller sum stands after it
  kept : (x : CentreName) → Smallest left cs x → sum_of left x < sum_of left c → Smallest left (c ∷ cs) x
  kept x s h = record { one-of-them = Memᴰ.tail s.one-of-them; positive = s.positive; none-smaller = least; none_before = first }
    where
      least : (d : CentreName) → Memᴰ d (c ∷ cs) → 0 < sum_of left d → sum_of left x ≤ sum_of left d
      least d (Memᴰ.head f) p = let z : sum_of left d ≡ sum_of left c = ap (sum_of left) f in omega arith
      least d (Memᴰ.tail i) p = s.none-smaller d i p

      first : (d : CentreName) → Memᴰ d (c ∷ cs) → centre_number d < centre_number x → sum_of left d ≡ sum_of left x → ⊥
      first d (Memᴰ.head f) g q = let z : sum_of left d ≡ sum_of left c = ap (sum_of left) f in omega arith
      first d (Memᴰ.tail i) g q = s.none_before d i g q

  -- it is the smallest
  taken : 0 < sum_of left c → ((d : CentreName) → Memᴰ d cs → 0 < sum_of left d → sum_of left c ≤ sum_of left d) → Smallest left (c ∷ cs) c
  taken p rest = record { one-of-them = Memᴰ.head refl; positive = p; none-smaller = least; none_before = first }
    where
      least : (d : CentreName) → Memᴰ d (c ∷ cs) → 0 < sum_of left d → sum_of left c ≤ sum_of left d
      least d (Memᴰ.head f) q = let z : sum_of left d ≡ sum_of left c = ap (sum_of left) f in omega arith
      least d (Memᴰ.tail i) q = rest d i q

      first : (d : CentreName) → Memᴰ d (c ∷ cs) → centre_number d < centre_number c → sum_of left d ≡ sum_of left c → ⊥
      first d (Memᴰ.head f) h q = let z : centre_number d ≡ centre_number c = ap centre_number f in omega arith
      first d (Memᴰ.tail i) h q = let z = ahead d i in omega arith

  before : (b : Option Best) → BestOf left cs b → (n : ℕ) → sum_of left c ≡ n → BestOf left (c ∷ cs) (or_before b c n)
  before b best zero e = passed b best e
  before b (none out) (suc n) e =
      subst (λ (m : ℕ). BestOf left (c ∷ cs) (Some (record { centre = c; sum = m }))) e
      (one c (taken (omega arith) (λ (d : CentreName) (i : Memᴰ d cs) (p : 0 < sum_of left d). let z = out d i in omega arith)))
  before b (one x s) (suc n) e = by (ltb (sum_of left x) (suc n)) refl
    where
      by : (q : Bool) → ltb (sum_of left x) (suc n) ≡ q → BestOf left (c ∷ cs) (cond q (Some (record { centre = x; sum = sum_of left x })) (Some (record { centre = c; sum = suc n })))
      by true v = let z = ltb-true (sum_of left x) (suc n) v in one x (kept x s (omega arith))
      by false v =
          let z = ltb-false (sum_of left x) (suc n) v in
          subst (λ (m : ℕ). BestOf left (c ∷ cs) (Some (record { centre = c; sum = m }))) e
          (one c (taken (omega arith) (λ (d : CentreName) (i : Memᴰ d cs) (p : 0 < sum_of left d). let w = s.none-smaller d i p in omega arith)))

-- the lists that are asked for stand in the order of their numbers
best_none : (left : List ℕ) → BestOf left [] None
best_none left = none (λ (d : CentreName) (i : Memᴰ d []). absurd (Memᴰ.not-nil i))

one-ahead : (c : CentreName) → Ahead c []
one-ahead c d i = absurd (Memᴰ.not-nil i)

also-ahead : (c d : CentreName) (cs : List CentreName) → centre_number c < centre_number d → Ahead c cs → Ahead c (d ∷ cs)
also-ahead c d cs h rest e (Memᴰ.head f) = let z : centre_number e ≡ centre_number d = ap centre_number f in omega arith
also-ahead c d cs h rest e (Memᴰ.tail i) = rest e i

module _ (left : List ℕ) where
  best : (c : CentreName) (cs : List CentreName) → Ahead c cs → BestOf left cs (smallest left cs) → BestOf left (c ∷ cs) (smallest left (c ∷ cs))
  best c cs ahead rest = before left c cs ahead (smallest left cs) rest (sum_of left c) refl

  best-of-two : BestOf left (A ∷ B ∷ []) (smallest left (A ∷ B ∷ []))
  best-of-two = best A (B ∷ []) (also-ahead A B [] (omega arith) (one-ahead A)) (best B [] (one-ahead B) (best_none left))

  best-of-four : BestOf left (A ∷ B ∷ C ∷ D ∷ []) (smallest left (A ∷ B ∷ C ∷ D ∷ []))
  best-of-four =
      best A (B ∷ C ∷ D ∷ []) (also-ahead A B (C ∷ D ∷ []) (omega arith) (also-ahead A C (D ∷ []) (omega arith) (also-ahead A D [] (omega arith) (one-ahead A))))
      (best B (C ∷ D ∷ []) (also-ahead B C (D ∷ []) (omega arith) (also-ahead B D [] (omega arith) (one-ahead B)))
      (best C (D ∷ []) (also-ahead C D [] (omega arith) (one-ahead C))
      (best D [] (one-ahead D) (best_none left))))

  best-operator : BestOf left (operator ∷ []) (smallest left (operator ∷ []))
  best-operator = best operator [] (one-ahead operator) (best_none left)

  none-there : Exhausted left []
  none-there d i = absurd (Memᴰ.not-nil i)

  without-operator : (k : Kind) (b : Option Best) → Exhausted left (operator_of k) → BestOf left (centres_of k) b → RightCentre k left (centre_of b)
  without-operator k b rest (none out) = no-centre out rest
  without-operator k b rest (one c s) = a-centre c s

  with-operator : (b o : Option Best) → BestOf left (centres_of Moment) b → BestOf left (operator_of Moment) o → RightCentre Moment left (once_exhausted (centre_of b) (centre_of o))
  with-operator b o (one c s) other = a-centre c s
  with-operator b o (none out) (none rest) = no-centre out rest
  with-operator b o (none out) (one c s) = the-operator c out s

  -- the centre that is chosen is 01's
  pub chosen-rightly : (k : Kind) → RightCentre k left (chosen k left)
  unfolding chosen
  chosen-rightly Overlap = without-operator Overlap (smallest left (A ∷ B ∷ [])) none-there best-of-two
  chosen-rightly Kinetic = without-operator Kinetic (smallest left (A ∷ B ∷ [])) none-there best-of-two
  chosen-rightly Nuclear = without-operator Nuclear (smallest left (A ∷ B ∷ [])) none-there best-of-two
  chosen-rightly Moment = with-operator (smallest left (A ∷ B ∷ [])) (smallest left (operator ∷ [])) best-of-two best-operator
  chosen-rightly Coulomb = without-operator Coulomb (smallest left (A ∷ B ∷ C ∷ D ∷ [])) none-there best-of-four

  -- the axis that is chosen is 01's
  pub axis-rightly : (c : CentreName) → RightAxis left c (first_axis left c)
  unfolding first_axis
  axis-rightly c = by (ltb 0 (order_of left c X)) refl (ltb 0 (order_of left c Y)) refl (ltb 0 (order_of left c Z)) refl
    where
      none_left : (x : Axis) → ltb 0 (order_of left c x) ≡ false → order_of left c x ≡ 0
      none_left x e = let h = ltb-false 0 (order_of left c x) e in omega arith

      by : (p : Bool) → ltb 0 (order_of left c X) ≡ p → (q : Bool) → ltb 0 (order_of left c Y) ≡ q → (r : Bool) → ltb 0 (order_of left c Z) ≡ r
          → RightAxis left c (cond p (Some X) (cond q (Some Y) (cond r (Some Z) None)))
      by true e q f r g = along X (ltb-true 0 (order_of left c X) e) (λ (y : Axis) (h : axis_number y < axis_number X). absurd (omega arith))
      by false e true f r g = along Y (ltb-true 0 (order_of left c Y) f) before-y
        where
          before-y : (y : Axis) → axis_number y < axis_number Y → order_of left c y ≡ 0
          before-y X h = none_left X e
          before-y Y h = absurd (omega arith)
          before-y Z h = absurd (omega arith)
      by false e false f true g = along Z (ltb-true 0 (order_of left c Z) g) before-z
        where
          before-z : (y : Axis) → axis_number y < axis_number Z → order_of left c y ≡ 0
          before-z X h = none_left X e
          before-z Y h = none_left Y f
          before-z Z h = absurd (omega arith)
      by false e false f false g = no-axis all
        where
          all : (y : Axis) → order_of left c y ≡ 0
          all X = none_left X e
          all Y = none_left Y f
          all Z = none_left Z g
