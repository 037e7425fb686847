-- What holds of every branch of every kind, computed once over all kinds, centres and axes.
use Prim.Native.Nat.{ℕ, ◌+◌, ◌≤◌, ◌<◌}
use mathlib.Core.Path.{◌≡◌, refl, ap, ◌∙◌}
use mathlib.Core.Bool.{Bool, true, false, ◌&&◌, cond}
use mathlib.Core.List.{List, [], ◌∷◌, Memᴰ}
use borrow.Author.Tests.{ltb-true, leb-true, eqb-true}
use lib.Dec.{eqb, leb, ltb}
use Rattle.laws.proofs.Cases.{and_left, and_right}
use Rattle.kind.specs.declared.Kind.{Kind}
use Rattle.kind.specs.declared.Kind.TheVariants.{Overlap, Kinetic, Nuclear, Moment, Coulomb}
use Rattle.kind.specs.Kinds.{table_of, uses_boys}
use Rattle.term.specs.Weights.{weight}
use Rattle.steps.specs.declared.CentreName.{CentreName}
use Rattle.steps.specs.declared.CentreName.TheVariants.{A, B, C, D}
use Rattle.steps.specs.declared.Axis.{Axis}
use Rattle.steps.specs.declared.Axis.TheVariants.{X, Y, Z}
use Rattle.steps.specs.Steps.{Branch, branches}
use Rattle.histories.specs.History.{stage}
use Rattle.histories.specs.inner.OnTheWay.{follows, own}
use Rattle.histories.proofs.Orders.{fallen, apart}

abbrev every : {A : Type 0} → (A → Bool) → List A → Bool
every f [] = true
every f (x ∷ xs) = f x && every f xs

every-at : {A : Type 0} (f : A → Bool) (l : List A) → every f l ≡ true → (x : A) → Memᴰ x l → f x ≡ true
every-at f [] e x x4 = elim x4 [ ]
every-at f (y ∷ l) e x (Memᴰ.head p) = ap f p ∙ and_left (f y) (every f l) e
every-at f (y ∷ l) e x (Memᴰ.tail m) = every-at f l (and_right (f y) (every f l) e) x m

abbrev pub boys_step : Bool → ℕ
boys_step true = 1
boys_step false = 0

-- of a branch: it is a step of its request's kind
pub record Fair (request k : Kind) (c : CentreName) (b : Branch) : Type 0 where
  pub weighs : weight request b.adds ≡ fallen b.falls
  pub in_table : b.adds < table_of request
  pub raises-less : b.raises ≤ fallen b.falls
  pub raises-boys : b.raises ≤ boys_step (uses_boys request)
  pub falls-apart : apart b.falls c ≡ true
  pub goes_down : stage (cond b.as-overlap Overlap k) < stage k + fallen b.falls
  pub goes_on : follows request (cond b.as-overlap Overlap k) ≡ true

abbrev tests : Kind → Kind → CentreName → Branch → List Bool
tests request k c b =
    eqb (weight request b.adds) (fallen b.falls)
    ∷ ltb b.adds (table_of request)
    ∷ leb b.raises (fallen b.falls)
    ∷ leb b.raises (boys_step (uses_boys request))
    ∷ apart b.falls c
    ∷ ltb (stage (cond b.as-overlap Overlap k)) (stage k + fallen b.falls)
    ∷ follows request (cond b.as-overlap Overlap k)
    ∷ []

abbrev holds : Bool → Bool
holds v = v

fair : Kind → Kind → CentreName → Branch → Bool
fair request k c b = every holds (tests request k c b)

abbrev kinds : List Kind
kinds = Overlap ∷ Kinetic ∷ Nuclear ∷ Moment ∷ Coulomb ∷ []

abbrev centres : List CentreName
centres = A ∷ B ∷ C ∷ D ∷ []

abbrev axes : List Axis
axes = X ∷ Y ∷ Z ∷ []

abbrev unless : Bool → Bool → Bool
unless true b = b
unless false b = true

fair_at : Kind → Kind → CentreName → Axis → Bool
fair_at request k c x = unless (follows request k && own k c) (every (fair request k c) (branches k c x))

all_fair : every (λ (request : Kind). every (λ (k : Kind). every (λ (c : CentreName). every (fair_at request k c) axes) centres) kinds) kinds ≡ true
unfolding fair_at fair branches weight
all_fair = refl

is-kind : (k : Kind) → Memᴰ k kinds
is-kind Overlap = Memᴰ.head refl
is-kind Kinetic = Memᴰ.tail (Memᴰ.head refl)
is-kind Nuclear = Memᴰ.tail (Memᴰ.tail (Memᴰ.head refl))
is-kind Moment = Memᴰ.tail (Memᴰ.tail (Memᴰ.tail (Memᴰ.head refl)))
is-kind Coulomb = Memᴰ.tail (Memᴰ.tail (Memᴰ.tail (Memᴰ.tail (Memᴰ.head refl))))

is-centre : (c : CentreName) → Memᴰ c centres
is-centre A = Memᴰ.head refl
is-centre B = Memᴰ.tail (Memᴰ.head refl)
is-centre C = Memᴰ.tail (Memᴰ.tail (Memᴰ.head refl))
is-centre D = Memᴰ.tail (Memᴰ.tail (Memᴰ.tail (Memᴰ.head refl)))

is-axis : (x : Axis) → Memᴰ x axes
is-axis X = Memᴰ.head refl
is-axis Y = Memᴰ.tail (Memᴰ.head refl)
is-axis Z = Memᴰ.tail (Memᴰ.tail (Memᴰ.head refl))

fair-is : (request k : Kind) (c : CentreName) (b : Branch) → fair request k c b ≡ true → Fair request k c b
unfolding fair
fair-is request k c b e =
    record {
      weighs = eqb-true (weight request b.adds) (fallen b.falls) (at (Memᴰ.head refl));
      in_table = ltb-true b.adds (table_of request) (at (Memᴰ.tail (Memᴰ.head refl)));
      raises-less = leb-true b.raises (fallen b.falls) (at (Memᴰ.tail (Memᴰ.tail (Memᴰ.head refl))));
      raises-boys = leb-true b.raises (boys_step (uses_boys request)) (at (Memᴰ.tail (Memᴰ.tail (Memᴰ.tail (Memᴰ.head refl)))));
      falls-apart = at (Memᴰ.tail (Memᴰ.tail (Memᴰ.tail (Memᴰ.tail (Memᴰ.head refl)))));
      goes_down =
          ltb-true (stage (cond b.as-overlap Overlap k)) (stage k + fallen b.falls)
          (at (Memᴰ.tail (Memᴰ.tail (Memᴰ.tail (Memᴰ.tail (Memᴰ.tail (Memᴰ.head refl)))))));
      goes_on = at (Memᴰ.tail (Memᴰ.tail (Memᴰ.tail (Memᴰ.tail (Memᴰ.tail (Memᴰ.tail (Memᴰ.head refl)))))));
    }
  where
    at : {v : Bool} → Memᴰ v (tests request k c b) → v ≡ true
    at {v} m = every-at holds (tests request k c b) e v m

-- every branch at a centre of the kind is fair to the request
pub fair-branch : (request k : Kind) (c : CentreName) (x : Axis) (b : Branch) → follows request k ≡ true → own k c ≡ true → Memᴰ b (branches k c x) → Fair request k c b
unfolding fair_at
fair-branch request k c x b f o m =
    let at : fair_at request k c x ≡ true =
    every-at (fair_at request k c) axes
    (every-at (λ (d : CentreName). every (fair_at request k d) axes) centres
    (every-at (λ (j : Kind). every (λ (d : CentreName). every (fair_at request j d) axes) centres) kinds
    (every-at (λ (r : Kind). every (λ (j : Kind). every (λ (d : CentreName). every (fair_at r j d) axes) centres) kinds) kinds all_fair request (is-kind request))
    k (is-kind k))
    c (is-centre c))
    x (is-axis x) in
    fair-is request k c b (every-at (fair request k c) (branches k c x) (opened at) b m)
  where
    opened : fair_at request k c x ≡ true → every (fair request k c) (branches k c x) ≡ true
    opened e = rw (f, o) at e
