-- One text read with two limits (specs/Before.antt). With ours it is the reader. With lower ones an answer stays as it is with higher ones, or it is 7: shown of a number,
-- then of what is read after it, part by part.
use Prim.Native.Nat.{ℕ, zero, suc, ◌+◌, ◌-◌, ◌≤◌}
use mathlib.Core.Path.{◌≡◌, refl, ap, ◌∙◌}
use mathlib.Core.Bool.{Bool, true, false, cond, ◌||◌}
use mathlib.Core.List.{List, [], ◌∷◌}
use native.Mathlib.Omega.{arith}
use borrow.Author.Tests.{le-ltb, ltb-false}
use lib.Dec.{ltb, eqb}
use lib.ListN.{length}
use Rattle.kind.specs.Limits.{most_order}
use Rattle.kind.specs.Kinds.{kind_of, number_of, orders_of, most_l}
use Rattle.kind.specs.declared.Kind.{Kind}
use Rattle.kind.specs.declared.Kind.TheVariants.{Overlap, Kinetic, Nuclear, Moment, Coulomb}
use Rattle.laws.proofs.Cases.{tested}
use Rattle.laws.specs.Total.{total}
use Rattle.number.specs.Read.{Number}
use Rattle.number.specs.Read as number
use Rattle.number.specs.Numbers.{read_at}
use Rattle.term.specs.Terms.{Term}
use Rattle.roll.specs.Field.{Field}
use Rattle.roll.specs.Field as field
use Rattle.roll.specs.declared.cursor.Cursor.{Cursor}
use Rattle.roll.specs.Reading.{Reading, got, refused, wrong_place, opened, within_at, onward, and_then, before, sum_after, orders_at, Header, counted_at, of_kind, header_at, boys_at, term_at, terms_at, Roll, roll_at}
use Rattle.roll.specs.Header.{refused_opened, held_header, open_of, judged, checked, check_of}
use Rattle.roll.specs.Cursor.{refused_step, stepped, end_or, step_as, step_of}
use Rattle.roll.specs.Before.{ReaderLimits, limits_now, most_l_under, orders_under, counted_under, of_kind_under, header_under, term_under, terms_under, roll_under, open_under, checked_under, check_under, step_under, step_as_under, next_under, OneReading}
use Rattle.std.specs.Prelude.{Option, Some, None, Err}
use Rattle.kind.specs.declared.refusals.Refusal.TheVariants.{BadRoll}

-- ---- with our limits: the reader

onward-same : {A : Type 0} (x : Field) (f g : ℕ → ℕ → Reading A) → ((n next : ℕ) → f n next ≡ g n next) → onward x f ≡ onward x g
onward-same (field.Is n next) f g same = same n next
onward-same (Err why) f g same = refl

and_then-same : {A B : Type 0} (x : Reading A) (f g : A → ℕ → Reading B) → ((a : A) (next : ℕ) → f a next ≡ g a next) → and_then x f ≡ and_then x g
and_then-same (got a next) f g same = same a next
and_then-same (refused r place) f g same = refl

orders-now : (n i sum : ℕ) (s : List ℕ) (at : ℕ) → orders_under limits_now s at n i sum ≡ orders_at s at n i sum
unfolding orders_under orders_at
orders-now zero i sum s at = refl
orders-now (suc n) i sum s at =
    onward-same (within_at s at 0 (most_order - sum)) (λ o next. before (o ∷ []) (orders_under limits_now s next n (i + 1) (sum_after i sum o)))
    (λ o next. before (o ∷ []) (orders_at s next n (i + 1) (sum_after i sum o)))
    (λ o next. ap (before (o ∷ [])) (orders-now n (i + 1) (sum_after i sum o) s next))

kind-now : (n : Option Kind) (s : List ℕ) (at : ℕ) → of_kind_under limits_now s at n ≡ of_kind s at n
unfolding counted_under counted_at
kind-now (Some k) s at = ap (λ (x : Reading (List ℕ)). and_then x (λ orders next. counted_at s next k orders)) (orders-now (orders_of k) 0 0 s at)
kind-now None s at = refl

header-now : (s : List ℕ) → header_under limits_now s ≡ header_at s
unfolding header_under header_at
header-now s = onward-same (within_at s 0 0 (number_of Coulomb)) (λ n next. of_kind_under limits_now s next (kind_of n)) (λ n next. of_kind s next (kind_of n)) (λ n next. kind-now (kind_of n) s next)

pub term-now : (s : List ℕ) (at : ℕ) (k : Kind) (l : ℕ) → term_under limits_now s at k l ≡ term_at s at k l
unfolding term_under term_at
term-now s at k l = refl

terms-now : (left : ℕ) (s : List ℕ) (at : ℕ) (k : Kind) (l : ℕ) → terms_under limits_now s at left k l ≡ terms_at s at left k l
unfolding terms_under terms_at
terms-now zero s at k l = refl
terms-now (suc left) s at k l =
    ap (λ (x : Reading Term). and_then x (λ t next. before (t ∷ []) (terms_under limits_now s next left k l))) (term-now s at k l)
    ∙ and_then-same (term_at s at k l) (λ t next. before (t ∷ []) (terms_under limits_now s next left k l)) (λ t next. before (t ∷ []) (terms_at s next left k l))
    (λ t next. ap (before (t ∷ [])) (terms-now left s next k l))

abbrev beside : Header → Reading (List Term) → Reading Roll
beside h x = and_then x (λ ts end. got (record { kind = h.kind; orders = h.orders; terms = ts }) end)

pub roll-now : (s : List ℕ) → roll_under limits_now s ≡ roll_at s
unfolding roll_under roll_at
roll-now s =
    ap (λ (x : Reading Header). and_then x (λ h next. beside h (terms_under limits_now s next h.terms h.kind (total h.orders)))) (header-now s)
    ∙ and_then-same (header_at s) (λ h next. beside h (terms_under limits_now s next h.terms h.kind (total h.orders))) (λ h next. beside h (terms_at s next h.terms h.kind (total h.orders)))
    (λ h next. ap (beside h) (terms-now h.terms s next h.kind (total h.orders)))

pub open-now : (s : List ℕ) → open_under limits_now s ≡ open_of s
unfolding open_under open_of
open-now s = ap held_header (header-now s)

checked-now : (s : List ℕ) (x : Reading Header) → checked_under limits_now s x ≡ checked s x
checked-now s (got h next) = ap (judged (held_header (got h next))) (terms-now h.terms s next h.kind (total h.orders))
checked-now s (refused r place) = refl

pub check-now : (s : List ℕ) → check_under limits_now s ≡ check_of s
unfolding check_under check_of
check-now s = ap (checked_under limits_now s) (header-now s) ∙ checked-now s (header_at s)

most-now : (k : Kind) → most_l_under limits_now k ≡ most_l k
most-now Overlap = refl
most-now Kinetic = refl
most-now Nuclear = refl
most-now Moment = refl
most-now Coulomb = refl

step-now : (n : Option Kind) (c : Cursor) (s : List ℕ) → step_as_under limits_now n c s ≡ step_as n c s
step-now (Some k) c s = rw (most-now k, term-now s c.place k c.l)
step-now None c s = refl

pub next-now : (c : Cursor) (s : List ℕ) → next_under limits_now c s ≡ step_of c s
unfolding next_under step_of
next-now c s = step-now (kind_of c.kind) c s

pub one-reading : OneReading
one-reading = record { rolls = roll-now; opens = open-now; checks = check-now; steps = next-now }

-- ---- an answer that stays under higher limits, or is 7

pub data Stays {A : Type 0} (seven : ℕ → A) (low high : A) : Type 0 where
  same : low ≡ high → Stays seven low high
  seven_at : (place : ℕ) → low ≡ seven place → Stays seven low high

pub stays-made : {A B : Type 0} (f : A → B) (seven : ℕ → A) (then : ℕ → B) (x y : A) → ((p : ℕ) → f (seven p) ≡ then p) → Stays seven x y → Stays then (f x) (f y)
stays-made f seven then x y is (same e) = same (ap f e)
stays-made f seven then x y is (seven_at p e) = seven_at p (ap f e ∙ is p)

-- a number with one upper limit and a higher one
limited-stays : (n next at low high more : ℕ) → high ≤ more → Stays (field.Refused BadRoll) (opened (number.Is n next) at low high) (opened (number.Is n next) at low more)
limited-stays n next at low high more less = tested (ltb high n) (λ t. seven_at (wrong_place at next) (beyond (ltb n low) t)) (λ f. same (within f))
  where
    beyond : (b : Bool) → ltb high n ≡ true → cond (b || ltb high n) (field.Refused BadRoll (wrong_place at next)) (field.Is n next) ≡ field.Refused BadRoll (wrong_place at next)
    beyond true t = refl
    beyond false t = rw t

    within : ltb high n ≡ false → opened (number.Is n next) at low high ≡ opened (number.Is n next) at low more
    within f = rw (f, le-ltb more n (omega (arith, less, ltb-false high n f)))

opened-stays : (q : Number) (at low high more : ℕ) → high ≤ more → Stays (field.Refused BadRoll) (opened q at low high) (opened q at low more)
opened-stays (number.Is n next) at low high more less = limited-stays n next at low high more less
opened-stays (Err why) at low high more less = same refl

field-stays : (s : List ℕ) (at low high more : ℕ) → high ≤ more → Stays (field.Refused BadRoll) (within_at s at low high) (within_at s at low more)
unfolding within_at
field-stays s at low high more less = opened-stays (read_at s at) at low high more less

onward-stays : {A : Type 0} (x y : Field) (f g : ℕ → ℕ → Reading A) → Stays (field.Refused BadRoll) x y → ((n next : ℕ) → Stays (refused BadRoll) (f n next) (g n next)) → Stays (refused BadRoll) (onward x f) (onward y g)
onward-stays x y f g (same e) rest = rw (← e) (by x)
  where
    by : (x : Field) → Stays (refused BadRoll) (onward x f) (onward x g)
    by (field.Is n next) = rest n next
    by (Err why) = same refl
onward-stays x y f g (seven_at p e) rest = seven_at p (ap (λ (x : Field). onward x f) e)

and_then-stays : {A B : Type 0} (x y : Reading A) (f g : A → ℕ → Reading B) → Stays (refused BadRoll) x y → ((a : A) (next : ℕ) → Stays (refused BadRoll) (f a next) (g a next)) → Stays (refused BadRoll) (and_then x f) (and_then y g)
and_then-stays {A = A} x y f g (same e) rest = rw (← e) (by x)
  where
    by : (x : Reading A) → Stays (refused BadRoll) (and_then x f) (and_then x g)
    by (got a next) = rest a next
    by (refused r place) = same refl
and_then-stays {A = A} x y f g (seven_at p e) rest = seven_at p (ap (λ (x : Reading A). and_then x f) e)

before-stays : {A : Type 0} (xs : List A) (x y : Reading (List A)) → Stays (refused BadRoll) x y → Stays (refused BadRoll) (before xs x) (before xs y)
before-stays xs x y e = stays-made (before xs) (refused BadRoll) (refused BadRoll) x y (λ p. refl) e

-- ---- a reader with lower limits and one with higher ones

pub record Raised (m h : ReaderLimits) : Type 0 where
  pub order : m.order ≤ h.order
  pub terms : m.terms ≤ h.terms
  pub scale : m.scale ≤ h.scale

module _ (m h : ReaderLimits) (up : Raised m h) where
  orders-stay : (n i sum : ℕ) (s : List ℕ) (at : ℕ) → Stays (refused BadRoll) (orders_under m s at n i sum) (orders_under h s at n i sum)
  unfolding orders_under
  orders-stay zero i sum s at = same refl
  orders-stay (suc n) i sum s at =
      onward-stays (within_at s at 0 (m.order - sum)) (within_at s at 0 (h.order - sum))
      (λ o next. before (o ∷ []) (orders_under m s next n (i + 1) (sum_after i sum o))) (λ o next. before (o ∷ []) (orders_under h s next n (i + 1) (sum_after i sum o)))
      (field-stays s at 0 (m.order - sum) (h.order - sum) (omega (arith, up.order)))
      (λ o next. before-stays (o ∷ []) (orders_under m s next n (i + 1) (sum_after i sum o)) (orders_under h s next n (i + 1) (sum_after i sum o)) (orders-stay n (i + 1) (sum_after i sum o) s next))

  counted-stays : (s : List ℕ) (at : ℕ) (k : Kind) (orders : List ℕ) → Stays (refused BadRoll) (counted_under m s at k orders) (counted_under h s at k orders)
  unfolding counted_under
  counted-stays s at k orders =
      let made : ℕ → ℕ → Reading Header = λ count next. got (record { kind = k; orders = orders; terms = count }) next in
      onward-stays (within_at s at 1 m.terms) (within_at s at 1 h.terms) made made (field-stays s at 1 m.terms h.terms up.terms) (λ count next. same refl)

  kind-stays : (n : Option Kind) (s : List ℕ) (at : ℕ) → Stays (refused BadRoll) (of_kind_under m s at n) (of_kind_under h s at n)
  kind-stays (Some k) s at =
      and_then-stays (orders_under m s at (orders_of k) 0 0) (orders_under h s at (orders_of k) 0 0) (λ orders next. counted_under m s next k orders) (λ orders next. counted_under h s next k orders)
      (orders-stay (orders_of k) 0 0 s at) (λ orders next. counted-stays s next k orders)
  kind-stays None s at = same refl

  header-stays : (s : List ℕ) → Stays (refused BadRoll) (header_under m s) (header_under h s)
  unfolding header_under
  header-stays s =
      onward-stays (within_at s 0 0 (number_of Coulomb)) (within_at s 0 0 (number_of Coulomb)) (λ n next. of_kind_under m s next (kind_of n)) (λ n next. of_kind_under h s next (kind_of n))
      (same refl) (λ n next. kind-stays (kind_of n) s next)

  term-stays : (s : List ℕ) (at : ℕ) (k : Kind) (l : ℕ) → Stays (refused BadRoll) (term_under m s at k l) (term_under h s at k l)
  unfolding term_under
  term-stays s at k l =
      onward-stays (within_at s at 1 m.scale) (within_at s at 1 h.scale) (λ scale next. boys_at s next k l scale) (λ scale next. boys_at s next k l scale)
      (field-stays s at 1 m.scale h.scale up.scale) (λ scale next. same refl)

  terms-stay : (left : ℕ) (s : List ℕ) (at : ℕ) (k : Kind) (l : ℕ) → Stays (refused BadRoll) (terms_under m s at left k l) (terms_under h s at left k l)
  unfolding terms_under
  terms-stay zero s at k l = same refl
  terms-stay (suc left) s at k l =
      and_then-stays (term_under m s at k l) (term_under h s at k l) (λ t next. before (t ∷ []) (terms_under m s next left k l)) (λ t next. before (t ∷ []) (terms_under h s next left k l))
      (term-stays s at k l) (λ t next. before-stays (t ∷ []) (terms_under m s next left k l) (terms_under h s next left k l) (terms-stay left s next k l))

  pub roll-stays : (s : List ℕ) → Stays (refused BadRoll) (roll_under m s) (roll_under h s)
  unfolding roll_under
  roll-stays s =
      and_then-stays (header_under m s) (header_under h s) (λ d next. beside d (terms_under m s next d.terms d.kind (total d.orders))) (λ d next. beside d (terms_under h s next d.terms d.kind (total d.orders)))
      (header-stays s)
      (λ d next. stays-made (beside d) (refused BadRoll) (refused BadRoll) (terms_under m s next d.terms d.kind (total d.orders)) (terms_under h s next d.terms d.kind (total d.orders)) (λ p. refl)
      (terms-stay d.terms s next d.kind (total d.orders)))

  pub open_stays : (s : List ℕ) → Stays (refused_opened BadRoll) (open_under m s) (open_under h s)
  unfolding open_under
  open_stays s = stays-made held_header (refused BadRoll) (refused_opened BadRoll) (header_under m s) (header_under h s) (λ p. refl) (header-stays s)

  checked-stays : (s : List ℕ) (x y : Reading Header) → Stays (refused BadRoll) x y → Stays (refused_opened BadRoll) (checked_under m s x) (checked_under h s y)
  checked-stays s x y (same e) = rw (← e) (by x)
    where
      by : (x : Reading Header) → Stays (refused_opened BadRoll) (checked_under m s x) (checked_under h s x)
      by (got d next) =
          stays-made (judged (held_header (got d next))) (refused BadRoll) (refused_opened BadRoll) (terms_under m s next d.terms d.kind (total d.orders)) (terms_under h s next d.terms d.kind (total d.orders)) (λ p. refl)
          (terms-stay d.terms s next d.kind (total d.orders))
      by (refused r place) = same refl
  checked-stays s x y (seven_at p e) = seven_at p (ap (checked_under m s) e)

  pub check-stays : (s : List ℕ) → Stays (refused_opened BadRoll) (check_under m s) (check_under h s)
  unfolding check_under
  check-stays s = checked-stays s (header_under m s) (header_under h s) (header-stays s)

  most-raised : (k : Kind) → most_l_under m k ≤ most_l_under h k
  most-raised Overlap = omega (arith, up.order)
  most-raised Kinetic = omega (arith, up.order)
  most-raised Nuclear = omega (arith, up.order)
  most-raised Moment = omega (arith, up.order)
  most-raised Coulomb = omega (arith, up.order)

  step_stays : (k : Kind) (c : Cursor) (s : List ℕ) → Stays (refused_step BadRoll) (step_under m k c s) (step_under h k c s)
  step_stays k c s = by (eqb c.left 0)
    where
      by : (b : Bool) → Stays (refused_step BadRoll) (cond b (end_or s c.place) (stepped c (term_under m s c.place k c.l))) (cond b (end_or s c.place) (stepped c (term_under h s c.place k c.l)))
      by true = same refl
      by false = stays-made (stepped c) (refused BadRoll) (refused_step BadRoll) (term_under m s c.place k c.l) (term_under h s c.place k c.l) (λ p. refl) (term-stays s c.place k c.l)

  named-stays : (n : Option Kind) (c : Cursor) (s : List ℕ) → Stays (refused_step BadRoll) (step_as_under m n c s) (step_as_under h n c s)
  named-stays (Some k) c s = tested (ltb (most_l_under m k) c.l) beyond within
    where
      beyond : ltb (most_l_under m k) c.l ≡ true → Stays (refused_step BadRoll) (step_as_under m (Some k) c s) (step_as_under h (Some k) c s)
      beyond t = seven_at c.place (rw t)

      by : (b : Bool) → Stays (refused_step BadRoll) (cond b (refused_step BadRoll c.place) (step_under m k c s)) (cond b (refused_step BadRoll c.place) (step_under h k c s))
      by true = same refl
      by false = step_stays k c s

      within : ltb (most_l_under m k) c.l ≡ false → Stays (refused_step BadRoll) (step_as_under m (Some k) c s) (step_as_under h (Some k) c s)
      within f = rw (f, le-ltb (most_l_under h k) c.l (omega (arith, most-raised k, ltb-false (most_l_under m k) c.l f))) (by (ltb (length s) c.place))
  named-stays None c s = same refl

  pub next-stays : (c : Cursor) (s : List ℕ) → Stays (refused_step BadRoll) (next_under m c s) (next_under h c s)
  unfolding next_under
  next-stays c s = named-stays (kind_of c.kind) c s
