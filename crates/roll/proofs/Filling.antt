-- Arrays that are filled from the front, and readings one after the other: what a reading of several parts has read.
use Prim.Native.Nat.{ℕ, suc, ◌+◌, ◌-◌, ◌<◌}
use mathlib.Core.Path.{◌≡◌, refl, sym, ap, ◌∙◌}
use mathlib.Core.List.{List, [], ◌∷◌, ◌++◌, append_assoc}
use native.Mathlib.Numerals.{add-one}
use native.Mathlib.Omega.{arith}
use lib.ListN.{length, set, take, replicate, length-set, length-replicate}
use lib.Seq.{take-suc-set, set_at, append_snoc, length-take-le}
use Rattle.laws.proofs.Cases.{clash}
use Rattle.roll.specs.Field.{Field}
use Rattle.roll.specs.Field as field
use Rattle.roll.specs.Reading.{Reading, got, refused, onward, and_then, before}
use Rattle.std.specs.Prelude.{Err}

-- ---- an array filled from the front

pub record Filled (n : ℕ) (values : List ℕ) (i : ℕ) : Type 0 where
  pub long : length values ≡ n
  pub zeros : values ≡ take i values ++ replicate (n - i) 0

pub filled_none : (n : ℕ) → Filled n (replicate n 0) 0
filled_none n = let all : n - 0 ≡ n = omega arith in record { long = length-replicate n 0; zeros = rw all }

pub taken_more : (n : ℕ) (values : List ℕ) (i p : ℕ) → Filled n values i → i < n → take (i + 1) (set values i p) ≡ take i values ++ (p ∷ [])
taken_more n values i p f inside = let within : i < length values = omega (arith, f.long) in rw (add-one i) (take-suc-set values i p within)

pub filled_more : (n : ℕ) (values : List ℕ) (i p : ℕ) → Filled n values i → i < n → Filled n (set values i p) (i + 1)
filled_more n values i p f inside =
    let fewer : n - i ≡ suc (n - (i + 1)) = omega arith in
    let front : length (take i values) ≡ i = length-take-le i values (omega (arith, f.long)) in
    let zeros : values ≡ take i values ++ 0 ∷ replicate (n - (i + 1)) 0 = f.zeros ∙ ap (λ (k : ℕ). take i values ++ replicate k 0) fewer in
    record {
      long = length-set values i p ∙ f.long;
      zeros =
          ap (λ (l : List ℕ). set l i p) zeros
          ∙ set_at (take i values) 0 (replicate (n - (i + 1)) 0) p i front
          ∙ sym (append_snoc (take i values) p (replicate (n - (i + 1)) 0))
          ∙ sym (ap (λ (l : List ℕ). l ++ replicate (n - (i + 1)) 0) (taken_more n values i p f inside));
    }

-- ---- lists that are read piece by piece

pub before-none : {A : Type 0} (r : Reading (List A)) → before [] r ≡ r
before-none (got ys next) = refl
before-none (refused r place) = refl

pub before_more : {A : Type 0} (xs : List A) (x : A) (r : Reading (List A)) → before xs (before (x ∷ []) r) ≡ before (xs ++ (x ∷ [])) r
before_more {A = A} xs x (got ys next) = ap (λ (l : List A). got l next) (sym (append_assoc xs (x ∷ []) ys))
before_more xs x (refused r place) = refl

-- ---- what was read, part by part

pub before-is : {A : Type 0} (x : A) (r : Reading (List A)) (ys : List A) (next : ℕ) → before (x ∷ []) r ≡ got ys next → (zs : List A) × (r ≡ got zs next) × (ys ≡ x ∷ zs)
before-is x (got zs n) ys next e = (zs, cc, cc)
before-is x (refused r place) ys next e = absurd (clash (cc))

pub onward-is : {A : Type 0} (x : Field) (f : ℕ → ℕ → Reading A) (a : A) (end : ℕ) → onward x f ≡ got a end → (n : ℕ) × (next : ℕ) × (x ≡ field.Is n next) × (f n next ≡ got a end)
onward-is (field.Is n next) f a end e = (n, next, refl, e)
onward-is (Err why) f a end e = absurd (clash (cc))

pub and_then-is : {A B : Type 0} (x : Reading A) (f : A → ℕ → Reading B) (b : B) (end : ℕ) → and_then x f ≡ got b end → (a : A) × (next : ℕ) × (x ≡ got a next) × (f a next ≡ got b end)
and_then-is (got a next) f b end e = (a, next, refl, e)
and_then-is (refused r place) f b end e = absurd (clash (cc))
