-- The list as it is run along is the kind's own, and what a request can ask of it fits a word: numbers grow along the list, and the product of three is at most the number of their sum.
use Prim.Native.Nat.{ℕ, zero, suc, ◌+◌, ◌*◌, ◌-◌, ◌^◌, ◌≤◌, ◌<◌}
use mathlib.Core.Path.{◌≡◌, refl, sym, ap, ap₂, ◌∙◌}
use mathlib.Core.Bool.{true}
use mathlib.Core.List.{List}
use native.Mathlib.Omega.{arith}
use native.Mathlib.Nat.{mul-le-mul, mul-le-mul_left}
use mir.Syntax.{w64}
use mir.Val.{Fits}
use Rattle.laws.proofs.Cases.{clash}
use Rattle.kind.specs.declared.Kind.{Kind}
use Rattle.kind.specs.declared.Kind.TheVariants.{Overlap, Kinetic, Nuclear, Moment, Coulomb}
use Rattle.steps.specs.declared.Axis.{Axis}
use Rattle.steps.specs.declared.Axis.TheVariants.{X, Y, Z}
use Rattle.expansion.specs.inner.Requests.{RequestWithin}
use Rattle.expansion.proofs.HeaderLaws.{all-sums}
use Rattle.totals.specs.Totals.{claimed, plain_list, nuclear_list, listed, along, scale_total}
use Rattle.totals.specs.inner.Running.{often_of, running, RunMay, most_sum, ListedMay, ProductMay}
use Rattle.totals.proofs.Growing.{Grows, next-two, plain-grows, nuclear-grows}

-- ---- one list

running-next : (m n : ℕ) → running m (suc (suc n)) ≡ m * running m (suc n) + m * suc n * running m n
unfolding running
running-next m n = refl

running-starts : (m : ℕ) → (running m 0 ≡ 1) × (running m 1 ≡ m)
unfolding running
running-starts m = (refl, refl)

running-grows : (m : ℕ) → Grows m (running m)
running-grows m = record { first = (running-starts m).0; next = on }
  where
    on : (n : ℕ) → running m (suc n) ≡ m * (running m n + n * running m (n - 1))
    on zero = (running-starts m).1 ∙ rw (running-starts m).0 (omega arith)
    on (suc n) = let q : suc n - 1 ≡ n = omega arith in running-next m n ∙ rw q (omega arith)

-- two lists that go on alike are one
same_lists : (m : ℕ) (f g : ℕ → ℕ) → Grows m f → Grows m g → (n : ℕ) → (f n ≡ g n) × (f (suc n) ≡ g (suc n))
same_lists m f g p q zero = (first, p.next 0 ∙ ap (λ (v : ℕ). m * (v + 0 * v)) first ∙ sym (q.next 0))
  where
    first : f 0 ≡ g 0
    first = p.first ∙ sym q.first
same_lists m f g p q (suc n) = let h = same_lists m f g p q n in (h.1, next-two m f p n ∙ ap₂ (λ (u v : ℕ). m * (u + suc n * v)) h.1 h.0 ∙ sym (next-two m g q n))

pub run-is-listed : (k : Kind) (p : ℕ) → claimed k ≡ true → running (often_of k) p ≡ listed k p
run-is-listed Overlap p e = (same_lists 1 (running 1) plain_list (running-grows 1) plain-grows p).0
run-is-listed Kinetic p e = absurd (clash (cc))
run-is-listed Nuclear p e = (same_lists 2 (running 2) nuclear_list (running-grows 2) nuclear-grows p).0
run-is-listed Moment p e = (same_lists 1 (running 1) plain_list (running-grows 1) plain-grows p).0
run-is-listed Coulomb p e = absurd (clash (cc))

-- ---- how large a number is

module _ (m : ℕ) (f : ℕ → ℕ) (grows : Grows m f) (some : 1 ≤ m) where
  up : (n : ℕ) → f n ≤ f (suc n)
  up n =
      let h = grows.next n in
      let l : 1 * (f n + n * f (n - 1)) ≤ m * (f n + n * f (n - 1)) = mul-le-mul some (omega arith) in
      omega arith

  up_to : (n d : ℕ) → f n ≤ f (n + d)
  up_to n zero = let e : f (n + 0) ≡ f n = ap f (omega arith) in omega arith
  up_to n (suc d) = let h = up_to n d in let l = up (n + d) in let e : f (n + suc d) ≡ f (suc (n + d)) = ap f (omega arith) in omega arith

  pub at_most : (n p : ℕ) → n ≤ p → f n ≤ f p
  at_most n p h = let l = up_to n (p - n) in let e : f (n + (p - n)) ≡ f p = ap f (omega arith) in omega arith

  pub positive : (n : ℕ) → 1 ≤ f n
  positive n = let h = at_most 0 n (omega arith) in let e = grows.first in omega arith

  -- the product of two numbers is at most the number of their sum
  products : (a b : ℕ) → (f a * f b ≤ f (a + b)) × (f (suc a) * f b ≤ f (suc (a + b)))
  products zero b = (first, second)
    where
      first : f 0 * f b ≤ f (0 + b)
      first = rw grows.first (let e : f (0 + b) ≡ f b = ap f (omega arith) in omega arith)

      second : f 1 * f b ≤ f (suc (0 + b))
      second =
          let one : f 1 * f b ≡ m * f b = ap (λ (v : ℕ). v * f b) (grows.next 0 ∙ rw grows.first (omega arith)) in
          let e : f (suc (0 + b)) ≡ f (suc b) = ap (λ (v : ℕ). f (suc v)) (omega arith) in
          let g = grows.next b in
          let l : m * f b ≤ m * (f b + b * f (b - 1)) = mul-le-mul_left m (omega arith) in
          omega arith
  products (suc a) b = both (products a b)
    where
      both : (f a * f b ≤ f (a + b)) × (f (suc a) * f b ≤ f (suc (a + b))) → (f (suc a) * f b ≤ f (suc a + b)) × (f (suc (suc a)) * f b ≤ f (suc (suc a + b)))
      both earlier =
          let one : f (suc a + b) ≡ f (suc (a + b)) = ap f (omega arith) in
          let two : f (suc (suc a + b)) ≡ f (suc (suc (a + b))) = ap (λ (v : ℕ). f (suc v)) (omega arith) in
          let e : f (suc (suc a)) * f b ≡ m * (f (suc a) * f b + suc a * (f a * f b)) = ap (λ (v : ℕ). v * f b) (next-two m f grows a) ∙ omega arith in
          let g = next-two m f grows (a + b) in
          let low : suc a * (f a * f b) ≤ suc (a + b) * f (a + b) = mul-le-mul (omega arith) earlier.0 in
          let h = earlier.1 in
          let l : m * (f (suc a) * f b + suc a * (f a * f b)) ≤ m * (f (suc (a + b)) + suc (a + b) * f (a + b)) = mul-le-mul_left m (omega arith) in
          (omega arith, omega arith)

  pub three-at-most : (x y z : ℕ) → f x * f y * f z ≤ f (x + y + z)
  three-at-most x y z =
      let h = (products x y).0 in
      let g = (products (x + y) z).0 in
      let l : f x * f y * f z ≤ f (x + y) * f z = mul-le-mul h (omega arith) in
      omega arith

-- the number after the last that a request can ask for fits a word
most-plain : plain_list (most_sum + 1) < 2 ^ 64
unfolding plain_list
most-plain = omega arith

most-nuclear : nuclear_list (most_sum + 1) < 2 ^ 64
unfolding nuclear_list
most-nuclear = omega arith

-- ---- what a request asks for

often-some : (k : Kind) → claimed k ≡ true → 1 ≤ often_of k
often-some Overlap e = omega arith
often-some Kinetic e = absurd (clash (cc))
often-some Nuclear e = omega arith
often-some Moment e = omega arith
often-some Coulomb e = absurd (clash (cc))

most-listed : (k : Kind) → claimed k ≡ true → listed k (most_sum + 1) < 2 ^ 64
most-listed Overlap e = most-plain
most-listed Kinetic e = absurd (clash (cc))
most-listed Nuclear e = most-nuclear
most-listed Moment e = most-plain
most-listed Coulomb e = absurd (clash (cc))

pub run-may : (k : Kind) (often p : ℕ) → ListedMay k p → often ≡ often_of k → RunMay often p
run-may k often p may e = rw e (record { some = often-some k may.is; fits = fits })
  where
    fits : (n : ℕ) → n ≤ p + 1 → running (often_of k) n < 2 ^ 64
    fits n h =
        let l = at_most (often_of k) (running (often_of k)) (running-grows (often_of k)) (often-some k may.is) n (most_sum + 1) (let s = may.small in omega arith) in
        let m = most-listed k may.is in
        let r = run-is-listed k (most_sum + 1) may.is in
        omega arith

pub run-listed : (k : Kind) (often p r : ℕ) → ListedMay k p → often ≡ often_of k → r ≡ running often p → r ≡ listed k p
run-listed k often p r may e f = f ∙ ap (λ (m : ℕ). running m p) e ∙ run-is-listed k p may.is

-- ---- the loop

pub run-first : (often : ℕ) → (1 ≡ running often 0) × (often ≡ running often 1)
run-first often = (sym (running-starts often).0, sym (running-starts often).1)

module _ (often p n reached after : ℕ) (may : RunMay often p) (less : n < p) (is : reached ≡ running often n) (then : after ≡ running often (n + 1)) where
  pub run-next : often * after + often * (n + 1) * reached ≡ running often (n + 1 + 1)
  run-next =
      let e : running often (n + 1 + 1) ≡ running often (suc (suc n)) = ap (running often) (omega arith) in
      let g = running-next often n in
      let h : often * after ≡ often * running often (suc n) = ap (λ (v : ℕ). often * v) (then ∙ ap (running often) (omega arith)) in
      let l : often * (n + 1) * reached ≡ often * suc n * running often n = ap₂ (λ (u v : ℕ). often * u * v) (omega arith) is in
      omega arith

  fits : often * after + often * (n + 1) * reached < 2 ^ 64
  fits = let h = may.fits (n + 1 + 1) (omega arith) in let e = run-next in omega arith

  pub after-fits : Fits w64 (often * after)
  after-fits = record { fits = let h = fits in omega arith }

  pub count_fits : Fits w64 (often * (n + 1))
  count_fits =
      record { fits = let h = fits in let l : often * (n + 1) * 1 ≤ often * (n + 1) * reached = mul-le-mul_left (often * (n + 1)) (let o = positive often (running often) (running-grows often) may.some n in omega arith) in omega arith }

  pub reached-fits : Fits w64 (often * (n + 1) * reached)
  reached-fits = record { fits = let h = fits in omega arith }

  pub next_fits : Fits w64 (often * after + often * (n + 1) * reached)
  next_fits = record { fits = fits }

pub run-done : (often p n reached : ℕ) → n ≤ p → p ≤ n → reached ≡ running often n → reached ≡ running often p
run-done often p n reached h l e = e ∙ ap (running often) (omega arith)

-- ---- the product

sums-most : (k : Kind) (orders : List ℕ) → RequestWithin k orders → along X orders + along Y orders + along Z orders ≤ most_sum
sums-most k orders within = let s = all-sums k orders within in omega arith

module _ (k : Kind) (orders : List ℕ) (may : ProductMay k orders) where
  pub listed-may-x : (p : ℕ) → p ≡ along X orders → ListedMay k p
  listed-may-x p e = record { is = may.is; small = let s = sums-most k orders may.within in omega arith }

  pub listed-may-y : (p : ℕ) → p ≡ along Y orders → ListedMay k p
  listed-may-y p e = record { is = may.is; small = let s = sums-most k orders may.within in omega arith }

  pub listed-may-z : (p : ℕ) → p ≡ along Z orders → ListedMay k p
  listed-may-z p e = record { is = may.is; small = let s = sums-most k orders may.within in omega arith }

  abbrev the : Axis → ℕ
  the x = running (often_of k) (along x orders)

  three-fit : the X * the Y * the Z < 2 ^ 64
  three-fit =
      let grows = running-grows (often_of k) in
      let some = often-some k may.is in
      let all = three-at-most (often_of k) (running (often_of k)) grows some (along X orders) (along Y orders) (along Z orders) in
      let l = at_most (often_of k) (running (often_of k)) grows some (along X orders + along Y orders + along Z orders) (most_sum + 1) (let s = sums-most k orders may.within in omega arith) in
      let m = most-listed k may.is in
      let r = run-is-listed k (most_sum + 1) may.is in
      omega arith

  one-z : the X * the Y * 1 ≤ the X * the Y * the Z
  one-z = mul-le-mul_left (the X * the Y) (positive (often_of k) (running (often_of k)) (running-grows (often_of k)) (often-some k may.is) (along Z orders))

  listed-is : (x : Axis) (p r : ℕ) → p ≡ along x orders → r ≡ listed k p → r ≡ the x
  listed-is x p r e f = f ∙ ap (listed k) e ∙ sym (run-is-listed k (along x orders) may.is)

  module _ (p q x y : ℕ) (at_x : p ≡ along X orders) (is_x : x ≡ listed k p) (at_y : q ≡ along Y orders) (is_y : y ≡ listed k q) where
    pub two_fits : Fits w64 (x * y)
    two_fits = rw (listed-is X p x at_x is_x, listed-is Y q y at_y is_y) (record { fits = let h = three-fit in let l = one-z in omega arith })

    module _ (o z : ℕ) (at-z : o ≡ along Z orders) (is-z : z ≡ listed k o) where
      pub three-fits : Fits w64 (x * y * z)
      three-fits = rw (listed-is X p x at_x is_x, listed-is Y q y at_y is_y, listed-is Z o z at-z is-z) (record { fits = three-fit })

      pub product_is : x * y * z ≡ scale_total k orders
      unfolding scale_total
      product_is = rw (is_x, is_y, is-z, at_x, at_y, at-z)
