-- Orders packed in a word: what stands at a place.
use Prim.Native.Nat.{ℕ, zero, suc, ◌*◌, ◌/◌, ◌%◌, ◌^◌, ◌<◌}
use mathlib.Core.Path.{◌≡◌, refl, sym, ap, ◌∙◌}
use native.Mathlib.Nat.{div-one, div-div-eq-div-mul, pow-suc, mul_comm, mul-suc}
use native.Mathlib.Omega.{arith}
use lib.ListN.{length, get_or}
use lib.Pow.{pow-add}
use Rattle.kind.specs.Limits.{request_orders}
use Rattle.steps.specs.declared.CentreName.{CentreName}
use Rattle.steps.specs.declared.CentreName.TheVariants.{A, B, C, D}
use Rattle.steps.specs.declared.Axis.{Axis}
use Rattle.steps.specs.declared.Axis.TheVariants.{X, Y, Z}
use Rattle.steps.specs.Choice.{order_place, order_of}
use Rattle.steps.specs.inner.Packed.{nibbles, orders}

pub length-nibbles : (n w : ℕ) → length (nibbles n w) ≡ n
unfolding nibbles
length-nibbles zero w = refl
length-nibbles (suc n) w = ap suc (length-nibbles n (w / 16))

-- what stands at a place
pub nibble-at : (n i w : ℕ) → i < n → get_or (nibbles n w) i 0 ≡ w / 16 ^ i % 16
unfolding nibbles
nibble-at (suc n) zero w h = ap (λ (k : ℕ). k % 16) (sym (div-one w))
nibble-at zero i w h = elim h [ ]
nibble-at (suc n) (suc i) w h =
    nibble-at n i (w / 16) (omega arith)
    ∙ ap (λ (k : ℕ). k % 16) (div-div-eq-div-mul w 16 (16 ^ i) ∙ ap (λ (k : ℕ). w / k) (mul_comm 16 (16 ^ i) ∙ sym (pow-suc 16 i)))

order-place-below : (c : CentreName) (x : Axis) → order_place c x < request_orders
order-place-below A X = omega arith
order-place-below A Y = omega arith
order-place-below A Z = omega arith
order-place-below B X = omega arith
order-place-below B Y = omega arith
order-place-below B Z = omega arith
order-place-below C X = omega arith
order-place-below C Y = omega arith
order-place-below C Z = omega arith
order-place-below D X = omega arith
order-place-below D Y = omega arith
order-place-below D Z = omega arith

-- four bits an order
pub sixteen-pow : (n : ℕ) → 2 ^ (4 * n) ≡ 16 ^ n
sixteen-pow zero = refl
sixteen-pow (suc n) = ap (λ (k : ℕ). 2 ^ k) (mul-suc 4 n) ∙ pow-add 2 (4 * n) 4 ∙ ap (λ (k : ℕ). k * 16) (sixteen-pow n) ∙ sym (pow-suc 16 n)

pub order-shifted : (w k : ℕ) (c : CentreName) (x : Axis) → k ≡ 4 * order_place c x → w / 2 ^ k % 16 ≡ order_of (orders w) c x
order-shifted w k c x e =
    ap (λ (m : ℕ). w / m % 16) (ap (λ (m : ℕ). 2 ^ m) e ∙ sixteen-pow (order_place c x))
    ∙ sym (nibble-at request_orders (order_place c x) w (order-place-below c x))
