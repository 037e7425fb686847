-- What falls, taken from a word, is what falls in the list of its orders.
use Prim.Native.Nat.{ℕ, zero, suc, ◌+◌, ◌-◌, ◌/◌, ◌%◌, ◌^◌, ◌≤◌, ◌<◌}
use mathlib.Core.Path.{◌≡◌, refl, ap, ap₂, ◌∙◌}
use mathlib.Core.Logic.{◌≢◌}
use mathlib.Core.List.{List, ◌∷◌}
use native.Mathlib.Omega.{arith}
use native.Mathlib.Nat.{pow-suc}
use lib.ListN.{get_or, set}
use lib.Seq.{get_or-set_same, get_or-set_other}
use Rattle.kind.specs.Limits.{request_orders}
use Rattle.steps.specs.declared.CentreName.{CentreName}
use Rattle.steps.specs.declared.Axis.{Axis}
use Rattle.steps.specs.Choice.{order_place, order_of, operator}
use Rattle.steps.specs.Steps.{Falls, a, a-twice, a-and-b, a-and-c, a-and-d, a-and-o, nothing, times, lowered, less, partner, other-c, other-d}
use Rattle.laws.specs.Total.{total}
use Rattle.laws.proofs.Totals.{get_or-inside}
use Rattle.steps.specs.inner.Packed.{nibbles, orders, unit, fall_word}

-- an order of a word is below sixteen
nibble-small : (n i w : ℕ) → get_or (nibbles n w) i 0 < 16
unfolding nibbles
nibble-small zero i w = omega arith
nibble-small (suc n) zero w = omega arith
nibble-small (suc n) (suc i) w = nibble-small n i (w / 16)

pub order_small : (w : ℕ) (c : CentreName) (x : Axis) → order_of (orders w) c x < 16
order_small w c x = nibble-small request_orders (order_place c x) w

pub times-small : (f : Falls) (c : CentreName) (x : Axis) (w : ℕ) → times f c x (orders w) < 16
unfolding times
times-small a c x w = omega arith
times-small a-twice c x w = let h = order_small w c x in omega arith
times-small a-and-b c x w = order_small w (partner c) x
times-small a-and-c c x w = order_small w (other-c c) x
times-small a-and-d c x w = order_small w (other-d c) x
times-small a-and-o c x w = order_small w operator x
times-small nothing c x w = omega arith

-- where an order is left, the word holds it
nibble-held : (n i w : ℕ) → 0 < get_or (nibbles n w) i 0 → 16 ^ i ≤ w
unfolding nibbles
nibble-held zero i w h = absurd (omega arith)
nibble-held (suc n) zero w h = omega arith
nibble-held (suc n) (suc i) w h = let k = nibble-held n i (w / 16) h in let p = pow-suc 16 i in omega arith

nibble-less : (n i w : ℕ) → 0 < get_or (nibbles n w) i 0 → nibbles n (w - 16 ^ i) ≡ set (nibbles n w) i (get_or (nibbles n w) i 0 - 1)
unfolding nibbles
nibble-less zero i w h = absurd (omega arith)
nibble-less (suc n) zero w h = ap₂ ◌∷◌ (omega arith) (ap (nibbles n) (omega arith))
nibble-less (suc n) (suc i) w h =
    let held = nibble-held n i (w / 16) h in
    let p = pow-suc 16 i in
    let first : (w - 16 ^ suc i) % 16 ≡ w % 16 = omega arith in
    let rest : (w - 16 ^ suc i) / 16 ≡ w / 16 - 16 ^ i = omega arith in
    ap₂ ◌∷◌ first (ap (nibbles n) rest ∙ nibble-less n i (w / 16) h)

less-word : (w : ℕ) (c : CentreName) (x : Axis) → 0 < order_of (orders w) c x → orders (w - unit c x) ≡ less (orders w) c x
less-word w c x h = nibble-less request_orders (order_place c x) w h

held_word : (w : ℕ) (c : CentreName) (x : Axis) → 0 < order_of (orders w) c x → unit c x ≤ w
held_word w c x h = nibble-held request_orders (order_place c x) w h

apart-sub : (w m n : ℕ) → w - (m + n) ≡ w - m - n
apart-sub w m n = omega arith

module _ (w : ℕ) (c d : CentreName) (x : Axis) (first : 0 < order_of (orders w) c x) (second : 0 < order_of (less (orders w) c x) d x) where
  after : 0 < order_of (orders (w - unit c x)) d x
  after = rw (less-word w c x first) second

  two-held : unit c x + unit d x ≤ w
  two-held = let h = held_word w c x first in let k = held_word (w - unit c x) d x after in omega arith

  two-less : orders (w - (unit c x + unit d x)) ≡ less (less (orders w) c x) d x
  two-less =
      ap (λ (n : ℕ). orders n) (apart-sub w (unit c x) (unit d x))
      ∙ less-word (w - unit c x) d x after ∙ ap (λ (l : List ℕ). less l d x) (less-word w c x first)

other-second : (w : ℕ) (c d : CentreName) (x : Axis) → order_place d x ≢ order_place c x → 0 < order_of (orders w) d x → 0 < order_of (less (orders w) c x) d x
other-second w c d x ne h = rw (get_or-set_other (orders w) (order_place c x) (order_place d x) (order_of (orders w) c x - 1) 0 ne) h

same_second : (w : ℕ) (c : CentreName) (x : Axis) → 0 < order_of (orders w) c x → 0 < order_of (orders w) c x - 1 → 0 < order_of (less (orders w) c x) c x
same_second w c x h k = rw (get_or-set_same (orders w) (order_place c x) (order_of (orders w) c x - 1) 0 (get_or-inside (orders w) (order_place c x) h)) k

-- the places that fall together lie apart
pub record Apart (c : CentreName) (x : Axis) : Type 0 where
  pub from-partner : order_place (partner c) x ≢ order_place c x
  pub from-c : order_place (other-c c) x ≢ order_place c x
  pub from-d : order_place (other-d c) x ≢ order_place c x

module _ (c : CentreName) (x : Axis) (w : ℕ) (p : Apart c x) (first : 0 < order_of (orders w) c x) where
  pub falls-word : (f : Falls) → (f ≡ a-and-o → order_place operator x ≢ order_place c x) → 0 < times f c x (orders w) → orders (w - fall_word f c x) ≡ lowered f c x (orders w)
  unfolding times lowered fall_word
  falls-word a o h = less-word w c x first
  falls-word a-twice o h = ap (λ (n : ℕ). orders (w - n)) (omega arith) ∙ two-less w c c x first (same_second w c x first h)
  falls-word a-and-b o h = two-less w c (partner c) x first (other-second w c (partner c) x p.from-partner h)
  falls-word a-and-c o h = two-less w c (other-c c) x first (other-second w c (other-c c) x p.from-c h)
  falls-word a-and-d o h = two-less w c (other-d c) x first (other-second w c (other-d c) x p.from-d h)
  falls-word a-and-o o h = two-less w c operator x first (other-second w c operator x (o refl) h)
  falls-word nothing o h = ap (λ (n : ℕ). orders n) (omega arith)

  pub falls-held : (f : Falls) → (f ≡ a-and-o → order_place operator x ≢ order_place c x) → 0 < times f c x (orders w) → fall_word f c x ≤ w
  unfolding times fall_word
  falls-held a o h = held_word w c x first
  falls-held a-twice o h = let k = two-held w c c x first (same_second w c x first h) in omega arith
  falls-held a-and-b o h = two-held w c (partner c) x first (other-second w c (partner c) x p.from-partner h)
  falls-held a-and-c o h = two-held w c (other-c c) x first (other-second w c (other-c c) x p.from-c h)
  falls-held a-and-d o h = two-held w c (other-d c) x first (other-second w c (other-d c) x p.from-d h)
  falls-held a-and-o o h = two-held w c operator x first (other-second w c operator x (o refl) h)
  falls-held nothing o h = omega arith

nibbles-none : (n w : ℕ) → w < 16 ^ n → total (nibbles n w) ≡ 0 → w ≡ 0
unfolding nibbles total
nibbles-none zero w h e = omega arith
nibbles-none (suc n) w h e =
    let p = pow-suc 16 n in
    let k = nibbles-none n (w / 16) (omega arith) (omega arith) in
    omega arith

-- a word of orders that is not 0 has an order left
pub some_left : (w : ℕ) → w < 16 ^ request_orders → (w ≡ 0 → ⊥) → total (orders w) ≡ 0 → ⊥
some_left w h ne e = ne (nibbles-none request_orders w h e)

pub none_left : total (orders 0) ≡ 0
unfolding nibbles total
none_left = refl
