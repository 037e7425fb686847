-- A request's orders: their sums, those unused, and the word that holds them.
use Prim.Native.Nat.{ℕ, suc, ◌+◌, ◌*◌, ◌-◌, ◌/◌, ◌%◌, ◌^◌, ◌≤◌, ◌<◌}
use mathlib.Core.Path.{◌≡◌, sym, ap, ap₂, subst, ◌∙◌}
use mathlib.Core.Logic.{◌⊎◌, inl, inr}
use mathlib.Core.Bool.{Bool}
use mathlib.Core.List.{List, ◌∷◌}
use native.Mathlib.Omega.{arith}
use native.Mathlib.Nat.{pow-suc, pow-le-pow_right}
use lib.Dec.{ltb}
use lib.ListN.{length, get_or, drop, drop_of_length-le}
use lib.Seq.{drop-cons}
use Rattle.kind.specs.declared.Kind.{Kind}
use Rattle.kind.specs.declared.Kind.TheVariants.{Overlap, Kinetic, Nuclear, Moment, Coulomb}
use Rattle.kind.specs.Kinds.{orders_of}
use Rattle.kind.specs.Limits.{most_order, request_orders}
use Rattle.steps.specs.declared.CentreName.{CentreName}
use Rattle.steps.specs.Choice.{sum_of}
use Rattle.laws.specs.Total.{total}
use Rattle.laws.proofs.Totals.{total-three}
use Rattle.steps.specs.inner.Packed.{nibbles}
use Rattle.expansion.specs.Expanding.{◌exceeds◌, too_high, unused_set}
use Rattle.expansion.specs.inner.Requests.{PackMay, Packed}

pub sum-at : (orders : List ℕ) (c d : CentreName) (v : ℕ) → c ≡ d → v ≡ sum_of orders d → v ≡ sum_of orders c
sum-at orders c d v e h = h ∙ ap (sum_of orders) (sym e)

pub sum-exceeds : (orders : List ℕ) (c : CentreName) (v : ℕ) → v ≡ sum_of orders c → ltb most_order v ≡ (sum_of orders c exceeds most_order)
sum-exceeds orders c v e = ap (ltb most_order) e

pub high-at : (k j : Kind) (orders : List ℕ) (r : Bool) → k ≡ j → r ≡ too_high j orders → r ≡ too_high k orders
high-at k j orders r e h = h ∙ ap (λ (i : Kind). too_high i orders) (sym e)

module _ (orders : List ℕ) (in-full : length orders ≡ request_orders) where
  pub none_after : total (drop request_orders orders) ≡ 0
  unfolding total
  none_after = ap total (drop_of_length-le orders {i = request_orders} (omega arith))

  pub last-three : (v : ℕ) → v ≡ get_or orders 9 0 + get_or orders (9 + 1) 0 + get_or orders (9 + 2) 0 → v ≡ total (drop 9 orders)
  last-three v e = let h = total-three orders 9 in let n = none_after in omega arith

  pub last-six : (u v : ℕ) → u ≡ get_or orders 6 0 + get_or orders (6 + 1) 0 + get_or orders (6 + 2) 0 → v ≡ get_or orders 9 0 + get_or orders (9 + 1) 0 + get_or orders (9 + 2) 0 → u + v ≡ total (drop 6 orders)
  last-six u v e f = let g = total-three orders 6 in let h = total-three orders 9 in let n = none_after in omega arith

  module _ (k : Kind) where
    pub unused-of-two : (u v : ℕ) → (k ≡ Overlap) ⊎ ((k ≡ Kinetic) ⊎ (k ≡ Nuclear))
        → u ≡ get_or orders 6 0 + get_or orders (6 + 1) 0 + get_or orders (6 + 2) 0 → v ≡ get_or orders 9 0 + get_or orders (9 + 1) 0 + get_or orders (9 + 2) 0 → u + v ≡ total (drop (orders_of k) orders)
    unused-of-two u v (inl i) e f = rw i (last-six u v e f)
    unused-of-two u v (inr (inl i)) e f = rw i (last-six u v e f)
    unused-of-two u v (inr (inr i)) e f = rw i (last-six u v e f)

    pub unused-moment : (v : ℕ) → k ≡ Moment → v ≡ get_or orders 9 0 + get_or orders (9 + 1) 0 + get_or orders (9 + 2) 0 → v ≡ total (drop (orders_of k) orders)
    unused-moment v i e = rw i (last-three v e)

    pub unused-coulomb : k ≡ Coulomb → 0 ≡ total (drop (orders_of k) orders)
    unused-coulomb i = rw i (sym none_after)

  pub packed_none : Packed orders request_orders 0
  unfolding nibbles
  packed_none = record { within = omega arith; holds = sym (drop_of_length-le orders {i = request_orders} (omega arith)); below = omega arith }

pub set_at : (k : Kind) (orders : List ℕ) (v : ℕ) → v ≡ total (drop (orders_of k) orders) → ltb 0 v ≡ unused_set k orders
set_at k orders v e = ap (ltb 0) e

module _ (orders : List ℕ) (small : PackMay orders) (in-full : length orders ≡ request_orders) (i word : ℕ) (packed : Packed orders i word) (some : 0 < i) where
  left_over : 16 ^ (request_orders - (i - 1)) ≡ 16 ^ (request_orders - i) * 16
  left_over = ap (λ (n : ℕ). 16 ^ n) (let h = packed.within in the-next) ∙ pow-suc 16 (request_orders - i)
    where
      the-next : request_orders - (i - 1) ≡ suc (request_orders - i)
      the-next = let h = packed.within in omega arith

  most-word : word < 16 ^ 11
  most-word = let h = packed.below in let l = pow-le-pow_right {n = 16} (omega arith) {i = request_orders - i} {j = 11} (omega arith) in omega arith

  pub packed-mul : word * 16 < 2 ^ 64
  packed-mul = let h = most-word in omega arith

  module _ (v : ℕ) (is : v ≡ get_or orders (i - 1) 0) where
    pub packed-add : word * 16 + v < 2 ^ 64
    packed-add = let h = most-word in let k = small.small (i - 1) in omega arith

    pub packed_more : Packed orders (i - 1) (word * 16 + v)
    unfolding nibbles
    packed_more =
        record {
          within = let h = packed.within in omega arith;
          holds = ap (λ (n : ℕ). nibbles n (word * 16 + v)) next ∙ ap₂ ◌∷◌ low (ap (nibbles (request_orders - i)) high) ∙ ap₂ ◌∷◌ is packed.holds ∙ sym there;
          below = let h = packed.below in let k = small.small (i - 1) in let l = left_over in omega arith;
        }
      where
        next : request_orders - (i - 1) ≡ suc (request_orders - i)
        next = let h = packed.within in omega arith

        low : (word * 16 + v) % 16 ≡ v
        low = let k = small.small (i - 1) in omega arith

        high : (word * 16 + v) / 16 ≡ word
        high = let k = small.small (i - 1) in omega arith

        there : drop (i - 1) orders ≡ get_or orders (i - 1) 0 ∷ drop i orders
        there = drop-cons orders (i - 1) 0 (let h = packed.within in omega arith) ∙ ap (λ (n : ℕ). get_or orders (i - 1) 0 ∷ drop n orders) back
          where
            back : suc (i - 1) ≡ i
            back = omega arith

pub packed-last : (orders : List ℕ) (i word : ℕ) → Packed orders i word → i ≤ 0 → Packed orders 0 word
packed-last orders i word p h = subst (λ (n : ℕ). Packed orders n word) none p
  where
    none : i ≡ 0
    none = omega arith
