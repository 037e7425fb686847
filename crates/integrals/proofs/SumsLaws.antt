-- The functions of src/sums.rt: a product and a test over the bytes of a roll, and sums over its terms, in list order and by Boys order,
-- go on from where they stand.
use Prim.Native.Nat.{ℕ, zero, suc, ◌+◌, ◌-◌, ◌<◌, ◌≤◌, min}
use mathlib.Core.Path.{◌≡◌, refl, sym, ap, ◌∙◌}
use mathlib.Core.Bool.{Bool, true, false, cond}
use mathlib.Core.List.{List, [], ◌∷◌}
use mathlib.Core.Logic.{◌⊎◌, inl, inr}
use native.Mathlib.Nat.{not-suc-le-zero, le_of_suc-le-suc, min-eq_left}
use native.Mathlib.Numerals.{add-one}
use native.Mathlib.Omega.{arith}
use borrow.Author.Tests.{eq-eqb, ne_eqb, le-leb, lt-leb, leb-true, leb-false}
use lib.Dec.{eqb, leb}
use lib.Ieee.{Float, nan}
use lib.ListN.{length, get_or, drop, length-drop}
use lib.Seq.{drop-cons, take_all}
use Rattle.term.specs.Terms.{Term}
use Rattle.laws.proofs.Counting.{left_one, left-none}
use Rattle.geometry.specs.Floats.{◌⊕◌, ◌⊗◌, zero as 0·0, one}
use Rattle.roll.specs.declared.again.Head.{Head}
use Rattle.roll.specs.inner.Again.{head_at, between, head_term, terms_again}
use Rattle.integrals.specs.Sums.{scale_of, boys_number, product_of, stays_kinetic, g_of, kinetic_g, plain_of, kinetic_of, nuclear_of, coulomb_of, sum_from, of_order, run_orders}
use Rattle.integrals.specs.inner.Stored.{add_order_of, start_of, addend_of, own_order_of}
use Rattle.integrals.specs.declared.sums.Adds.{Adds}
use Rattle.integrals.specs.declared.sums.Adds.TheVariants.{Plain, Kinetic, Nuclear}

-- ---- floats and bytes

pub read-inside : (xs : List Float) (at : ℕ) → at < length xs → get_or xs at nan ≡ get_or xs at 0·0
read-inside [] at h = absurd (not-suc-le-zero h)
read-inside (x ∷ xs) zero h = refl
read-inside (x ∷ xs) (suc at) h = read-inside xs at (le_of_suc-le-suc h)

pub read-outside : (xs : List Float) (at : ℕ) → length xs ≤ at → 0·0 ≡ get_or xs at 0·0
read-outside [] at h = refl
read-outside (x ∷ xs) zero h = absurd (not-suc-le-zero h)
read-outside (x ∷ xs) (suc at) h = read-outside xs at (le_of_suc-le-suc h)

module _ (roll : List ℕ) (at end : ℕ) where
  between_more : at < end → end ≤ length roll → between roll at end ≡ get_or roll at 0 ∷ between roll (at + 1) end
  unfolding between
  between_more h k =
      let inside : at < length roll = omega arith in
      rw (left_one end at h, drop-cons roll at 0, add-one at)

  between_done : end ≤ at → between roll at end ≡ []
  unfolding between
  between_done h = rw (left-none end at h)

  pub product-more : (table : List Float) (b : ℕ) (g f whole : Float) → at < end → end ≤ length roll → b ≡ get_or roll at 0 → f ≡ get_or table b 0·0 → product_of table (between roll at end) g ≡ whole → product_of table (between roll (at + 1) end) (g ⊗ f) ≡ whole
  unfolding product_of
  product-more table b g f whole h k e p q = rw (p, e) (rw (between_more h k) at q)

  pub product-done : (table : List Float) (g whole : Float) → end ≤ at → product_of table (between roll at end) g ≡ whole → g ≡ whole
  unfolding product_of
  product-done table g whole h q = rw (between_done h) at q

  pub kinetic-more : (b : ℕ) (whole : Bool) → at < end → end ≤ length roll → b ≡ get_or roll at 0 → b ≤ 7 → stays_kinetic (between roll at end) ≡ whole → stays_kinetic (between roll (at + 1) end) ≡ whole
  unfolding stays_kinetic
  kinetic-more b whole h k e p q = rw (between_more h k, ← e, le-leb b 7 p) at q

  pub kinetic-not : (b : ℕ) (whole : Bool) → at < end → end ≤ length roll → b ≡ get_or roll at 0 → 7 < b → stays_kinetic (between roll at end) ≡ whole → false ≡ whole
  unfolding stays_kinetic
  kinetic-not b whole h k e p q = rw (between_more h k, ← e, lt-leb b 7 p) at q

  pub kinetic-done : (whole : Bool) → end ≤ at → stays_kinetic (between roll at end) ≡ whole → true ≡ whole
  unfolding stays_kinetic
  kinetic-done whole h q = rw (between_done h) at q

-- ---- sums

-- what one term adds outside Coulomb
module _ (adds : Adds) (table : List Float) (aux : Float) (boys : List Float) (roll : List ℕ) (h : Head) (start g : Float) (e : start ≡ start_of adds (between roll h.from h.end)) (f : g ≡ product_of table (between roll h.from h.end) start) where
  pub adds-plain : (adds ≡ Plain) ⊎ ((kinetic : Float) × (adds ≡ Kinetic kinetic)) → scale_of h.scale ⊗ aux ⊗ g ≡ addend_of adds table aux boys (head_term roll h)
  unfolding addend_of plain_of g_of kinetic_of kinetic_g start_of head_term
  adds-plain (inl p) = rw (f, e, p)
  adds-plain (inr p) = rw (f, e, p.1)

  pub adds-nuclear : (x : Float) → adds ≡ Nuclear → x ≡ boys_number boys h.boys → scale_of h.scale ⊗ aux ⊗ g ⊗ x ≡ addend_of adds table aux boys (head_term roll h)
  unfolding addend_of nuclear_of g_of start_of head_term
  adds-nuclear x p q = rw (f, e, p, q)

-- one term less
one_left : (roll : List ℕ) (at terms done : ℕ) → done < terms → terms_again roll at (terms - done) ≡ head_term roll (head_at roll at) ∷ terms_again roll (head_at roll at).end (terms - (done + 1))
unfolding terms_again
one_left roll at terms done h = let more : terms - done ≡ suc (terms - (done + 1)) = omega arith in ap (λ (n : ℕ). terms_again roll at n) more

none_left : (roll : List ℕ) (at terms done : ℕ) → terms ≤ done → terms_again roll at (terms - done) ≡ []
unfolding terms_again
none_left roll at terms done h = let none : terms - done ≡ 0 = omega arith in rw none

module _ (roll : List ℕ) (at terms done : ℕ) (h : Head) (adds : Adds) (table : List Float) (aux : Float) (boys : List Float) (sum whole : Float) where
  pub sum_more : (v : Float) → done < terms → h ≡ head_at roll at → v ≡ addend_of adds table aux boys (head_term roll h) → sum_from (addend_of adds table aux boys) (terms_again roll at (terms - done)) sum ≡ whole → sum_from (addend_of adds table aux boys) (terms_again roll h.end (terms - (done + 1))) (sum ⊕ v) ≡ whole
  unfolding sum_from
  sum_more v p e f q = rw (f, e) (rw (one_left roll at terms done p) at q)

  pub sum_done : terms ≤ done → sum_from (addend_of adds table aux boys) (terms_again roll at (terms - done)) sum ≡ whole → sum ≡ whole
  unfolding sum_from
  sum_done p q = rw (none_left roll at terms done p) at q

-- Coulomb, Boys order after Boys order
module _ (table : List Float) (s : Float) (boys : List Float) (ts : List Term) (l order : ℕ) (sum whole : Float) where
  pub orders-more : (next : Float) → order ≤ l → next ≡ sum_from (coulomb_of table (boys_number boys order ⊗ s)) (of_order order ts) sum → run_orders table s boys ts (l + 1 - order) order sum ≡ whole → run_orders table s boys ts (l + 1 - (order + 1)) (order + 1) next ≡ whole
  unfolding run_orders
  orders-more next p e q =
      let more : l + 1 - order ≡ suc (l + 1 - (order + 1)) = omega arith in
      let entered : run_orders table s boys ts (l + 1 - (order + 1)) (suc order) (sum_from (coulomb_of table (boys_number boys order ⊗ s)) (of_order order ts) sum) ≡ whole = rw more at q in
      rw e (rw (← add-one order) at entered)

  pub orders-last : (next : Float) → order ≤ l → l ≤ order → next ≡ sum_from (coulomb_of table (boys_number boys order ⊗ s)) (of_order order ts) sum → run_orders table s boys ts (l + 1 - order) order sum ≡ whole → next ≡ whole
  unfolding run_orders
  orders-last next p o e q = let last : l + 1 - order ≡ 1 = omega arith in e ∙ (rw last at q)

-- one term in the pass of a Boys order
pub added_term : (roll : List ℕ) (h : Head) (b : Float) (table : List Float) (sum g : Float) → g ≡ product_of table (between roll h.from h.end) one → sum ⊕ scale_of h.scale ⊗ b ⊗ g ≡ sum ⊕ coulomb_of table b (head_term roll h)
unfolding head_term coulomb_of g_of
added_term roll h b table sum g f = rw f

-- a term that stands by its Boys order
between-past : (bytes : List ℕ) (from end : ℕ) → length bytes ≤ end → between bytes from (length bytes) ≡ between bytes from end
unfolding between
between-past bytes from end past = take_all (length bytes - from) (drop from bytes) (omega (arith, length-drop from bytes)) ∙ sym (take_all (end - from) (drop from bytes) (omega (arith, length-drop from bytes)))

between-within : (bytes : List ℕ) (from end : ℕ) → between bytes from (min end (length bytes)) ≡ between bytes from end
between-within bytes from end = by (leb end (length bytes)) refl
  where
    by : (b : Bool) → leb end (length bytes) ≡ b → between bytes from (min end (length bytes)) ≡ between bytes from end
    by true e = let inside : end ≤ length bytes = leb-true end (length bytes) e in let least : min end (length bytes) ≡ end = min-eq_left inside in rw least
    by false e = let past : length bytes ≤ end = omega (arith, leb-false end (length bytes) e) in let least : min end (length bytes) ≡ length bytes = omega arith in rw least (between-past bytes from end past)

pub product-within : (table : List Float) (bytes : List ℕ) (from end last : ℕ) (g : Float) → last ≡ min end (length bytes) → g ≡ product_of table (between bytes from last) one → g ≡ g_of table (between bytes from end)
unfolding g_of
product-within table bytes from end last g least e = e ∙ ap (λ (ps : List ℕ). product_of table ps one) (ap (between bytes from) least ∙ between-within bytes from end)

pub own-order : (table : List Float) (s : Float) (boys : List Float) (bytes : List ℕ) (h : Head) (f g : Float) → f ≡ boys_number boys h.boys → g ≡ g_of table (between bytes h.from h.end) → scale_of h.scale ⊗ (f ⊗ s) ⊗ g ≡ own_order_of table s boys (head_term bytes h)
unfolding own_order_of coulomb_of head_term
own-order table s boys bytes h f g e p = rw (e, p)

module _ (roll : List ℕ) (at order : ℕ) (b : Float) (table : List Float) (sum : Float) (boys : ℕ) where
  pub of-order : (h : Head) (v : Float) → boys ≡ (head_at roll at).boys → boys ≡ order → h ≡ head_at roll at → v ≡ sum ⊕ coulomb_of table b (head_term roll h) → v ≡ add_order_of order b table (head_term roll (head_at roll at)) sum
  unfolding add_order_of head_term
  of-order h v is e head f = let same : (head_at roll at).boys ≡ order = sym is ∙ e in rw (eq-eqb (head_at roll at).boys order same) (f ∙ ap (λ (h : Head). sum ⊕ coulomb_of table b (head_term roll h)) head)

  pub not-of-order : boys ≡ (head_at roll at).boys → (boys ≡ order → ⊥) → sum ≡ add_order_of order b table (head_term roll (head_at roll at)) sum
  unfolding add_order_of head_term
  not-of-order is other = rw (ne_eqb (head_at roll at).boys order (λ same. other (is ∙ same)))

module _ (table : List Float) (b : Float) (order : ℕ) where
  one-of-order : (t : Term) (ts : List Term) (sum : Float) → sum_from (coulomb_of table b) (of_order order (t ∷ ts)) sum ≡ sum_from (coulomb_of table b) (of_order order ts) (add_order_of order b table t sum)
  unfolding of_order add_order_of sum_from
  one-of-order t ts sum = by (eqb t.boys order)
    where
      by : (x : Bool) → sum_from (coulomb_of table b) (cond x (t ∷ of_order order ts) (of_order order ts)) sum ≡ sum_from (coulomb_of table b) (of_order order ts) (cond x (sum ⊕ coulomb_of table b t) sum)
      by true = refl
      by false = refl

  module _ (roll : List ℕ) (at terms done : ℕ) (sum whole : Float) where
    pub pass-more : (end : ℕ) (v : Float) → done < terms → end ≡ (head_at roll at).end → v ≡ add_order_of order b table (head_term roll (head_at roll at)) sum → sum_from (coulomb_of table b) (of_order order (terms_again roll at (terms - done))) sum ≡ whole → sum_from (coulomb_of table b) (of_order order (terms_again roll end (terms - (done + 1)))) v ≡ whole
    pass-more end v p e q w =
        rw (q, e) (rw (one_left roll at terms done p, one-of-order (head_term roll (head_at roll at)) (terms_again roll (head_at roll at).end (terms - (done + 1))) sum) at w)

pub pass-done : (table boys : List Float) (s f : Float) (order : ℕ) (roll : List ℕ) (at terms done : ℕ) (ts : List Term) (sum before : Float) → terms ≤ done → f ≡ boys_number boys order → sum_from (coulomb_of table (f ⊗ s)) (of_order order (terms_again roll at (terms - done))) sum ≡ sum_from (coulomb_of table (f ⊗ s)) (of_order order ts) before → sum ≡ sum_from (coulomb_of table (boys_number boys order ⊗ s)) (of_order order ts) before
unfolding sum_from of_order
pass-done table boys s f order roll at terms done ts sum before p e q = rw (← e) (rw (none_left roll at terms done p) at q)
