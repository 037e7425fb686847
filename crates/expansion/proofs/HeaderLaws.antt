-- A request within the limits, and the roll that is written of it.
use Prim.Native.Nat.{ℕ, zero, suc, ◌+◌, ◌^◌, ◌≤◌, ◌<◌}
use mathlib.Core.Path.{◌≡◌, refl, sym, ap, ap₂, subst, ◌∙◌}
use mathlib.Core.Bool.{Bool, true, false, cond, ◌||◌}
use mathlib.Core.List.{List, [], ◌∷◌, ◌++◌, append_assoc}
use native.Mathlib.Omega.{arith}
use native.Mathlib.Numerals.{add-one}
use borrow.Author.Tests.{ltb-false, eq-eqb, ne_eqb}
use lib.Dec.{ltb, eqb}
use lib.ListN.{length, get_or, set, take, drop, length-append, length-take, length-set, get_or-eq_default}
use lib.Seq.{sets, length-sets, take-suc}
use Rattle.kind.specs.declared.Kind.{Kind}
use Rattle.kind.specs.declared.Kind.TheVariants.{Overlap, Kinetic, Nuclear, Moment, Coulomb}
use Rattle.kind.specs.Kinds.{number_of, orders_of}
use Rattle.kind.specs.Limits.{most_order, most_l·any, request_orders}
use Rattle.laws.proofs.Lists.{sets-append}
use Rattle.laws.proofs.Cases.{or-false-both}
use Rattle.kind.proofs.Within.{orders-within, number-within}
use Rattle.term.specs.Terms.{Term}
use Rattle.number.specs.Numbers.{bytes_of, length_of}
use Rattle.number.proofs.Writing.{bytes-last, length-few}
use Rattle.steps.specs.declared.CentreName.TheVariants.{A, B, C, D}
use Rattle.steps.specs.Choice.{sum_of}
use Rattle.laws.specs.Total.{total}
use Rattle.steps.specs.States.{start}
use Rattle.histories.specs.History.{stage, depth, expand}
use Rattle.histories.specs.inner.OnTheWay.{SmallOrders, Reached}
use Rattle.histories.proofs.Bounds.{started}
use Rattle.roll.specs.Bytes.{terms_bytes, numbers_bytes, roll_bytes}
use Rattle.form2.specs.Bytes.{form_two, terms_bytes2, roll_bytes2}
use Rattle.expansion.specs.declared.Path.{Path}
use Rattle.expansion.specs.inner.View.{five_bits, path_prefactors, path_term, Emitted, NumberMay}
use Rattle.expansion.specs.inner.Sinks.{in_form1, in_form2, size2, Sink, sink_of, forms_bytes, stored_in, with_terms, end_of, Took}
use Rattle.expansion.specs.inner.Walking.{view_of, Good, terms_below, NodeMay}
use Rattle.expansion.specs.Expanding.{◌exceeds◌, too_high, unused_set, terms_of, roll_of, roll_of2}
use Rattle.expansion.specs.inner.Requests.{roll_in, PackMay, Packed, empty_term, RequestWithin, form_of, head_of, HeadMay, RollMay}
use Rattle.laws.proofs.Totals.{total-three}
use Rattle.expansion.proofs.RequestLaws.{none_after}
use Rattle.expansion.proofs.SinkLaws.{place-in-all, out-in-all}

-- ---- the orders of a request within the limits

-- the order sums of all four centres, and the depth
pub record Sums (k : Kind) (os : List ℕ) : Type 0 where
  pub of-a : sum_of os A ≤ most_order
  pub of-b : sum_of os B ≤ most_order
  pub of_c : sum_of os C ≤ most_order
  pub of-d : sum_of os D ≤ most_order
  pub deep : stage k + total os ≤ most_l·any

module _ (os : List ℕ) (in-full : length os ≡ request_orders) where
  all-total : total os ≡ sum_of os A + sum_of os B + sum_of os C + sum_of os D
  all-total =
      let a = total-three os 0 in
      let b = total-three os 3 in
      let c = total-three os 6 in
      let d = total-three os 9 in
      let e = none_after os in-full in
      omega arith

  two-sums : (k : Kind) → stage k ≤ 1 → (sum_of os A exceeds most_order || sum_of os B exceeds most_order) ≡ false → ltb 0 (total (drop 6 os)) ≡ false → Sums k os
  two-sums k s e u =
      let t = all-total in
      let n = or-false-both (sum_of os A exceeds most_order) (sum_of os B exceeds most_order) e in
      let a = ltb-false most_order (sum_of os A) n.0 in
      let b = ltb-false most_order (sum_of os B) n.1 in
      let r = ltb-false 0 (total (drop 6 os)) u in
      let c = total-three os 6 in
      let d = total-three os 9 in
      let l = none_after os in-full in
      record { of-a = a; of-b = b; of_c = omega arith; of-d = omega arith; deep = omega arith }

  sums : (k : Kind) → too_high k os ≡ false → unused_set k os ≡ false → Sums k os
  sums Overlap e u = two-sums Overlap (omega arith) e u
  sums Kinetic e u = two-sums Kinetic (omega arith) e u
  sums Nuclear e u = two-sums Nuclear (omega arith) e u
  sums Moment e u =
      let t = all-total in
      let m = or-false-both (sum_of os A exceeds most_order || sum_of os B exceeds most_order) (sum_of os C exceeds most_order) e in
      let n = or-false-both (sum_of os A exceeds most_order) (sum_of os B exceeds most_order) m.0 in
      let a = ltb-false most_order (sum_of os A) n.0 in
      let b = ltb-false most_order (sum_of os B) n.1 in
      let c = ltb-false most_order (sum_of os C) m.1 in
      let r = ltb-false 0 (total (drop 9 os)) u in
      let d = total-three os 9 in
      let l = none_after os in-full in
      record { of-a = a; of-b = b; of_c = c; of-d = omega arith; deep = omega arith }
  sums Coulomb e u =
      let t = all-total in
      let q = or-false-both ((sum_of os A exceeds most_order || sum_of os B exceeds most_order) || sum_of os C exceeds most_order) (sum_of os D exceeds most_order) e in
      let m = or-false-both (sum_of os A exceeds most_order || sum_of os B exceeds most_order) (sum_of os C exceeds most_order) q.0 in
      let n = or-false-both (sum_of os A exceeds most_order) (sum_of os B exceeds most_order) m.0 in
      let a = ltb-false most_order (sum_of os A) n.0 in
      let b = ltb-false most_order (sum_of os B) n.1 in
      let c = ltb-false most_order (sum_of os C) m.1 in
      let d = ltb-false most_order (sum_of os D) q.1 in
      record { of-a = a; of-b = b; of_c = c; of-d = d; deep = omega arith }

  small_at : (k : Kind) → Sums k os → (i : ℕ) → get_or os i 0 ≤ most_order
  small_at k s zero = let h = s.of-a in omega arith
  small_at k s (suc zero) = let h = s.of-a in omega arith
  small_at k s (suc (suc zero)) = let h = s.of-a in omega arith
  small_at k s (suc (suc (suc zero))) = let h = s.of-b in omega arith
  small_at k s (suc (suc (suc (suc zero)))) = let h = s.of-b in omega arith
  small_at k s (suc (suc (suc (suc (suc zero))))) = let h = s.of-b in omega arith
  small_at k s (suc (suc (suc (suc (suc (suc zero)))))) = let h = s.of_c in omega arith
  small_at k s (suc (suc (suc (suc (suc (suc (suc zero))))))) = let h = s.of_c in omega arith
  small_at k s (suc (suc (suc (suc (suc (suc (suc (suc zero)))))))) = let h = s.of_c in omega arith
  small_at k s (suc (suc (suc (suc (suc (suc (suc (suc (suc zero))))))))) = let h = s.of-d in omega arith
  small_at k s (suc (suc (suc (suc (suc (suc (suc (suc (suc (suc zero)))))))))) = let h = s.of-d in omega arith
  small_at k s (suc (suc (suc (suc (suc (suc (suc (suc (suc (suc (suc zero))))))))))) = let h = s.of-d in omega arith
  small_at k s (suc (suc (suc (suc (suc (suc (suc (suc (suc (suc (suc (suc i)))))))))))) =
      let none = get_or-eq_default os 0 {n = suc (suc (suc (suc (suc (suc (suc (suc (suc (suc (suc (suc i)))))))))))} (omega arith) in
      omega arith

module _ (k : Kind) (os : List ℕ) (within : RequestWithin k os) where
  pub all-sums : Sums k os
  all-sums = sums os within.in-full k within.low_sums within.none-unused

  pub all_small : SmallOrders os
  unfolding SmallOrders
  all_small = small_at os within.in-full k all-sums

  pub within-nibbles : PackMay os
  unfolding SmallOrders
  within-nibbles = record { small = λ (i : ℕ). let h = all_small i in omega arith }

  -- the first state of the walk
  module _ (left : ℕ) (word : Packed os 0 left) (p : Path) (empty : path_term p ≡ empty_term) where
    first-view : view_of k left p ≡ start k os
    first-view = λ i. record { kind = k; left = word.holds i; term = empty i }

    pub first_good : Good k left p
    unfolding depth
    first_good =
        record {
          request = k;
          request-orders = os;
          reached = subst (Reached k os) (sym first-view) (started k os all_small);
          deep = all-sums.deep;
          word = word.below;
        }

    pub first-terms : terms_below k left p ≡ terms_of k os
    unfolding terms_below
    first-terms = ap expand first-view

-- ---- the header's bytes

numbers-small : (l : List ℕ) → ((i : ℕ) → get_or l i 0 < 128) → numbers_bytes l ≡ l
unfolding numbers_bytes
numbers-small [] h = refl
numbers-small (n ∷ l) h = ap₂ ◌++◌ (bytes-last n (h 0)) (numbers-small l (λ (i : ℕ). h (suc i)))

take-small : (n : ℕ) (l : List ℕ) → ((i : ℕ) → get_or l i 0 < 128) → (i : ℕ) → get_or (take n l) i 0 < 128
take-small zero l h i = omega arith
take-small (suc n) [] h i = h i
take-small (suc n) (x ∷ l) h zero = h zero
take-small (suc n) (x ∷ l) h (suc i) = take-small n l (λ (j : ℕ). h (suc j)) i

pub orders-add : (k : Kind) (n : ℕ) → n ≡ orders_of k → 1 + n < 2 ^ 64
orders-add k n e = let h = orders-within k in omega arith

pub head-fits : (k : Kind) (n terms l : ℕ) → n ≡ orders_of k → l ≡ length_of terms → 1 + n + l < 2 ^ 64
head-fits k n terms l e f = let h = orders-within k in let g = length-few terms in omega arith

pub kept-through : (out mid after : List ℕ) (i v : ℕ) → length after ≡ length mid → length mid ≡ length (set out i v) → length after ≡ length out
kept-through out mid after i v e f = e ∙ f ∙ length-set out i v

module _ (k : Kind) (os : List ℕ) (within : RequestWithin k os) where
  -- the bytes of a roll that begins with a number of one byte
  begun-bytes : (n : ℕ) (bytes : List ℕ) → n < 128
      → bytes_of n ++ (numbers_bytes (take (orders_of k) os) ++ (bytes_of (length (terms_of k os)) ++ bytes)) ≡ (n ∷ (take (orders_of k) os ++ bytes_of (length (terms_of k os)))) ++ bytes
  unfolding SmallOrders
  begun-bytes n bytes small =
      ap₂ ◌++◌ (bytes-last n small)
      (ap (λ (l : List ℕ). l ++ (bytes_of (length (terms_of k os)) ++ bytes))
      (numbers-small (take (orders_of k) os) (take-small (orders_of k) os (λ (i : ℕ). let h = all_small k os within i in omega arith))))
      ∙ ap (λ (l : List ℕ). n ∷ l) (sym (append_assoc (take (orders_of k) os) (bytes_of (length (terms_of k os))) bytes))

  -- what stands before the terms, and the terms, in each form
  pub roll-bytes : (doing : ℕ) → roll_in doing k os ≡ head_of (form_of doing) k os ++ forms_bytes doing [] (terms_of k os)
  unfolding roll_of roll_of2 roll_bytes roll_bytes2 head_of form_of forms_bytes
  roll-bytes doing = by (eqb doing in_form1)
    where
      none : number_of k ≡ 0 + number_of k
      none = omega arith

      by : (b : Bool) → cond b roll_of roll_of2 k os ≡ ((cond b 0 form_two + number_of k) ∷ (take (orders_of k) os ++ bytes_of (length (terms_of k os)))) ++ cond b (terms_bytes (terms_of k os)) (terms_bytes2 [] (terms_of k os))
      by true =
          ap (λ (n : ℕ). bytes_of n ++ (numbers_bytes (take (orders_of k) os) ++ (bytes_of (length (terms_of k os)) ++ terms_bytes (terms_of k os)))) none
          ∙ begun-bytes (0 + number_of k) (terms_bytes (terms_of k os)) (omega (arith, number-within k))
      by false = begun-bytes (form_two + number_of k) (terms_bytes2 [] (terms_of k os)) (omega (arith, number-within k))

  pub orders-long : length (take (orders_of k) os) ≡ orders_of k
  orders-long = length-take (orders_of k) os ∙ (let h = orders-within k in let l = within.in-full in omega arith)

  pub head-length : (form : ℕ) → length (head_of form k os) ≡ 1 + orders_of k + length_of (length (terms_of k os))
  unfolding head_of length_of
  head-length form = let a = length-append (take (orders_of k) os) (bytes_of (length (terms_of k os))) in let c = orders-long in omega arith

  form-length : (doing : ℕ) → length (roll_in doing k os) ≡ 1 + orders_of k + length_of (length (terms_of k os)) + length (forms_bytes doing [] (terms_of k os))
  form-length doing =
      ap length (roll-bytes doing) ∙ length-append (head_of (form_of doing) k os) (forms_bytes doing [] (terms_of k os)) ∙ (let h = head-length (form_of doing) in omega arith)

  pub roll-length : length (roll_of k os) ≡ 1 + orders_of k + length_of (length (terms_of k os)) + length (terms_bytes (terms_of k os))
  unfolding forms_bytes
  roll-length = form-length in_form1

  pub roll-length2 : length (roll_of2 k os) ≡ 1 + orders_of k + length_of (length (terms_of k os)) + length (terms_bytes2 [] (terms_of k os))
  unfolding forms_bytes
  roll-length2 = form-length in_form2

module _ (form : ℕ) (k : Kind) (os : List ℕ) (terms : ℕ) (out : List ℕ) (may : HeadMay form k os terms out) where
  long : length (head_of form k os) ≡ 1 + orders_of k + length_of (length (terms_of k os))
  long = head-length k os may.within form

  pub head-inside : 0 < length out
  head-inside = let r = may.room in let l = long in omega arith

  pub first_fits : (v : ℕ) → v ≡ number_of k → form + v < 256
  first_fits v e = let h = may.either in let n = number-within k in omega arith

  module _ (n : ℕ) (is : n ≡ orders_of k) where
    pub orders-few : n ≤ request_orders
    orders-few = let h = orders-within k in omega arith

    pub orders-room : (v : ℕ) → 1 + n ≤ length (set out 0 v)
    orders-room v = let r = may.room in let l = long in let s = length-set out 0 v in omega arith

    module _ (v : ℕ) (num : v ≡ number_of k) (mid : List ℕ) (put : mid ≡ sets (set out 0 (form + v)) 1 (take n os)) where
      mid-long : length mid ≡ length out
      mid-long = ap length put ∙ length-sets (set out 0 (form + v)) 1 (take n os) ∙ length-set out 0 (form + v)

      pub count_fits : NumberMay terms (1 + n) mid
      unfolding length_of
      count_fits =
          record {
            below = let h = may.few in omega arith;
            room = let r = may.room in let l = long in let m = mid-long in let c = ap (λ (t : ℕ). length (bytes_of t)) may.count in omega arith;
          }

      pub head-put : (at : ℕ) (then : List ℕ) → Emitted (bytes_of terms) (1 + n) mid at then → Emitted (head_of form k os) 0 out at then
      unfolding head_of length_of
      head-put at then counted =
          record {
            next = let c = ap (λ (t : ℕ). length (bytes_of t)) may.count in let e = counted.next in let l = long in omega arith;
            out =
                counted.out
                ∙ ap₂ (λ (l : List ℕ) (i : ℕ). sets l i (bytes_of terms)) put place
                ∙ sym (sets-append (set out 0 (form + v)) 1 (take n os) (bytes_of terms))
                ∙ ap (λ (w : ℕ). sets (set out 0 (form + w)) 1 (take n os ++ bytes_of terms)) num
                ∙ ap₂ (λ (m t : ℕ). sets (set out 0 (form + number_of k)) 1 (take m os ++ bytes_of t)) is may.count;
          }
        where
          place : 1 + n ≡ 1 + length (take n os)
          place = let h = ap (λ (m : ℕ). length (take m os)) is ∙ orders-long k os may.within in omega arith

-- what a form adds is 0 or 16
pub form-one : (doing : ℕ) → doing ≡ in_form1 → 0 ≡ form_of doing
unfolding form_of
form-one doing e = sym (ap (λ (b : Bool). cond b 0 form_two) (eq-eqb doing in_form1 e))

pub form-two : (doing : ℕ) → (doing ≡ in_form1 → ⊥) → form_two ≡ form_of doing
unfolding form_of
form-two doing e = sym (ap (λ (b : Bool). cond b 0 form_two) (ne_eqb doing in_form1 e))

pub form-most : (doing : ℕ) → form_of doing ≤ form_two
unfolding form_of
form-most doing = by (eqb doing in_form1)
  where
    by : (b : Bool) → cond b 0 form_two ≤ form_two
    by true = omega arith
    by false = omega arith

-- a sink with no term before
abbrev pub first_sink : ℕ → ℕ → List ℕ → Sink
first_sink doing at out = sink_of (doing ∷ at ∷ 0 ∷ 0 ∷ 0 ∷ []) out

first-is : (doing at : ℕ) (out : List ℕ) → first_sink doing at out ≡ record { doing = doing; place = at; earlier = []; out = out }
unfolding sink_of path_prefactors five_bits
first-is doing at out = refl

module _ (doing at : ℕ) (out : List ℕ) (ts : List Term) where
  pub first-place : (with_terms (first_sink doing at out) ts).place ≡ at + length (forms_bytes doing [] ts)
  first-place = ap (λ (s : Sink). (with_terms s ts).place) (first-is doing at out) ∙ place-in-all (record { doing = doing; place = at; earlier = []; out = out }) ts

  pub first_out : (with_terms (first_sink doing at out) ts).out ≡ stored_in doing out at (forms_bytes doing [] ts)
  first_out = ap (λ (s : Sink). (with_terms s ts).out) (first-is doing at out) ∙ out-in-all (record { doing = doing; place = at; earlier = []; out = out }) ts

  pub first-few : length (first_sink doing at out).earlier < 25
  first-few = let h = ap (λ (s : Sink). length s.earlier) (first-is doing at out) in omega arith

module _ (doing : ℕ) (k : Kind) (os : List ℕ) (left terms : ℕ) (out : List ℕ) (may : RollMay doing k os left terms out) where
  whole : length (roll_in doing k os) ≡ length (head_of (form_of doing) k os) + length (forms_bytes doing [] (terms_of k os))
  whole = ap length (roll-bytes k os may.within doing) ∙ length-append (head_of (form_of doing) k os) (forms_bytes doing [] (terms_of k os))

  writes : doing ≡ size2 → ⊥
  writes e = let h = may.writes in omega arith

  module _ (form : ℕ) (form-is : form ≡ form_of doing) where
    pub head-may : HeadMay form k os terms out
    head-may =
        record {
          within = may.within;
          either = let h = form-most doing in omega arith;
          count = may.count;
          few = may.few;
          room = let r = may.room in let w = whole in let e = ap (λ (n : ℕ). length (head_of n k os)) form-is in omega arith;
        }

    module _ (at : ℕ) (then : List ℕ) (head : Emitted (head_of form k os) 0 out at then) (p : Path) (empty : path_term p ≡ empty_term) where
      terms-are : terms_below k left p ≡ terms_of k os
      terms-are = first-terms k os may.within left may.word p empty

      heads : length (head_of form k os) ≡ length (head_of (form_of doing) k os)
      heads = ap (λ (n : ℕ). length (head_of n k os)) form-is

      place_after_lem : (with_terms (first_sink doing at then) (terms_below k left p)).place ≡ at + length (forms_bytes doing [] (terms_of k os))
      place_after_lem = first-place doing at then (terms_below k left p) ∙ ap (λ (ts : List Term). at + length (forms_bytes doing [] ts)) terms-are

      end_is : end_of (first_sink doing at then) ≡ length then + 1
      unfolding end_of sink_of
      end_is = ap (λ (b : Bool). cond b (2 ^ 64) (length then + 1)) (ne_eqb doing size2 writes)

      pub node-may : NodeMay k left p (first_sink doing at then)
      node-may =
          record {
            good = first_good k os may.within left may.word p empty;
            room =
                record {
                  fits =
                      let r = may.room in
                      let w = whole in
                      let h = heads in
                      let e = head.next in
                      let l = ap length head.out ∙ length-sets out 0 (head_of form k os) in
                      let a = place_after_lem in
                      let n = end_is in
                      omega arith;
                  few = first-few doing at then (terms_below k left p);
                };
          }

      module _ (words after : List ℕ) (done : Took (first_sink doing at then) (terms_below k left p) (sink_of words after)) where
        end-place : get_or words 1 0 ≡ (with_terms (first_sink doing at then) (terms_below k left p)).place
        unfolding sink_of
        end-place = ap (λ (s : Sink). s.place) done.is

        end-out : after ≡ (with_terms (first_sink doing at then) (terms_below k left p)).out
        unfolding sink_of
        end-out = ap (λ (s : Sink). s.out) done.is

        stored : stored_in doing then at (forms_bytes doing [] (terms_of k os)) ≡ sets then at (forms_bytes doing [] (terms_of k os))
        unfolding stored_in
        stored = ap (λ (b : Bool). cond b then (sets then at (forms_bytes doing [] (terms_of k os)))) (ne_eqb doing size2 writes)

        pub roll-put : Emitted (roll_in doing k os) 0 out (get_or words 1 0) after
        roll-put =
            record {
              next = let p = end-place in let a = place_after_lem in let e = head.next in let w = whole in let h = heads in omega arith;
              out =
                  end-out
                  ∙ first_out doing at then (terms_below k left p)
                  ∙ ap (λ (ts : List Term). stored_in doing then at (forms_bytes doing [] ts)) terms-are
                  ∙ stored
                  ∙ ap₂ (λ (l : List ℕ) (i : ℕ). sets l i (forms_bytes doing [] (terms_of k os))) head.out head.next
                  ∙ sym (sets-append out 0 (head_of form k os) (forms_bytes doing [] (terms_of k os)))
                  ∙ ap (λ (n : ℕ). sets out 0 (head_of n k os ++ forms_bytes doing [] (terms_of k os))) form-is
                  ∙ sym (ap (sets out 0) (roll-bytes k os may.within doing));
            }

-- ---- storing the orders

pub record Ordering (before os : List ℕ) (count : ℕ) (out : List ℕ) (i : ℕ) : Type 0 where
  pub within : i ≤ count
  pub stored : out ≡ sets before 1 (take i os)

pub ordering-first : (before os : List ℕ) (count : ℕ) → Ordering before os count before 0
ordering-first before os count = record { within = omega arith; stored = refl }

pub ordering-more : (before os : List ℕ) (count : ℕ) (out : List ℕ) (i : ℕ) → count ≤ request_orders → length os ≡ request_orders → Ordering before os count out i → i < count
    → Ordering before os count (set out (1 + i) (get_or os i 0)) (i + 1)
ordering-more before os count out i few in-full o h =
    record {
      within = omega arith;
      stored =
          ap (λ (l : List ℕ). set l (1 + i) (get_or os i 0)) o.stored
          ∙ ap (λ (n : ℕ). set (sets before 1 (take i os)) (1 + n) (get_or os i 0)) (sym taken)
          ∙ sym (sets-append before 1 (take i os) (get_or os i 0 ∷ []))
          ∙ sym (ap (sets before 1) (ap (λ (n : ℕ). take n os) (add-one i) ∙ take-suc os i 0 (omega arith)));
    }
  where
    taken : length (take i os) ≡ i
    taken = length-take i os ∙ omega arith

pub ordering-last : (before os : List ℕ) (count : ℕ) (out : List ℕ) (i : ℕ) → Ordering before os count out i → count ≤ i → out ≡ sets before 1 (take count os)
ordering-last before os count out i o h = o.stored ∙ ap (λ (n : ℕ). sets before 1 (take n os)) (let w = o.within in all)
  where
    all : i ≡ count
    all = let w = o.within in omega arith

pub ordering-length : (before os : List ℕ) (count : ℕ) (out : List ℕ) (i : ℕ) → Ordering before os count out i → length out ≡ length before
ordering-length before os count out i o = ap length o.stored ∙ length-sets before 1 (take i os)
