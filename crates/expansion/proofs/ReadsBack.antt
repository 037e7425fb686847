-- Whatever the expansion writes reads back as exactly its kind, orders and terms, in either form.
use Prim.Native.Nat.{ℕ, suc, ◌+◌, ◌≤◌, ◌<◌}
use mathlib.Core.Path.{◌≡◌, refl, sym, ap, subst, ◌∙◌}
use mathlib.Core.Bool.{false}
use mathlib.Core.List.{List, [], ◌∷◌, Memᴰ}
use native.Mathlib.Omega.{arith}
use native.Mathlib.Numerals.{add-one}
use borrow.Author.Tests.{ltb-false}
use lib.ListN.{length, get_or, take, drop, take-append-drop}
use lib.Seq.{drop-cons}
use Rattle.kind.specs.declared.Kind.{Kind}
use Rattle.kind.specs.declared.Kind.TheVariants.{Overlap, Kinetic, Nuclear, Moment, Coulomb}
use Rattle.kind.specs.Kinds.{orders_of, table_of, most_prefactors, uses_boys}
use Rattle.kind.specs.Limits.{most_order, most_terms}
use Rattle.term.specs.Terms.{Term}
use Rattle.laws.specs.Total.{total}
use Rattle.steps.specs.States.{start}
use Rattle.histories.specs.History.{stage, depth}
use Rattle.laws.proofs.Totals.{total-append}
use Rattle.histories.proofs.Bounds.{terms-kept, scale-limit}
use Rattle.histories.proofs.Some.{Unused, unused-zero, some-term}
use Rattle.roll.specs.Reading.{got, roll_at, most_boys}
use Rattle.roll.specs.Fits.{CentresFit, Below, TermFits, TermsFit, RollFits}
use Rattle.roll.proofs.Back.{roll-back}
use Rattle.form2.specs.Reading.{roll_at2}
use Rattle.form2.proofs.Back.{roll-back2}
use Rattle.expansion.specs.Expanding.{terms_of, roll_of, roll_of2}
use Rattle.expansion.specs.inner.Requests.{RequestWithin}
use Rattle.expansion.proofs.HeaderLaws.{Sums, all-sums, all_small, orders-long}

below_all : (table : ℕ) (ps : List ℕ) → ((p : ℕ) → Memᴰ p ps → p < table) → Below table ps
below_all table [] h = tt
below_all table (p ∷ ps) h = (h p (Memᴰ.head refl), below_all table ps (λ (q : ℕ) (m : Memᴰ q ps). h q (Memᴰ.tail m)))

terms-all : (k : Kind) (l : ℕ) (ts : List Term) → ((t : Term) → Memᴰ t ts → TermFits k l t) → TermsFit k l ts
terms-all k l [] h = tt
terms-all k l (t ∷ ts) h = (h t (Memᴰ.head refl), terms-all k l ts (λ (u : Term) (m : Memᴰ u ts). h u (Memᴰ.tail m)))

boys-most : (k : Kind) (l b : ℕ) → b ≤ l → (uses_boys k ≡ false → b ≡ 0) → b ≤ most_boys k l
boys-most Overlap l b h z = let e = z refl in omega arith
boys-most Kinetic l b h z = let e = z refl in omega arith
boys-most Nuclear l b h z = h
boys-most Moment l b h z = let e = z refl in omega arith
boys-most Coulomb l b h z = h

count_most : (k : Kind) (l n : ℕ) → n ≤ stage k + l → n ≤ most_prefactors k l
count_most Overlap l n h = omega arith
count_most Kinetic l n h = omega arith
count_most Nuclear l n h = omega arith
count_most Moment l n h = omega arith
count_most Coulomb l n h = omega arith

-- three more orders whose sum keeps the limit
centre-more : (os : List ℕ) (i n : ℕ) → i + 2 < length os → get_or os i 0 + get_or os (i + 1) 0 + get_or os (i + 2) 0 ≤ most_order → CentresFit (take n (drop (i + 3) os)) → CentresFit (take (suc (suc (suc n))) (drop i os))
centre-more os i n h s rest = subst (λ (l : List ℕ). CentresFit (take (suc (suc (suc n))) l)) (sym there) (s, rest)
  where
    there : drop i os ≡ get_or os i 0 ∷ get_or os (i + 1) 0 ∷ get_or os (i + 2) 0 ∷ drop (i + 3) os
    there =
        drop-cons os i 0 (omega arith)
        ∙ ap (λ (l : List ℕ). get_or os i 0 ∷ l)
        (ap (λ (j : ℕ). drop j os) (sym (add-one i)) ∙ drop-cons os (i + 1) 0 (omega arith)
        ∙ ap (λ (l : List ℕ). get_or os (i + 1) 0 ∷ l) (ap (λ (j : ℕ). drop j os) second ∙ drop-cons os (i + 2) 0 (omega arith) ∙ ap (λ (j : ℕ). get_or os (i + 2) 0 ∷ drop j os) third))
      where
        second : suc (i + 1) ≡ i + 2
        second = omega arith

        third : suc (i + 2) ≡ i + 3
        third = omega arith

module _ (k : Kind) (os : List ℕ) (within : RequestWithin k os) where
  sums : Sums k os
  sums = all-sums k os within

  two-centres : CentresFit (take 6 os)
  two-centres =
      let t = within.in-full in
      centre-more os 0 3 (omega arith) sums.of-a (centre-more os 3 0 (omega arith) sums.of-b tt)

  centres : CentresFit (take (orders_of k) os)
  centres = by_kind k
    where
      three : CentresFit (take 9 os)
      three = let t = within.in-full in centre-more os 0 6 (omega arith) sums.of-a (centre-more os 3 3 (omega arith) sums.of-b (centre-more os 6 0 (omega arith) sums.of_c tt))

      four : CentresFit (take 12 os)
      four = let t = within.in-full in centre-more os 0 9 (omega arith) sums.of-a (centre-more os 3 6 (omega arith) sums.of-b (centre-more os 6 3 (omega arith) sums.of_c (centre-more os 9 0 (omega arith) sums.of-d tt)))

      by_kind : (j : Kind) → CentresFit (take (orders_of j) os)
      by_kind Overlap = two-centres
      by_kind Kinetic = two-centres
      by_kind Nuclear = two-centres
      by_kind Moment = three
      by_kind Coulomb = four

  pub rest-zero : total (drop (orders_of k) os) ≡ 0
  rest-zero = let h = ltb-false 0 (total (drop (orders_of k) os)) within.none-unused in omega arith

  pub used-total : total (take (orders_of k) os) ≡ total os
  used-total =
      let h = total-append (take (orders_of k) os) (drop (orders_of k) os) in let e = ap total (take-append-drop (orders_of k) os) in let z = rest-zero in omega arith

  unused : Unused k os
  unused = unused-zero k os rest-zero

  term_fits : (t : Term) → Memᴰ t (terms_of k os) → TermFits k (total (take (orders_of k) os)) t
  unfolding depth
  term_fits t m =
      let kept = terms-kept k os (all_small k os within) t m in
      let few = sums.deep in
      subst (λ (l : ℕ). TermFits k l t) (sym used-total)
      (record {
        scale-least = kept.scale-least;
        scale = scale-limit k os t kept (omega arith);
        boys = boys-most k (total os) t.boys kept.boys kept.boys-none;
        count = count_most k (total os) (length t.prefactors) kept.count;
        prefactors = below_all (table_of k) t.prefactors kept.in_table;
      })

  module _ (few : length (terms_of k os) ≤ most_terms) where
    -- the roll of a request that is not refused keeps the reader's limits
    pub roll-fits : RollFits (record { kind = k; orders = take (orders_of k) os; terms = terms_of k os })
    roll-fits =
        record {
          places = orders-long k os within;
          sums = centres;
          terms-least = some-term (start k os) unused;
          most = few;
          terms = terms-all k (total (take (orders_of k) os)) (terms_of k os) term_fits;
        }

    pub reads-back : roll_at (roll_of k os) ≡ got (record { kind = k; orders = take (orders_of k) os; terms = terms_of k os }) (length (roll_of k os))
    unfolding roll_of
    reads-back = roll-back (record { kind = k; orders = take (orders_of k) os; terms = terms_of k os }) roll-fits

    -- 02, Q-7: in form 2
    pub reads-back2 : roll_at2 (roll_of2 k os) ≡ got (record { kind = k; orders = take (orders_of k) os; terms = terms_of k os }) (length (roll_of2 k os))
    unfolding roll_of2
    reads-back2 = roll-back2 (record { kind = k; orders = take (orders_of k) os; terms = terms_of k os }) roll-fits
