-- 02, Q-7: demands 2 and 3 of form 2, and that both forms of one expansion say the same terms.
use Prim.Native.Nat.{ℕ, ◌≤◌}
use mathlib.Core.Path.{◌≡◌, refl, sym, ap, subst, ◌∙◌}
use mathlib.Core.List.{List}
use native.Mathlib.Omega.{arith}
use borrow.Author.Tests.{ltb-false}
use lib.ListN.{length, take}
use Rattle.laws.specs.Placed.{placed}
use Rattle.kind.specs.declared.Kind.{Kind}
use Rattle.kind.specs.Limits.{most_terms, request_orders}
use Rattle.kind.specs.Kinds.{orders_of}
use Rattle.roll.specs.Reading.{got, roll_at}
use Rattle.form2.specs.Bytes.{roll_bytes2}
use Rattle.form2.specs.Reading.{roll_at2}
use Rattle.form2.proofs.Written.{roll-only2}
use Rattle.form2.proofs.Checked.{reads-checked2}
use Rattle.expansion.specs.Answer.{Answer}
use Rattle.expansion.specs.Answer as answer
use Rattle.expansion.specs.Expanding.{terms_of, roll_of, roll_of2, ExpandTold, Expand2Told}
use Rattle.expansion.specs.Demands.{roll_with, Demand3Form2, written_at, ReadsBack2, Demand2Form2, SameTerms}
use Rattle.expansion.specs.inner.Requests.{RequestWithin}
use Rattle.expansion.proofs.ReadsBack.{reads-back, reads-back2}
use Rattle.expansion.proofs.Demanded.{answered, Known, known, cut, demand-3-in}
use Rattle.std.specs.Prelude.{Some}

roll-is2 : (k : Kind) (orders : List ℕ) → roll_of2 k orders ≡ roll_with roll_bytes2 k orders (terms_of k orders)
unfolding roll_of2
roll-is2 k orders = refl

module _ (kind : ℕ) (orders : List ℕ) (in-full : length orders ≡ request_orders) (before : List ℕ) (begin : ℕ) where
  pub demand-3-form2 : (r : Answer) (after : List ℕ) → Expand2Told kind orders before begin r after → Demand3Form2 kind orders before begin r after
  demand-3-form2 r after told = demand-3-in roll_of2 roll_bytes2 roll-is2 kind orders before begin in-full r after told

  -- what was written reads as the roll of the request's terms
  pub record Read2 (long count : ℕ) (after : List ℕ) (of : Known roll_of2 kind orders before begin (answer.Roll long count) after) : Type 0 where
    pub long-is : long ≡ length (roll_of2 of.k orders)
    pub count-is : count ≡ length (terms_of of.k orders)
    pub reads : roll_at2 (written_at after begin long) ≡ got (record { kind = of.k; orders = take (orders_of of.k) orders; terms = terms_of of.k orders }) long

  pub read2 : (long count : ℕ) (after : List ℕ) (of : Known roll_of2 kind orders before begin (answer.Roll long count) after) → Read2 long count after of
  read2 long count after of =
      let k = of.k in
      let a = answered roll_of2 k orders before begin long count of.answer in
      let within : RequestWithin k orders = record { low_sums = a.two; none-unused = a.three; in-full = in-full } in
      let few : length (terms_of k orders) ≤ most_terms = ltb-false most_terms (length (terms_of k orders)) a.four in
      let is : written_at after begin long ≡ roll_of2 k orders = cut before begin long after (roll_of2 k orders) (ltb-false (length before) begin a.five) a.long-is of.out in
      record {
        long-is = a.long-is;
        count-is = a.count-is;
        reads = ap roll_at2 is ∙ reads-back2 k orders within few ∙ ap (got (record { kind = k; orders = take (orders_of k) orders; terms = terms_of k orders })) (sym a.long-is);
      }

  again2 : (long count : ℕ) (after : List ℕ) → Known roll_of2 kind orders before begin (answer.Roll long count) after → ReadsBack2 kind orders before begin long count after
  again2 long count after of =
      let r = read2 long count after of in
      let o = reads-checked2 (written_at after begin long) (record { kind = of.k; orders = take (orders_of of.k) orders; terms = terms_of of.k orders }) long r.reads in
      record {
        k = of.k;
        named = of.named;
        ts = terms_of of.k orders;
        written = of.out ∙ ap (placed before begin) (roll-is2 of.k orders);
        long-is = r.long-is ∙ ap length (roll-is2 of.k orders);
        count-is = r.count-is;
        reads = r.reads;
        opened = o.opened;
        judged = o.checks;
      }

  pub demand-2-form2 : (r : Answer) (after : List ℕ) → Expand2Told kind orders before begin r after → Demand2Form2 kind orders before begin r after
  demand-2-form2 r after told =
      record {
        reads-back = λ (long count : ℕ) (e : r ≡ answer.Roll long count).
            again2 long count after (known roll_of2 kind orders before begin (answer.Roll long count) after (subst (λ (y : Answer). Expand2Told kind orders before begin y after) e told) (λ f. omega arith));
        only-writing = roll-only2;
      }

-- one request, expanded in both forms
module _ (kind : ℕ) (orders : List ℕ) (in-full : length orders ≡ request_orders) where
  pub same-terms : (before : List ℕ) (begin long count : ℕ) (after before2 : List ℕ) (begin2 long2 count2 : ℕ) (after2 : List ℕ)
      → ExpandTold kind orders before begin (answer.Roll long count) after → Expand2Told kind orders before2 begin2 (answer.Roll long2 count2) after2
      → SameTerms begin long count after begin2 long2 count2 after2
  same-terms before begin long count after before2 begin2 long2 count2 after2 told told2 =
      let of = known roll_of kind orders before begin (answer.Roll long count) after told (λ f. omega arith) in
      let of2 = known roll_of2 kind orders before2 begin2 (answer.Roll long2 count2) after2 told2 (λ f. omega arith) in
      let k = of.k in
      let a = answered roll_of k orders before begin long count of.answer in
      let within : RequestWithin k orders = record { low_sums = a.two; none-unused = a.three; in-full = in-full } in
      let few : length (terms_of k orders) ≤ most_terms = ltb-false most_terms (length (terms_of k orders)) a.four in
      let is : written_at after begin long ≡ roll_of k orders = cut before begin long after (roll_of k orders) (ltb-false (length before) begin a.five) a.long-is of.out in
      let r = read2 kind orders in-full before2 begin2 long2 count2 after2 of2 in
      let both : Some k ≡ Some of2.k = sym of.named ∙ of2.named in
      let same : of2.k ≡ k = cc in
      record {
        roll = record { kind = k; orders = take (orders_of k) orders; terms = terms_of k orders };
        first = ap roll_at is ∙ reads-back k orders within few ∙ ap (got (record { kind = k; orders = take (orders_of k) orders; terms = terms_of k orders })) (sym a.long-is);
        second = r.reads ∙ ap (λ (j : Kind). got (record { kind = j; orders = take (orders_of j) orders; terms = terms_of j orders }) long2) same;
        counts = a.count-is ∙ sym (r.count-is ∙ ap (λ (j : Kind). length (terms_of j orders)) same);
      }
