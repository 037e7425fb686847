-- The answers of the expansion, a law for each, in 01's order.
use Prim.Native.Nat.{ℕ, ◌+◌, ◌*◌, ◌-◌, ◌^◌, ◌≤◌, ◌<◌}
use mathlib.Core.Path.{◌≡◌, refl, sym, ap, ap₂, ◌∙◌}
use mathlib.Core.Bool.{Bool, true, false, cond}
use mathlib.Core.List.{List}
use native.Mathlib.Omega.{arith}
use borrow.Author.Tests.{lt-ltb, le-ltb, leb-true, leb-false}
use borrow.Rule.Slice.PartMut.{put_mid}
use lib.Dec.{leb}
use lib.ListN.{length, take, drop, length-drop}
use Rattle.laws.proofs.Cases.{clash}
use Rattle.laws.proofs.Pairs.{some-both}
use Rattle.kind.specs.declared.Kind.{Kind}
use Rattle.kind.specs.Kinds.{kind_of, orders_of}
use Rattle.kind.specs.Limits.{most_terms, request_orders}
use Rattle.laws.proofs.Parts.{part-all, part-put}
use Rattle.kind.proofs.Within.{orders-within}
use Rattle.term.specs.Terms.{Term}
use Rattle.number.specs.Numbers.{length_of}
use Rattle.number.proofs.Writing.{length-few}
use Rattle.roll.specs.Bytes.{terms_bytes}
use Rattle.expansion.specs.declared.Path.{Path}
use Rattle.expansion.specs.inner.Measuring.{Measured}
use Rattle.expansion.specs.inner.Measuring.{Fits}
use Rattle.expansion.specs.declared.Expanded.{Expanded}
use Rattle.expansion.specs.Answer.{Answer, Roll, Refused}
use Rattle.expansion.specs.inner.View.{path_term, five_bits, path_prefactors, Emitted}
use Rattle.expansion.specs.inner.Sinks.{size2}
use Rattle.expansion.specs.inner.Measuring.{measured, Measures, MeasureMay, terms_in, bytes_in}
use Rattle.expansion.specs.Expanding.{too_high, unused_set, terms_of, roll_of, kind_in, kind_measured, named_in, named_measured, out_in, FormTold}
use Rattle.expansion.specs.inner.Requests.{roll_in, KnownTold, PackMay, Packed, empty_term, RequestWithin, RollMay, RequestMay, WordMay, LongMay, SizedMay}
use Rattle.expansion.specs.inner.Walking.{Good}
use Rattle.expansion.proofs.Sizes.{room_told, after_size, measured-in, SizeIs, measured-size}
use Rattle.expansion.proofs.HeaderLaws.{within-nibbles, first_good, first-terms, roll-length}
use Rattle.std.specs.Prelude.{Option, Some, None, Ok}
use Rattle.kind.specs.declared.refusals.Refusal.{Refusal}
use Rattle.kind.specs.declared.refusals.Refusal.TheVariants.{WrongKind, OrderSum, UnusedOrder, TooManyTerms, StartBeyondEnd, NoRoom}

-- an answer that refuses leaves every byte as it was
refused-with : (doing : ℕ) (k : Kind) (os out : List ℕ) (begin : ℕ) (n : Refusal) → kind_in (roll_in doing) k os out begin ≡ Refused n → KnownTold doing k os out begin (Refused n) out
refused-with doing k os out begin n e = record { answer = sym e; out = ap (λ (r : Answer). out_in (roll_in doing) r (Some k) os out begin) (sym e) }

module _ (doing : ℕ) (k : Kind) (os out : List ℕ) (begin : ℕ) where
  pub told-high : (b : Bool) → b ≡ too_high k os → b ≡ true → KnownTold doing k os out begin (Refused OrderSum) out
  unfolding kind_in
  told-high b e t = refused-with doing k os out begin OrderSum (simp (sym e ∙ t))

  pub told-unused : (a b : Bool) → a ≡ too_high k os → a ≡ false → b ≡ unused_set k os → b ≡ true → KnownTold doing k os out begin (Refused UnusedOrder) out
  unfolding kind_in
  told-unused a b e f g t = refused-with doing k os out begin UnusedOrder (simp (sym e ∙ f, sym g ∙ t))

  pub told-beyond : (a b : Bool) → a ≡ too_high k os → a ≡ false → b ≡ unused_set k os → b ≡ false → length out < begin → KnownTold doing k os out begin (Refused StartBeyondEnd) out
  unfolding kind_in
  told-beyond a b e f g h l = refused-with doing k os out begin StartBeyondEnd (simp (sym e ∙ f, sym g ∙ h, lt-ltb (length out) begin l))

module _ (k : Kind) (os out : List ℕ) (begin : ℕ) where
  pub request-may : (a b : Bool) → a ≡ too_high k os → a ≡ false → b ≡ unused_set k os → b ≡ false → length os ≡ request_orders → begin ≤ length out → RequestMay k os begin out
  request-may a b e f g h t l = record { within = record { low_sums = sym e ∙ f; none-unused = sym g ∙ h; in-full = t }; begins = l }

-- a path with nothing done yet
abbrev empty_path : Path
empty_path = record { scale = 1; boys = 0; count = 0; low = 0; high = 0 }

empty-term : path_term empty_path ≡ empty_term
unfolding path_prefactors five_bits
empty-term = refl

measured-terms : (ts : List Term) (a b : ℕ) → measured ts ≡ Fits a b → (a ≡ length ts) × (b ≡ length (terms_bytes ts)) × (length ts ≤ most_terms)
unfolding measured
measured-terms ts a b e = at (leb (length ts) most_terms) refl e
  where
    at : (v : Bool) → leb (length ts) most_terms ≡ v → cond v (Fits (length ts) (length (terms_bytes ts))) None ≡ Fits a b → (a ≡ length ts) × (b ≡ length (terms_bytes ts)) × (length ts ≤ most_terms)
    at true t f = let both = some-both f in (sym both.0, sym both.1, leb-true (length ts) most_terms t)
    at false t f = absurd (clash (cc))

measured-over : (ts : List Term) → measured ts ≡ None → most_terms < length ts
unfolding measured
measured-over ts e = at (leb (length ts) most_terms) refl e
  where
    at : (v : Bool) → leb (length ts) most_terms ≡ v → cond v (Fits (length ts) (length (terms_bytes ts))) None ≡ None → most_terms < length ts
    at true t f = absurd (clash (cc))
    at false t f = leb-false (length ts) most_terms t

-- ---- a request measured

module _ (k : Kind) (os : List ℕ) where
  pub measured-high : (b : Bool) → b ≡ too_high k os → b ≡ true → Refused OrderSum ≡ kind_measured k os
  unfolding kind_measured
  measured-high b e t = sym (simp (sym e ∙ t))

  module _ (a b : Bool) (high : a ≡ too_high k os) (low : a ≡ false) (unused : b ≡ unused_set k os) where
    pub measured-unused : b ≡ true → Refused UnusedOrder ≡ kind_measured k os
    unfolding kind_measured
    measured-unused t = sym (simp (sym high ∙ low, sym unused ∙ t))

    module _ (none : b ≡ false) (in-full : length os ≡ request_orders) where
      within : RequestWithin k os
      within = record { low_sums = sym high ∙ low; none-unused = sym unused ∙ none; in-full = in-full }

      pub kept-nibbles : PackMay os
      kept-nibbles = within-nibbles k os within

      pub kept_word : (left : ℕ) → Packed os 0 left → WordMay k os left
      kept_word left word = record { within = within; word = word }

module _ (k : Kind) (os : List ℕ) (left : ℕ) (may : WordMay k os left) where
  first-good-there : Good k left empty_path
  first-good-there = first_good k os may.within left may.word empty_path empty-term

  pub first-measured : MeasureMay k left 1 0
  first-measured = record { path = empty_path; scale-is = refl; count-is = refl; good = first-good-there }

  module _ (size : Measured) (told : Measures k left 1 0 size) where
    size_is : size ≡ measured (terms_of k os)
    size_is = told.is empty_path refl refl first-good-there ∙ ap measured (first-terms k os may.within left may.word empty_path empty-term)

    pub sized-many : size ≡ None → Refused TooManyTerms ≡ kind_measured k os
    unfolding kind_measured
    sized-many e = sym (simp (may.within.low_sums, may.within.none-unused, lt-ltb most_terms (length (terms_of k os)) (measured-over (terms_of k os) (sym size_is ∙ e))))

    module _ (terms bytes : ℕ) (e : size ≡ Fits terms bytes) where
      fits-is : (terms ≡ length (terms_of k os)) × (bytes ≡ length (terms_bytes (terms_of k os))) × (length (terms_of k os) ≤ most_terms)
      fits-is = measured-terms (terms_of k os) terms bytes (sym size_is ∙ e)

      terms-few : terms ≤ most_terms
      terms-few = let h = fits-is.2 in let g = fits-is.0 in omega arith

      bytes-few : bytes ≤ 32 * terms
      bytes-few = let s = told.small-enough.short in let t = ap terms_in e in let b = ap bytes_in e in omega arith

      pub count-cast : terms < 2 ^ 32
      count-cast = let h = terms-few in omega arith

      module _ (h : ℕ) (head-is : h ≡ 1 + orders_of k + length_of terms) where
        pub roll-fits : h + bytes < 2 ^ 64
        roll-fits = let o = orders-within k in let g = length-few terms in let b = bytes-few in let t = terms-few in omega arith

        long-is : h + bytes ≡ length (roll_of k os)
        long-is = let r = roll-length k os may.within in let a = ap length_of fits-is.0 in let b = fits-is.1 in omega arith

        pub sized-roll : Roll (h + bytes) terms ≡ kind_measured k os
        unfolding kind_measured
        sized-roll = ap₂ Roll long-is fits-is.0 ∙ sym (simp (may.within.low_sums, may.within.none-unused, le-ltb most_terms (length (terms_of k os)) fits-is.2))

-- ---- a request that was measured, written where it fits

module _ (k : Kind) (os out : List ℕ) (begin : ℕ) (may : RequestMay k os begin out) where
  pub may-nibbles : PackMay os
  may-nibbles = within-nibbles k os may.within

  pub may-word : (left : ℕ) → Packed os 0 left → WordMay k os left
  may-word left word = record { within = may.within; word = word }

  module _ (doing : ℕ) (size : Answer) (is : size ≡ kind_measured k os) where
    told_is : kind_in (roll_in doing) k os out begin ≡ after_size size (room_told (roll_in doing) k os out begin)
    told_is = measured-in (roll_in doing) k os out begin may.begins ∙ ap (λ (r : Answer). after_size r (room_told (roll_in doing) k os out begin)) (sym is)

    pub told-measured : (n : Refusal) → size ≡ Refused n → KnownTold doing k os out begin (Refused n) out
    told-measured n e = refused-with doing k os out begin n (told_is ∙ ap (λ (r : Answer). after_size r (room_told (roll_in doing) k os out begin)) e)

    pub sized-may : doing < size2 → (left : ℕ) → Packed os 0 left → (e : Expanded) → size ≡ Ok e → SizedMay doing k os left e begin out
    sized-may writes left word e h = record { writes = writes; request = may; word = word; size-is = sym h ∙ is }

module _ (doing : ℕ) (k : Kind) (os : List ℕ) (left : ℕ) (size : Expanded) (begin : ℕ) (out : List ℕ) (may : SizedMay doing k os left size begin out) where
  is : SizeIs k os size.length size.terms
  is = measured-size k os size.length size.terms may.size-is

  told : kind_in (roll_in doing) k os out begin ≡ room_told (roll_in doing) k os out begin
  told =
      measured-in (roll_in doing) k os out begin may.request.begins
      ∙ ap (λ (r : Answer). after_size r (room_told (roll_in doing) k os out begin)) (sym may.size-is)

  pub long-may : LongMay k os left size
  long-may = record { within = may.request.within; word = may.word; size-is = may.size-is }

  module _ (b : Bool) (fits : b ≡ leb (length (roll_in doing k os)) (length out - begin)) where
    pub told-full : b ≡ false → KnownTold doing k os out begin (Refused NoRoom) out
    told-full e =
        refused-with doing k os out begin NoRoom
        (told ∙ simp (lt-ltb (length out) (begin + length (roll_in doing k os)) (let h = leb-false (length (roll_in doing k os)) (length out - begin) (sym fits ∙ e) in let g = may.request.begins in omega arith)))

    module _ (e : b ≡ true) where
      room : length (roll_in doing k os) ≤ length out - begin
      room = leb-true (length (roll_in doing k os)) (length out - begin) (sym fits ∙ e)

      pub roll-may : RollMay doing k os left size.terms (take (length out - begin) (drop begin out))
      roll-may =
          record {
            writes = may.writes;
            within = may.request.within;
            word = may.word;
            count = is.count-is;
            few = let c = is.count-is in let f = is.few in omega arith;
            room = rw (part-all out begin) (let r = room in let d = length-drop begin out in omega arith);
          }

      pub told-roll : (end : ℕ) (part : List ℕ) → Emitted (roll_in doing k os) 0 (take (length out - begin) (drop begin out)) end part → KnownTold doing k os out begin (Roll end size.terms) (put_mid begin (length out - begin) out part)
      told-roll end part put =
          record {
            answer = sym fitted;
            out = part-put out part (roll_in doing k os) begin inside put.out ∙ ap (λ (r : Answer). out_in (roll_in doing) r (Some k) os out begin) (sym fitted);
          }
        where
          inside : begin + length (roll_in doing k os) ≤ length out
          inside = let r = room in let g = may.request.begins in omega arith

          end_is : length (roll_in doing k os) ≡ end
          end_is = let n = put.next in omega arith

          fitted : kind_in (roll_in doing) k os out begin ≡ Roll end size.terms
          fitted = told ∙ (simp (le-ltb (length out) (begin + length (roll_in doing k os)) inside)) ∙ ap₂ Roll end_is (sym is.count-is)

-- a kind above 4, and a known one
module _ (doing kind : ℕ) (os before : List ℕ) (begin : ℕ) (named : Option Kind) (is : named ≡ kind_of kind) where
  pub told-unknown : named ≡ None → FormTold (roll_in doing) kind os before begin (Refused WrongKind) before
  told-unknown e =
      record {
        answer = ap (λ (n : Option Kind). named_in (roll_in doing) n os before begin) (sym e ∙ is);
        out = ap (λ (n : Option Kind). out_in (roll_in doing) (named_in (roll_in doing) n os before begin) n os before begin) (sym e ∙ is);
      }

  pub told-known : (k : Kind) (r : Answer) (after : List ℕ) → named ≡ Some k → KnownTold doing k os before begin r after → FormTold (roll_in doing) kind os before begin r after
  told-known k r after e a =
      record {
        answer = a.answer ∙ ap (λ (n : Option Kind). named_in (roll_in doing) n os before begin) (sym e ∙ is);
        out = a.out ∙ ap (λ (n : Option Kind). out_in (roll_in doing) (named_in (roll_in doing) n os before begin) n os before begin) (sym e ∙ is);
      }

-- the same of a request that is measured
module _ (kind : ℕ) (os : List ℕ) (named : Option Kind) (is : named ≡ kind_of kind) where
  pub measured-unknown : named ≡ None → Refused WrongKind ≡ named_measured (kind_of kind) os
  measured-unknown e = ap (λ (n : Option Kind). named_measured n os) (sym e ∙ is)

  pub measured-known : (k : Kind) (r : Answer) → named ≡ Some k → r ≡ kind_measured k os → r ≡ named_measured (kind_of kind) os
  measured-known k r e a = a ∙ ap (λ (n : Option Kind). named_measured n os) (sym e ∙ is)
