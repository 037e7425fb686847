-- How long a roll is in form 2: a term has at most one byte more than in form 1, and a walk that writes nothing tells the rest.
use Prim.Native.Nat.{ℕ, ◌+◌, ◌^◌, ◌≤◌, ◌<◌}
use mathlib.Core.Path.{◌≡◌, sym, ap, ◌∙◌}
use mathlib.Core.Bool.{Bool, true, cond}
use mathlib.Core.List.{List, []}
use native.Mathlib.Omega.{arith}
use borrow.Author.Tests.{eq-eqb, ne_eqb, le-leb}
use lib.Dec.{leb}
use lib.ListN.{length, get_or, take}
use Rattle.kind.specs.declared.Kind.{Kind}
use Rattle.kind.specs.Kinds.{orders_of}
use Rattle.term.specs.Terms.{Term}
use Rattle.number.specs.Numbers.{length_of}
use Rattle.form2.specs.Bytes.{terms_bytes2}
use Rattle.form2.proofs.AtMost.{terms-longer}
use Rattle.expansion.specs.declared.Path.{Path}
use Rattle.expansion.specs.declared.Expanded.{Expanded}
use Rattle.expansion.specs.Expanding.{terms_of, roll_of, roll_of2}
use Rattle.expansion.specs.inner.View.{path_term}
use Rattle.expansion.specs.inner.Sinks.{in_form1, size2, Sink, sink_of, forms_bytes, with_terms, end_of, Took}
use Rattle.expansion.specs.inner.Walking.{terms_below, NodeMay}
use Rattle.expansion.specs.inner.Requests.{roll_in, empty_term, LongMay}
use Rattle.expansion.proofs.HeaderLaws.{first_good, first-terms, roll-length, roll-length2, first_sink, first-place, first-few}
use Rattle.expansion.proofs.Longest.{within-most, kind-most, most-is}
use Rattle.expansion.proofs.ReadsBack.{roll-fits}
use Rattle.expansion.proofs.Sizes.{SizeIs, measured-size}

-- ---- a request that was measured in form 1

module _ (k : Kind) (os : List ℕ) (left : ℕ) (size : Expanded) (may : LongMay k os left size) where
  is : SizeIs k os size.length size.terms
  is = measured-size k os size.length size.terms may.size-is

  -- a roll and its count are far below what a word holds
  few_bytes : size.length + size.terms < 2 ^ 32
  unfolding roll_of
  few_bytes =
      let most = within-most (record { kind = k; orders = take (orders_of k) os; terms = terms_of k os }) (roll-fits k os may.within is.few) in
      let a = kind-most k in
      let b = most-is in
      let c = is.long-is in
      let d = is.count-is in
      let e = is.few in
      omega arith

  pub sum_fits : size.length + size.terms < 2 ^ 64
  sum_fits = let h = few_bytes in omega arith

  longer : length (roll_of2 k os) ≤ size.length + size.terms
  longer =
      let a = roll-length k os may.within in
      let b = roll-length2 k os may.within in
      let c = terms-longer [] (terms_of k os) in
      let d = is.long-is in
      let e = is.count-is in
      omega arith

  -- ---- the walk that writes nothing

  module _ (out : List ℕ) (p : Path) (empty : path_term p ≡ empty_term) where
    terms-are : terms_below k left p ≡ terms_of k os
    terms-are = first-terms k os may.within left may.word p empty

    place_is : (with_terms (first_sink size2 0 out) (terms_below k left p)).place ≡ length (terms_bytes2 [] (terms_of k os))
    unfolding forms_bytes
    place_is =
        first-place size2 0 out (terms_below k left p)
        ∙ ap (λ (ts : List Term). 0 + length (terms_bytes2 [] ts)) terms-are
        ∙ none
      where
        none : 0 + length (terms_bytes2 [] (terms_of k os)) ≡ length (terms_bytes2 [] (terms_of k os))
        none = omega arith

    pub size-may : NodeMay k left p (first_sink size2 0 out)
    unfolding end_of sink_of
    size-may =
        record {
          good = first_good k os may.within left may.word p empty;
          room =
              record {
                fits = let a = place_is in let b = roll-length2 k os may.within in let c = longer in let d = few_bytes in omega arith;
                few = first-few size2 0 out (terms_below k left p);
              };
        }

    pub size-walked : (words after : List ℕ) → Took (first_sink size2 0 out) (terms_below k left p) (sink_of words after) → get_or words 1 0 ≡ length (terms_bytes2 [] (terms_of k os))
    unfolding sink_of
    size-walked words after done = ap (λ (s : Sink). s.place) done.is ∙ place_is

  -- ---- whether there is room

  module _ (head terms : ℕ) (head-is : head ≡ 1 + orders_of k + length_of size.terms) (terms-is : terms ≡ length (terms_bytes2 [] (terms_of k os))) where
    whole : head + terms ≡ length (roll_of2 k os)
    whole = let a = roll-length2 k os may.within in let b = ap length_of is.count-is in omega arith

    pub whole-fits : head + terms < 2 ^ 64
    whole-fits = let w = whole in let l = longer in let f = few_bytes in omega arith

  module _ (doing room : ℕ) where
    pub fits_one : doing ≡ in_form1 → leb size.length room ≡ leb (length (roll_in doing k os)) room
    fits_one e = ap (λ (n : ℕ). leb n room) is.long-is ∙ sym (ap (λ (b : Bool). leb (length (cond b roll_of roll_of2 k os)) room) (eq-eqb doing in_form1 e))

    module _ (two : doing ≡ in_form1 → ⊥) where
      in_two : leb (length (roll_in doing k os)) room ≡ leb (length (roll_of2 k os)) room
      in_two = ap (λ (b : Bool). leb (length (cond b roll_of roll_of2 k os)) room) (ne_eqb doing in_form1 two)

      pub fits-sure : size.length + size.terms ≤ room → true ≡ leb (length (roll_in doing k os)) room
      fits-sure h = sym (in_two ∙ le-leb (length (roll_of2 k os)) room (let l = longer in omega arith))

      pub fits-walked : (head terms : ℕ) → head ≡ 1 + orders_of k + length_of size.terms → terms ≡ length (terms_bytes2 [] (terms_of k os)) → leb (head + terms) room ≡ leb (length (roll_in doing k os)) room
      fits-walked head terms e f = ap (λ (n : ℕ). leb n room) (whole head terms e f) ∙ sym in_two
