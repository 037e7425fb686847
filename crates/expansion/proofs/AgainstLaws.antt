-- A request's roll held against bytes: a law for each answer.
use Prim.Native.Nat.{ℕ, ◌+◌, ◌≤◌, ◌<◌}
use mathlib.Core.Path.{◌≡◌, refl, sym, ap, ap₂, ◌∙◌}
use mathlib.Core.Bool.{Bool, true, false, cond}
use mathlib.Core.List.{List, [], ◌∷◌, ◌++◌}
use native.Mathlib.Omega.{arith}
use borrow.Author.Tests.{le-ltb}
use lib.ListN.{length, get_or, take, drop, length-append}
use Rattle.laws.specs.Same.{same_numbers}
use Rattle.laws.proofs.SameLaws.{same-numbers-is, same-numbers-refl}
use Rattle.laws.proofs.Cases.{clash}
use Rattle.kind.specs.declared.Kind.{Kind}
use Rattle.kind.specs.Kinds.{kind_of}
use Rattle.kind.specs.Limits.{most_terms, request_orders}
use Rattle.kind.proofs.Within.{orders-within}
use Rattle.number.proofs.Writing.{length-few}
use Rattle.form2.specs.Bytes.{shared}
use Rattle.form2.proofs.Sharing.{shares}
use Rattle.form2.proofs.BesideLaws.{shared-within, shared-whole, shared-itself, shared-all}
use Rattle.expansion.specs.declared.Path.{Path}
use Rattle.expansion.specs.declared.Expanded.{Expanded}
use Rattle.expansion.specs.Answer.{Answer}
use Rattle.expansion.specs.Answer as size
use Rattle.expansion.specs.declared.matching.Against.{Against}
use Rattle.expansion.specs.declared.matching.Against.TheVariants.{Same, Differs}
use Rattle.expansion.specs.Expanding.{Form, too_high, unused_set, too_many, terms_of, roll_of, kind_measured}
use Rattle.expansion.specs.Against.{held_against, kind_against, named_against}
use Rattle.expansion.specs.inner.View.{five_bits, path_prefactors, path_term, Emitted}
use Rattle.expansion.specs.inner.Sinks.{forms_bytes}
use Rattle.expansion.specs.inner.Walking.{terms_below}
use Rattle.expansion.specs.inner.Requests.{roll_in, form_of, head_of, empty_term, Packed, HeadMay}
use Rattle.expansion.specs.inner.Matching.{Match, match_of, differing, matched_all, Matched, NodeApt, CountMay, HeadSame}
use Rattle.expansion.proofs.Sizes.{SizeIs, measured-size}
use Rattle.expansion.proofs.HeaderLaws.{first_good, first-terms, roll-bytes, head-length, form-most}
use Rattle.expansion.proofs.MatchLaws.{Besides, besides, differing-less}
use Rattle.expansion.proofs.MatchTerms.{front, all-inside, as_many}
use Rattle.std.specs.Prelude.{Option, Some, None, Result, Ok, Err}
use Rattle.kind.specs.declared.refusals.Refusal.{Refusal}
use Rattle.kind.specs.declared.refusals.Refusal.TheVariants.{WrongKind, OrderSum, UnusedOrder, TooManyTerms}

-- ---- the bytes are the roll's, or they are not

module _ (s fresh : List ℕ) (n : ℕ) where
  pub held_same : s ≡ fresh → Same (length fresh) n ≡ held_against s fresh n
  held_same e = sym (ap (λ (b : Bool). cond b (Same (length fresh) n) (Differs (shared s fresh))) (ap (λ (l : List ℕ). same_numbers l fresh) e ∙ same-numbers-refl fresh))

  pub held-other : (s ≡ fresh → ⊥) → Differs (shared s fresh) ≡ held_against s fresh n
  held-other other = by (same_numbers s fresh) refl
    where
      by : (b : Bool) → same_numbers s fresh ≡ b → Differs (shared s fresh) ≡ cond (same_numbers s fresh) (Same (length fresh) n) (Differs (shared s fresh))
      by true e = absurd (other (same-numbers-is s fresh e))
      by false e = rw e

-- ---- what stands before the terms

module _ (form : ℕ) (k : Kind) (os : List ℕ) (left count : ℕ) (may : CountMay k os left count) where
  abbrev head : List ℕ
  head = head_of (form_of form) k os

  abbrev terms : List ℕ
  terms = forms_bytes form [] (terms_of k os)

  abbrev fresh : List ℕ
  fresh = roll_in form k os

  fresh-is : fresh ≡ head ++ terms
  fresh-is = roll-bytes k os may.within form

  short : length head ≤ 32
  short = let h = head-length k os may.within (form_of form) in let o = orders-within k in let l = length-few (length (terms_of k os)) in omega arith

  module _ (f : ℕ) (f-is : f ≡ form_of form) where
    same_head : head_of f k os ≡ head
    same_head = ap (λ (i : ℕ). head_of i k os) f-is

    pub head-fits : (before : List ℕ) → 32 ≤ length before → HeadMay f k os count before
    head-fits before room =
        record {
          within = may.within;
          either = let h = form-most form in omega arith;
          count = may.count-is;
          few = let c = may.count-is in let h = may.few in omega arith;
          room = let a = ap length same_head in let b = short in omega arith;
        }

    module _ (before : List ℕ) (all : ℕ) (after : List ℕ) (put : Emitted (head_of f k os) 0 before all after) (room : 32 ≤ length before) where
      inside : length (head_of f k os) ≤ length before
      inside = let a = ap length same_head in let b = short in omega arith

      pub head-whole : all ≤ length after
      head-whole = all-inside before (head_of f k os) all after inside put

      pub head-counted : all ≡ length (take all after)
      head-counted = as_many all after head-whole

      all-is : all ≡ length head
      all-is = let a = put.next in let b = ap length same_head in omega arith

      module _ (s : List ℕ) (same : ℕ) (is : same ≡ shared s (take all after)) where
        there : same ≡ shared s head
        there = is ∙ ap (shared s) (front before (head_of f k os) all after inside put ∙ same_head)

        pub head-differs : same < all → Differs same ≡ held_against s fresh (length (terms_of k os))
        head-differs less =
            let part : shared s head < length head = omega (arith, there, all-is, less) in
            let shares-so : shared s fresh ≡ same = ap (shared s) fresh-is ∙ shared-within s head terms part ∙ sym there in
            let long = ap length fresh-is ∙ length-append head terms in
            let not : s ≡ fresh → ⊥ = λ e. omega (arith, ap (λ (l : List ℕ). shared l fresh) e ∙ shared-itself fresh, shares-so, long, less, all-is) in
            ap Differs (sym shares-so) ∙ held-other s fresh (length (terms_of k os)) not

        pub head-same : all ≤ same → HeadSame form k os s all
        head-same h = let most = (shares s head).right in record { at-is = all-is; same = omega (arith, there, all-is, most, h) }

  -- ---- the terms

  module _ (s : List ℕ) (at : ℕ) (begins : HeadSame form k os s at) (p : Path) (empty : path_term p ≡ empty_term) where
    abbrev start : Match
    start = match_of (form ∷ at ∷ 0 ∷ 0 ∷ 0 ∷ 0 ∷ [])

    start_is : start ≡ record { form = form; place = at; earlier = []; differs = 0 }
    unfolding match_of path_prefactors five_bits
    start_is = refl

    at-inside : at ≤ length s
    at-inside = let a = (shares s head).left in let b = begins.same in omega arith

    pub terms-apt : NodeApt s k left p start
    terms-apt =
        record {
          good = first_good k os may.within left may.word p empty;
          apt =
              record {
                inside = let a = ap (λ (m : Match). m.place) start_is in let b = at-inside in omega arith;
                few = let a = ap (λ (m : Match). length m.earlier) start_is in omega arith;
              };
        }

    module _ (words : List ℕ) (done : Matched s start (terms_below k left p) (match_of words)) where
      abbrev clean : Match
      clean = record { form = form; place = at; earlier = []; differs = 0 }

      ends : match_of words ≡ matched_all s clean (terms_of k os)
      ends = done.is ∙ ap₂ (matched_all s) start_is (first-terms k os may.within left may.word p empty)

      all : Besides s clean (terms_of k os)
      all = besides s (terms_of k os) clean refl

      abbrev along : ℕ
      along = shared (drop at s) terms

      whole : shared s fresh ≡ at + along
      whole =
          ap (shared s) fresh-is ∙ shared-whole s head terms (begins.same ∙ begins.at-is)
          ∙ ap (λ (i : ℕ). i + shared (drop i s) terms) (sym begins.at-is)

      long : length fresh ≡ at + length terms
      long = ap length fresh-is ∙ length-append head terms ∙ ap (λ (i : ℕ). i + length terms) (sym begins.at-is)

      place_is : get_or words 1 0 ≡ shared s fresh
      unfolding match_of
      place_is = ap (λ (m : Match). m.place) ends ∙ all.place_is ∙ sym whole

      differs-is : get_or words 2 0 ≡ differing along (length terms)
      unfolding match_of
      differs-is = ap (λ (m : Match). m.differs) ends ∙ all.differs-is

      none-differs : (a b : ℕ) → a ≡ b → differing a b ≡ 0
      none-differs a b e = ap (λ (i : ℕ). differing a i) (sym e) ∙ Rattle.expansion.proofs.MatchLaws.differing-same a

      pub terms-differ : (get_or words 2 0 ≡ 0 → ⊥) → Differs (get_or words 1 0) ≡ held_against s fresh (length (terms_of k os))
      terms-differ other =
          let not : s ≡ fresh → ⊥ = λ e. other (differs-is ∙ none-differs along (length terms) (omega (arith, ap (λ (l : List ℕ). shared l fresh) e ∙ shared-itself fresh, whole, long))) in
          ap Differs place_is ∙ held-other s fresh (length (terms_of k os)) not

      pub terms-follow : (get_or words 1 0 ≡ length s → ⊥) → Differs (get_or words 1 0) ≡ held_against s fresh (length (terms_of k os))
      terms-follow other =
          let not : s ≡ fresh → ⊥ = λ e. other (place_is ∙ ap (λ (l : List ℕ). shared l fresh) e ∙ shared-itself fresh ∙ ap length (sym e)) in
          ap Differs place_is ∙ held-other s fresh (length (terms_of k os)) not

      pub terms-same : get_or words 2 0 ≡ 0 → get_or words 1 0 ≡ length s → Same (get_or words 1 0) count ≡ held_against s fresh (length (terms_of k os))
      terms-same none end =
          let met : along ≡ length terms = by_cases in
          let e : s ≡ fresh = shared-all s fresh (omega (arith, whole, long, met)) (omega (arith, sym end ∙ place_is, whole, long, met)) in
          ap₂ Same (end ∙ ap length e) may.count-is ∙ held_same s fresh (length (terms_of k os)) e
        where
          by_cases : along ≡ length terms
          by_cases = at_test (lib.Dec.eqb along (length terms)) refl
            where
              at_test : (b : Bool) → lib.Dec.eqb along (length terms) ≡ b → along ≡ length terms
              at_test true e = borrow.Author.Tests.eqb-true along (length terms) e
              at_test false e = absurd (omega (arith, none, differs-is, differing-less along (length terms) (borrow.Author.Tests.eqb-false along (length terms) e)))

-- ---- the refusals

pub counted : (k : Kind) (os : List ℕ) (a b : Bool) → a ≡ too_high k os → a ≡ false → b ≡ unused_set k os → b ≡ false → length os ≡ request_orders → (left : ℕ) → Packed os 0 left
    → (r : Answer) → r ≡ kind_measured k os → (e : Expanded) → r ≡ Ok e → CountMay k os left e.terms
counted k os a b high low unused none in-full left word r is e h =
    let size_is = measured-size k os e.length e.terms (sym h ∙ is) in
    record { within = record { low_sums = sym high ∙ low; none-unused = sym unused ∙ none; in-full = in-full }; word = word; count-is = size_is.count-is; few = size_is.few }

module _ (roll : Form) (k : Kind) (os s : List ℕ) where
  pub against-high : (b : Bool) → b ≡ too_high k os → b ≡ true → Err OrderSum ≡ kind_against roll k os s
  unfolding kind_against
  against-high b e t = sym (simp (sym e ∙ t))

  module _ (a b : Bool) (high : a ≡ too_high k os) (low : a ≡ false) (unused : b ≡ unused_set k os) where
    pub against-unused : b ≡ true → Err UnusedOrder ≡ kind_against roll k os s
    unfolding kind_against
    against-unused t = sym (simp (sym high ∙ low, sym unused ∙ t))

    module _ (none : b ≡ false) (r : Answer) (is : r ≡ kind_measured k os) where
      many : (v : Bool) → too_many k os ≡ v → kind_measured k os ≡ cond v (size.Refused TooManyTerms) (size.Roll (length (roll_of k os)) (length (terms_of k os)))
      unfolding kind_measured
      many v e = simp (sym high ∙ low, sym unused ∙ none, e)

      pub against-many : (n : Refusal) → r ≡ Err n → Err n ≡ kind_against roll k os s
      unfolding kind_against
      against-many n e = by (too_many k os) refl
        where
          by : (v : Bool) → too_many k os ≡ v → Err n ≡ kind_against roll k os s
          by true f =
              let four : size.Refused n ≡ size.Refused TooManyTerms = sym e ∙ is ∙ many true f in
              let same : n ≡ TooManyTerms = cc in
              ap (λ (m : Refusal). Err m) same ∙ sym (simp (sym high ∙ low, sym unused ∙ none, f))
          by false f =
              let no : size.Refused n ≡ size.Roll (length (roll_of k os)) (length (terms_of k os)) = sym e ∙ is ∙ many false f in
              absurd (clash (cc))

      module _ (e : Expanded) (h : r ≡ Ok e) where
        size_is : SizeIs k os e.length e.terms
        size_is = measured-size k os e.length e.terms (sym h ∙ is)

        pub against-held : (x : Against) → x ≡ held_against s (roll k os) (length (terms_of k os)) → Ok x ≡ kind_against roll k os s
        unfolding kind_against
        against-held x told = ap (λ (y : Against). Ok y) told ∙ sym (simp (sym high ∙ low, sym unused ∙ none, le-ltb most_terms (length (terms_of k os)) size_is.few))

-- a kind above 4, and a known one
module _ (roll : Form) (kind : ℕ) (os s : List ℕ) (named : Option Kind) (is : named ≡ kind_of kind) where
  pub against-unknown : named ≡ None → Err WrongKind ≡ named_against roll (kind_of kind) os s
  against-unknown e = ap (λ (n : Option Kind). named_against roll n os s) (sym e ∙ is)

  pub against-known : (k : Kind) (r : Result Against Refusal) → named ≡ Some k → r ≡ kind_against roll k os s → r ≡ named_against roll (kind_of kind) os s
  against-known k r e a = a ∙ ap (λ (n : Option Kind). named_against roll n os s) (sym e ∙ is)
