-- The leading terms: they are those fresh terms that stand at the beginning byte for byte, and the most that read one after the other and equal the fresh ones.
use Prim.Native.Nat.{ℕ, zero, suc, zero-le, ◌+◌, ◌≤◌}
use mathlib.Core.Path.{◌≡◌, refl, sym, ap, ◌∙◌}
use mathlib.Core.Logic.{◌⊎◌, inl, inr}
use mathlib.Core.Bool.{Bool, true, false, cond}
use mathlib.Core.List.{List, [], ◌∷◌, ◌++◌}
use native.Mathlib.Omega.{arith}
use borrow.Author.Tests.{ltb-true, ltb-false, eq-eqb, eqb-true}
use lib.Dec.{eqb, ltb}
use lib.ListN.{length, take, drop, length-append, length-drop}
use Rattle.kind.specs.Kinds.{most_l}
use Rattle.kind.specs.declared.Kind.{Kind}
use Rattle.laws.proofs.Cases.{clash}
use Rattle.laws.proofs.Lists.{drop-after}
use Rattle.number.specs.Numbers.{Bytes}
use Rattle.term.specs.Terms.{Term, same_term}
use Rattle.term.proofs.SameTerms.{term-same, term-equal}
use Rattle.roll.specs.Reading.{Reading, got, refused, before}
use Rattle.roll.specs.Fits.{TermsFit}
use Rattle.roll.proofs.Filling.{before-is, and_then-is}
use Rattle.form2.specs.Bytes.{shared}
use Rattle.form2.proofs.BesideLaws.{none-shared, shared-heads}
use Rattle.salvaging.specs.declared.forms.Form.{Form}
use Rattle.salvaging.specs.Salvage.{term_in, Leading, none_from, one_and, where_equal, leading, terms_from}
use Rattle.salvaging.specs.inner.Ends.{behind, end_at, Whole, ends_within}
use Rattle.salvaging.specs.inner.Forms.{term_bytes_in, terms_bytes_in}
use Rattle.salvaging.proofs.EndsLaws.{turn, none_left}
use Rattle.salvaging.proofs.InForms.{term-there, term-only, term-within, terms-next, terms-none, term-end}

-- ---- one turn

module _ (f : Form) (s : List ℕ) (at : ℕ) (k : Kind) (l : ℕ) (earlier : List ℕ) (t : Term) (ts : List Term) where
  -- a term that reads and equals the fresh one
  pub lead-more : (next : ℕ) → term_in f s at k l earlier ≡ got t next → leading f s at k l earlier (t ∷ ts) ≡ one_and (leading f s next k l t.prefactors ts)
  unfolding leading
  lead-more next e =
      ap (λ (r : Reading Term). where_equal at r t (λ m. leading f s m k l t.prefactors ts)) e
      ∙ ap (λ (b : Bool). cond b (one_and (leading f s next k l t.prefactors ts)) (none_from at)) (term-same t t refl)

  -- one that does not
  pub record Stops : Type 0 where
    pub reads-not : (next : ℕ) → term_in f s at k l earlier ≡ got t next → ⊥
    pub none : leading f s at k l earlier (t ∷ ts) ≡ none_from at

  pub record Goes : Type 0 where
    pub next : ℕ
    pub reads : term_in f s at k l earlier ≡ got t next
    pub more : leading f s at k l earlier (t ∷ ts) ≡ one_and (leading f s next k l t.prefactors ts)

  pub lead-turn : Goes ⊎ Stops
  unfolding leading
  lead-turn = by (term_in f s at k l earlier) refl
    where
      by : (r : Reading Term) → term_in f s at k l earlier ≡ r → Goes ⊎ Stops
      by (refused n place) e =
          inr (record {
            reads-not = λ next is. clash (cc);
            none = ap (λ (r : Reading Term). where_equal at r t (λ m. leading f s m k l t.prefactors ts)) e;
          })
      by (got u next) e = on (same_term u t) refl
        where
          on : (b : Bool) → same_term u t ≡ b → Goes ⊎ Stops
          on true same =
              let is : u ≡ t = term-equal u t same in
              let reads : term_in f s at k l earlier ≡ got t next = e ∙ ap (λ (v : Term). got v next) is in
              inl (record { next = next; reads = reads; more = lead-more next reads })
          on false other =
              inr (record {
                reads-not = λ m is.
                    let both : got u next ≡ got t m = sym e ∙ is in
                    let same : u ≡ t = cc in
                    let yes : same_term u t ≡ true = ap (λ (v : Term). same_term v t) same ∙ term-same t t refl in
                    clash (cc (yes, other));
                none =
                    ap (λ (r : Reading Term). where_equal at r t (λ m. leading f s m k l t.prefactors ts)) e
                    ∙ ap (λ (b : Bool). cond b (one_and (leading f s next k l t.prefactors ts)) (none_from at)) other;
              })

pub lead-none : (f : Form) (s : List ℕ) (at : ℕ) (k : Kind) (l : ℕ) (earlier : List ℕ) → leading f s at k l earlier [] ≡ none_from at
unfolding leading
lead-none f s at k l earlier = refl

-- ---- by bytes

-- two lists that begin with the same bytes
shared-behind : (b x y : List ℕ) → shared (b ++ x) (b ++ y) ≡ length b + shared x y
shared-behind [] x y = omega arith
shared-behind (c ∷ b) x y = let rest = shared-behind b x y in let one = shared-heads c c (b ++ x) (b ++ y) true (eq-eqb c c refl) in omega (arith, one, rest)

-- what shares as many as these bytes with what they begin begins with them too
begins : (b x y : List ℕ) → length b ≤ shared x (b ++ y) → x ≡ b ++ drop (length b) x
begins [] x y enough = refl
begins (c ∷ b) [] y enough = let none = none-shared ((c ∷ b) ++ y) in absurd (omega (arith, enough, none))
begins (c ∷ b) (d ∷ x) y enough = by (eqb d c) refl (begins b x y)
  where
    by : (v : Bool) → eqb d c ≡ v → (length b ≤ shared x (b ++ y) → x ≡ b ++ drop (length b) x) → d ∷ x ≡ (c ∷ b) ++ drop (length (c ∷ b)) (d ∷ x)
    by true e rest =
        let one = shared-heads d c x (b ++ y) true e in
        let same : d ≡ c = eqb-true d c e in
        let tail : x ≡ b ++ drop (length b) x = rest (omega (arith, enough, one)) in
        ap (λ (h : ℕ). h ∷ x) same ∙ ap (λ (l : List ℕ). c ∷ l) tail
    by false e rest = let one = shared-heads d c x (b ++ y) false e in absurd (omega (arith, enough, one))

module _ (f : Form) (k : Kind) (l : ℕ) (small : l ≤ most_l k) where
  -- the terms of a fresh roll end inside it
  pub terms-whole : (ts : List Term) (earlier fresh : List ℕ) (at : ℕ) → TermsFit k l ts → at ≤ length fresh → drop at fresh ≡ terms_bytes_in f earlier ts → Whole (behind f) fresh at (length ts)
  unfolding Whole
  terms-whole [] earlier fresh at fit inside is = tt
  terms-whole (t ∷ ts) earlier fresh at fit inside is =
      let split : drop at fresh ≡ term_bytes_in f earlier t ++ terms_bytes_in f t.prefactors ts = is ∙ terms-next f earlier t ts in
      let end : end_at (behind f) fresh at ≡ at + length (term_bytes_in f earlier t) = term-end f k l earlier t fresh (terms_bytes_in f t.prefactors ts) at small fit.0 split in
      let long = sym (length-drop at fresh) ∙ ap length split ∙ length-append (term_bytes_in f earlier t) (terms_bytes_in f t.prefactors ts) in
      let within : end_at (behind f) fresh at ≤ length fresh = omega (arith, end, long, inside) in
      let rest : drop (end_at (behind f) fresh at) fresh ≡ terms_bytes_in f t.prefactors ts = drop-after fresh (term_bytes_in f earlier t) (terms_bytes_in f t.prefactors ts) at (end_at (behind f) fresh at) split end in
      (within, terms-whole ts t.prefactors fresh (end_at (behind f) fresh at) fit.1 within rest)

  -- as many fresh terms end within the bytes that are shared as read one after the other and equal the fresh ones
  pub ends-lead : (ts : List Term) (earlier s fresh : List ℕ) (p at most : ℕ) → TermsFit k l ts → Bytes s → drop at fresh ≡ terms_bytes_in f earlier ts → most ≡ at + shared (drop p s) (drop at fresh) → ends_within (behind f) fresh most at (length ts) ≡ (leading f s p k l earlier ts).count
  ends-lead [] earlier s fresh p at most fit bytes is limit = none_left (behind f) fresh most at ∙ sym (ap (λ (x : Leading). x.count) (lead-none f s p k l earlier))
  ends-lead (t ∷ ts) earlier s fresh p at most fit bytes is limit = by (ltb most (end_at (behind f) fresh at)) refl (λ q next-limit. ends-lead ts t.prefactors s fresh q (end_at (behind f) fresh at) most fit.1 bytes rest next-limit)
    where
      split : drop at fresh ≡ term_bytes_in f earlier t ++ terms_bytes_in f t.prefactors ts
      split = is ∙ terms-next f earlier t ts

      end_is : end_at (behind f) fresh at ≡ at + length (term_bytes_in f earlier t)
      end_is = term-end f k l earlier t fresh (terms_bytes_in f t.prefactors ts) at small fit.0 split

      rest : drop (end_at (behind f) fresh at) fresh ≡ terms_bytes_in f t.prefactors ts
      rest = drop-after fresh (term_bytes_in f earlier t) (terms_bytes_in f t.prefactors ts) at (end_at (behind f) fresh at) split end_is

      limit_is : most ≡ at + shared (drop p s) (term_bytes_in f earlier t ++ terms_bytes_in f t.prefactors ts)
      limit_is = limit ∙ ap (λ (x : List ℕ). at + shared (drop p s) x) split

      by : (v : Bool) → ltb most (end_at (behind f) fresh at) ≡ v
          → ((q : ℕ) → most ≡ end_at (behind f) fresh at + shared (drop q s) (drop (end_at (behind f) fresh at) fresh) → ends_within (behind f) fresh most (end_at (behind f) fresh at) (length ts) ≡ (leading f s q k l t.prefactors ts).count)
          → ends_within (behind f) fresh most at (length (t ∷ ts)) ≡ (leading f s p k l earlier (t ∷ ts)).count
      by true e further = on (lead-turn f s p k l earlier t ts)
        where
          on : Goes f s p k l earlier t ts ⊎ Stops f s p k l earlier t ts → ends_within (behind f) fresh most at (length (t ∷ ts)) ≡ (leading f s p k l earlier (t ∷ ts)).count
          on (inl g) =
              let there : drop p s ≡ term_bytes_in f earlier t ++ drop g.next s = term-only f k l earlier s p t g.next bytes g.reads in
              let both = ap (λ (x : List ℕ). shared x (term_bytes_in f earlier t ++ terms_bytes_in f t.prefactors ts)) there ∙ shared-behind (term_bytes_in f earlier t) (drop g.next s) (terms_bytes_in f t.prefactors ts) in
              absurd (omega (arith, ltb-true most (end_at (behind f) fresh at) e, end_is, limit_is, both))
          on (inr st) = turn (behind f) fresh most at (length ts) true e ∙ sym (ap (λ (x : Leading). x.count) st.none)
      by false e further =
          let enough : length (term_bytes_in f earlier t) ≤ shared (drop p s) (term_bytes_in f earlier t ++ terms_bytes_in f t.prefactors ts) = omega (arith, ltb-false most (end_at (behind f) fresh at) e, end_is, limit_is) in
          let there : drop p s ≡ term_bytes_in f earlier t ++ drop (length (term_bytes_in f earlier t)) (drop p s) = begins (term_bytes_in f earlier t) (drop p s) (terms_bytes_in f t.prefactors ts) enough in
          let x = term-there f k l earlier t s (drop (length (term_bytes_in f earlier t)) (drop p s)) p small fit.0 there in
          let there' : drop p s ≡ term_bytes_in f earlier t ++ drop x.0 s = there ∙ ap (λ (y : List ℕ). term_bytes_in f earlier t ++ y) (sym x.2) in
          let both = ap (λ (y : List ℕ). shared y (term_bytes_in f earlier t ++ terms_bytes_in f t.prefactors ts)) there' ∙ shared-behind (term_bytes_in f earlier t) (drop x.0 s) (terms_bytes_in f t.prefactors ts) in
          let rest-limit = ap (λ (y : List ℕ). shared (drop x.0 s) y) rest in
          let next = further x.0 (omega (arith, end_is, limit_is, both, rest-limit)) in
          turn (behind f) fresh most at (length ts) false e
          ∙ ap suc next
          ∙ sym (ap (λ (y : Leading). y.count) (lead-more f s p k l earlier t ts x.0 x.1))

-- where every fresh term was read and equal, the place behind them is as far on as they are long
pub lead-place : (f : Form) (k : Kind) (l : ℕ) (ts : List Term) (earlier s : List ℕ) (at : ℕ) → Bytes s → at ≤ length s → (leading f s at k l earlier ts).count ≡ length ts → (leading f s at k l earlier ts).place ≡ at + length (terms_bytes_in f earlier ts)
lead-place f k l [] earlier s at bytes inside all =
    let none = ap length (terms-none f earlier) in
    let here = ap (λ (x : Leading). x.place) (lead-none f s at k l earlier) in
    omega (arith, none, here)
lead-place f k l (t ∷ ts) earlier s at bytes inside all = by (lead-turn f s at k l earlier t ts) (λ next. lead-place f k l ts t.prefactors s next bytes)
  where
    by : Goes f s at k l earlier t ts ⊎ Stops f s at k l earlier t ts → ((next : ℕ) → next ≤ length s → (leading f s next k l t.prefactors ts).count ≡ length ts → (leading f s next k l t.prefactors ts).place ≡ next + length (terms_bytes_in f t.prefactors ts)) → (leading f s at k l earlier (t ∷ ts)).place ≡ at + length (terms_bytes_in f earlier (t ∷ ts))
    by (inr st) rest = let none = ap (λ (x : Leading). x.count) st.none in absurd (omega (arith, all, none))
    by (inl g) rest =
        let count = ap (λ (x : Leading). x.count) g.more in
        let place = ap (λ (x : Leading). x.place) g.more in
        let within = term-within f k l earlier s at t g.next g.reads in
        let there = ap length (term-only f k l earlier s at t g.next bytes g.reads) ∙ length-append (term_bytes_in f earlier t) (drop g.next s) in
        let long = ap length (terms-next f earlier t ts) ∙ length-append (term_bytes_in f earlier t) (terms_bytes_in f t.prefactors ts) in
        let further = rest g.next within (omega (arith, all, count)) in
        omega (arith, place, within, there, long, further, length-drop at s, length-drop g.next s, inside)

-- ---- in other words: so many terms that read one after the other and equal the first of the fresh ones

-- there are no more than fresh ones
pub lead-few : (f : Form) (k : Kind) (l : ℕ) (ts : List Term) (earlier s : List ℕ) (at : ℕ) → (leading f s at k l earlier ts).count ≤ length ts
lead-few f k l [] earlier s at = let none = ap (λ (x : Leading). x.count) (lead-none f s at k l earlier) in omega (arith, none)
lead-few f k l (t ∷ ts) earlier s at = by (lead-turn f s at k l earlier t ts) (λ next. lead-few f k l ts t.prefactors s next)
  where
    by : Goes f s at k l earlier t ts ⊎ Stops f s at k l earlier t ts → ((next : ℕ) → (leading f s next k l t.prefactors ts).count ≤ length ts) → (leading f s at k l earlier (t ∷ ts)).count ≤ suc (length ts)
    by (inr st) rest = let none = ap (λ (x : Leading). x.count) st.none in omega (arith, none)
    by (inl g) rest = let count = ap (λ (x : Leading). x.count) g.more in let few = rest g.next in omega (arith, count, few)

-- so many read, and equal the fresh ones
pub lead-reads : (f : Form) (k : Kind) (l : ℕ) (ts : List Term) (earlier s : List ℕ) (at : ℕ) → let lead = leading f s at k l earlier ts in terms_from f s at lead.count k l earlier ≡ got (take lead.count ts) lead.place
unfolding terms_from
lead-reads f k l [] earlier s at = rw (lead-none f s at k l earlier) refl
lead-reads f k l (t ∷ ts) earlier s at = by (lead-turn f s at k l earlier t ts) (λ next. lead-reads f k l ts t.prefactors s next)
  where
    by : Goes f s at k l earlier t ts ⊎ Stops f s at k l earlier t ts
        → ((next : ℕ) → let lead = leading f s next k l t.prefactors ts in terms_from f s next lead.count k l t.prefactors ≡ got (take lead.count ts) lead.place)
        → let lead = leading f s at k l earlier (t ∷ ts) in terms_from f s at lead.count k l earlier ≡ got (take lead.count (t ∷ ts)) lead.place
    by (inr st) rest = rw st.none refl
    by (inl g) rest = rw g.more (rw g.reads (rw (rest g.next) refl))

-- and no more do
pub lead-most : (f : Form) (k : Kind) (l : ℕ) (ts : List Term) (earlier s : List ℕ) (at n end : ℕ) → n ≤ length ts → terms_from f s at n k l earlier ≡ got (take n ts) end → n ≤ (leading f s at k l earlier ts).count
unfolding terms_from
lead-most f k l ts earlier s at zero end few e = zero-le
lead-most f k l [] earlier s at (suc n) end few e = absurd (omega (arith, few))
lead-most f k l (t ∷ ts) earlier s at (suc n) end few e =
    let x = and_then-is (term_in f s at k l earlier) (λ u next. before (u ∷ []) (terms_from f s next n k l u.prefactors)) (t ∷ take n ts) end e in
    let b = before-is x.0 (terms_from f s x.1 n k l x.0.prefactors) (t ∷ take n ts) end x.3 in
    let same : x.0 ≡ t = cc b.2 in
    let tail : b.0 ≡ take n ts = cc b.2 in
    let reads : term_in f s at k l earlier ≡ got t x.1 = x.2 ∙ ap (λ (u : Term). got u x.1) same in
    let others : terms_from f s x.1 n k l t.prefactors ≡ got (take n ts) end = ap (λ (u : Term). terms_from f s x.1 n k l u.prefactors) (sym same) ∙ b.1 ∙ ap (λ (us : List Term). got us end) tail in
    let rest = lead-most f k l ts t.prefactors s x.1 n end (omega (arith, few)) others in
    let count = ap (λ (y : Leading). y.count) (lead-more f s at k l earlier t ts x.1 reads) in
    omega (arith, rest, count)
