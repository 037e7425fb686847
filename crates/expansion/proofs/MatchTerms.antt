-- A term compared: its bytes are put into a small buffer, and held against those at the place.
use Prim.Native.Nat.{ℕ, ◌+◌, ◌-◌, ◌^◌, ◌≤◌, ◌<◌}
use mathlib.Core.Path.{◌≡◌, refl, sym, ap, ap₂, ◌∙◌}
use mathlib.Core.Bool.{Bool, true, false, cond}
use mathlib.Core.List.{List, [], ◌∷◌}
use native.Mathlib.Omega.{arith}
use native.Mathlib.Nat.{zero-add}
use borrow.Author.Tests.{eq-eqb, ne_eqb}
use lib.Dec.{eqb}
use lib.ListN.{length, get_or, take, drop, length-drop}
use lib.Seq.{sets, sets-eq, length-sets, length-take-le, take_at}
use Rattle.laws.proofs.Parts.{part-all}
use Rattle.term.specs.Terms.{Term}
use Rattle.number.specs.Numbers.{length_of}
use Rattle.number.proofs.Writing.{length-few}
use Rattle.roll.specs.Bytes.{term_bytes}
use Rattle.form2.specs.Bytes.{shared, term_bytes2}
use Rattle.form2.proofs.Sharing.{shares}
use Rattle.expansion.specs.declared.Path.{Path}
use Rattle.expansion.specs.declared.matching.Beside.{Beside}
use Rattle.expansion.specs.inner.View.{path_prefactors, path_term, Emitted}
use Rattle.expansion.specs.inner.Sinks.{in_form1, in_form2, size2, Sink, sink_of, form_bytes, stored_in, with_term, with_terms, end_of, Took, EmitMay}
use Rattle.expansion.specs.inner.Matching.{written_in, BesideTold, match_of, differing, matched_all, Matched, TermApt}
use Rattle.expansion.proofs.TermsWords.{length-prefactors}
use Rattle.expansion.proofs.TermsBytes.{term-length}
use Rattle.expansion.proofs.FurtherBytes.{after-length, term-bytes2}
use Rattle.expansion.proofs.MatchLaws.{one-is, matched-ended}

-- what was put at the front of a buffer that has room for it
pub front : (before bytes : List ℕ) (all : ℕ) (after : List ℕ) → length bytes ≤ length before → Emitted bytes 0 before all after → take all after ≡ bytes
front before bytes all after room put =
    ap₂ take count (put.out ∙ sets-eq bytes before 0 (omega arith)) ∙ take_at bytes (drop (0 + length bytes) before) (length bytes) refl
  where
    count : all ≡ length bytes
    count = let n = put.next in omega arith

pub all-inside : (before bytes : List ℕ) (all : ℕ) (after : List ℕ) → length bytes ≤ length before → Emitted bytes 0 before all after → all ≤ length after
all-inside before bytes all after room put = let n = put.next in let l = ap length put.out ∙ length-sets before 0 bytes in omega arith

-- as many bytes as were put
pub as_many : (all : ℕ) (after : List ℕ) → all ≤ length after → all ≡ length (take all after)
as_many all after room = sym (length-take-le all after room)

-- a form's sink writes, and its bytes are the form's
pub written_one : (form : ℕ) → form ≡ in_form1 → in_form1 ≡ written_in form
unfolding written_in
written_one form e = sym (rw (eq-eqb form in_form1 e) refl)

pub written-two : (form : ℕ) → (form ≡ in_form1 → ⊥) → in_form2 ≡ written_in form
unfolding written_in
written-two form e = sym (rw (ne_eqb form in_form1 e) refl)

module _ (form : ℕ) (earlier : List ℕ) (t : Term) where
  written-bytes : form_bytes (written_in form) earlier t ≡ form_bytes form earlier t
  unfolding form_bytes written_in
  written-bytes = by (eqb form in_form1)
    where
      by : (b : Bool) → cond (eqb (cond b in_form1 in_form2) in_form1) (term_bytes t) (term_bytes2 earlier t) ≡ cond b (term_bytes t) (term_bytes2 earlier t)
      by true = refl
      by false = refl

written-writes : (form : ℕ) → written_in form ≡ size2 → ⊥
unfolding written_in
written-writes form = by (eqb form in_form1)
  where
    by : (b : Bool) → cond b in_form1 in_form2 ≡ size2 → ⊥
    by true e = omega arith
    by false e = omega arith

module _ (form count low high : ℕ) (p : Path) (boys : p.boys < 128) (few : p.count < 25) where
  abbrev earlier : List ℕ
  earlier = path_prefactors count low high

  scale-few : length_of p.scale ≤ 5
  scale-few = length-few p.scale

  -- a term in either form has no more than 32 bytes
  pub form-short : length (form_bytes form earlier (path_term p)) ≤ 32
  unfolding form_bytes
  form-short = by (eqb form in_form1)
    where
      by : (b : Bool) → length (cond b (term_bytes (path_term p)) (term_bytes2 earlier (path_term p))) ≤ 32
      by true = let l = term-length p boys few in let s = scale-few in omega arith
      by false =
          let o = ap length (term-bytes2 earlier p (shared earlier (path_term p).prefactors) boys few refl) in
          let l = after-length p (shared earlier (path_term p).prefactors) in
          let s = scale-few in
          omega arith

module _ (form w count low high : ℕ) (is : w ≡ written_in form) (p : Path) (out : List ℕ) (boys : p.boys < 128) (few : p.count < 25) where
  abbrev at_front : Sink
  at_front = sink_of (w ∷ 0 ∷ count ∷ low ∷ high ∷ []) out

  abbrev before-it : List ℕ
  before-it = path_prefactors count low high

  same_bytes : form_bytes w before-it (path_term p) ≡ form_bytes form before-it (path_term p)
  same_bytes = ap (λ (i : ℕ). form_bytes i before-it (path_term p)) is ∙ written-bytes form before-it (path_term p)

  writes : w ≡ size2 → ⊥
  writes e = written-writes form (sym is ∙ e)

  pub alone-may : p.scale < 2 ^ 32 → count < 25 → 32 ≤ length out → EmitMay p at_front
  unfolding sink_of with_terms with_term end_of
  alone-may scale short room =
      record {
        scale = scale;
        boys = boys;
        count = few;
        room =
            record {
              fits = rw (ne_eqb w size2 writes) (let a = form-short form count low high p boys few in let b = ap length same_bytes in omega arith);
              few = let l = length-prefactors count low high in omega arith;
            };
      }

  pub alone-put : (words after : List ℕ) → Took at_front (path_term p ∷ []) (sink_of words after) → Emitted (form_bytes form before-it (path_term p)) 0 out (get_or words 1 0) after
  unfolding sink_of with_terms with_term stored_in
  alone-put words after took =
      record {
        next = ap (λ (s : Sink). s.place) took.is ∙ ap (λ (l : List ℕ). 0 + length l) same_bytes;
        out =
            ap (λ (s : Sink). s.out) took.is
            ∙ ap (λ (b : Bool). cond b out (sets out 0 (form_bytes w before-it (path_term p)))) (ne_eqb w size2 writes)
            ∙ ap (sets out 0) same_bytes;
      }

module _ (s words : List ℕ) (p : Path) (may : TermApt s p (match_of words)) where
  pub earlier-few : get_or words 3 0 < 25
  unfolding match_of
  earlier-few = let h = may.apt.few in let l = length-prefactors (get_or words 3 0) (get_or words 4 0) (get_or words 5 0) in omega arith

  pub place_inside : get_or words 1 0 ≤ length s
  unfolding match_of
  place_inside = may.apt.inside

  pub match-stays : (get_or words 2 0 ≡ 0 → ⊥) → Matched s (match_of words) (path_term p ∷ []) (match_of words)
  unfolding match_of
  match-stays ended = matched-ended s (match_of words) (path_term p ∷ []) may.apt ended

  module _ (r : Beside) (told : BesideTold s (get_or words 1 0) (form_bytes (get_or words 0 0) (path_prefactors (get_or words 3 0) (get_or words 4 0) (get_or words 5 0)) (path_term p)) r) where
    pub match-one : (place d : ℕ) → place ≡ get_or words 1 0 + r.same → d ≡ differing r.same r.all → get_or words 2 0 ≡ 0
        → Matched s (match_of words) (path_term p ∷ []) (match_of (get_or words 0 0 ∷ place ∷ d ∷ p.count ∷ p.low ∷ p.high ∷ []))
    unfolding match_of matched_all
    match-one place d place_is differs none =
        record {
          is =
              (λ i. record {
                form = get_or words 0 0;
                place = (place_is ∙ ap (λ (n : ℕ). get_or words 1 0 + n) told.same-is) i;
                earlier = (path_term p).prefactors;
                differs = (differs ∙ ap₂ differing told.same-is told.all-is) i;
              })
              ∙ sym (one-is s (match_of words) none (path_term p));
          apt = record { inside = omega (arith, place_is, told.inside); few = let l = length-prefactors p.count p.low p.high in let c = may.count in omega arith };
        }

-- the bytes that were put aside, and those from the place on
module _ (form count low high : ℕ) (p : Path) (before : List ℕ) (all : ℕ) (after : List ℕ) (put : Emitted (form_bytes form (path_prefactors count low high) (path_term p)) 0 before all after)
    (boys : p.boys < 128) (few : p.count < 25) (room : 32 ≤ length before) where
  abbrev bytes : List ℕ
  bytes = form_bytes form (path_prefactors count low high) (path_term p)

  short : length bytes ≤ length before
  short = let h = form-short form count low high p boys few in omega arith

  pub all-fits : all ≤ length after
  all-fits = all-inside before bytes all after short put

  pub all-counted : all ≡ length (take all after)
  all-counted = as_many all after all-fits

  pub beside-told : (s : List ℕ) (at same : ℕ) → at ≤ length s → same ≡ shared (take (length s - at) (drop at s)) (take all after) → BesideTold s at bytes (record { same = same; all = all })
  beside-told s at same within is =
      let there : same ≡ shared (drop at s) bytes = is ∙ ap₂ shared (part-all s at) (front before bytes all after short put) in
      record {
        same-is = there;
        all-is = put.next ∙ zero-add (length bytes);
        inside = let a = (shares (drop at s) bytes).left in let b = length-drop at s in omega (arith, a, b, there);
      }
