-- Terms one after the other in a sink: the place grows, the room stays, and what is written in the end is the bytes of them all.
use Prim.Native.Nat.{ℕ, ◌+◌, ◌^◌, ◌≤◌}
use mathlib.Core.Path.{◌≡◌, refl, sym, ap, ◌∙◌}
use mathlib.Core.Bool.{Bool, true, false, cond}
use mathlib.Core.List.{List, [], ◌∷◌, ◌++◌}
use native.Mathlib.Omega.{arith}
use lib.Dec.{eqb}
use lib.ListN.{length, length-append}
use lib.Seq.{sets, length-sets}
use Rattle.laws.proofs.Lists.{sets-append}
use Rattle.term.specs.Terms.{Term}
use Rattle.roll.specs.Bytes.{term_bytes, terms_bytes}
use Rattle.form2.specs.Bytes.{term_bytes2, terms_bytes2}
use Rattle.expansion.specs.inner.Sinks.{in_form1, size2, Sink, form_bytes, forms_bytes, stored_in, with_term, with_terms, end_of, Room, Took}

pub with_append : (s : Sink) (xs ys : List Term) → with_terms s (xs ++ ys) ≡ with_terms (with_terms s xs) ys
unfolding with_terms
with_append s [] ys = refl
with_append s (t ∷ xs) ys = with_append (with_term s t) xs ys

pub place-grows : (s : Sink) (ts : List Term) → s.place ≤ (with_terms s ts).place
unfolding with_terms with_term
place-grows s [] = omega arith
place-grows s (t ∷ ts) = let h = place-grows (with_term s t) ts in omega arith

stored-length : (doing : ℕ) (out : List ℕ) (at : ℕ) (bytes : List ℕ) → length (stored_in doing out at bytes) ≡ length out
unfolding stored_in
stored-length doing out at bytes = by (eqb doing size2)
  where
    by : (b : Bool) → length (cond b out (sets out at bytes)) ≡ length out
    by true = refl
    by false = length-sets out at bytes

pub doing-stays : (s : Sink) (ts : List Term) → (with_terms s ts).doing ≡ s.doing
unfolding with_terms with_term
doing-stays s [] = refl
doing-stays s (t ∷ ts) = doing-stays (with_term s t) ts

pub end_stays : (s : Sink) (ts : List Term) → end_of (with_terms s ts) ≡ end_of s
unfolding with_terms with_term end_of
end_stays s [] = refl
end_stays s (t ∷ ts) =
    end_stays (with_term s t) ts
    ∙ ap (λ (n : ℕ). cond (eqb s.doing size2) (2 ^ 64) (n + 1)) (stored-length s.doing s.out s.place (form_bytes s.doing s.earlier t))

-- ---- none, and one part after the other

pub took-none : (s : Sink) (ts zs : List Term) → Room s zs → ts ≡ [] → Took s ts s
unfolding with_terms
took-none s ts zs room e = record { is = sym (ap (with_terms s) e); few = room.few }

module _ (ts xs ys : List Term) (split : ts ≡ xs ++ ys) (s : Sink) where
  whole : with_terms s ts ≡ with_terms (with_terms s xs) ys
  whole = ap (with_terms s) split ∙ with_append s xs ys

  pub room-first : Room s ts → Room s xs
  room-first r = record { fits = let h = r.fits in let g = place-grows (with_terms s xs) ys in let w = ap (λ (m : Sink). m.place) whole in omega arith; few = r.few }

  module _ (mid : Sink) (first : Took s xs mid) where
    pub room-then : Room s ts → Room mid ys
    room-then r =
        record {
          fits =
              let h = r.fits in
              let w = ap (λ (m : Sink). m.place) whole in
              let m = ap (λ (m : Sink). (with_terms m ys).place) first.is in
              let e = ap end_of first.is ∙ end_stays s xs in
              omega arith;
          few = first.few;
        }

    pub took-both : (r : Sink) → Took mid ys r → Took s ts r
    took-both r second = record { is = second.is ∙ ap (λ (m : Sink). with_terms m ys) first.is ∙ sym whole; few = second.few }

-- ---- what all terms have come to

pub forms-cons : (doing : ℕ) (earlier : List ℕ) (t : Term) (ts : List Term) → forms_bytes doing earlier (t ∷ ts) ≡ form_bytes doing earlier t ++ forms_bytes doing t.prefactors ts
unfolding forms_bytes form_bytes terms_bytes terms_bytes2
forms-cons doing earlier t ts = by (eqb doing in_form1)
  where
    by : (b : Bool) → cond b (term_bytes t ++ terms_bytes ts) (term_bytes2 earlier t ++ terms_bytes2 t.prefactors ts) ≡ cond b (term_bytes t) (term_bytes2 earlier t) ++ cond b (terms_bytes ts) (terms_bytes2 t.prefactors ts)
    by true = refl
    by false = refl

pub forms-none : (doing : ℕ) (earlier : List ℕ) → forms_bytes doing earlier [] ≡ []
unfolding forms_bytes terms_bytes terms_bytes2
forms-none doing earlier = by (eqb doing in_form1)
  where
    by : (b : Bool) → cond {A = List ℕ} b [] [] ≡ []
    by true = refl
    by false = refl

stored-none : (doing : ℕ) (out : List ℕ) (at : ℕ) → out ≡ stored_in doing out at []
unfolding stored_in
stored-none doing out at = by (eqb doing size2)
  where
    by : (b : Bool) → out ≡ cond b out out
    by true = refl
    by false = refl

stored-both : (doing : ℕ) (out : List ℕ) (at : ℕ) (xs ys : List ℕ) → stored_in doing (stored_in doing out at xs) (at + length xs) ys ≡ stored_in doing out at (xs ++ ys)
unfolding stored_in
stored-both doing out at xs ys = by (eqb doing size2)
  where
    by : (b : Bool) → cond b (cond b out (sets out at xs)) (sets (cond b out (sets out at xs)) (at + length xs) ys) ≡ cond b out (sets out at (xs ++ ys))
    by true = refl
    by false = sym (sets-append out at xs ys)

pub place-in-all : (s : Sink) (ts : List Term) → (with_terms s ts).place ≡ s.place + length (forms_bytes s.doing s.earlier ts)
unfolding with_terms with_term
place-in-all s [] = let h = ap length (forms-none s.doing s.earlier) in omega arith
place-in-all s (t ∷ ts) =
    let h = place-in-all (with_term s t) ts in
    let e = ap length (forms-cons s.doing s.earlier t ts) in
    let l = length-append (form_bytes s.doing s.earlier t) (forms_bytes s.doing t.prefactors ts) in
    omega arith

pub out-in-all : (s : Sink) (ts : List Term) → (with_terms s ts).out ≡ stored_in s.doing s.out s.place (forms_bytes s.doing s.earlier ts)
unfolding with_terms with_term
out-in-all s [] = stored-none s.doing s.out s.place ∙ ap (stored_in s.doing s.out s.place) (sym (forms-none s.doing s.earlier))
out-in-all s (t ∷ ts) =
    out-in-all (with_term s t) ts
    ∙ stored-both s.doing s.out s.place (form_bytes s.doing s.earlier t) (forms_bytes s.doing t.prefactors ts)
    ∙ ap (stored_in s.doing s.out s.place) (sym (forms-cons s.doing s.earlier t ts))
