-- A term taken by a sink, in each of the three ways.
use Prim.Native.Nat.{ℕ, ◌+◌, ◌-◌, ◌^◌, ◌≤◌, ◌<◌}
use mathlib.Core.Path.{◌≡◌, sym, ap, ◌∙◌}
use mathlib.Core.Bool.{Bool, cond}
use mathlib.Core.List.{List, [], ◌∷◌}
use native.Mathlib.Omega.{arith}
use borrow.Author.Tests.{eq-eqb, ne_eqb}
use lib.ListN.{length, get_or}
use lib.Seq.{sets}
use Rattle.number.specs.Numbers.{length_of}
use Rattle.number.proofs.Writing.{length-few}
use Rattle.roll.specs.Bytes.{term_bytes}
use Rattle.form2.specs.Bytes.{shared, term_bytes2}
use Rattle.expansion.specs.declared.Path.{Path}
use Rattle.expansion.specs.inner.View.{path_prefactors, path_term, TermMay, Emitted}
use Rattle.expansion.specs.inner.Sinks.{in_form1, size2, sink_of, form_bytes, stored_in, with_term, with_terms, end_of, Took, EmitMay, bytes_after, TermMay2}
use Rattle.expansion.proofs.TermsWords.{length-prefactors}
use Rattle.expansion.proofs.FurtherBytes.{after-length, shared-most, term-bytes2}

-- the bytes of a term, counted
pub long-front : (n l : ℕ) → l ≡ length_of n → l + 3 < 2 ^ 64
long-front n l e = let h = length-few n in omega arith

pub long-whole : (p : Path) (same l : ℕ) → p.count < 25 → l ≡ length_of p.scale → l + 3 + (p.count - same) < 2 ^ 64
long-whole p same l h e = let f = length-few p.scale in omega arith

module _ (words out : List ℕ) (p : Path) (may : EmitMay p (sink_of words out)) where
  abbrev doing : ℕ
  doing = get_or words 0 0

  abbrev at : ℕ
  at = get_or words 1 0

  abbrev earlier : List ℕ
  earlier = path_prefactors (get_or words 2 0) (get_or words 3 0) (get_or words 4 0)

  abbrev bytes : List ℕ
  bytes = form_bytes doing earlier (path_term p)

  room-is : at + length bytes < end_of (sink_of words out)
  unfolding sink_of with_terms with_term
  room-is = may.room.fits

  -- the sink one term further on
  took_one : (next : ℕ) (after : List ℕ) → next ≡ at + length bytes → after ≡ stored_in doing out at bytes → Took (sink_of words out) (path_term p ∷ []) (sink_of (doing ∷ next ∷ p.count ∷ p.low ∷ p.high ∷ []) after)
  unfolding sink_of with_terms with_term
  took_one next after e f =
      record {
        is = λ i. record { doing = doing; place = e i; earlier = (path_term p).prefactors; out = f i };
        few = let l = length-prefactors p.count p.low p.high in let c = may.count in omega arith;
      }

  -- ---- written

  module _ (writes : doing ≡ size2 → ⊥) where
    stored : (l : List ℕ) → stored_in doing out at l ≡ sets out at l
    unfolding stored_in
    stored l = ap (λ (b : Bool). cond b out (sets out at l)) (ne_eqb doing size2 writes)

    end_is : end_of (sink_of words out) ≡ length out + 1
    unfolding end_of sink_of
    end_is = ap (λ (b : Bool). cond b (2 ^ 64) (length out + 1)) (ne_eqb doing size2 writes)

  -- in form 1
  module _ (one : doing ≡ in_form1) where
    not-size : doing ≡ size2 → ⊥
    not-size e = omega arith

    bytes_one : bytes ≡ term_bytes (path_term p)
    unfolding form_bytes
    bytes_one = ap (λ (b : Bool). cond b (term_bytes (path_term p)) (term_bytes2 earlier (path_term p))) (eq-eqb doing in_form1 one)

    pub emits_one : TermMay p at out
    emits_one =
        record {
          scale = may.scale;
          boys = may.boys;
          count = may.count;
          room = let r = room-is in let e = end_is not-size in let l = ap length bytes_one in omega arith;
        }

    pub emitted-one : (next : ℕ) (after : List ℕ) → Emitted (term_bytes (path_term p)) at out next after → Took (sink_of words out) (path_term p ∷ []) (sink_of (doing ∷ next ∷ p.count ∷ p.low ∷ p.high ∷ []) after)
    emitted-one next after h =
        took_one next after (h.next ∙ ap (λ (l : List ℕ). at + length l) (sym bytes_one)) (h.out ∙ ap (sets out at) (sym bytes_one) ∙ sym (stored not-size bytes))

  -- in form 2
  module _ (two : doing ≡ in_form1 → ⊥) where
    pub earlier-few : get_or words 2 0 < 25
    unfolding sink_of
    earlier-few = let h = may.room.few in let l = length-prefactors (get_or words 2 0) (get_or words 3 0) (get_or words 4 0) in omega arith

    module _ (same : ℕ) (is : same ≡ shared earlier (path_term p).prefactors) where
      pub same-few : same ≤ p.count
      same-few = let h = shared-most earlier p in omega arith

      bytes-two : bytes ≡ bytes_after p same
      unfolding form_bytes
      bytes-two =
          ap (λ (b : Bool). cond b (term_bytes (path_term p)) (term_bytes2 earlier (path_term p))) (ne_eqb doing in_form1 two)
          ∙ term-bytes2 earlier p same may.boys may.count is

      pub emits_two : (doing ≡ size2 → ⊥) → TermMay2 p same at out
      emits_two writes =
          record {
            scale = may.scale;
            boys = may.boys;
            count = may.count;
            shares = same-few;
            room = let r = room-is in let e = end_is writes in let l = ap length bytes-two in omega arith;
          }

      pub emitted-two : (doing ≡ size2 → ⊥) → (next : ℕ) (after : List ℕ) → Emitted (bytes_after p same) at out next after
          → Took (sink_of words out) (path_term p ∷ []) (sink_of (doing ∷ next ∷ p.count ∷ p.low ∷ p.high ∷ []) after)
      emitted-two writes next after h =
          took_one next after (h.next ∙ ap (λ (l : List ℕ). at + length l) (sym bytes-two)) (h.out ∙ ap (sets out at) (sym bytes-two) ∙ sym (stored writes bytes))

      -- ---- measured

      module _ (size : doing ≡ size2) (long : ℕ) (long-is : long ≡ length_of p.scale + 3 + (p.count - same)) where
        all-long : long ≡ length bytes
        all-long = long-is ∙ sym (after-length p same) ∙ sym (ap length bytes-two)

        pub size_fits : at + long < 2 ^ 64
        unfolding end_of sink_of
        size_fits = let r = room-is in let e = ap (λ (b : Bool). cond b (2 ^ 64) (length out + 1)) (eq-eqb doing size2 size) in let l = all-long in omega arith

        pub size-taken : Took (sink_of words out) (path_term p ∷ []) (sink_of (doing ∷ (at + long) ∷ p.count ∷ p.low ∷ p.high ∷ []) out)
        unfolding stored_in
        size-taken = took_one (at + long) out (ap (λ (n : ℕ). at + n) all-long) (sym (ap (λ (b : Bool). cond b out (sets out at bytes)) (eq-eqb doing size2 size)))
