-- A term's bytes: the scale's, then one for each of its other numbers.
use Prim.Native.Nat.{ℕ, zero, suc, ◌+◌, ◌-◌, ◌/◌, ◌%◌, ◌≤◌, ◌<◌}
use mathlib.Core.Path.{◌≡◌, refl, sym, ap, ap₂, ◌∙◌}
use mathlib.Core.Bool.{Bool, true, false}
use mathlib.Core.List.{List, [], ◌∷◌, ◌++◌}
use native.Mathlib.Omega.{arith}
use native.Mathlib.Numerals.{add-one}
use lib.ListN.{length, set, length-append, length-set}
use lib.Seq.{sets, length-sets}
use Rattle.laws.proofs.Lists.{sets-append}
use Rattle.laws.proofs.Parts.{room-placed}
use Rattle.number.specs.Numbers.{bytes_of, length_of, WriteTold, written_at}
use Rattle.std.specs.Prelude.{Option, Some, unwrap_or}
use Rattle.number.proofs.Writing.{bytes-last, store-last}
use Rattle.roll.specs.Bytes.{term_bytes, numbers_bytes}
use Rattle.form2.proofs.AtMost.{numbers-append}
use Rattle.expansion.specs.declared.Path.{Path}
use Rattle.expansion.specs.inner.View.{five_bits, path_prefactors, path_term, TermMay, Emitted, NumberMay, RestMay}
use Rattle.expansion.proofs.TermsWords.{length-prefactors, few, many, length-five-bits}

numbers-five-bits : (n w : ℕ) → numbers_bytes (five_bits n w) ≡ five_bits n w
unfolding numbers_bytes five_bits
numbers-five-bits zero w = refl
numbers-five-bits (suc n) w =
    numbers-append (five_bits n (w / 32)) ((w % 32) ∷ [])
    ∙ ap₂ ◌++◌ (numbers-five-bits n (w / 32)) (ap (λ (l : List ℕ). l ++ []) (bytes-last (w % 32) (omega arith)))

numbers-prefactors : (n low high : ℕ) → numbers_bytes (path_prefactors n low high) ≡ path_prefactors n low high
numbers-prefactors n low high = at (lib.Dec.leb n 12) refl
  where
    at : (v : Bool) → lib.Dec.leb n 12 ≡ v → numbers_bytes (path_prefactors n low high) ≡ path_prefactors n low high
    at true e = rw (few n low high (borrow.Author.Tests.leb-true n 12 e)) (numbers-five-bits n low)
    at false e =
        rw (many n low high (borrow.Author.Tests.leb-false n 12 e))
        (numbers-append (five_bits 12 high) (five_bits (n - 12) low) ∙ ap₂ ◌++◌ (numbers-five-bits 12 high) (numbers-five-bits (n - 12) low))

-- the bytes of a term whose numbers but the scale take one byte each
term-bytes : (p : Path) → p.boys < 128 → p.count < 25 → term_bytes (path_term p) ≡ bytes_of p.scale ++ (p.boys ∷ p.count ∷ (path_term p).prefactors)
unfolding term_bytes
term-bytes p b c =
    ap (λ (l : List ℕ). bytes_of p.scale ++ l)
    (ap (λ (l : List ℕ). l ++ (bytes_of (length (path_term p).prefactors) ++ numbers_bytes (path_term p).prefactors)) (bytes-last p.boys b)
    ∙ ap (λ (l : List ℕ). p.boys ∷ l)
    (ap (λ (n : ℕ). bytes_of n ++ numbers_bytes (path_term p).prefactors) (length-prefactors p.count p.low p.high)
    ∙ ap₂ ◌++◌ (bytes-last p.count (omega arith)) (numbers-prefactors p.count p.low p.high)))

pub term-length : (p : Path) → p.boys < 128 → p.count < 25 → length (term_bytes (path_term p)) ≡ length_of p.scale + 2 + p.count
unfolding length_of
term-length p b c =
    ap length (term-bytes p b c) ∙ length-append (bytes_of p.scale) (p.boys ∷ p.count ∷ (path_term p).prefactors)
    ∙ (let h = length-prefactors p.count p.low p.high in omega arith)

module _ (out : List ℕ) (at n : ℕ) (fits : NumberMay n at out) where
  pub number-inside : n < 128 → at < length out
  number-inside h = let l = ap length (bytes-last n h) in let r = fits.room in omega arith

  pub number-one : n < 128 → Emitted (bytes_of n) at out (at + 1) (set out at n)
  number-one h = record { next = let l = ap length (bytes-last n h) in omega arith; out = store-last out at n h }

  room-test : lib.Dec.leb (at + length (bytes_of n)) (length out) ≡ true
  room-test = borrow.Author.Tests.le-leb (at + length (bytes_of n)) (length out) fits.room

  module _ (r : Option ℕ) (after : List ℕ) (wrote : WriteTold out at (bytes_of n) r after) where
    there : r ≡ Some (at + length (bytes_of n))
    unfolding written_at
    there = wrote.answer ∙ rw room-test

    stored : after ≡ sets out at (bytes_of n)
    stored = wrote.out ∙ sym (room-placed (bytes_of n) out at room-test)

    pub number-next : (next : ℕ) → next ≡ unwrap_or r at → Emitted (bytes_of n) at out next after
    number-next next is = record { next = is ∙ ap (λ (v : Option ℕ). unwrap_or v at) there; out = stored }

pub kept-two : (out after : List ℕ) (i j v w : ℕ) → length after ≡ length (set (set out i v) j w) → length after ≡ length out
kept-two out after i j v w e = e ∙ simp length-set

pub prefactors-few : (out : List ℕ) (at n low high : ℕ) (after : List ℕ) → n ≤ 12 → after ≡ sets out at (five_bits n low) → after ≡ sets out at (path_prefactors n low high)
prefactors-few out at n low high after h e = e ∙ ap (sets out at) (sym (few n low high h))

pub prefactors-many : (out : List ℕ) (at n low high : ℕ) (mid after : List ℕ) → 12 < n → mid ≡ sets out at (five_bits 12 high) → after ≡ sets mid (at + 12) (five_bits (n - 12) low)
    → after ≡ sets out at (path_prefactors n low high)
prefactors-many out at n low high mid after h e f =
    f ∙ ap (λ (l : List ℕ). sets l (at + 12) (five_bits (n - 12) low)) e
    ∙ ap (λ (k : ℕ). sets (sets out at (five_bits 12 high)) (at + k) (five_bits (n - 12) low)) (sym (length-five-bits 12 high))
    ∙ sym (sets-append out at (five_bits 12 high) (five_bits (n - 12) low))
    ∙ ap (sets out at) (sym (many n low high h))

pub rest-emitted : (out : List ℕ) (at b n low high : ℕ) (after : List ℕ) → after ≡ sets (set (set out at b) (at + 1) n) (at + 2) (path_prefactors n low high)
    → Emitted (b ∷ n ∷ path_prefactors n low high) at out (at + 2 + n) after
rest-emitted out at b n low high after e =
    record {
      next = let h = length-prefactors n low high in omega arith;
      out = e ∙ ap (λ (k : ℕ). sets (set (set out at b) k n) (at + 2) (path_prefactors n low high)) (add-one at) ∙ ap (λ (k : ℕ). sets (set (set out at b) (suc at) n) k (path_prefactors n low high)) (omega arith);
    }

module _ (p : Path) (at : ℕ) (out : List ℕ) (e : TermMay p at out) where
  whole : length (term_bytes (path_term p)) ≡ length (bytes_of p.scale) + (2 + p.count)
  whole =
      ap length (term-bytes p e.boys e.count) ∙ length-append (bytes_of p.scale) (p.boys ∷ p.count ∷ (path_term p).prefactors)
      ∙ (let h = length-prefactors p.count p.low p.high in omega arith)

  pub emits-scale : NumberMay p.scale at out
  emits-scale = record { below = e.scale; room = let l = whole in let r = e.room in omega arith }

  module _ (next : ℕ) (mid : List ℕ) (h : Emitted (bytes_of p.scale) at out next mid) where
    pub emits-rest : RestMay p.boys p.count next mid
    emits-rest =
        record {
          boys-small = e.boys;
          count_small = e.count;
          room = let l = whole in let r = e.room in let n = h.next in let k = ap length h.out ∙ length-sets out at (bytes_of p.scale) in omega arith;
        }

    pub emitted : (r : ℕ) (after : List ℕ) → Emitted (p.boys ∷ p.count ∷ (path_term p).prefactors) next mid r after → Emitted (term_bytes (path_term p)) at out r after
    emitted r after g =
        record {
          next = let l = whole in let k = h.next in let m = g.next in let i = length-prefactors p.count p.low p.high in omega arith;
          out =
              g.out ∙ ap₂ (λ (l : List ℕ) (k : ℕ). sets l k (p.boys ∷ p.count ∷ (path_term p).prefactors)) h.out h.next
              ∙ sym (sets-append out at (bytes_of p.scale) (p.boys ∷ p.count ∷ (path_term p).prefactors)) ∙ ap (sets out at) (sym (term-bytes p e.boys e.count));
        }
