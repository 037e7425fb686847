-- A term's bytes in form 2: the scale's, then one for each of its other numbers, the further prefactors last.
use Prim.Native.Nat.{ℕ, zero, suc, ◌+◌, ◌-◌, ◌/◌, ◌%◌, ◌≤◌, ◌<◌}
use mathlib.Core.Path.{◌≡◌, refl, sym, ap, ap₂, subst, ◌∙◌}
use mathlib.Core.Bool.{Bool, true, false}
use mathlib.Core.List.{List, [], ◌∷◌, ◌++◌}
use native.Mathlib.Omega.{arith}
use native.Mathlib.Numerals.{add-one, add-two}
use borrow.Author.Tests.{leb-true, leb-false}
use lib.Dec.{leb}
use lib.ListN.{length, set, drop, length-append, length-set, length-drop}
use lib.Seq.{sets, length-sets, drop-append-le, drop-append-add}
use Rattle.laws.proofs.Lists.{sets-append}
use Rattle.number.specs.Numbers.{bytes_of, length_of}
use Rattle.number.proofs.Writing.{bytes-last}
use Rattle.roll.specs.Bytes.{numbers_bytes}
use Rattle.roll.specs.Fits.{Below}
use Rattle.form2.specs.Bytes.{shared, further_of, term_bytes2}
use Rattle.form2.proofs.Sharing.{shares}
use Rattle.expansion.specs.declared.Path.{Path}
use Rattle.expansion.specs.inner.View.{five_bits, path_prefactors, path_term, Emitted, NumberMay}
use Rattle.expansion.specs.inner.Sinks.{bytes_after, RestMay2, TermMay2}
use Rattle.expansion.proofs.TermsWords.{length-prefactors, few, many, length-five-bits}
use Rattle.expansion.proofs.FurtherWords.{drop-five-bits}

-- ---- the further prefactors

module _ (p : Path) (out : List ℕ) (at same : ℕ) (after : List ℕ) where
  pub further-few : p.count ≤ 12 → same ≤ p.count → after ≡ sets out at (five_bits (p.count - same) p.low) → after ≡ sets out at (drop same (path_term p).prefactors)
  further-few n h e = e ∙ ap (sets out at) (sym (ap (drop same) (few p.count p.low p.high n) ∙ drop-five-bits p.count same p.low h))

  module _ (n : 12 < p.count) where
    two-words : (path_term p).prefactors ≡ five_bits 12 p.high ++ five_bits (p.count - 12) p.low
    two-words = many p.count p.low p.high n

    pub further-late : 12 ≤ same → same ≤ p.count → after ≡ sets out at (five_bits (p.count - same) p.low) → after ≡ sets out at (drop same (path_term p).prefactors)
    further-late g h e = e ∙ ap (sets out at) (sym dropped)
      where
        split : same ≡ length (five_bits 12 p.high) + (same - 12)
        split = let l = length-five-bits 12 p.high in omega arith

        left : p.count - 12 - (same - 12) ≡ p.count - same
        left = omega arith

        dropped : drop same (path_term p).prefactors ≡ five_bits (p.count - same) p.low
        dropped =
            ap₂ drop split two-words
            ∙ drop-append-add (five_bits 12 p.high) (five_bits (p.count - 12) p.low) (same - 12)
            ∙ drop-five-bits (p.count - 12) (same - 12) p.low (omega arith)
            ∙ ap (λ (k : ℕ). five_bits k p.low) left

    pub further-both : (mid : List ℕ) → same < 12 → mid ≡ sets out at (five_bits (12 - same) p.high) → after ≡ sets mid (at + (12 - same)) (five_bits (p.count - 12) p.low)
        → after ≡ sets out at (drop same (path_term p).prefactors)
    further-both mid g e f =
        f ∙ ap (λ (l : List ℕ). sets l (at + (12 - same)) (five_bits (p.count - 12) p.low)) e
        ∙ ap (λ (k : ℕ). sets (sets out at (five_bits (12 - same) p.high)) (at + k) (five_bits (p.count - 12) p.low)) (sym (length-five-bits (12 - same) p.high))
        ∙ sym (sets-append out at (five_bits (12 - same) p.high) (five_bits (p.count - 12) p.low))
        ∙ ap (sets out at) (sym dropped)
      where
        dropped : drop same (path_term p).prefactors ≡ five_bits (12 - same) p.high ++ five_bits (p.count - 12) p.low
        dropped =
            ap (drop same) two-words
            ∙ drop-append-le same (five_bits 12 p.high) (five_bits (p.count - 12) p.low) (omega (arith, length-five-bits 12 p.high))
            ∙ ap (λ (l : List ℕ). l ++ five_bits (p.count - 12) p.low) (drop-five-bits 12 same p.high (omega arith))

-- as many as are not shared
further-long : (p : Path) (same : ℕ) → length (drop same (path_term p).prefactors) ≡ p.count - same
further-long p same = length-drop same (path_term p).prefactors ∙ ap (λ (n : ℕ). n - same) (length-prefactors p.count p.low p.high)

-- ---- what stands after the scale

pub kept-three : (out after : List ℕ) (i j k u v w : ℕ) → length after ≡ length (set (set (set out i u) j v) k w) → length after ≡ length out
kept-three out after i j k u v w e = e ∙ simp length-set

pub rest-emitted2 : (p : Path) (same : ℕ) (out : List ℕ) (at : ℕ) (after : List ℕ)
    → after ≡ sets (set (set (set out at p.boys) (at + 1) same) (at + 2) (p.count - same)) (at + 3) (drop same (path_term p).prefactors)
    → Emitted (p.boys ∷ same ∷ (p.count - same) ∷ drop same (path_term p).prefactors) at out (at + 3 + (p.count - same)) after
rest-emitted2 p same out at after e =
    record {
      next = let h = further-long p same in omega arith;
      out = e ∙ ap₂ (λ (i j : ℕ). sets (set (set (set out at p.boys) i same) j (p.count - same)) (at + 3) (drop same (path_term p).prefactors)) (add-one at) (add-two at)
          ∙ ap (λ (k : ℕ). sets (set (set (set out at p.boys) (suc at) same) (suc (suc at)) (p.count - same)) k (drop same (path_term p).prefactors)) three;
    }
  where
    three : at + 3 ≡ suc (suc (suc at))
    three = omega arith

-- ---- a term

after-long : (p : Path) (same : ℕ) → length (bytes_after p same) ≡ length (bytes_of p.scale) + (3 + (p.count - same))
unfolding bytes_after
after-long p same =
    length-append (bytes_of p.scale) (p.boys ∷ same ∷ (p.count - same) ∷ drop same (path_term p).prefactors)
    ∙ (let h = further-long p same in omega arith)

pub after-length : (p : Path) (same : ℕ) → length (bytes_after p same) ≡ length_of p.scale + 3 + (p.count - same)
unfolding length_of
after-length p same = let h = after-long p same in omega arith

module _ (p : Path) (same at : ℕ) (out : List ℕ) (may : TermMay2 p same at out) where
  pub emits-scale2 : NumberMay p.scale at out
  emits-scale2 = record { below = may.scale; room = let l = after-long p same in let r = may.room in omega arith }

  module _ (next : ℕ) (mid : List ℕ) (h : Emitted (bytes_of p.scale) at out next mid) where
    pub emits-rest2 : RestMay2 p same next mid
    emits-rest2 =
        record {
          boys-small = may.boys;
          count_small = may.count;
          shares = may.shares;
          room = let l = after-long p same in let r = may.room in let n = h.next in let k = ap length h.out ∙ length-sets out at (bytes_of p.scale) in omega arith;
        }

    pub emitted-after : (r : ℕ) (after : List ℕ) → Emitted (p.boys ∷ same ∷ (p.count - same) ∷ drop same (path_term p).prefactors) next mid r after → Emitted (bytes_after p same) at out r after
    unfolding bytes_after
    emitted-after r after g =
        record {
          next = let l = after-long p same in let k = h.next in let m = g.next in let i = further-long p same in omega arith;
          out =
              g.out
              ∙ ap₂ (λ (l : List ℕ) (k : ℕ). sets l k (p.boys ∷ same ∷ (p.count - same) ∷ drop same (path_term p).prefactors)) h.out h.next
              ∙ sym (sets-append out at (bytes_of p.scale) (p.boys ∷ same ∷ (p.count - same) ∷ drop same (path_term p).prefactors));
        }

-- ---- the same bytes, as form 2 says them

below-append : (table : ℕ) (xs ys : List ℕ) → Below table xs → Below table ys → Below table (xs ++ ys)
below-append table [] ys a b = b
below-append table (x ∷ xs) ys a b = (a.0, below-append table xs ys a.1 b)

below-drop : (table n : ℕ) (xs : List ℕ) → Below table xs → Below table (drop n xs)
below-drop table zero xs a = a
below-drop table (suc n) [] a = a
below-drop table (suc n) (x ∷ xs) a = below-drop table n xs a.1

below-digits : (n w : ℕ) → Below 128 (five_bits n w)
unfolding five_bits
below-digits zero w = tt
below-digits (suc n) w = below-append 128 (five_bits n (w / 32)) ((w % 32) ∷ []) (below-digits n (w / 32)) (omega arith, tt)

below-prefactors : (n low high : ℕ) → Below 128 (path_prefactors n low high)
below-prefactors n low high = by (leb n 12) refl
  where
    by : (v : Bool) → leb n 12 ≡ v → Below 128 (path_prefactors n low high)
    by true e = subst (Below 128) (sym (few n low high (leb-true n 12 e))) (below-digits n low)
    by false e = subst (Below 128) (sym (many n low high (leb-false n 12 e))) (below-append 128 (five_bits 12 high) (five_bits (n - 12) low) (below-digits 12 high) (below-digits (n - 12) low))

numbers-below : (ns : List ℕ) → Below 128 ns → numbers_bytes ns ≡ ns
unfolding numbers_bytes
numbers-below [] h = refl
numbers-below (n ∷ ns) h = ap₂ ◌++◌ (bytes-last n h.0) (numbers-below ns h.1)

-- no more is shared than there is
pub shared-most : (earlier : List ℕ) (p : Path) → shared earlier (path_term p).prefactors ≤ p.count
shared-most earlier p = let h = (shares earlier (path_term p).prefactors).right in let l = length-prefactors p.count p.low p.high in omega arith

pub term-bytes2 : (earlier : List ℕ) (p : Path) (same : ℕ) → p.boys < 128 → p.count < 25 → same ≡ shared earlier (path_term p).prefactors → term_bytes2 earlier (path_term p) ≡ bytes_after p same
unfolding term_bytes2 further_of bytes_after
term-bytes2 earlier p same b c e =
    ap (λ (s : ℕ). bytes_of p.scale ++ (bytes_of p.boys ++ (bytes_of s ++ (bytes_of (length (drop s (path_term p).prefactors)) ++ numbers_bytes (drop s (path_term p).prefactors))))) (sym e)
    ∙ ap (λ (l : List ℕ). bytes_of p.scale ++ l)
    (ap₂ ◌++◌ (bytes-last p.boys b)
    (ap₂ ◌++◌ (bytes-last same (omega (arith, less)))
    (ap₂ ◌++◌ (ap bytes_of (further-long p same) ∙ bytes-last (p.count - same) (omega arith))
    (numbers-below (drop same (path_term p).prefactors) (below-drop 128 same (path_term p).prefactors (below-prefactors p.count p.low p.high))))))
  where
    less : same ≤ p.count
    less = let h = shared-most earlier p in omega arith
