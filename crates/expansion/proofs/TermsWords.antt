-- Prefactors packed in words, and the bytes that are written of them.
use Prim.Native.Nat.{ℕ, zero, suc, ◌+◌, ◌*◌, ◌-◌, ◌/◌, ◌%◌, ◌^◌, ◌≤◌, ◌<◌}
use mathlib.Core.Path.{◌≡◌, refl, sym, ap, ap₂, ◌∙◌}
use mathlib.Core.Bool.{Bool, true, false, cond}
use mathlib.Core.List.{List, [], ◌∷◌, ◌++◌, append_assoc}
use native.Mathlib.Omega.{arith}
use borrow.Author.Tests.{le-leb, lt-leb}
use lib.ListN.{length, set, length-append, length-set}
use lib.Pow.{field, mod-mod-pow}
use lib.Seq.{sets, set_comm}
use Rattle.expansion.specs.declared.Path.{Path}
use Rattle.expansion.specs.inner.View.{five_bits, path_prefactors, path_term}

pub length-five-bits : (n w : ℕ) → length (five_bits n w) ≡ n
unfolding five_bits
length-five-bits zero w = refl
length-five-bits (suc n) w = length-append (five_bits n (w / 32)) ((w % 32) ∷ []) ∙ (let h = length-five-bits n (w / 32) in omega arith)

pub five-bits-mod : (n j w : ℕ) → five_bits n (w % 2 ^ (j + 5 * n)) ≡ five_bits n w
unfolding five_bits
five-bits-mod zero j w = refl
five-bits-mod (suc n) j w =
    ap (λ (k : ℕ). five_bits n (w % 2 ^ k / 32) ++ ((w % 2 ^ k % 32) ∷ [])) power
    ∙ ap₂ (λ (xs : List ℕ) (d : ℕ). xs ++ (d ∷ [])) (ap (five_bits n) (field w (j + 5 * n) 5) ∙ five-bits-mod n j (w / 32)) (mod-mod-pow w (j + 5 * n) 5)
  where
    power : j + 5 * suc n ≡ (j + 5 * n) + 5
    power = omega arith

five-bits-kept : (n w : ℕ) → n ≤ 11 → five_bits n (w % 2 ^ 55) ≡ five_bits n w
five-bits-kept n w h = ap (λ (k : ℕ). five_bits n (w % 2 ^ k)) power ∙ five-bits-mod n (55 - 5 * n) w
  where
    power : 55 ≡ (55 - 5 * n) + 5 * n
    power = omega arith

-- one digit more
pub five-bits-push : (n w p : ℕ) → n ≤ 11 → p < 32 → five_bits (n + 1) (w % 2 ^ 55 * 32 + p) ≡ five_bits n w ++ (p ∷ [])
unfolding five_bits
five-bits-push n w p h l =
    ap (λ (k : ℕ). five_bits k (w % 2 ^ 55 * 32 + p)) next
    ∙ ap₂ (λ (xs : List ℕ) (d : ℕ). xs ++ (d ∷ [])) (ap (five_bits n) high ∙ five-bits-kept n w h) low
  where
    next : n + 1 ≡ suc n
    next = omega arith

    high : (w % 2 ^ 55 * 32 + p) / 32 ≡ w % 2 ^ 55
    high = omega arith

    low : (w % 2 ^ 55 * 32 + p) % 32 ≡ p
    low = omega arith

pub few : (n low high : ℕ) → n ≤ 12 → path_prefactors n low high ≡ five_bits n low
unfolding path_prefactors
few n low high h = ap (λ (v : Bool). cond v (five_bits n low) (five_bits 12 high ++ five_bits (n - 12) low)) (le-leb n 12 h)

pub many : (n low high : ℕ) → 12 < n → path_prefactors n low high ≡ five_bits 12 high ++ five_bits (n - 12) low
unfolding path_prefactors
many n low high h = ap (λ (v : Bool). cond v (five_bits n low) (five_bits 12 high ++ five_bits (n - 12) low)) (lt-leb n 12 h)

pub length-prefactors : (n low high : ℕ) → length (path_prefactors n low high) ≡ n
length-prefactors n low high = at (lib.Dec.leb n 12) refl
  where
    at : (v : Bool) → lib.Dec.leb n 12 ≡ v → length (path_prefactors n low high) ≡ n
    at true e = ap length (few n low high (borrow.Author.Tests.leb-true n 12 e)) ∙ length-five-bits n low
    at false e =
        ap length (many n low high (borrow.Author.Tests.leb-false n 12 e)) ∙ length-append (five_bits 12 high) (five_bits (n - 12) low)
        ∙ (let h = length-five-bits 12 high in let k = length-five-bits (n - 12) low in let l = borrow.Author.Tests.leb-false n 12 e in omega arith)

-- the thirteenth prefactor moves the first twelve
pub push-over : (n p low high : ℕ) → n ≡ 12 → p < 32 → path_prefactors 13 p low ≡ path_prefactors n low high ++ (p ∷ [])
unfolding five_bits
push-over n p low high e l =
    many 13 p low (omega arith)
    ∙ ap (λ (d : ℕ). five_bits 12 low ++ (d ∷ [])) (omega arith)
    ∙ sym (ap (λ (xs : List ℕ). xs ++ (p ∷ [])) (ap (λ (k : ℕ). path_prefactors k low high) e ∙ few 12 low high (omega arith)))

pub push-on : (n p low high : ℕ) → (n ≡ 12 → ⊥) → n < 24 → p < 32 → path_prefactors (n + 1) (low % 2 ^ 55 * 32 + p) high ≡ path_prefactors n low high ++ (p ∷ [])
push-on n p low high ne m l = at (lib.Dec.leb n 12) refl
  where
    at : (v : Bool) → lib.Dec.leb n 12 ≡ v → path_prefactors (n + 1) (low % 2 ^ 55 * 32 + p) high ≡ path_prefactors n low high ++ (p ∷ [])
    at true e =
        let h = borrow.Author.Tests.leb-true n 12 e in
        few (n + 1) (low % 2 ^ 55 * 32 + p) high (omega arith) ∙ five-bits-push n low p (omega arith) l ∙ ap (λ (xs : List ℕ). xs ++ (p ∷ [])) (sym (few n low high h))
    at false e =
        let h = borrow.Author.Tests.leb-false n 12 e in
        let back : n + 1 - 12 ≡ (n - 12) + 1 = omega arith in
        many (n + 1) (low % 2 ^ 55 * 32 + p) high (omega arith)
        ∙ ap (λ (k : ℕ). five_bits 12 high ++ five_bits k (low % 2 ^ 55 * 32 + p)) back
        ∙ ap (λ (xs : List ℕ). five_bits 12 high ++ xs) (five-bits-push (n - 12) low p (omega arith) l)
        ∙ sym (append_assoc (five_bits 12 high) (five_bits (n - 12) low) (p ∷ []))
        ∙ ap (λ (xs : List ℕ). xs ++ (p ∷ [])) (sym (many n low high h))

-- a run of stores, the last one first
pub sets-snoc : (l : List ℕ) (i : ℕ) (vs : List ℕ) (v : ℕ) → sets l i (vs ++ (v ∷ [])) ≡ sets (set l (i + length vs) v) i vs
sets-snoc l i [] v = ap (λ (k : ℕ). set l k v) (omega arith)
sets-snoc l i (a ∷ vs) v =
    sets-snoc (set l i a) (suc i) vs v
    ∙ ap (λ (xs : List ℕ). sets xs (suc i) vs) (ap (λ (k : ℕ). set (set l i a) k v) along ∙ set_comm l i (i + suc (length vs)) a v (λ (e : i ≡ i + suc (length vs)). omega arith))
  where
    along : suc i + length vs ≡ i + suc (length vs)
    along = omega arith

pub put_one : (out : List ℕ) (at i w : ℕ) → sets (set out (at + i) (w % 32)) at (five_bits i (w / 32)) ≡ sets out at (five_bits (suc i) w)
unfolding five_bits
put_one out at i w =
    ap (λ (k : ℕ). sets (set out (at + k) (w % 32)) at (five_bits i (w / 32))) (sym (length-five-bits i (w / 32)))
    ∙ sym (sets-snoc out at (five_bits i (w / 32)) (w % 32))

-- how far a word's digits are stored, the last one first
pub record Putting (before : List ℕ) (at count word : ℕ) (out : List ℕ) (rest i : ℕ) : Type 0 where
  pub long : length out ≡ length before
  pub few-left : i ≤ count
  pub room : at + count ≤ length before
  pub stores : sets out at (five_bits i rest) ≡ sets before at (five_bits count word)

pub putting-first : (before : List ℕ) (at count word : ℕ) → at + count ≤ length before → Putting before at count word before word count
putting-first before at count word h = record { long = refl; few-left = omega arith; room = h; stores = refl }

pub putting-more : (before : List ℕ) (at count word : ℕ) (out : List ℕ) (rest i : ℕ) → Putting before at count word out rest i → 0 < i
    → Putting before at count word (set out (at + (i - 1)) (rest % 32)) (rest / 32) (i - 1)
putting-more before at count word out rest i p h =
    record {
      long = length-set out (at + (i - 1)) (rest % 32) ∙ p.long;
      few-left = let k = p.few-left in omega arith;
      room = p.room;
      stores = put_one out at (i - 1) rest ∙ ap (λ (k : ℕ). sets out at (five_bits k rest)) back ∙ p.stores;
    }
  where
    back : suc (i - 1) ≡ i
    back = omega arith

pub putting-last : (before : List ℕ) (at count word : ℕ) (out : List ℕ) (rest i : ℕ) → Putting before at count word out rest i → i ≤ 0 → out ≡ sets before at (five_bits count word)
unfolding five_bits
putting-last before at count word out rest i p h = ap (λ (k : ℕ). sets out at (five_bits k rest)) none ∙ p.stores
  where
    none : 0 ≡ i
    none = omega arith

pub pushed-over : (p : Path) (v : ℕ) → p.count ≡ 12 → v < 32
    → path_term (record { scale = p.scale; boys = p.boys; count = 13; low = v; high = p.low }) ≡ record { scale = p.scale; boys = p.boys; prefactors = (path_term p).prefactors ++ (v ∷ []) }
pushed-over p v e h = ap (λ (xs : List ℕ). record { scale = p.scale; boys = p.boys; prefactors = xs }) (push-over p.count v p.low p.high e h)

pub pushed-on : (p : Path) (v : ℕ) → (p.count ≡ 12 → ⊥) → p.count < 24 → v < 32
    → path_term (record { scale = p.scale; boys = p.boys; count = p.count + 1; low = p.low % 2 ^ 55 * 32 + v; high = p.high }) ≡ record { scale = p.scale; boys = p.boys; prefactors = (path_term p).prefactors ++ (v ∷ []) }
pushed-on p v e h l = ap (λ (xs : List ℕ). record { scale = p.scale; boys = p.boys; prefactors = xs }) (push-on p.count v p.low p.high e h l)
