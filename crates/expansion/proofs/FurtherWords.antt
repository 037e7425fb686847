-- The longest beginning that the digits of words share: the last digits go, until the words are alike.
use Prim.Native.Nat.{ℕ, zero, suc, ◌+◌, ◌*◌, ◌-◌, ◌/◌, ◌%◌, ◌^◌, ◌≤◌, ◌<◌}
use mathlib.Core.Path.{◌≡◌, refl, sym, ap, ap₂, subst, ◌∙◌}
use mathlib.Core.Bool.{Bool, true, false, cond}
use mathlib.Core.List.{List, [], ◌∷◌, ◌++◌, append-nil, append_assoc}
use native.Mathlib.Omega.{arith}
use native.Mathlib.Nat.{mod-lt}
use borrow.Author.Tests.{eq-eqb, eqb-true, eqb-false}
use lib.Dec.{eqb}
use lib.ListN.{length, drop}
use lib.Pow.{pow_pos, shr_lt, shr-shr, shl_exact}
use lib.Seq.{drop_at}
use Rattle.form2.specs.Bytes.{shared}
use Rattle.form2.proofs.Sharing.{shares}
use Rattle.expansion.specs.declared.Path.{Path}
use Rattle.expansion.specs.inner.View.{five_bits, path_prefactors, path_term}
use Rattle.expansion.proofs.TermsWords.{length-five-bits, five-bits-mod, few, many}

-- ---- lists

shared-self : (xs : List ℕ) → shared xs xs ≡ length xs
unfolding shared
shared-self [] = refl
shared-self (x ∷ xs) = rw (eq-eqb x x refl) (ap suc (shared-self xs))

shared-joined : (xs us vs : List ℕ) → shared (xs ++ us) (xs ++ vs) ≡ length xs + shared us vs
unfolding shared
shared-joined [] us vs = omega arith
shared-joined (x ∷ xs) us vs = rw (eq-eqb x x refl) (let h = shared-joined xs us vs in omega arith)

shared-sym : (xs ys : List ℕ) → shared xs ys ≡ shared ys xs
unfolding shared
shared-sym [] [] = refl
shared-sym [] (y ∷ ys) = refl
shared-sym (x ∷ xs) [] = refl
shared-sym (x ∷ xs) (y ∷ ys) = by (shared-sym xs ys) (eqb x y) refl (eqb y x) refl
  where
    by : shared xs ys ≡ shared ys xs → (b : Bool) → eqb x y ≡ b → (c : Bool) → eqb y x ≡ c → cond b (suc (shared xs ys)) 0 ≡ cond c (suc (shared ys xs)) 0
    by rest true s true t = ap suc rest
    by rest true s false t = absurd (eqb-false y x t (sym (eqb-true x y s)))
    by rest false s true t = absurd (eqb-false x y s (sym (eqb-true y x t)))
    by rest false s false t = refl

-- what stands past the end of the other is not looked at
shared-front : (xs ys zs : List ℕ) → length xs ≤ length ys → shared xs (ys ++ zs) ≡ shared xs ys
unfolding shared
shared-front [] ys zs h = refl
shared-front (x ∷ xs) [] zs h = absurd (omega arith)
shared-front (x ∷ xs) (y ∷ ys) zs h = by (shared-front xs ys zs (omega arith)) (eqb x y)
  where
    by : shared xs (ys ++ zs) ≡ shared xs ys → (b : Bool) → cond b (suc (shared xs (ys ++ zs))) 0 ≡ cond b (suc (shared xs ys)) 0
    by rest true = ap suc rest
    by rest false = refl

-- nor what stands past a difference
shared-part : (xs ys us vs : List ℕ) → shared xs ys < length xs → shared xs ys < length ys → shared (xs ++ us) (ys ++ vs) ≡ shared xs ys
unfolding shared
shared-part [] ys us vs h g = absurd (omega arith)
shared-part (x ∷ xs) [] us vs h g = absurd (omega arith)
shared-part (x ∷ xs) (y ∷ ys) us vs h g = by (λ i j. shared-part xs ys us vs i j) (eqb x y) h g
  where
    by : (shared xs ys < length xs → shared xs ys < length ys → shared (xs ++ us) (ys ++ vs) ≡ shared xs ys)
        → (b : Bool) → cond b (suc (shared xs ys)) 0 < suc (length xs) → cond b (suc (shared xs ys)) 0 < suc (length ys)
        → cond b (suc (shared (xs ++ us) (ys ++ vs))) 0 ≡ cond b (suc (shared xs ys)) 0
    by rest true h g = ap suc (rest (omega arith) (omega arith))
    by rest false h g = refl

-- lists of one length that share all of it are one
shared-all : (xs ys : List ℕ) → length xs ≡ length ys → length xs ≤ shared xs ys → xs ≡ ys
unfolding shared
shared-all [] [] e h = refl
shared-all [] (y ∷ ys) e h = absurd (omega arith)
shared-all (x ∷ xs) [] e h = absurd (omega arith)
shared-all (x ∷ xs) (y ∷ ys) e h = by (λ i. shared-all xs ys (omega arith) i) (eqb x y) refl h
  where
    by : (length xs ≤ shared xs ys → xs ≡ ys) → (b : Bool) → eqb x y ≡ b → suc (length xs) ≤ cond b (suc (shared xs ys)) 0 → x ∷ xs ≡ y ∷ ys
    by rest true t h = ap₂ ◌∷◌ (eqb-true x y t) (rest (omega arith))
    by rest false t h = absurd (omega arith)

-- where lists of one length differ, their last ones say nothing
shared-snoc : (xs ys : List ℕ) (p q : ℕ) → length xs ≡ length ys → (xs ++ (p ∷ []) ≡ ys ++ (q ∷ []) → ⊥) → shared (xs ++ (p ∷ [])) (ys ++ (q ∷ [])) ≡ shared xs ys
unfolding shared
shared-snoc [] [] p q e apart = by (eqb p q) refl
  where
    by : (b : Bool) → eqb p q ≡ b → cond b (suc 0) 0 ≡ 0
    by true t = absurd (apart (ap (λ (n : ℕ). n ∷ []) (eqb-true p q t)))
    by false t = refl
shared-snoc [] (y ∷ ys) p q e apart = absurd (omega arith)
shared-snoc (x ∷ xs) [] p q e apart = absurd (omega arith)
shared-snoc (x ∷ xs) (y ∷ ys) p q e apart = by (λ i. shared-snoc xs ys p q (omega arith) i) (eqb x y) refl
  where
    by : ((xs ++ (p ∷ []) ≡ ys ++ (q ∷ []) → ⊥) → shared (xs ++ (p ∷ [])) (ys ++ (q ∷ [])) ≡ shared xs ys)
        → (b : Bool) → eqb x y ≡ b → cond b (suc (shared (xs ++ (p ∷ [])) (ys ++ (q ∷ [])))) 0 ≡ cond b (suc (shared xs ys)) 0
    by rest true t = ap suc (rest (λ h. apart (ap₂ ◌∷◌ (eqb-true x y t) h)))
    by rest false t = refl

-- ---- digits

-- the first digits of a word, and its last ones
five-bits-split : (m j w : ℕ) → five_bits (m + j) w ≡ five_bits m (w / 2 ^ (5 * j)) ++ five_bits j w
unfolding five_bits
five-bits-split m zero w = ap₂ five_bits none one ∙ sym (append-nil (five_bits m (w / 2 ^ (5 * 0))))
  where
    none : m + 0 ≡ m
    none = omega arith

    one : w ≡ w / 2 ^ (5 * 0)
    one = omega arith
five-bits-split m (suc j) w =
    ap (λ (n : ℕ). five_bits n w) next
    ∙ ap (λ (l : List ℕ). l ++ ((w % 32) ∷ [])) (five-bits-split m j (w / 32) ∙ ap (λ (v : ℕ). five_bits m v ++ five_bits j (w / 32)) on)
    ∙ append_assoc (five_bits m (w / 2 ^ (5 * suc j))) (five_bits j (w / 32)) ((w % 32) ∷ [])
  where
    next : m + suc j ≡ suc (m + j)
    next = omega arith

    five : 5 + 5 * j ≡ 5 * suc j
    five = omega arith

    on : w / 32 / 2 ^ (5 * j) ≡ w / 2 ^ (5 * suc j)
    on = shr-shr w 5 (5 * j) ∙ ap (λ (k : ℕ). w / 2 ^ k) five

pub drop-five-bits : (n same w : ℕ) → same ≤ n → drop same (five_bits n w) ≡ five_bits (n - same) w
drop-five-bits n same w h =
    ap (λ (m : ℕ). drop same (five_bits m w)) whole
    ∙ ap (drop same) (five-bits-split same (n - same) w)
    ∙ drop_at (five_bits same (w / 2 ^ (5 * (n - same)))) (five_bits (n - same) w) same (length-five-bits same (w / 2 ^ (5 * (n - same))))
  where
    whole : n ≡ same + (n - same)
    whole = omega arith

-- what digits are worth
unfoldable worth : ℕ → List ℕ → ℕ
worth w [] = w
worth w (d ∷ ds) = worth (w * 32 + d) ds

worth-snoc : (w : ℕ) (ds : List ℕ) (d : ℕ) → worth w (ds ++ (d ∷ [])) ≡ worth w ds * 32 + d
unfolding worth
worth-snoc w [] d = refl
worth-snoc w (e ∷ ds) d = worth-snoc (w * 32 + e) ds d

shorter : (n w : ℕ) → w < 2 ^ (5 * suc n) → w / 32 < 2 ^ (5 * n)
shorter n w h = let five : 5 * suc n ≡ 5 * n + 5 = omega arith in shr_lt (5 * n) 5 (subst (λ (k : ℕ). w < 2 ^ k) five h)

worth-digits : (n w : ℕ) → w < 2 ^ (5 * n) → worth 0 (five_bits n w) ≡ w
unfolding worth five_bits
worth-digits zero w h = omega arith
worth-digits (suc n) w h = worth-snoc 0 (five_bits n (w / 32)) (w % 32) ∙ (let e = worth-digits n (w / 32) (shorter n w h) in omega arith)

digits-apart : (n a b : ℕ) → a < 2 ^ (5 * n) → b < 2 ^ (5 * n) → (a ≡ b → ⊥) → five_bits n a ≡ five_bits n b → ⊥
digits-apart n a b h g ne e = ne (sym (worth-digits n a h) ∙ ap (worth 0) e ∙ worth-digits n b g)

-- ---- the last digits of a word

pub last_digits : (w count : ℕ) → count ≤ 12 → w % ((1 * 2 ^ (5 * count)) % 2 ^ 64) ≡ w % 2 ^ (5 * count)
last_digits w count h = ap (λ (k : ℕ). w % k) (shl_exact 1 (5 * count) 64 (omega arith) (omega arith) ∙ one)
  where
    one : 1 * 2 ^ (5 * count) ≡ 2 ^ (5 * count)
    one = omega arith

pub some-digits : (count : ℕ) → count ≤ 12 → 0 < (1 * 2 ^ (5 * count)) % 2 ^ 64
some-digits count h = let s = shl_exact {a = 1} 1 (5 * count) 64 (omega arith) (omega arith) in let p = pow_pos (5 * count) in omega arith

-- ---- two words until they are alike

pub record Alike (count one other n a b : ℕ) : Type 0 where
  pub few-digits : n ≤ 12
  pub of-a : a < 2 ^ (5 * n)
  pub of-b : b < 2 ^ (5 * n)
  pub is : shared (five_bits n a) (five_bits n b) ≡ shared (five_bits count one) (five_bits count other)

pub alike-first : (count one other a b : ℕ) → count ≤ 12 → a ≡ one % 2 ^ (5 * count) → b ≡ other % 2 ^ (5 * count) → Alike count one other count a b
alike-first count one other a b h e f =
    record {
      few-digits = h;
      of-a = subst (λ (w : ℕ). w < 2 ^ (5 * count)) (sym e) (mod-lt one (pow_pos (5 * count)));
      of-b = subst (λ (w : ℕ). w < 2 ^ (5 * count)) (sym f) (mod-lt other (pow_pos (5 * count)));
      is = ap₂ (λ (v w : ℕ). shared (five_bits count v) (five_bits count w)) e f ∙ ap₂ shared (all one) (all other);
    }
  where
    all : (w : ℕ) → five_bits count (w % 2 ^ (5 * count)) ≡ five_bits count w
    all w = let same : 5 * count ≡ 0 + 5 * count = omega arith in ap (λ (k : ℕ). five_bits count (w % 2 ^ k)) same ∙ five-bits-mod count 0 w

pub alike-some : (count one other n a b : ℕ) → Alike count one other n a b → (a ≡ b → ⊥) → 1 ≤ n
alike-some count one other zero a b h ne = absurd (ne (let p = h.of-a in let q = h.of-b in omega arith))
alike-some count one other (suc n) a b h ne = omega arith

pub alike-less : (count one other n a b : ℕ) → Alike count one other n a b → (a ≡ b → ⊥) → n - 1 < n
alike-less count one other n a b h ne = let s = alike-some count one other n a b h ne in omega arith

pub alike-more : (count one other n a b : ℕ) → Alike count one other n a b → (a ≡ b → ⊥) → Alike count one other (n - 1) (a / 32) (b / 32)
unfolding five_bits
alike-more count one other zero a b h ne = absurd (ne (let p = h.of-a in let q = h.of-b in omega arith))
alike-more count one other (suc n) a b h ne = subst (λ (m : ℕ). Alike count one other m (a / 32) (b / 32)) back less
  where
    back : n ≡ suc n - 1
    back = omega arith

    apart : five_bits n (a / 32) ++ ((a % 32) ∷ []) ≡ five_bits n (b / 32) ++ ((b % 32) ∷ []) → ⊥
    apart e = digits-apart (suc n) a b h.of-a h.of-b ne e

    step : shared (five_bits (suc n) a) (five_bits (suc n) b) ≡ shared (five_bits n (a / 32)) (five_bits n (b / 32))
    step = shared-snoc (five_bits n (a / 32)) (five_bits n (b / 32)) (a % 32) (b % 32) (length-five-bits n (a / 32) ∙ sym (length-five-bits n (b / 32))) apart

    less : Alike count one other n (a / 32) (b / 32)
    less = record { few-digits = let k = h.few-digits in omega arith; of-a = shorter n a h.of-a; of-b = shorter n b h.of-b; is = sym step ∙ h.is }

pub alike-last : (count one other n a b : ℕ) → Alike count one other n a b → a ≡ b → n ≡ shared (five_bits count one) (five_bits count other)
alike-last count one other n a b h e =
    sym (length-five-bits n a) ∙ sym (shared-self (five_bits n a)) ∙ ap (λ (w : ℕ). shared (five_bits n a) (five_bits n w)) e ∙ h.is

-- ---- words with so many digits each

pub words-less : (m a n b w r : ℕ) → m < n → w ≡ b / 2 ^ (5 * (n - m)) → r ≡ shared (five_bits m a) (five_bits m w) → r ≡ shared (five_bits m a) (five_bits n b)
words-less m a n b w r h e f =
    f ∙ ap (λ (v : ℕ). shared (five_bits m a) (five_bits m v)) e
    ∙ sym (shared-front (five_bits m a) (five_bits m (b / 2 ^ (5 * (n - m)))) (five_bits (n - m) b) (omega (arith, length-five-bits m a, length-five-bits m (b / 2 ^ (5 * (n - m))))))
    ∙ ap (shared (five_bits m a)) (sym (five-bits-split m (n - m) b) ∙ ap (λ (k : ℕ). five_bits k b) whole)
  where
    whole : m + (n - m) ≡ n
    whole = omega arith

pub words_more : (m a n b w r : ℕ) → n ≤ m → w ≡ a / 2 ^ (5 * (m - n)) → r ≡ shared (five_bits n w) (five_bits n b) → r ≡ shared (five_bits m a) (five_bits n b)
words_more m a n b w r h e f =
    f ∙ ap (λ (v : ℕ). shared (five_bits n v) (five_bits n b)) e
    ∙ shared-sym (five_bits n (a / 2 ^ (5 * (m - n)))) (five_bits n b)
    ∙ sym (shared-front (five_bits n b) (five_bits n (a / 2 ^ (5 * (m - n)))) (five_bits (m - n) a) (omega (arith, length-five-bits n b, length-five-bits n (a / 2 ^ (5 * (m - n))))))
    ∙ ap (shared (five_bits n b)) (sym (five-bits-split n (m - n) a) ∙ ap (λ (k : ℕ). five_bits k a) whole)
    ∙ shared-sym (five_bits n b) (five_bits m a)
  where
    whole : n + (m - n) ≡ m
    whole = omega arith

pub sum-small : (m a n b r : ℕ) → m < 25 → r ≡ shared (five_bits (m - 12) a) (five_bits n b) → 12 + r < 2 ^ 64
sum-small m a n b r h e = let l = (shares (five_bits (m - 12) a) (five_bits n b)).left in let k = length-five-bits (m - 12) a in omega arith

-- ---- prefactors, in a word or in two

module _ (count low high : ℕ) (p : Path) (r : ℕ) where
  pub both-short : count ≤ 12 → p.count ≤ 12 → r ≡ shared (five_bits count low) (five_bits p.count p.low) → r ≡ shared (path_prefactors count low high) (path_term p).prefactors
  both-short m n e = e ∙ ap₂ shared (sym (few count low high m)) (sym (few p.count p.low p.high n))

  pub other-long : 12 < count → p.count ≤ 12 → r ≡ shared (five_bits 12 high) (five_bits p.count p.low) → r ≡ shared (path_prefactors count low high) (path_term p).prefactors
  other-long m n e =
      e ∙ shared-sym (five_bits 12 high) (five_bits p.count p.low)
      ∙ sym (shared-front (five_bits p.count p.low) (five_bits 12 high) (five_bits (count - 12) low) (omega (arith, length-five-bits p.count p.low, length-five-bits 12 high)))
      ∙ shared-sym (five_bits p.count p.low) (five_bits 12 high ++ five_bits (count - 12) low)
      ∙ ap₂ shared (sym (many count low high m)) (sym (few p.count p.low p.high n))

  pub path-long : count ≤ 12 → 12 < p.count → r ≡ shared (five_bits count low) (five_bits 12 p.high) → r ≡ shared (path_prefactors count low high) (path_term p).prefactors
  path-long m n e =
      e ∙ sym (shared-front (five_bits count low) (five_bits 12 p.high) (five_bits (p.count - 12) p.low) (omega (arith, length-five-bits count low, length-five-bits 12 p.high)))
      ∙ ap₂ shared (sym (few count low high m)) (sym (many p.count p.low p.high n))

  module _ (m : 12 < count) (n : 12 < p.count) where
    longs : shared (five_bits 12 high ++ five_bits (count - 12) low) (five_bits 12 p.high ++ five_bits (p.count - 12) p.low) ≡ shared (path_prefactors count low high) (path_term p).prefactors
    longs = ap₂ shared (sym (many count low high m)) (sym (many p.count p.low p.high n))

    pub part-first : r ≡ shared (five_bits 12 high) (five_bits 12 p.high) → r < 12 → r ≡ shared (path_prefactors count low high) (path_term p).prefactors
    part-first e h =
        e ∙ sym (shared-part (five_bits 12 high) (five_bits 12 p.high) (five_bits (count - 12) low) (five_bits (p.count - 12) p.low)
        (omega (arith, length-five-bits 12 high)) (omega (arith, length-five-bits 12 p.high))) ∙ longs

    pub part_then : (first : ℕ) → first ≡ shared (five_bits 12 high) (five_bits 12 p.high) → 12 ≤ first → r ≡ shared (five_bits (count - 12) low) (five_bits (p.count - 12) p.low)
        → 12 + r ≡ shared (path_prefactors count low high) (path_term p).prefactors
    part_then first e h f =
        let same : five_bits 12 high ≡ five_bits 12 p.high =
        shared-all (five_bits 12 high) (five_bits 12 p.high) (length-five-bits 12 high ∙ sym (length-five-bits 12 p.high)) (omega (arith, length-five-bits 12 high)) in
        let joined = shared-joined (five_bits 12 high) (five_bits (count - 12) low) (five_bits (p.count - 12) p.low) in
        let long = length-five-bits 12 high in
        let all : shared (five_bits 12 high ++ five_bits (count - 12) low) (five_bits 12 high ++ five_bits (p.count - 12) p.low) ≡ 12 + r = omega arith in
        sym all ∙ ap (λ (xs : List ℕ). shared (five_bits 12 high ++ five_bits (count - 12) low) (xs ++ five_bits (p.count - 12) p.low)) same ∙ longs
