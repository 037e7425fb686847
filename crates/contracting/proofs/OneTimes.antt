-- 1.0 times a float is that float, bit for bit, and so is 0.0 plus a float other than −0.0: a float's own value is exact, and two floats of the format with one value and one sign are the same.
use Prim.Native.Nat.{ℕ, zero, suc, ◌+◌, ◌-◌, ◌*◌, ◌%◌, ◌^◌, ◌<◌, ◌≤◌}
use mathlib.Core.Path.{◌≡◌, refl, sym, ap, ◌∙◌, subst}
use mathlib.Core.Bool.{Bool, true, false, ◌&&◌, cond, true≢false}
use native.Mathlib.Nat.{sub-zero, zero-add, add_comm, mul-one, one-mul, mul_assoc, mul_left_comm, mul_right_comm, zero-mul, mul-pos, zero-lt-suc, pow-suc, pow-succ', eq_of_mul-eq-mul_right, lt_irrefl, not-le_of_lt}
use native.Mathlib.Omega.{arith}
use borrow.Author.Tests.{leb-true, leb-false, lt-ltb}
use lib.Dec.{T, leb, ltb, eqb, eqb→eq, leb→le, ltb→lt}
use lib.IntN.{ℤ, pos, negsuc}
use lib.Ieee.{Float, nan, inf, fin, Format, binary64, prec, emax, low, up, down, fits, round, sum, add, mul, unlike, of_bits}
use lib.Ieee.Fits.{and_l, and_r, up_pos, down_pos, round-fits}
use lib.Ieee.Exact.{HasValue, round_exact}
use lib.Pow.{pow-add, pow_pos, pow-lt, shl_lt}
use Rattle.laws.proofs.Cases.{tested}
use Rattle.geometry.specs.Floats.{◌⊕◌, ◌⊗◌, zero as 0·0, one}

-- ---- an odd number and a power of two

even_odd : (m t : ℕ) → m % 2 ≡ 1 → m ≡ 2 * t → ⊥
even_odd m t o h = omega arith

odd_pow : (m n a b : ℕ) → m % 2 ≡ 1 → n % 2 ≡ 1 → m * 2 ^ a ≡ n * 2 ^ b → (m ≡ n) × (a ≡ b)
odd_pow m n zero zero o p h = (sym (mul-one m) ∙ h ∙ mul-one n, refl)
odd_pow m n zero (suc b) o p h = absurd (even_odd m (n * 2 ^ b) o (sym (mul-one m) ∙ h ∙ ap (λ (x : ℕ). n * x) (pow-succ' 2 b) ∙ mul_left_comm n 2 (2 ^ b)))
odd_pow m n (suc a) zero o p h = absurd (even_odd n (m * 2 ^ a) p (sym (mul-one n) ∙ sym h ∙ ap (λ (x : ℕ). m * x) (pow-succ' 2 a) ∙ mul_left_comm m 2 (2 ^ a)))
odd_pow m n (suc a) (suc b) o p h =
    let r = odd_pow m n a b o p (eq_of_mul-eq-mul_right 2 (zero-lt-suc 1) (m * 2 ^ a) (n * 2 ^ b)
    (mul_assoc m (2 ^ a) 2 ∙ ap (λ (x : ℕ). m * x) (sym (pow-suc 2 a)) ∙ h ∙ ap (λ (x : ℕ). n * x) (pow-suc 2 b) ∙ sym (mul_assoc n (2 ^ b) 2))) in
    (r.0, ap suc r.1)

none_left : (a b : ℕ) → a + suc b ≡ 0 → ⊥
none_left a b e = omega arith

pred-same : (a b : ℕ) → suc b ≡ suc a → a ≡ b
pred-same a b e = omega arith

up-twice : (m a b : ℕ) → m * 2 ^ a * 2 ^ b ≡ m * 2 ^ (a + b)
up-twice m a b = mul_assoc m (2 ^ a) (2 ^ b) ∙ ap (λ (x : ℕ). m * x) (sym (pow-add 2 a b))

same-odd : (m n : ℕ) (e g : ℤ) → m % 2 ≡ 1 → n % 2 ≡ 1 → m * up e * down g ≡ n * up g * down e → (m ≡ n) × (e ≡ g)
same-odd m n (pos a) (pos b) o p h =
    let r = odd_pow m n a b o p (sym (mul-one (m * 2 ^ a)) ∙ h ∙ mul-one (n * 2 ^ b)) in
    (r.0, ap pos r.1)
same-odd m n (pos a) (negsuc b) o p h =
    absurd (none_left a b (odd_pow m n (a + suc b) 0 o p (sym (up-twice m a (suc b)) ∙ h ∙ mul-one (n * 1))).1)
same-odd m n (negsuc a) (pos b) o p h =
    absurd (none_left b a (sym (odd_pow m n 0 (b + suc a) o p (sym (mul-one (m * 1)) ∙ h ∙ up-twice n b (suc a))).1))
same-odd m n (negsuc a) (negsuc b) o p h =
    let r = odd_pow m n (suc b) (suc a) o p (ap (λ (x : ℕ). x * 2 ^ suc b) (sym (mul-one m)) ∙ h ∙ ap (λ (x : ℕ). x * 2 ^ suc a) (mul-one n)) in
    (r.0, ap negsuc (pred-same a b r.1))

-- ---- two floats with one value

is_odd : (f : Format) (s : Bool) (m : ℕ) (e : ℤ) → T (fits f (fin s (suc m) e)) → suc m % 2 ≡ 1
unfolding fits
is_odd f s m e t =
    eqb→eq (suc m % 2) 1 (and_l (eqb (suc m % 2) 1) (ltb (suc m) (2 ^ prec f)) (and_l (eqb (suc m % 2) 1 && ltb (suc m) (2 ^ prec f)) (leb (down e) (2 ^ low f))
    (and_l (eqb (suc m % 2) 1 && ltb (suc m) (2 ^ prec f) && leb (down e) (2 ^ low f)) (ltb (suc m * up e) (2 ^ suc (emax f) * down e)) t)))

two_up : (p : ℕ) → 0 < p → 2 * p ≡ 1 → ⊥
two_up p h e = omega arith

flat : (e : ℤ) → up e * down e ≡ 1 → e ≡ pos 0
flat (pos zero) h = refl
flat (pos (suc k)) h = absurd (two_up (2 ^ k) (pow_pos k) (sym (pow-succ' 2 k) ∙ sym (mul-one (2 ^ suc k)) ∙ h))
flat (negsuc k) h = absurd (two_up (2 ^ k) (pow_pos k) (sym (pow-succ' 2 k) ∙ sym (one-mul (2 ^ suc k)) ∙ h))

zero_exp : (f : Format) (s : Bool) (e : ℤ) → T (fits f (fin s zero e)) → e ≡ pos 0
unfolding fits
zero_exp f s e t = flat e (eqb→eq (up e * down e) 1 t)

crossed : (x y c a d g : ℕ) → 0 < c → x * c ≡ a * d → y * c ≡ a * g → x * g ≡ y * d
crossed x y c a d g C v w =
    eq_of_mul-eq-mul_right c C (x * g) (y * d)
    (mul_right_comm x g c ∙ ap (λ (z : ℕ). z * g) v ∙ mul_right_comm a d g ∙ ap (λ (z : ℕ). z * d) (sym w) ∙ mul_right_comm y c d)

not_none : (n : ℕ) (e g : ℤ) → 0 * up e * down g ≡ suc n * up g * down e → ⊥
not_none n e g h =
    lt_irrefl 0 (subst (λ (x : ℕ). 0 < x) (sym h ∙ ap (λ (y : ℕ). y * down g) (zero-mul (up e)) ∙ zero-mul (down g)) (mul-pos (mul-pos (zero-lt-suc n) (up_pos g)) (down_pos e)))

unique : (f : Format) (x y : Float) (s : Bool) (a c : ℕ) → 0 < c → T (fits f x) → T (fits f y) → HasValue x s a c → HasValue y s a c → x ≡ y
unique f (fin t (suc m) e) (inf _) s a c C p q v w = elim w [ ]
unique f (fin t (suc m) e) nan s a c C p q v w = elim w [ ]
unique f (fin t zero e) (inf _) s a c C p q v w = elim w [ ]
unique f (fin t zero e) nan s a c C p q v w = elim w [ ]
unique f (inf _) y s a c C p q v w = elim v [ ]
unique f nan y s a c C p q v w = elim v [ ]
unique f (fin t zero e) (fin u zero g) s a c C p q v w = λ i. fin ((v.0 ∙ sym w.0) i) zero ((zero_exp f t e p ∙ sym (zero_exp f u g q)) i)
unique f (fin t zero e) (fin u (suc n) g) s a c C p q v w = absurd (not_none n e g (crossed (0 * up e) (suc n * up g) c a (down e) (down g) C v.1 w.1))
unique f (fin t (suc m) e) (fin u zero g) s a c C p q v w = absurd (not_none m g e (crossed (0 * up g) (suc m * up e) c a (down g) (down e) C w.1 v.1))
unique f (fin t (suc m) e) (fin u (suc n) g) s a c C p q v w =
    let r = same-odd (suc m) (suc n) e g (is_odd f t m e p) (is_odd f u n g q) (crossed (suc m * up e) (suc n * up g) c a (down e) (down g) C v.1 w.1) in
    λ i. fin ((v.0 ∙ sym w.0) i) (r.0 i) (r.1 i)

-- ---- a float's own value

low-enough : (a b : ℕ) → 2 ^ a ≤ 2 ^ b → a ≤ b
low-enough a b h = tested (leb a b) (leb-true a b) (λ f. absurd (not-le_of_lt (pow-lt (leb-false a b f)) h))

rest_of : (a b : ℕ) → a ≤ b → b - a + a ≡ b
rest_of a b h = omega arith

turned : (a b c d : ℕ) → b + c ≡ d → suc a + c + b ≡ d + suc a
turned a b c d h = omega arith

own_value : (f : Format) (s : Bool) (m : ℕ) (e : ℤ) → suc m < 2 ^ prec f → down e ≤ 2 ^ low f → suc m * up e < 2 ^ suc (emax f) * down e → HasValue (round f s (suc m * up e) (down e)) s (suc m * up e) (down e)
own_value f s m (pos k) small deep high =
    round_exact f s (suc m * 2 ^ k) 1 (suc m) (k + low f) (zero-lt-suc 0) small
    (subst (λ (x : ℕ). x < 2 ^ (low f + suc (emax f))) (up-twice (suc m) k (low f)) (subst (λ (x : ℕ). suc m * 2 ^ k * 2 ^ low f < 2 ^ x) (add_comm (suc (emax f)) (low f)) (shl_lt (suc (emax f)) (low f) (subst (λ (x : ℕ). suc m * 2 ^ k < x) (mul-one (2 ^ suc (emax f))) high))))
    (up-twice (suc m) k (low f) ∙ sym (mul-one (suc m * 2 ^ (k + low f))))
own_value f s m (negsuc k) small deep high =
    let fit : suc k ≤ low f = low-enough (suc k) (low f) deep in
    let j = low f - suc k in
    let all : j + suc k ≡ low f = rest_of (suc k) (low f) fit in
    round_exact f s (suc m * 1) (2 ^ suc k) (suc m) j (pow_pos (suc k)) small
    (subst (λ (x : ℕ). suc m * 2 ^ j < 2 ^ x) (turned (emax f) j (suc k) (low f) all) (shl_lt (suc (emax f) + suc k) j (subst (λ (x : ℕ). suc m < x) (sym (pow-add 2 (suc (emax f)) (suc k))) (subst (λ (x : ℕ). x < 2 ^ suc (emax f) * 2 ^ suc k) (mul-one (suc m)) high))))
    (ap (λ (x : ℕ). x * 2 ^ low f) (mul-one (suc m)) ∙ ap (λ (x : ℕ). suc m * 2 ^ x) (sym all) ∙ sym (up-twice (suc m) j (suc k)))

zero-value : (f : Format) (s : Bool) → HasValue (round f s 0 1) s 0 1
zero-value f s = round_exact f s 0 1 0 0 (zero-lt-suc 0) (pow_pos (prec f)) (pow_pos (low f + suc (emax f))) (zero-mul (2 ^ low f))

pub exact : (f : Format) (s : Bool) (m : ℕ) (e : ℤ) → T (fits f (fin s m e)) → round f s (m * up e) (down e) ≡ fin s m e
unfolding fits
exact f s zero e t =
    let is = zero_exp f s e t in
    ap (λ (g : ℤ). round f s (zero * up g) (down g)) is
    ∙ unique f (round f s 0 1) (fin s zero (pos 0)) s 0 1 (zero-lt-suc 0) (round-fits f s 0 1) (subst (λ (g : ℤ). T (fits f (fin s zero g))) is t) (zero-value f s) (refl, refl)
    ∙ ap (λ (g : ℤ). fin s zero g) (sym is)
exact f s (suc m) e t =
    let odd = eqb (suc m % 2) 1 in
    let small = ltb (suc m) (2 ^ prec f) in
    let deep = leb (down e) (2 ^ low f) in
    let high = ltb (suc m * up e) (2 ^ suc (emax f) * down e) in
    let three = and_l (odd && small && deep) high t in
    unique f (round f s (suc m * up e) (down e)) (fin s (suc m) e) s (suc m * up e) (down e) (down_pos e) (round-fits f s (suc m * up e) (down e)) t
    (own_value f s m e
    (ltb→lt (suc m) (2 ^ prec f) (and_r odd small (and_l (odd && small) deep three)))
    (leb→le (down e) (2 ^ low f) (and_r (odd && small) deep three))
    (ltb→lt (suc m * up e) (2 ^ suc (emax f) * down e) (and_r (odd && small && deep) high t)))
    (refl, refl)

-- ---- 1.0

unlike-false : (s : Bool) → unlike false s ≡ s
unlike-false true = refl
unlike-false false = refl

pub one-times : (x : Float) → T (fits binary64 x) → one ⊗ x ≡ x
unfolding mul of_bits
one-times nan t = refl
one-times (inf s) t = ap inf (unlike-false s)
one-times (fin s m e) t =
    (λ i. round binary64 (unlike-false s i) (one-mul (m * up e) i) (one-mul (down e) i)) ∙ exact binary64 s m e t

-- ---- 0.0

abbrev pub minus_zero : Float → Bool
minus_zero nan = false
minus_zero (inf s) = false
minus_zero (fin false m e) = false
minus_zero (fin true zero e) = true
minus_zero (fin true (suc m) e) = false

nothing-more : (d x : ℕ) → 0 * 1 * d + x * 1 ≡ x
nothing-more d x = ap (λ (y : ℕ). y * d + x * 1) (zero-mul 1) ∙ ap (λ (y : ℕ). y + x * 1) (zero-mul d) ∙ zero-add (x * 1) ∙ mul-one x

nothing-less : (d x : ℕ) → x * 1 - 0 * 1 * d ≡ x
nothing-less d x = ap (λ (y : ℕ). x * 1 - y * d) (zero-mul 1) ∙ ap (λ (y : ℕ). x * 1 - y) (zero-mul d) ∙ sub-zero (x * 1) ∙ mul-one x

some-above : (d x : ℕ) → 0 < x → ltb (0 * 1 * d) (x * 1) ≡ true
some-above d x h = ap (λ (y : ℕ). ltb (y * d) (x * 1)) (zero-mul 1) ∙ ap (λ (y : ℕ). ltb y (x * 1)) (zero-mul d) ∙ ap (λ (y : ℕ). ltb 0 y) (mul-one x) ∙ lt-ltb 0 x h

pub zero-plus : (x : Float) → T (fits binary64 x) → minus_zero x ≡ false → 0·0 ⊕ x ≡ x
unfolding add sum of_bits
zero-plus nan t e = refl
zero-plus (inf s) t e = refl
zero-plus (fin false m d) t e = (λ i. round binary64 false (nothing-more (down d) (m * up d) i) (one-mul (down d) i)) ∙ exact binary64 false m d t
zero-plus (fin true zero d) t e = absurd (true≢false e)
zero-plus (fin true (suc m) d) t e =
    ap (λ (b : Bool). cond b (round binary64 true (suc m * up d * 1 - 0 * 1 * down d) (1 * down d)) (round binary64 (false && ltb (suc m * up d * 1) (0 * 1 * down d)) (0 * 1 * down d - suc m * up d * 1) (1 * down d))) (some-above (down d) (suc m * up d) (mul-pos (zero-lt-suc m) (up_pos d)))
    ∙ (λ i. round binary64 true (nothing-less (down d) (suc m * up d) i) (one-mul (down d) i))
    ∙ exact binary64 true (suc m) d t
