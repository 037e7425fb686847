-- What the reader meets at a place, one law for each way out of `higher` and `read_at`; and how large a number can be.
use Prim.Native.Nat.{ℕ, zero, suc, zero-le, ◌+◌, ◌*◌, ◌-◌, ◌%◌, ◌^◌, ◌≤◌, ◌<◌}
use mathlib.Core.Path.{◌≡◌, refl, sym, ap, ◌∙◌}
use mathlib.Core.List.{List, [], ◌∷◌, ◌++◌}
use mathlib.Core.Bool.{true, false, Bool, cond}
use native.Mathlib.Omega.{arith}
use native.Mathlib.Nat.{pow-suc, pow-le-pow_right, mod-lt}
use mathlib.Core.Logic.{◌⊎◌, inl, inr, ⊎_elim}
use borrow.Author.Tests.{lt-ltb, le-ltb, ltb-true, ltb-false, eqb-false, ne_eqb}
use lib.Dec.{ltb, eqb, lit<}
use lib.ListN.{length, get_or, take, drop, length-drop, drop_of_length-le}
use Rattle.laws.proofs.Cases.{clash}
use Rattle.laws.proofs.Pairs.{ok-both}
use Rattle.laws.proofs.Lists.{drop_head, drop-take, take_head}
use Rattle.number.specs.Read.{Number}
use Rattle.number.specs.Read.{Is, Ended, NotShortest, TooLarge}
use Rattle.number.specs.Numbers.{one_byte, above, last, higher, read_from, read_at}

pub none-ended : (more at : ℕ) → higher [] at more ≡ Ended
unfolding higher
none-ended more at = refl

pub higher-ended : (s : List ℕ) (at more : ℕ) → length s ≤ at → Ended ≡ higher (drop at s) at more
higher-ended s at more past = rw (drop_of_length-le s past) (sym (none-ended more at))

none-zero : (more b : ℕ) (t : List ℕ) (at : ℕ) → b ≡ 0 → higher (b ∷ t) at more ≡ NotShortest
unfolding higher
none-zero zero b t at z = rw z
none-zero (suc more) b t at z = rw z

pub higher-zero : (s : List ℕ) (at more b : ℕ) → at < length s → b ≡ get_or s at 0 → b ≡ 0 → NotShortest ≡ higher (drop at s) at more
higher-zero s at more b inside is z = rw (drop_head s at b inside is) (sym (none-zero more b (drop (at + 1) s) at z))

pub higher-large : (s : List ℕ) (at more b : ℕ) → at < length s → b ≡ get_or s at 0 → more ≡ 0 → 15 < b → TooLarge ≡ higher (drop at s) at more
unfolding higher
higher-large s at more b inside is z big = rw (drop_head s at b inside is, z) (simp (lt-ltb 15 b big))

pub higher-fifth : (s : List ℕ) (at more b : ℕ) → at < length s → b ≡ get_or s at 0 → more ≡ 0 → (b ≡ 0 → ⊥) → b ≤ 15 → Is b (at + 1) ≡ higher (drop at s) at more
unfolding higher
higher-fifth s at more b inside is z nz small = rw (drop_head s at b inside is, z) (simp (le-ltb 15 b small, ne_eqb b 0 nz))

pub cons-last : (more b : ℕ) (t : List ℕ) (at : ℕ) → (more ≡ 0 → ⊥) → (b ≡ 0 → ⊥) → b < 128 → higher (b ∷ t) at more ≡ Is b (at + 1)
unfolding higher
cons-last zero b t at some nz small = absurd (some refl)
cons-last (suc more) b t at some nz small = simp (lt-ltb b 128 small, ne_eqb b 0 nz)

pub higher-last : (s : List ℕ) (at more b : ℕ) → at < length s → b ≡ get_or s at 0 → (more ≡ 0 → ⊥) → (b ≡ 0 → ⊥) → b < 128 → Is b (at + 1) ≡ higher (drop at s) at more
higher-last s at more b inside is some nz small = rw (drop_head s at b inside is) (sym (cons-last more b (drop (at + 1) s) at some nz small))

pub cons-more : (more less b : ℕ) (t : List ℕ) (at : ℕ) → more ≡ suc less → 128 ≤ b → higher (b ∷ t) at more ≡ above (b % 128) (higher t (at + 1) less)
unfolding higher
cons-more more less b t at e big = rw e (simp (le-ltb b 128 big))

pub higher-more : (s : List ℕ) (at more less b : ℕ) (r q : Number) → at < length s → b ≡ get_or s at 0 → (more ≡ 0 → ⊥) → less ≡ more - 1 → 128 ≤ b → q ≡ higher (drop (at + 1) s) (at + 1) less → r ≡ above (b % 128) q → r ≡ higher (drop at s) at more
higher-more s at more less b r q inside is some e big eq er =
    let more-is : more ≡ suc less = omega arith in
    er ∙ ap (above (b % 128)) eq ∙ rw (drop_head s at b inside is) (sym (cons-more more less b (drop (at + 1) s) at more-is big))

-- a number that the bytes after a group make, taken out of the whole again
pub above-is : (low n next : ℕ) (r : Number) → above low r ≡ Is n next → (h : ℕ) × (r ≡ Is h next) × (n ≡ low + 128 * h)
above-is low n next (Is h x) e = let both = ok-both e in (h, cc, cc)
above-is low n next Ended e = absurd (clash (cc))
above-is low n next NotShortest e = absurd (clash (cc))
above-is low n next TooLarge e = absurd (clash (cc))

pub above-made : (low n next : ℕ) (q : Number) → q ≡ Is n next → Is (low + 128 * n) next ≡ above low q
above-made low n next q e = sym (ap (above low) e)

-- a byte that ends a number
pub record Ends (b at n next : ℕ) : Type 0 where
  pub some : b ≡ 0 → ⊥
  pub says : n ≡ b
  pub after : next ≡ at + 1

last-is : (b at n next : ℕ) → last b at ≡ Is n next → Ends b at n next
last-is b at n next e = by (eqb b 0) refl e
  where
    by : (q : Bool) → eqb b 0 ≡ q → cond q NotShortest (Is b (at + 1)) ≡ Is n next → Ends b at n next
    by true z e = absurd (clash (cc))
    by false nz e = let both = ok-both e in record { some = eqb-false b 0 nz; says = cc; after = cc }

-- a byte that others follow
pub record Follows (more b : ℕ) (t : List ℕ) (at n next : ℕ) : Type 0 where
  pub rest : ℕ
  pub big : 128 ≤ b
  pub reads : higher t (at + 1) more ≡ Is rest next
  pub says : n ≡ b % 128 + 128 * rest

pub fifth-is : (b : ℕ) (t : List ℕ) (at n next : ℕ) → higher (b ∷ t) at 0 ≡ Is n next → (b ≤ 15) × Ends b at n next
unfolding higher
fifth-is b t at n next e = by (ltb 15 b) refl e
  where
    by : (q : Bool) → ltb 15 b ≡ q → cond q TooLarge (last b at) ≡ Is n next → (b ≤ 15) × Ends b at n next
    by true lt e = absurd (clash (cc))
    by false ge e = (ltb-false 15 b ge, last-is b at n next e)

pub higher-is : (more b : ℕ) (t : List ℕ) (at n next : ℕ) → higher (b ∷ t) at (suc more) ≡ Is n next → ((b < 128) × Ends b at n next) ⊎ Follows more b t at n next
unfolding higher
higher-is more b t at n next e = by (ltb b 128) refl e
  where
    by : (q : Bool) → ltb b 128 ≡ q → cond q (last b at) (above (b % 128) (higher t (at + 1) more)) ≡ Is n next → ((b < 128) × Ends b at n next) ⊎ Follows more b t at n next
    by true lt e = inl (ltb-true b 128 lt, last-is b at n next e)
    by false ge e =
        let a = above-is (b % 128) n next (higher t (at + 1) more) e in
        inr (record { rest = a.0; big = ltb-false b 128 ge; reads = a.1; says = a.2 })

-- what a byte after the first says is below sixteen groups of what may follow it
pub higher-below : (more : ℕ) (l : List ℕ) (at n next : ℕ) → higher l at more ≡ Is n next → n < 16 * 128 ^ more
higher-below more [] at n next e = let none = none-ended more at in absurd (clash (cc))
higher-below zero (b ∷ t) at n next e = let f = fifth-is b t at n next e in omega arith
higher-below (suc more) (b ∷ t) at n next e =
    let one_more : 128 ^ suc more ≡ 128 ^ more * 128 = pow-suc 128 more in
    let some : 1 ≤ 128 ^ more = pow-le-pow_right {n = 128} (lit< tt) {i = 0} {j = more} zero-le in
    ⊎_elim (λ w. let ends = w.1 in omega arith)
    (λ w. let rest = higher-below more t (at + 1) w.rest next w.reads in omega (arith, mod-lt b {m = 128} (lit< tt)))
    (higher-is more b t at n next e)

pub above-small : (more : ℕ) (l : List ℕ) (at n next : ℕ) (r : Number) → r ≡ higher l at more → more ≤ 3 → r ≡ Is n next → n < 2 ^ 25
above-small more l at n next r is few e = omega (arith, higher-below more l at n next (sym is ∙ e), pow-le-pow_right {n = 128} (lit< tt) few)

pub read-ended : (s : List ℕ) (at : ℕ) → length s ≤ at → Ended ≡ read_at s at
unfolding read_at read_from
read-ended s at past = rw (drop_of_length-le s past)

pub read_one : (s : List ℕ) (at b : ℕ) → at < length s → b ≡ get_or s at 0 → b < 128 → Is b (at + 1) ≡ read_at s at
unfolding read_at read_from
read_one s at b inside is small = rw (drop_head s at b inside is) (simp (lt-ltb b 128 small))

-- the tests of the reader
pub read_first : (s : List ℕ) (at b next : ℕ) (t : Bool) → at < length s → b ≡ get_or s at 0 → next ≡ at + 1 → t ≡ one_byte b → t ≡ true → Is b next ≡ read_at s at
read_first s at b next t inside is place test e = rw place (read_one s at b inside is (ltb-true b 128 (sym test ∙ e)))

pub read_more : (s : List ℕ) (at b next : ℕ) (t : Bool) (r q : Number) → at < length s → b ≡ get_or s at 0 → next ≡ at + 1 → t ≡ one_byte b → t ≡ false → q ≡ higher (drop next s) next 3 → r ≡ above (b % 128) q → r ≡ read_at s at
unfolding read_at read_from
read_more s at b next t r q inside is place test e eq er =
    let big : 128 ≤ b = ltb-false b 128 (sym test ∙ e) in
    let rest : q ≡ higher (drop (at + 1) s) (at + 1) 3 = rw place at eq in
    er ∙ ap (above (b % 128)) rest ∙ rw (drop_head s at b inside is) (simp (le-ltb b 128 big))

-- ---- a number that reads stands inside

higher-inside : (more : ℕ) (l : List ℕ) (at n next : ℕ) → higher l at more ≡ Is n next → (at < next) × (next ≤ at + length l)
higher-inside more [] at n next e = let none = none-ended more at in absurd (clash (cc))
higher-inside zero (b ∷ t) at n next e = let f = fifth-is b t at n next e in (omega arith, omega arith)
higher-inside (suc more) (b ∷ t) at n next e =
    ⊎_elim (λ w. let ends = w.1 in (omega arith, omega arith))
    (λ w. let rest = higher-inside more t (at + 1) w.rest next w.reads in (omega arith, omega arith))
    (higher-is more b t at n next e)

from-inside : (l : List ℕ) (at n next : ℕ) → read_from l at ≡ Is n next → (at < next) × (next ≤ at + length l)
unfolding read_from
from-inside [] at n next e = absurd (clash (cc))
from-inside (b ∷ t) at n next e = by (ltb b 128) refl e
  where
    by : (q : Bool) → ltb b 128 ≡ q → cond q (Is b (at + 1)) (above (b % 128) (higher t (at + 1) 3)) ≡ Is n next → (at < next) × (next ≤ at + length (b ∷ t))
    by true lt e = let after = (ok-both e).1 in (omega arith, omega arith)
    by false ge e =
        let a = above-is (b % 128) n next (higher t (at + 1) 3) e in
        let rest = higher-inside 3 t (at + 1) a.0 next a.1 in
        (omega arith, omega arith)

pub read-inside : (s : List ℕ) (at n next : ℕ) → read_at s at ≡ Is n next → (at < next) × (next ≤ length s)
unfolding read_at
read-inside s at n next e = let i = from-inside (drop at s) at n next e in (i.0, omega (arith, i.0, i.1, length-drop at s))

-- ---- what is read is settled by the bytes up to the place after it

fifth-alike : (b : ℕ) (t u : List ℕ) (at : ℕ) → higher (b ∷ u) at 0 ≡ higher (b ∷ t) at 0
unfolding higher
fifth-alike b t u at = refl

higher-alike : (more : ℕ) (l m : List ℕ) (at n next : ℕ) → higher l at more ≡ Is n next → take (next - at) m ≡ take (next - at) l → higher m at more ≡ Is n next
higher-alike more [] m at n next e alike = let none = none-ended more at in absurd (clash (cc))
higher-alike zero (b ∷ t) m at n next e alike =
    let some = higher-inside zero (b ∷ t) at n next e in
    let size : next - at ≡ suc (next - (at + 1)) = omega arith in
    let h = take_head (next - (at + 1)) b t m (rw size at alike) in
    rw h.1 (fifth-alike b t h.0 at ∙ e)
higher-alike (suc more) (b ∷ t) m at n next e alike =
    let some = higher-inside (suc more) (b ∷ t) at n next e in
    let size : next - at ≡ suc (next - (at + 1)) = omega arith in
    let h = take_head (next - (at + 1)) b t m (rw size at alike) in
    ⊎_elim (λ w. let ends = w.1 in rw h.1 (cons-last (suc more) b h.0 at (λ z. clash (cc)) ends.some w.0 ∙ cc (ends.says, ends.after)))
    (λ w. rw h.1 (cons-more (suc more) more b h.0 at refl w.big ∙ ap (above (b % 128)) (higher-alike more t h.0 (at + 1) w.rest next w.reads h.2) ∙ cc w.says))
    (higher-is more b t at n next e)

from-alike : (l m : List ℕ) (at n next : ℕ) → read_from l at ≡ Is n next → take (next - at) m ≡ take (next - at) l → read_from m at ≡ Is n next
unfolding read_from
from-alike [] m at n next e alike = absurd (clash (cc))
from-alike (b ∷ t) m at n next e alike =
    let some = from-inside (b ∷ t) at n next e in
    let size : next - at ≡ suc (next - (at + 1)) = omega arith in
    let h = take_head (next - (at + 1)) b t m (rw size at alike) in
    rw h.1 (by (ltb b 128) refl h.0 h.2 e)
  where
    by : (q : Bool) → ltb b 128 ≡ q → (u : List ℕ) → take (next - (at + 1)) u ≡ take (next - (at + 1)) t → cond q (Is b (at + 1)) (above (b % 128) (higher t (at + 1) 3)) ≡ Is n next
        → cond (ltb b 128) (Is b (at + 1)) (above (b % 128) (higher u (at + 1) 3)) ≡ Is n next
    by true lt u same e = rw lt e
    by false ge u same e =
        let a = above-is (b % 128) n next (higher t (at + 1) 3) e in
        rw ge (ap (above (b % 128)) (higher-alike 3 t u (at + 1) a.0 next a.1 same) ∙ cc a.2)

pub read_alike : (s t : List ℕ) (at n next : ℕ) → read_at s at ≡ Is n next → take next t ≡ take next s → read_at t at ≡ Is n next
unfolding read_at
read_alike s t at n next e alike =
    let i = from-inside (drop at s) at n next e in
    let size : at + (next - at) ≡ next = omega (arith, i.0) in
    let whole : take (at + (next - at)) t ≡ take (at + (next - at)) s = rw size alike in
    from-alike (drop at s) (drop at t) at n next e (sym (drop-take at (next - at) t) ∙ ap (drop at) whole ∙ drop-take at (next - at) s)

-- ---- whatever follows: what is read stays, unless the bytes ended

higher-stays : (more : ℕ) (l t : List ℕ) (at : ℕ) → (higher l at more ≡ Ended → ⊥) → higher (l ++ t) at more ≡ higher l at more
unfolding higher
higher-stays more [] t at some = absurd (some (none-ended more at))
higher-stays zero (b ∷ l) t at some = refl
higher-stays (suc more) (b ∷ l) t at some = by (ltb b 128) refl (higher-stays more l t (at + 1))
  where
    by : (q : Bool) → ltb b 128 ≡ q → ((higher l (at + 1) more ≡ Ended → ⊥) → higher (l ++ t) (at + 1) more ≡ higher l (at + 1) more)
        → cond (ltb b 128) (last b at) (above (b % 128) (higher (l ++ t) (at + 1) more)) ≡ cond (ltb b 128) (last b at) (above (b % 128) (higher l (at + 1) more))
    by true lt rest = rw lt refl
    by false ge rest = rw ge (ap (above (b % 128)) (rest (λ e. some (rw ge (ap (above (b % 128)) e)))))

from-stays : (l t : List ℕ) (at : ℕ) → (read_from l at ≡ Ended → ⊥) → read_from (l ++ t) at ≡ read_from l at
unfolding read_from
from-stays [] t at some = absurd (some refl)
from-stays (b ∷ l) t at some = by (ltb b 128) refl
  where
    by : (q : Bool) → ltb b 128 ≡ q → cond (ltb b 128) (Is b (at + 1)) (above (b % 128) (higher (l ++ t) (at + 1) 3)) ≡ cond (ltb b 128) (Is b (at + 1)) (above (b % 128) (higher l (at + 1) 3))
    by true lt = rw lt refl
    by false ge = rw ge (ap (above (b % 128)) (higher-stays 3 l t (at + 1) (λ e. some (rw ge (ap (above (b % 128)) e)))))

pub read_stays : (s t : List ℕ) (at : ℕ) → drop at (s ++ t) ≡ drop at s ++ t → (read_at s at ≡ Ended → ⊥) → read_at (s ++ t) at ≡ read_at s at
unfolding read_at
read_stays s t at is some = ap (λ (l : List ℕ). read_from l at) is ∙ from-stays (drop at s) t at some
