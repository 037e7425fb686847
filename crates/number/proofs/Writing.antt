-- The bytes of a number, one law for each way that the writer goes.
use Prim.Native.Nat.{ℕ, zero, suc, zero-le, suc-le-suc, ◌+◌, ◌/◌, ◌%◌, ◌^◌, ◌≤◌, ◌<◌}
use mathlib.Core.Path.{◌≡◌, refl, sym, ap, ◌∙◌}
use mathlib.Core.List.{List, [], ◌∷◌}
use mathlib.Core.Bool.{Bool, true, false, cond}
use native.Mathlib.Numerals.{add-one}
use native.Mathlib.Omega.{arith}
use native.Mathlib.Nat.{pow-suc, div-lt_iff_lt-mul}
use borrow.Author.Tests.{lt-ltb, le-ltb, le-leb, lt-leb, ltb-true, ltb-false}
use lib.Dec.{ltb, lit<, lit≤}
use lib.ListN.{length, set, length-set}
use lib.Seq.{sets}
use Rattle.laws.proofs.Parts.{room-placed, no-room-placed}
use Rattle.std.specs.Prelude.{Some, None}
use Rattle.number.specs.Numbers.{one_byte, groups, bytes_of, length_of, written_at, WriteTold}

pub groups-last : (more n : ℕ) → n < 128 → groups more n ≡ n ∷ []
unfolding groups
groups-last zero n small = refl
groups-last (suc more) n small = simp (lt-ltb n 128 small)

pub groups-more : (more n : ℕ) → 128 ≤ n → groups (suc more) n ≡ (128 + n % 128) ∷ groups more (n / 128)
unfolding groups
groups-more more n big = simp (le-ltb n 128 big)

groups-nought : (n : ℕ) → groups 0 n ≡ n ∷ []
unfolding groups
groups-nought n = refl

-- room for one byte more changes nothing where there is enough
groups-enough : (more n : ℕ) → n < 128 ^ suc more → groups (suc more) n ≡ groups more n
groups-enough zero n small = groups-last 1 n small ∙ sym (groups-last 0 n small)
groups-enough (suc more) n small = by (ltb n 128) refl (groups-enough more (n / 128))
  where
    fewer : n / 128 < 128 ^ suc more
    fewer = (div-lt_iff_lt-mul {k = 128} (lit< tt)).1 (rw (pow-suc 128 (suc more)) at small)

    by : (q : Bool) → ltb n 128 ≡ q → (n / 128 < 128 ^ suc more → groups (suc more) (n / 128) ≡ groups more (n / 128)) → groups (suc (suc more)) n ≡ groups (suc more) n
    by true lt rest = groups-last (suc (suc more)) n (ltb-true n 128 lt) ∙ sym (groups-last (suc more) n (ltb-true n 128 lt))
    by false ge rest = cc (rest fewer, groups-more (suc more) n (ltb-false n 128 ge), groups-more more n (ltb-false n 128 ge))

pub bytes-last : (n : ℕ) → n < 128 → bytes_of n ≡ n ∷ []
unfolding bytes_of
bytes-last n small = groups-last 4 n small

pub bytes-more : (n : ℕ) → 128 ≤ n → n < 2 ^ 32 → bytes_of n ≡ (128 + n % 128) ∷ bytes_of (n / 128)
unfolding bytes_of
bytes-more n big below =
    let few : n / 128 < 128 ^ 4 = omega arith in
    groups-more 3 n big ∙ ap (λ (t : List ℕ). (128 + n % 128) ∷ t) (sym (groups-enough 3 (n / 128) few))

pub length_last : (n : ℕ) → n < 128 → length_of n ≡ 1
unfolding length_of
length_last n small = ap length (bytes-last n small)

pub length_more : (n : ℕ) → 128 ≤ n → n < 2 ^ 32 → length_of n ≡ length_of (n / 128) + 1
unfolding length_of
length_more n big below = ap length (bytes-more n big below) ∙ sym (add-one (length (bytes_of (n / 128))))

pub length_two : (n : ℕ) → 128 ≤ n → n < 16384 → 2 ≡ length_of n
length_two n big below =
    let rest = length_last (n / 128) (omega arith) in
    let all = length_more n big (omega arith) in
    omega arith

pub length_three : (n : ℕ) → 16384 ≤ n → n < 2097152 → 3 ≡ length_of n
length_three n big below =
    let rest = length_two (n / 128) (omega arith) (omega arith) in
    let all = length_more n (omega arith) (omega arith) in
    omega arith

pub length-four : (n : ℕ) → 2097152 ≤ n → n < 268435456 → 4 ≡ length_of n
length-four n big below =
    let rest = length_three (n / 128) (omega arith) (omega arith) in
    let all = length_more n (omega arith) (omega arith) in
    omega arith

pub length-five : (n : ℕ) → 268435456 ≤ n → n < 2 ^ 32 → 5 ≡ length_of n
length-five n big below =
    let rest = length-four (n / 128) (omega arith) (omega arith) in
    let all = length_more n (omega arith) (omega arith) in
    omega arith

-- the tests of `length`
pub length-one : (n : ℕ) (t : Bool) → t ≡ one_byte n → t ≡ true → 1 ≡ length_of n
length-one n t is e = sym (length_last n (ltb-true n 128 (sym is ∙ e)))

pub length-not-one : (n : ℕ) (t : Bool) → t ≡ one_byte n → t ≡ false → n < 16384 → 2 ≡ length_of n
length-not-one n t is e below = length_two n (ltb-false n 128 (sym is ∙ e)) below

pub store-last : (out : List ℕ) (at n : ℕ) → n < 128 → set out at n ≡ sets out at (bytes_of n)
store-last out at n small = rw (bytes-last n small)

pub store-more : (out : List ℕ) (at n : ℕ) → 128 ≤ n → n < 2 ^ 32 → sets (set out at (128 + n % 128)) (at + 1) (bytes_of (n / 128)) ≡ sets out at (bytes_of n)
store-more out at n big below = rw (bytes-more n big below, add-one)

pub length_some : (n : ℕ) → 1 ≤ length_of n
unfolding length_of bytes_of groups
length_some n = by (ltb n 128)
  where
    by : (q : Bool) → 1 ≤ length (cond q (n ∷ []) ((128 + n % 128) ∷ groups 3 (n / 128)))
    by true = lit≤ tt
    by false = suc-le-suc zero-le

groups-few : (more n : ℕ) → length (groups more n) ≤ more + 1
groups-few zero n = omega (arith, ap length (groups-nought n))
groups-few (suc more) n = by (ltb n 128) refl (groups-few more (n / 128))
  where
    by : (q : Bool) → ltb n 128 ≡ q → length (groups more (n / 128)) ≤ more + 1 → length (groups (suc more) n) ≤ suc more + 1
    by true lt rest = omega (arith, ap length (groups-last (suc more) n (ltb-true n 128 lt)))
    by false ge rest = omega (arith, ap length (groups-more more n (ltb-false n 128 ge)))

pub length-few : (n : ℕ) → length_of n ≤ 5
unfolding length_of bytes_of
length-few n = groups-few 4 n

-- what is left to store, from `at` on, makes the whole
pub record Put (before : List ℕ) (start n : ℕ) (out : List ℕ) (left at : ℕ) : Type 0 where
  pub below : left < 2 ^ 32
  pub long : length out ≡ length before
  pub ends : at + length_of left ≡ start + length_of n
  pub room : start + length_of n ≤ length before
  pub stores : sets out at (bytes_of left) ≡ sets before start (bytes_of n)

pub put-inside : (before : List ℕ) (start n : ℕ) (out : List ℕ) (left at : ℕ) → Put before start n out left at → at < length out
put-inside before start n out left at p = omega (arith, length_some left)

pub put-more : (before : List ℕ) (start n : ℕ) (out : List ℕ) (left at : ℕ) → Put before start n out left at → 128 ≤ left → Put before start n (set out at (128 + left % 128)) (left / 128) (at + 1)
put-more before start n out left at p big =
    record {
      below = omega arith;
      long = length-set out at (128 + left % 128) ∙ p.long;
      ends = omega (arith, length_more left big p.below);
      room = p.room;
      stores = store-more out at left big p.below ∙ p.stores;
    }

pub put-end : (before : List ℕ) (start n : ℕ) (out : List ℕ) (left at : ℕ) → Put before start n out left at → left < 128 → at + 1 ≡ start + length_of n
put-end before start n out left at p small = omega (arith, length_last left small)

pub put_all : (before : List ℕ) (start n : ℕ) (out : List ℕ) (left at : ℕ) → Put before start n out left at → left < 128 → set out at left ≡ sets before start (bytes_of n)
put_all before start n out left at p small = store-last out at left small ∙ p.stores

pub wrote_none : (out : List ℕ) (at : ℕ) (bytes : List ℕ) → length out < at + length bytes → WriteTold out at bytes None out
unfolding written_at
wrote_none out at bytes over = let none = lt-leb (at + length bytes) (length out) over in record { answer = rw none; out = no-room-placed bytes out at none }

pub wrote-all : (out after : List ℕ) (at : ℕ) (bytes : List ℕ) (next : ℕ) → at + length bytes ≤ length out → next ≡ at + length bytes → after ≡ sets out at bytes → WriteTold out at bytes (Some next) after
unfolding written_at
wrote-all out after at bytes next room is stored = let fits = le-leb (at + length bytes) (length out) room in record { answer = rw (fits, is); out = stored ∙ room-placed bytes out at fits }
