-- What was written reads back, and what reads is the only writing of its number.
-- Both go group by group, as the definitions do.
use Prim.Native.Nat.{ℕ, zero, suc, ◌+◌, ◌*◌, ◌/◌, ◌%◌, ◌^◌, ◌≤◌, ◌<◌}
use mathlib.Core.Path.{◌≡◌, refl, sym, ap, ◌∙◌}
use mathlib.Core.List.{List, [], ◌∷◌, ◌++◌, append_assoc}
use mathlib.Core.Bool.{Bool, true, false, cond}
use mathlib.Core.Logic.{⊎_elim}
use native.Mathlib.Omega.{arith}
use native.Mathlib.Nat.{pow-suc, pos_of_ne-zero}
use borrow.Author.Tests.{lt-ltb, le-ltb, ltb-true, ltb-false, ne_eqb}
use lib.Dec.{ltb, lit<}
use lib.ListN.{length, drop, length-append, length-drop}
use lib.Seq.{drop-append_seam, get_or-drop}
use Rattle.laws.proofs.Cases.{clash}
use Rattle.laws.proofs.Pairs.{ok-both}
use Rattle.laws.proofs.Lists.{drop-after}
use Rattle.number.specs.Read.{Is}
use Rattle.number.specs.Numbers.{groups, bytes_of, length_of, above, higher, read_from, read_at, Bytes}
use Rattle.number.proofs.Reading.{none-ended, cons-last, cons-more, fifth-is, higher-is, higher-below, above-is, Ends}
use Rattle.number.proofs.Writing.{groups-last, groups-more, length_some}

-- ---- what was written reads back

fifth-back : (n : ℕ) (post : List ℕ) (at : ℕ) → 1 ≤ n → n < 16 → higher (n ∷ post) at 0 ≡ Is n (at + 1)
unfolding higher
fifth-back n post at some few =
    let nz : n ≡ 0 → ⊥ = λ z. omega arith in
    let le : n ≤ 15 = omega arith in
    simp (le-ltb 15 n le, ne_eqb n 0 nz)

higher-back : (more n : ℕ) (post : List ℕ) (at : ℕ) → 1 ≤ n → n < 16 * 128 ^ more → higher (groups more n ++ post) at more ≡ Is n (at + length (groups more n))
higher-back zero n post at some few = rw (groups-last 0 n (omega arith)) (fifth-back n post at some (omega arith))
higher-back (suc more) n post at some few = by (ltb n 128) refl (higher-back more (n / 128) post (at + 1))
  where
    nz : n ≡ 0 → ⊥
    nz z = omega arith

    by : (q : Bool) → ltb n 128 ≡ q
        → (1 ≤ n / 128 → n / 128 < 16 * 128 ^ more → higher (groups more (n / 128) ++ post) (at + 1) more ≡ Is (n / 128) (at + 1 + length (groups more (n / 128))))
        → higher (groups (suc more) n ++ post) at (suc more) ≡ Is n (at + length (groups (suc more) n))
    by true lt rest =
        let small : n < 128 = ltb-true n 128 lt in
        rw (groups-last (suc more) n small) (cons-last (suc more) n post at (λ e. clash (cc)) nz small)
    by false ge rest =
        let big : 128 ≤ n = ltb-false n 128 ge in
        let pow : 128 ^ suc more ≡ 128 ^ more * 128 = pow-suc 128 more in
        let value : (128 + n % 128) % 128 + 128 * (n / 128) ≡ n = omega arith in
        let place : at + 1 + length (groups more (n / 128)) ≡ at + suc (length (groups more (n / 128))) = omega arith in
        rw (groups-more more n big)
        (cons-more (suc more) more (128 + n % 128) (groups more (n / 128) ++ post) at refl (omega arith)
        ∙ ap (above ((128 + n % 128) % 128)) (rest (omega arith) (omega arith))
        ∙ cc (value, place))

pub reads-back-from : (n at : ℕ) (post : List ℕ) → n < 2 ^ 32 → read_from (bytes_of n ++ post) at ≡ Is n (at + length_of n)
unfolding read_from length_of bytes_of
reads-back-from n at post below = by (ltb n 128) refl
  where
    by : (q : Bool) → ltb n 128 ≡ q → read_from (groups 4 n ++ post) at ≡ Is n (at + length (groups 4 n))
    by true lt =
        let small : n < 128 = ltb-true n 128 lt in
        rw (groups-last 4 n small) (simp (lt-ltb n 128 small))
    by false ge =
        let big : 128 ≤ n = ltb-false n 128 ge in
        let high : 128 ≤ 128 + n % 128 = omega arith in
        let value : (128 + n % 128) % 128 + 128 * (n / 128) ≡ n = omega arith in
        let place : at + 1 + length (groups 3 (n / 128)) ≡ at + suc (length (groups 3 (n / 128))) = omega arith in
        rw (groups-more 3 n big)
        (simp (le-ltb (128 + n % 128) 128 high)
        (ap (above ((128 + n % 128) % 128)) (higher-back 3 (n / 128) post (at + 1) (omega arith) (omega arith))
        ∙ cc (value, place)))

pub reads-back : (pre : List ℕ) (n : ℕ) (post : List ℕ) → n < 2 ^ 32 → read_at (pre ++ bytes_of n ++ post) (length pre) ≡ Is n (length pre + length_of n)
unfolding read_at
reads-back pre n post below = rw (append_assoc pre (bytes_of n) post, drop-append_seam) (reads-back-from n (length pre) post below)

-- ---- what reads is the only writing

record Took (more : ℕ) (l : List ℕ) (at n next : ℕ) : Type 0 where
  pub rest : List ℕ
  pub is : l ≡ groups more n ++ rest
  pub after : next ≡ at + length (groups more n)
  pub some : 1 ≤ n

took-end : (more b : ℕ) (t : List ℕ) (at n next : ℕ) → b < 128 → Ends b at n next → Took more (b ∷ t) at n next
took-end more b t at n next small e =
    let one : groups more n ≡ n ∷ [] = groups-last more n (omega arith) in
    let says : n ≡ b = e.says in
    let all : (n ∷ []) ++ t ≡ b ∷ t = ap (λ (k : ℕ). k ∷ t) says in
    record { rest = t; is = cc; after = rw one e.after; some = pos_of_ne-zero (λ z. e.some (sym says ∙ z)) }

took_more : (more b h : ℕ) (t : List ℕ) (at n next : ℕ) → 128 ≤ b → b < 256 → n ≡ b % 128 + 128 * h → Took more t (at + 1) h next → Took (suc more) (b ∷ t) at n next
took_more more b h t at n next big byte says took =
    let some = took.some in
    let high : n / 128 ≡ h = omega arith in
    let low : 128 + n % 128 ≡ b = omega arith in
    let split : groups (suc more) n ≡ (128 + n % 128) ∷ groups more (n / 128) = groups-more more n (omega arith) in
    let whole : groups (suc more) n ≡ b ∷ groups more h = cc in
    record {
      rest = took.rest;
      is = rw whole (ap (λ (l : List ℕ). b ∷ l) took.is);
      after = rw whole (omega (arith, took.after));
      some = omega arith;
    }

higher-only : (more : ℕ) (l : List ℕ) (at n next : ℕ) → Bytes l → higher l at more ≡ Is n next → Took more l at n next
higher-only more [] at n next bytes e = let none = none-ended more at in absurd (clash (cc))
higher-only zero (b ∷ t) at n next bytes e = let f = fifth-is b t at n next e in took-end zero b t at n next (omega arith) f.1
higher-only (suc more) (b ∷ t) at n next bytes e =
    ⊎_elim (λ w. took-end (suc more) b t at n next w.0 w.1)
    (λ w. took_more more b w.rest t at n next w.big (bytes 0) w.says (higher-only more t (at + 1) w.rest next (λ i. bytes (suc i)) w.reads))
    (higher-is more b t at n next e)

-- what the bytes of a roll are where a number reads
pub record Reads (s : List ℕ) (at n next : ℕ) : Type 0 where
  pub below : n < 2 ^ 32
  pub after : next ≡ at + length_of n
  pub within : next ≤ length s
  pub bytes : drop at s ≡ bytes_of n ++ drop next s

from-only : (l : List ℕ) (at n next : ℕ) → Bytes l → read_from l at ≡ Is n next → (n < 2 ^ 32) × ((rest : List ℕ) × (l ≡ bytes_of n ++ rest) × (next ≡ at + length_of n))
unfolding read_from bytes_of length_of
from-only [] at n next bytes e = absurd (clash (cc))
from-only (b ∷ t) at n next bytes e = by (ltb b 128) refl e
  where
    by : (q : Bool) → ltb b 128 ≡ q → cond q (Is b (at + 1)) (above (b % 128) (higher t (at + 1) 3)) ≡ Is n next → (n < 2 ^ 32) × ((rest : List ℕ) × ((b ∷ t) ≡ groups 4 n ++ rest) × (next ≡ at + length (groups 4 n)))
    by true lt e =
        let small : b < 128 = ltb-true b 128 lt in
        let says : b ≡ n = (ok-both e).0 in
        let after : next ≡ at + 1 = sym (ok-both e).1 in
        let one : groups 4 n ≡ n ∷ [] = groups-last 4 n (omega arith) in
        (omega arith, (t, rw (one, ← says), rw one after))
    by false ge e =
        let a = above-is (b % 128) n next (higher t (at + 1) 3) e in
        let below = higher-below 3 t (at + 1) a.0 next a.1 in
        let took = took_more 3 b a.0 t at n next (ltb-false b 128 ge) (bytes 0) a.2 (higher-only 3 t (at + 1) a.0 next (λ i. bytes (suc i)) a.1) in
        (omega (arith, bytes 0), (took.rest, took.is, took.after))

pub reads_only : (s : List ℕ) (at n next : ℕ) → Bytes s → read_at s at ≡ Is n next → Reads s at n next
unfolding read_at length_of
reads_only s at n next bytes e =
    let f = from-only (drop at s) at n next (λ i. rw (get_or-drop at s i 0) (bytes (at + i))) e in
    let rest = f.1.0 in
    let is : drop at s ≡ bytes_of n ++ rest = f.1.1 in
    let after : next ≡ at + length (bytes_of n) = f.1.2 in
    let left : drop next s ≡ rest = drop-after s (bytes_of n) rest at next is after in
    record {
      below = f.0;
      after = after;
      within = omega (arith, length_some n, length-drop at s, length-append (bytes_of n) rest, ap length is);
      bytes = rw left is;
    }

-- ---- the bytes are bytes

pub bytes-nil : Bytes []
bytes-nil zero = lit< tt
bytes-nil (suc i) = lit< tt

pub bytes-cons : (b : ℕ) (l : List ℕ) → b < 256 → Bytes l → Bytes (b ∷ l)
bytes-cons b l byte rest zero = byte
bytes-cons b l byte rest (suc i) = rest i

one_byte_lem : (b : ℕ) → b < 256 → Bytes (b ∷ [])
one_byte_lem b byte = bytes-cons b [] byte bytes-nil

groups-bytes : (more n : ℕ) → n < 128 ^ suc more → Bytes (groups more n)
groups-bytes zero n below = rw (groups-last 0 n below) (one_byte_lem n (omega arith))
groups-bytes (suc more) n below = by (ltb n 128) refl (groups-bytes more (n / 128))
  where
    by : (q : Bool) → ltb n 128 ≡ q → (n / 128 < 128 ^ suc more → Bytes (groups more (n / 128))) → Bytes (groups (suc more) n)
    by true lt rest = rw (groups-last (suc more) n (ltb-true n 128 lt)) (one_byte_lem n (omega (arith, ltb-true n 128 lt)))
    by false ge rest =
        let pow : 128 ^ suc (suc more) ≡ 128 ^ suc more * 128 = pow-suc 128 (suc more) in
        rw (groups-more more n (ltb-false n 128 ge)) (bytes-cons (128 + n % 128) (groups more (n / 128)) (omega arith) (rest (omega arith)))

pub bytes-bytes : (n : ℕ) → n < 2 ^ 32 → Bytes (bytes_of n)
unfolding bytes_of
bytes-bytes n below = groups-bytes 4 n (omega arith)
