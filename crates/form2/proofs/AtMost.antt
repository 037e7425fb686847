-- A roll in form 2 has at most one byte a term more than in form 1: a shared length takes no more bytes than one and what is shared.
use Prim.Native.Nat.{ℕ, zero, suc, ◌+◌, ◌/◌, ◌≤◌, ◌<◌}
use mathlib.Core.Path.{◌≡◌, refl, sym, ap, ◌∙◌}
use mathlib.Core.List.{List, [], ◌∷◌, ◌++◌, append_assoc}
use native.Mathlib.Omega.{arith}
use native.Mathlib.Decide.{dec_le, dec_lt}
use lib.ListN.{length, take, drop, length-append, length-drop, take-append-drop}
use lib.Seq.{length-take-le}
use Rattle.kind.specs.Kinds.{number_of}
use Rattle.kind.proofs.Within.{number-within}
use Rattle.term.specs.Terms.{Term}
use Rattle.number.specs.Numbers.{groups, bytes_of, length_of}
use Rattle.number.proofs.Writing.{groups-last, groups-more, length_last, length_some, length-few}
use Rattle.roll.specs.Bytes.{numbers_bytes, term_bytes, terms_bytes, roll_bytes}
use Rattle.roll.specs.Reading.{Roll}
use Rattle.form2.specs.Bytes.{form_two, shared, further_of, term_bytes2, terms_bytes2, roll_bytes2}
use Rattle.form2.specs.Moves.{in_form1, in_form2}
use Rattle.form2.proofs.Sharing.{shares}

-- ---- numbers

-- a smaller number takes no more bytes
groups-most : (more n m : ℕ) → n ≤ m → length (groups more n) ≤ length (groups more m)
unfolding groups
groups-most zero n m h = omega arith
groups-most (suc more) n m h = at (dec_le 128 m) (dec_le 128 n) (groups-most more (n / 128) (m / 128) (omega arith))
  where
    at : Dec (128 ≤ m) → Dec (128 ≤ n) → length (groups more (n / 128)) ≤ length (groups more (m / 128)) → length (groups (suc more) n) ≤ length (groups (suc more) m)
    at (yes p) (yes q) less = let a = ap length (groups-more more m p) in let b = ap length (groups-more more n q) in omega arith
    at (yes p) (no q) less = let a = ap length (groups-more more m p) in let b = ap length (groups-last (suc more) n (omega arith)) in omega arith
    at (no p) (yes q) less = absurd (omega arith)
    at (no p) (no q) less = let a = ap length (groups-last (suc more) m (omega arith)) in let b = ap length (groups-last (suc more) n (omega arith)) in omega arith

pub length_most : (n m : ℕ) → n ≤ m → length_of n ≤ length_of m
unfolding length_of bytes_of
length_most n m h = groups-most 4 n m h

pub length-bytes : (n : ℕ) → length (bytes_of n) ≡ length_of n
unfolding length_of
length-bytes n = refl

pub numbers-append : (xs ys : List ℕ) → numbers_bytes (xs ++ ys) ≡ numbers_bytes xs ++ numbers_bytes ys
unfolding numbers_bytes
numbers-append [] ys = refl
numbers-append (x ∷ xs) ys = ap (λ (l : List ℕ). bytes_of x ++ l) (numbers-append xs ys) ∙ sym (append_assoc (bytes_of x) (numbers_bytes xs) (numbers_bytes ys))

-- each number has a byte
numbers-least : (ns : List ℕ) → length ns ≤ length (numbers_bytes ns)
unfolding numbers_bytes
numbers-least [] = omega arith
numbers-least (n ∷ ns) =
    let a = length-append (bytes_of n) (numbers_bytes ns) in
    let b = length_some n in
    let c = length-bytes n in
    let d = numbers-least ns in
    omega arith

-- a shared length takes no more bytes than one and what is shared
length-less : (n : ℕ) → length_of n ≤ 1 + n
length-less n = by (dec_lt n 128)
  where
    by : Dec (n < 128) → length_of n ≤ 1 + n
    by (yes h) = let l = length_last n h in omega arith
    by (no h) = let l = length-few n in omega arith

-- ---- terms

term-longer : (earlier : List ℕ) (t : Term) → length (term_bytes2 earlier t) ≤ length (term_bytes t) + 1
unfolding term_bytes2 term_bytes further_of
term-longer earlier t =
    let ps = t.prefactors in
    let n = shared earlier ps in
    let right = (shares earlier ps).right in
    let a = length-append (bytes_of t.scale) (bytes_of t.boys ++ (bytes_of n ++ (bytes_of (length (drop n ps)) ++ numbers_bytes (drop n ps)))) in
    let b = length-append (bytes_of t.boys) (bytes_of n ++ (bytes_of (length (drop n ps)) ++ numbers_bytes (drop n ps))) in
    let c = length-append (bytes_of n) (bytes_of (length (drop n ps)) ++ numbers_bytes (drop n ps)) in
    let d = length-append (bytes_of (length (drop n ps))) (numbers_bytes (drop n ps)) in
    let e = length-append (bytes_of t.scale) (bytes_of t.boys ++ (bytes_of (length ps) ++ numbers_bytes ps)) in
    let f = length-append (bytes_of t.boys) (bytes_of (length ps) ++ numbers_bytes ps) in
    let g = length-append (bytes_of (length ps)) (numbers_bytes ps) in
    let all : length (numbers_bytes ps) ≡ length (numbers_bytes (take n ps)) + length (numbers_bytes (drop n ps)) =
    ap (λ (l : List ℕ). length (numbers_bytes l)) (sym (take-append-drop n ps)) ∙ ap length (numbers-append (take n ps) (drop n ps)) ∙ length-append (numbers_bytes (take n ps)) (numbers_bytes (drop n ps)) in
    let least = numbers-least (take n ps) in
    let long = length-take-le n ps right in
    let less = length-less n in
    let further = length_most (length (drop n ps)) (length ps) (omega (arith, length-drop n ps)) in
    omega (arith, length-bytes n, length-bytes (length (drop n ps)), length-bytes (length ps))

pub terms-longer : (earlier : List ℕ) (ts : List Term) → length (terms_bytes2 earlier ts) ≤ length (terms_bytes ts) + length ts
unfolding terms_bytes2 terms_bytes
terms-longer earlier [] = omega arith
terms-longer earlier (t ∷ ts) =
    let a = length-append (term_bytes2 earlier t) (terms_bytes2 t.prefactors ts) in
    let b = length-append (term_bytes t) (terms_bytes ts) in
    let c = term-longer earlier t in
    let d = terms-longer t.prefactors ts in
    omega arith

-- ---- a roll

pub roll-longer : (r : Roll) → length (in_form2 r) ≤ length (in_form1 r) + length r.terms
unfolding in_form1 in_form2 roll_bytes roll_bytes2 length_of
roll-longer r =
    let ts = r.terms in
    let n = number_of r.kind in
    let os = numbers_bytes r.orders in
    let count = bytes_of (length ts) in
    let within = number-within r.kind in
    let a = length-append (bytes_of n) (os ++ (count ++ terms_bytes ts)) in
    let b = length-append os (count ++ terms_bytes ts) in
    let c = length-append count (terms_bytes ts) in
    let d = length-append (bytes_of (form_two + n)) (os ++ (count ++ terms_bytes2 [] ts)) in
    let e = length-append os (count ++ terms_bytes2 [] ts) in
    let f = length-append count (terms_bytes2 [] ts) in
    let g = length_last n (omega arith) in
    let h = length_last (form_two + n) (omega arith) in
    let t = terms-longer [] ts in
    omega arith
