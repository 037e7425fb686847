-- A shell's list by rows: how many triples and bytes it has, how it is put down, and what is told of it.
use Prim.Native.Nat.{ℕ, zero, suc, ◌+◌, ◌*◌, ◌-◌, ◌/◌, ◌≤◌, ◌<◌}
use mathlib.Core.Path.{◌≡◌, refl, sym, ap, ◌∙◌}
use mathlib.Core.Bool.{true, false}
use mathlib.Core.List.{List, [], ◌∷◌, ◌++◌, map, flat_map, flatten, append_assoc}
use native.Mathlib.Numerals.{add-one}
use native.Mathlib.Omega.{arith}
use native.Mathlib.Nat.{mul-le-mul, not-suc-le-zero, le_of_suc-le-suc}
use borrow.Author.Tests.{lt-ltb, le-ltb, le-leb, lt-leb}
use lib.Dec.{ltb, leb}
use lib.ListN.{length, get_or, take, drop, length-append, length-map, length-drop, drop_of_length-le}
use lib.Seq.{sets, sets-eq, length-sets, drop-cons, drop-drop}
use borrow.Rule.Slice.PartMut.{put_mid}
use Rattle.std.specs.Prelude.{Ok, Err}
use Rattle.kind.specs.declared.refusals.Refusal.TheVariants.{OrderSum, StartBeyondEnd, NoRoom}
use Rattle.kind.specs.Limits.{most_order}
use Rattle.laws.proofs.Lists.{flatten-append, sets-append}
use Rattle.laws.proofs.Parts.{part-all, part-put}
use Rattle.shell.specs.declared.Triple.{Triple}
use Rattle.shell.specs.Shells.{descending, triples, shell_bytes, listed_at, listed_out, ListTold}
use Rattle.shell.specs.inner.Rows.{triple_orders, row_of, row_orders, most_triples, Counts}

-- ---- how many

pub get_d_map : {A B : Type 0} (f : A → B) (l : List A) (n : ℕ) (d : A) (e : B) → n < length l → get_or (map f l) n e ≡ f (get_or l n d)
get_d_map f [] n d e inside = absurd (not-suc-le-zero inside)
get_d_map f (x ∷ l) zero d e inside = refl
get_d_map f (x ∷ l) (suc n) d e inside = get_d_map f l n d e (le_of_suc-le-suc inside)

descending-length : (n : ℕ) → length (descending n) ≡ n + 1
unfolding descending
descending-length zero = refl
descending-length (suc n) = omega (arith, descending-length n)

descending-at : (n z : ℕ) → z ≤ n → get_or (descending n) z 0 ≡ n - z
unfolding descending
descending-at zero zero inside = refl
descending-at zero (suc z) inside = absurd (not-suc-le-zero inside)
descending-at (suc n) zero inside = omega arith
descending-at (suc n) (suc z) inside = omega (arith, descending-at n z (le_of_suc-le-suc inside))

-- row r has r + 1 triples, and three bytes to a triple
pub row-length : (m row : ℕ) → row ≤ m → length (row_of m (m - row)) ≡ row + 1
row-length m row within = omega (arith, length-map (descending (m - (m - row))) (λ (y : ℕ). (m - row) ∷ y ∷ (m - (m - row) - y) ∷ []), descending-length (m - (m - row)))

three-each : (m x : ℕ) (ys : List ℕ) → length (flatten (map (λ (y : ℕ). x ∷ y ∷ (m - x - y) ∷ []) ys)) ≡ 3 * length ys
unfolding flatten
three-each m x [] = refl
three-each m x (y ∷ ys) = omega (arith, three-each m x ys)

row-bytes : (m row : ℕ) → row ≤ m → length (flatten (row_of m (m - row))) ≡ 3 * (row + 1)
row-bytes m row within = omega (arith, three-each m (m - row) (descending (m - (m - row))), descending-length (m - (m - row)))

pub row_at : (m row z : ℕ) → row ≤ m → z ≤ row → get_or (row_of m (m - row)) z [] ≡ row_orders m row z
row_at m row z within inside =
    let x = m - row in
    let back : m - x ≡ row = omega arith in
    let left : row - (row - z) ≡ z = omega arith in
    get_d_map (λ (y : ℕ). x ∷ y ∷ (m - x - y) ∷ []) (descending (m - x)) z 0 [] (omega (arith, descending-length (m - x)))
    ∙ rw (back, descending-at row z inside, left)

-- the rows of a list from one on
abbrev pub rows_from : ℕ → ℕ → List (List ℕ)
rows_from m row = flat_map (row_of m) (drop row (descending m))

pub rows_all : (m : ℕ) → triples m ≡ rows_from m 0
unfolding triples
rows_all m = refl

pub rows_more : (m row : ℕ) → row ≤ m → rows_from m row ≡ row_of m (m - row) ++ rows_from m (suc row)
unfolding flat_map
rows_more m row within =
    let here : drop row (descending m) ≡ (m - row) ∷ drop (suc row) (descending m) = drop-cons (descending m) row 0 (omega (arith, descending-length m)) ∙ ap (λ (x : ℕ). x ∷ drop (suc row) (descending m)) (descending-at m row within) in
    rw here

rows_none : (m row : ℕ) → m < row → rows_from m row ≡ []
unfolding flat_map
rows_none m row past =
    let none : drop row (descending m) ≡ [] = drop_of_length-le (descending m) {i = row} (omega (arith, descending-length m)) in
    rw none

-- r(r + 1)/2 triples stand before row r
rows-twice : (m row left : ℕ) → row + left ≡ m + 1 → row * (row + 1) + 2 * length (rows_from m row) ≡ (m + 1) * (m + 2)
rows-twice m row zero e =
    let past : row ≡ m + 1 = omega arith in
    rw past (omega (arith, ap length (rows_none m (m + 1) (omega arith))))
rows-twice m row (suc left) e =
    let within : row ≤ m = omega arith in
    omega (arith, ap length (rows_more m row within), length-append (row_of m (m - row)) (rows_from m (suc row)), row-length m row within, rows-twice m (suc row) left (omega arith))

pub triples-twice : (m : ℕ) → 2 * length (triples m) ≡ (m + 1) * (m + 2)
triples-twice m = omega (arith, ap length (rows_all m), rows-twice m 0 (m + 1) (omega arith))

-- (m+1)(m+2)/2 triples
pub triples-count : (m : ℕ) → length (triples m) ≡ (m + 1) * (m + 2) / 2
triples-count m = omega (arith, triples-twice m)

pub count_small : (m : ℕ) → m ≤ most_order → (m + 1) * (m + 2) ≤ (most_order + 1) * (most_order + 2)
count_small m small = mul-le-mul {n₂ = most_order + 1} {m₂ = most_order + 2} (omega arith) (omega arith)

pub counts-triples : (m : ℕ) → m ≤ most_order → Counts (triples m) most_triples ((m + 1) * (m + 2) / 2)
counts-triples m small =
    record { is = sym (triples-count m); some = omega (arith, triples-twice m); few = omega (arith, count_small m small) }

rows-bytes : (m row left : ℕ) → row + left ≡ m + 1 → length (flatten (rows_from m row)) ≡ 3 * length (rows_from m row)
unfolding flatten
rows-bytes m row zero e = rw (rows_none m row (omega arith))
rows-bytes m row (suc left) e =
    let within : row ≤ m = omega arith in
    let here = row_of m (m - row) in
    let rest = rows_from m (suc row) in
    rw (rows_more m row within)
    (omega (
      arith,
      ap length (flatten-append here rest),
      length-append (flatten here) (flatten rest),
      length-append here rest,
      row-bytes m row within,
      row-length m row within,
      rows-bytes m (suc row) left (omega arith),
    ))

pub bytes_count : (m : ℕ) → length (shell_bytes m) ≡ 3 * length (triples m)
unfolding shell_bytes
bytes_count m = rw (rows_all m) (rows-bytes m 0 (m + 1) (omega arith))

-- ---- putting a triple down

pub triple-put : (out part : List ℕ) (at k : ℕ) (t : Triple) → at + 3 ≤ length out → k ≡ 3 → part ≡ triple_orders t → put_mid at k out part ≡ sets out at (triple_orders t)
triple-put out part at k t room three is =
    let after : drop k (drop at out) ≡ drop (at + 3) out = rw three (drop-drop 3 at out) in
    rw (is, after) (sym (append_assoc (take at out) (triple_orders t) (drop (at + 3) out)) ∙ sym (sets-eq (triple_orders t) out at room))

-- ---- putting a row down

-- what is left of the row from z on, three bytes for each before it, makes the row
pub record PuttingRow (m row at : ℕ) (before out : List ℕ) (z : ℕ) : Type 0 where
  pub long : length out ≡ length before
  pub stores : sets out (at + 3 * z) (flatten (drop z (row_of m (m - row)))) ≡ sets before at (flatten (row_of m (m - row)))

pub putting-row-first : (m row at : ℕ) (out : List ℕ) → PuttingRow m row at out out 0
putting-row-first m row at out = record { long = refl; stores = ap (λ (k : ℕ). sets out k (flatten (row_of m (m - row)))) (omega arith) }

pub putting-row-more : (m row at : ℕ) (before out after : List ℕ) (z : ℕ) (t : Triple) → PuttingRow m row at before out z → row ≤ m → z ≤ row → triple_orders t ≡ row_orders m row z → after ≡ sets out (at + 3 * z) (triple_orders t) → PuttingRow m row at before after (z + 1)
unfolding flatten
putting-row-more m row at before out after z t p within inside is put =
    let whole = row_of m (m - row) in
    let rest = drop (suc z) whole in
    let here : drop z whole ≡ triple_orders t ∷ rest = drop-cons whole z [] (omega (arith, row-length m row within)) ∙ ap (λ (x : List ℕ). x ∷ rest) (row_at m row z within inside ∙ sym is) in
    let next : at + 3 * z + 3 ≡ at + 3 * (z + 1) = omega arith in
    record {
      long = ap length put ∙ length-sets out (at + 3 * z) (triple_orders t) ∙ p.long;
      stores = rw (put, ← next, add-one z) (sym (sets-append out (at + 3 * z) (triple_orders t) (flatten rest)) ∙ (rw here at p.stores));
    }

pub putting-row-done : (m row at : ℕ) (before out : List ℕ) (z : ℕ) → PuttingRow m row at before out z → row ≤ m → row < z → out ≡ sets before at (flatten (row_of m (m - row)))
unfolding flatten
putting-row-done m row at before out z p within all =
    let none : drop z (row_of m (m - row)) ≡ [] = drop_of_length-le (row_of m (m - row)) {i = z} (omega (arith, row-length m row within)) in
    rw none at p.stores

pub putting-row-last : (m row at : ℕ) (before out after : List ℕ) (z : ℕ) (t : Triple) → PuttingRow m row at before out z → row ≤ m → z ≤ row → row ≤ z → triple_orders t ≡ row_orders m row z → after ≡ sets out (at + 3 * z) (triple_orders t) → after ≡ sets before at (flatten (row_of m (m - row)))
putting-row-last m row at before out after z t p within inside last is put =
    putting-row-done m row at before after (z + 1) (putting-row-more m row at before out after z t p within inside is put) within (omega arith)

-- ---- putting the list down

-- what is left of the list from a row on, at its place, makes the whole
pub record Putting (m : ℕ) (before out : List ℕ) (row at : ℕ) : Type 0 where
  pub long : length out ≡ length before
  pub room : at + length (flatten (rows_from m row)) ≤ length before
  pub stores : sets out at (flatten (rows_from m row)) ≡ sets before 0 (shell_bytes m)

pub putting-first : (m : ℕ) (out : List ℕ) → length (shell_bytes m) ≤ length out → Putting m out out 0 0
unfolding shell_bytes
putting-first m out fits = record { long = refl; room = rw (← (rows_all m)) (omega arith); stores = rw (← (rows_all m)) }

row_first : (m row : ℕ) → row ≤ m → flatten (rows_from m row) ≡ flatten (row_of m (m - row)) ++ flatten (rows_from m (suc row))
row_first m row within = ap flatten (rows_more m row within) ∙ flatten-append (row_of m (m - row)) (rows_from m (suc row))

row_room : (m row : ℕ) → row ≤ m → length (flatten (rows_from m row)) ≡ 3 * (row + 1) + length (flatten (rows_from m (suc row)))
row_room m row within = omega (arith, ap length (row_first m row within), length-append (flatten (row_of m (m - row))) (flatten (rows_from m (suc row))), row-bytes m row within)

pub putting-room : (m : ℕ) (before out : List ℕ) (row at : ℕ) → Putting m before out row at → row ≤ m → at + 3 * (row + 1) ≤ length out
putting-room m before out row at p within = omega (arith, p.room, p.long, row_room m row within)

pub putting-more : (m : ℕ) (before out after : List ℕ) (row at : ℕ) → Putting m before out row at → row ≤ m → after ≡ sets out at (flatten (row_of m (m - row))) → Putting m before after (row + 1) (at + 3 * (row + 1))
putting-more m before out after row at p within put =
    let here = flatten (row_of m (m - row)) in
    let rest = flatten (rows_from m (suc row)) in
    let next : at + length here ≡ at + 3 * (row + 1) = omega (arith, row-bytes m row within) in
    record {
      long = ap length put ∙ length-sets out at here ∙ p.long;
      room = rw (add-one row) (omega (arith, p.room, row_room m row within));
      stores = rw (put, ← next, add-one row) (sym (sets-append out at here rest) ∙ (rw (row_first m row within) at p.stores));
    }

pub putting-done : (m : ℕ) (before out : List ℕ) (row at : ℕ) → Putting m before out row at → m < row → out ≡ sets before 0 (shell_bytes m)
unfolding flatten
putting-done m before out row at p all = rw (rows_none m row all) at p.stores

pub putting-last : (m : ℕ) (before out after : List ℕ) (row at : ℕ) → Putting m before out row at → row ≤ m → m ≤ row → after ≡ sets out at (flatten (row_of m (m - row))) → after ≡ sets before 0 (shell_bytes m)
putting-last m before out after row at p within last put = putting-done m before after (row + 1) (at + 3 * (row + 1)) (putting-more m before out after row at p within put) (omega arith)

-- ---- what is told of it

pub told-high : (m start : ℕ) (out : List ℕ) → most_order < m → ListTold m out start (Err OrderSum) out
unfolding listed_at listed_out
told-high m start out above = let high : ltb most_order m ≡ true = lt-ltb most_order m above in record { answer = simp high; out = simp high }

pub told-beyond : (m start : ℕ) (out : List ℕ) → m ≤ most_order → length out < start → ListTold m out start (Err StartBeyondEnd) out
unfolding listed_at listed_out
told-beyond m start out low-m past =
    let low : ltb most_order m ≡ false = le-ltb most_order m low-m in
    let beyond : ltb (length out) start ≡ true = lt-ltb (length out) start past in
    let none : leb (start + length (shell_bytes m)) (length out) ≡ false = lt-leb (start + length (shell_bytes m)) (length out) (omega arith) in
    record { answer = simp (low, beyond); out = simp (low, none) }

pub told-full : (m start count : ℕ) (out : List ℕ) → m ≤ most_order → start ≤ length out → count ≡ length (triples m) → length out - start < 3 * count → ListTold m out start (Err NoRoom) out
unfolding listed_at listed_out
told-full m start count out low-m inside counted over =
    let low : ltb most_order m ≡ false = le-ltb most_order m low-m in
    let near : ltb (length out) start ≡ false = le-ltb (length out) start inside in
    let past : length out < start + length (shell_bytes m) = omega (arith, bytes_count m) in
    let full : ltb (length out) (start + length (shell_bytes m)) ≡ true = lt-ltb (length out) (start + length (shell_bytes m)) past in
    let none : leb (start + length (shell_bytes m)) (length out) ≡ false = lt-leb (start + length (shell_bytes m)) (length out) past in
    record { answer = simp (low, near, full); out = simp (low, none) }

pub part_room : (m start count : ℕ) (out : List ℕ) → count ≡ length (triples m) → 3 * count ≤ length out - start → length (shell_bytes m) ≤ length (take (length out - start) (drop start out))
part_room m start count out counted fits = rw (part-all out start) (omega (arith, bytes_count m, length-drop start out))

pub told-list : (m start count : ℕ) (out part : List ℕ) → m ≤ most_order → start ≤ length out → count ≡ length (triples m) → 3 * count ≤ length out - start → part ≡ sets (take (length out - start) (drop start out)) 0 (shell_bytes m) → ListTold m out start (Ok (record { length = 3 * count; triples = count })) (put_mid start (length out - start) out part)
unfolding listed_at listed_out
told-list m start count out part low-m inside counted fits put =
    let low : ltb most_order m ≡ false = le-ltb most_order m low-m in
    let near : ltb (length out) start ≡ false = le-ltb (length out) start inside in
    let bytes : length (shell_bytes m) ≡ 3 * count = omega (arith, bytes_count m) in
    let room : start + length (shell_bytes m) ≤ length out = omega arith in
    let roomy : ltb (length out) (start + length (shell_bytes m)) ≡ false = le-ltb (length out) (start + length (shell_bytes m)) room in
    let some : leb (start + length (shell_bytes m)) (length out) ≡ true = le-leb (start + length (shell_bytes m)) (length out) room in
    record {
      answer = simp (low, near, roomy) (cc (bytes, counted));
      out = simp (low, some) (part-put out part (shell_bytes m) start room put);
    }
