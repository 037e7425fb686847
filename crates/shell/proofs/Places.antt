-- What stands at a number of a list: of two lists beside each other by division, of a shell's list by its row.
use Prim.Native.Nat.{ℕ, zero, suc, ◌+◌, ◌*◌, ◌-◌, ◌/◌, ◌%◌, ◌^◌, ◌≤◌, ◌<◌}
use mathlib.Core.Path.{◌≡◌, refl, sym, ap, ◌∙◌}
use mathlib.Core.List.{List, [], ◌∷◌, ◌++◌, map, flat_map}
use native.Mathlib.Nat.{div-eq_of_lt, mod-eq_of_lt, div-eq-sub-div, mod-eq-sub-mod, mod-lt, div-lt_iff_lt-mul, mul-le-mul}
use native.Mathlib.Numerals.{add-one}
use native.Mathlib.Omega.{arith}
use borrow.Author.Tests.{ltb-true, ltb-false}
use lib.Dec.{T, ltb, ltb→lt}
use lib.ListN.{length, get_or, length-append, length-map, get_or-append}
use lib.Seq.{get_or-append-add}
use mir.Syntax.{w64}
use mir.Val.{Fits}
use Rattle.laws.proofs.Cases.{tested}
use Rattle.laws.proofs.Counting.{fits_below}
use Rattle.shell.specs.declared.Triple.{Triple}
use Rattle.shell.specs.Shells.{triples, beside}
use Rattle.shell.specs.inner.Rows.{triple_orders, row_of, row_orders, Counts}
use Rattle.shell.proofs.Listing.{get_d_map, rows_from, row-length, row_at, rows_all, rows_more, triples-twice}

-- past the first list, what stands is the second's
get_d_past : {A : Type 0} (xs ys : List A) (d : A) (n k : ℕ) → n ≡ length xs + k → get_or (xs ++ ys) n d ≡ get_or ys k d
get_d_past xs ys d n k e = ap (λ (i : ℕ). get_or (xs ++ ys) i d) e ∙ get_or-append-add xs ys k d

-- ---- two lists beside each other

pub beside-length : (xs ys : List (List ℕ)) → length (beside xs ys) ≡ length xs * length ys
unfolding beside flat_map
beside-length [] ys = omega arith
beside-length (x ∷ xs) ys =
    omega (arith, length-append (map (λ (y : List ℕ). x ++ y) ys) (beside xs ys), length-map ys (λ (y : List ℕ). x ++ y), beside-length xs ys)

-- by division: the second list is the faster
abbrev divided : List (List ℕ) → List (List ℕ) → ℕ → List ℕ
divided xs ys n = get_or xs (n / length ys) [] ++ get_or ys (n % length ys) []

beside-here : (x : List ℕ) (xs ys : List (List ℕ)) (n : ℕ) → n < length ys → get_or (beside (x ∷ xs) ys) n [] ≡ divided (x ∷ xs) ys n
unfolding beside flat_map
beside-here x xs ys n here =
    get_or-append (map (λ (y : List ℕ). x ++ y) ys) (beside xs ys) [] n (omega (arith, length-map ys (λ (y : List ℕ). x ++ y)))
    ∙ get_d_map (λ (y : List ℕ). x ++ y) ys n [] [] here
    ∙ rw (div-eq_of_lt here, mod-eq_of_lt here)

beside-past : (x : List ℕ) (xs ys : List (List ℕ)) (n : ℕ) → 0 < length ys → length ys ≤ n → get_or (beside xs ys) (n - length ys) [] ≡ divided xs ys (n - length ys) → get_or (beside (x ∷ xs) ys) n [] ≡ divided (x ∷ xs) ys n
unfolding beside flat_map
beside-past x xs ys n some past rest =
    let times : n / length ys ≡ suc ((n - length ys) / length ys) = div-eq-sub-div some past ∙ add-one ((n - length ys) / length ys) in
    get_d_past (map (λ (y : List ℕ). x ++ y) ys) (beside xs ys) [] n (n - length ys) (omega (arith, length-map ys (λ (y : List ℕ). x ++ y)))
    ∙ rest
    ∙ rw (times, mod-eq-sub-mod past)

some-second : (a b n : ℕ) → n < a * b → 0 < b
some-second a zero n below = absurd (omega arith)
some-second a (suc b) n below = omega arith

pub beside_at : (xs ys : List (List ℕ)) (n : ℕ) → n < length xs * length ys → get_or (beside xs ys) n [] ≡ get_or xs (n / length ys) [] ++ get_or ys (n % length ys) []
beside_at [] ys n inside = absurd (omega arith)
beside_at (x ∷ xs) ys n inside =
    let some : 0 < length ys = some-second (suc (length xs)) (length ys) n inside in
    tested
    (ltb n (length ys))
    (λ t. beside-here x xs ys n (ltb-true n (length ys) t))
    (λ f. let past = ltb-false n (length ys) f in beside-past x xs ys n some past (beside_at xs ys (n - length ys) (omega arith)))

-- ---- the same by their counts

module _ {xs ys : List (List ℕ)} {most most' n k : ℕ} (x : Counts xs most n) (y : Counts ys most' k) where
  product-few : n * k ≤ most * most'
  product-few = mul-le-mul {n₂ = most} {m₂ = most'} x.few y.few

  pub product-fits : T (ltb (most * most') (2 ^ 64)) → Fits w64 (n * k)
  product-fits small = fits_below (most * most') product-few (ltb→lt (most * most') (2 ^ 64) small)

  pub counts-beside : Counts (beside xs ys) (most * most') (n * k)
  counts-beside = record { is = cc (x.is, y.is, beside-length xs ys); some = mul-le-mul {n₁ = 1} {m₁ = 1} x.some y.some; few = product-few }

  pub beside-inside : (number : ℕ) → number < n * k → number < length (beside xs ys)
  beside-inside number below = rw (← counts-beside.is) below

module _ (xs ys : List (List ℕ)) (most k number : ℕ) (y : Counts ys most k) (inside : number < length (beside xs ys)) where
  below : number < length xs * length ys
  below = rw (← (beside-length xs ys)) inside

  pub inside-first : number / k < length xs
  inside-first = (div-lt_iff_lt-mul y.some).1 (rw y.is below)

  pub inside-second : number % k < length ys
  inside-second = rw (← y.is) (mod-lt number y.some)

  pub stands-beside : (p q : List ℕ) → p ≡ get_or xs (number / k) [] → q ≡ get_or ys (number % k) [] → p ++ q ≡ get_or (beside xs ys) number []
  stands-beside p q first second = rw (first, second, y.is) (sym (beside_at xs ys number below))

  pub found-beside : (p q r : List ℕ) → p ≡ get_or xs (number / k) [] → q ≡ get_or ys (number % k) [] → r ≡ p ++ q → r ≡ get_or (beside xs ys) number []
  found-beside p q r first second answer = answer ∙ stands-beside p q first second

-- ---- the triples of a shell

rows_at : (m row z number : ℕ) → row ≤ m → 2 * number ≡ row * (row + 1) + 2 * z → get_or (triples m) number [] ≡ get_or (rows_from m row) z []
rows_at m zero z number within counted =
    let same : number ≡ z = omega arith in
    rw (rows_all m, same)
rows_at m (suc row) z number within counted =
    rows_at m row (row + 1 + z) number (omega arith) (omega arith)
    ∙ rw (rows_more m row (omega arith)) (get_d_past (row_of m (m - row)) (rows_from m (suc row)) [] (row + 1 + z) z (omega (arith, row-length m row (omega arith))))

-- row r begins at r(r + 1)/2
pub triples-at : (m row z number : ℕ) → row ≤ m → z ≤ row → 2 * number ≡ row * (row + 1) + 2 * z → get_or (triples m) number [] ≡ row_orders m row z
triples-at m row z number within inside counted =
    rows_at m row z number within counted
    ∙ rw (rows_more m row within) (get_or-append (row_of m (m - row)) (rows_from m (suc row)) [] z (omega (arith, row-length m row within)))
    ∙ row_at m row z within inside

-- ---- from the last row back to the number's

-- where a row begins, and that the number is not in a later one
pub record Rowed (m number row begins : ℕ) : Type 0 where
  pub within : row ≤ m
  pub triangle : 2 * begins ≡ row * (row + 1)
  pub reaches : number ≤ begins + row

-- an order is a byte
pub rowed-fits : (m : ℕ) → m < 256 → Fits w64 (m * (m + 1))
rowed-fits m byte = record { fits = omega (arith, mul-le-mul {n₁ = m} {m₁ = m + 1} {n₂ = 256} {m₂ = 256} (omega arith) (omega arith)) }

even : (m : ℕ) → 2 * (m * (m + 1) / 2) ≡ m * (m + 1)
even zero = refl
even (suc m) = omega (arith, triples-twice m)

pub rowed-first : (m number : ℕ) → number < length (triples m) → Rowed m number m (m * (m + 1) / 2)
rowed-first m number inside = record { within = omega arith; triangle = even m; reaches = omega (arith, even m, triples-twice m) }

pub rowed-some : (m number row begins : ℕ) → Rowed m number row begins → number < begins → 1 ≤ row
rowed-some m number zero begins r before = absurd (omega arith)
rowed-some m number (suc row) begins r before = omega arith

pub rowed-falls : (m number row begins : ℕ) → Rowed m number row begins → number < begins → row - 1 < row
rowed-falls m number row begins r before = omega (arith, rowed-some m number row begins r before)

pub rowed-room : (m number row begins : ℕ) → Rowed m number row begins → number < begins → row ≤ begins
rowed-room m number zero begins r before = omega arith
rowed-room m number (suc row) begins r before = omega arith

pub rowed-more : (m number row begins : ℕ) → Rowed m number row begins → number < begins → Rowed m number (row - 1) (begins - row)
rowed-more m number zero begins r before = absurd (omega arith)
rowed-more m number (suc row) begins r before =
    let one : suc row - 1 ≡ row = omega arith in
    rw one (record { within = omega arith; triangle = omega arith; reaches = omega arith })

pub rowed-done : (m number row begins : ℕ) (t : Triple) → Rowed m number row begins → begins ≤ number → triple_orders t ≡ row_orders m row (number - begins) → triple_orders t ≡ get_or (triples m) number []
rowed-done m number row begins t r begun is = is ∙ sym (triples-at m row (number - begins) number r.within (omega arith) (omega arith))
