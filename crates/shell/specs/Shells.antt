-- 01, "Shells": the triples of a shell, the pairs and quadruples that they make, and the answers.
use Rattle.std.specs.Prelude.{ℕ, zero, suc, ◌+◌, ◌-◌, ◌≡◌, cond, ◌||◌, ltb, length, get_or, replicate, Result, Ok, Err}
use mathlib.Core.List.{List, [], ◌∷◌, ◌++◌, map, flat_map, flatten}
use Rattle.laws.specs.Placed.{placed_where_fits}
use Rattle.kind.specs.declared.refusals.Refusal.{Refusal}
use Rattle.kind.specs.declared.refusals.Refusal.TheVariants.{OrderSum, StartBeyondEnd, NoRoom, ComponentNumber}
use Rattle.kind.specs.Limits.{most_order}
use Rattle.kind.specs.Refusals.{refusal_number}
use Rattle.shell.specs.declared.Listed.{Listed}

-- n, n − 1 and so on to 0
unfoldable pub descending : ℕ → List ℕ
descending zero = 0 ∷ []
descending (suc n) = suc n ∷ descending n

-- get_ijk_list(m): x descending, then y descending; z is what is left of m
unfoldable pub triples : ℕ → List (List ℕ)
triples m = flat_map (λ x. map (λ y. x ∷ y ∷ (m - x - y) ∷ []) (descending (m - x))) (descending m)

-- written as bytes, three to a triple
unfoldable pub shell_bytes : ℕ → List ℕ
shell_bytes m = flatten (triples m)

-- each of the first beside each of the second, the second fastest
unfoldable pub beside : List (List ℕ) → List (List ℕ) → List (List ℕ)
beside xs ys = flat_map (λ x. map (λ y. x ++ y) ys) xs

-- get_shell2 and get_shell4: the last shell fastest
abbrev pub pairs : ℕ → ℕ → List (List ℕ)
pairs a b = beside (triples a) (triples b)

abbrev pub quadruples : ℕ → ℕ → ℕ → ℕ → List (List ℕ)
quadruples a b c d = beside (pairs a b) (pairs c d)

-- the number, the length and the triples that 01 gives each case; 0 is success
abbrev pub refusal_of : {A : Type 0} → Result A Refusal → ℕ
refusal_of (Ok answer) = 0
refusal_of (Err refusal) = refusal_number refusal

abbrev pub length_in : Result Listed Refusal → ℕ
length_in (Ok listed) = listed.length
length_in (Err refusal) = 0

abbrev pub triples_in : Result Listed Refusal → ℕ
triples_in (Ok listed) = listed.triples
triples_in (Err refusal) = 0

-- a shell list's refusals: 2 a shell's order above the limit, 5 a start beyond the end, 6 no room; or its bytes and its triples (D-31)
unfoldable pub listed_at : ℕ → List ℕ → ℕ → Result Listed Refusal
listed_at m out start =
    cond (ltb most_order m) (Err OrderSum)
    (cond (ltb (length out) start) (Err StartBeyondEnd)
    (cond (ltb (length out) (start + length (shell_bytes m))) (Err NoRoom)
    (Ok (record { length = length (shell_bytes m); triples = length (triples m) }))))

-- a refusal changes no byte, and a success only those of the list
unfoldable pub listed_out : ℕ → List ℕ → ℕ → List ℕ
listed_out m out start = cond (ltb most_order m) out (placed_where_fits out start (shell_bytes m))

pub record ListTold (m : ℕ) (before : List ℕ) (start : ℕ) (r : Result Listed Refusal) (after : List ℕ) : Type 0 where
  pub answer : r ≡ listed_at m before start
  pub out : after ≡ listed_out m before start

-- a component by number: its orders by shell, or 13 where the number is not below the count
unfoldable pub component : List (List ℕ) → ℕ → Result (List ℕ) Refusal
component list number = cond (ltb number (length list)) (Ok (get_or list number [])) (Err ComponentNumber)

-- of four shells: 2 where one's order is above the limit
unfoldable pub shell4_of : ℕ → ℕ → ℕ → ℕ → ℕ → Result (List ℕ) Refusal
shell4_of a b c d number =
    cond ((ltb most_order a || ltb most_order b) || (ltb most_order c || ltb most_order d)) (Err OrderSum)
    (component (quadruples a b c d) number)

-- of two shells, six orders of 0 after a pair's (D-6)
unfoldable pub shell2_of : ℕ → ℕ → ℕ → Result (List ℕ) Refusal
shell2_of a b number =
    cond (ltb most_order a || ltb most_order b) (Err OrderSum)
    (component (map (λ pair. pair ++ replicate 6 0) (pairs a b)) number)
