-- What a reader of numbers promises: programs read by it, and 01 says nothing of it.
use Rattle.std.specs.Prelude.{ℕ, ◌+◌, ◌^◌, true, false, cond, List, [], ◌∷◌, ltb, leb, eqb, length, drop}
use Rattle.text.specs.Parsed.{Parsed, Is, Not}
use Rattle.text.specs.Digits.{worth, value_from, places_of}

-- the digits of a base that a list begins with, up to the first byte that is none
abbrev pub run_of : List ℕ → ℕ → List ℕ
run_of [] base = []
run_of (b ∷ bs) base =
    elim (ltb (worth b) base) [
      | true ↦ b ∷ run_of bs base
      | false ↦ []
    ]

-- the number that digits at a place are worth, with the place after them, below 2^64
unfoldable pub value_at : List ℕ → ℕ → ℕ → Parsed
value_at run at base = cond (ltb (value_from base 0 run) (2 ^ 64)) (Is (value_from base 0 run) (at + length run)) Not

-- there are digits, and they have no leading zeros: as many as the number has
unfoldable pub decimal_at : List ℕ → ℕ → Parsed
decimal_at s at =
    let run : List ℕ = run_of (drop at s) 10 in
    cond (eqb (places_of (value_from 10 0 run)) (length run)) (value_at run at 10) Not

-- there are one to sixteen digits
unfoldable pub hex_at : List ℕ → ℕ → Parsed
hex_at s at =
    let run : List ℕ = run_of (drop at s) 16 in
    cond (leb 1 (length run)) (cond (leb (length run) 16) (value_at run at 16) Not) Not
