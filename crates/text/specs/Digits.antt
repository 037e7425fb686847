-- Digits in ASCII, and numbers as lists of them, the most significant first.
use Rattle.std.specs.Prelude.{ℕ, zero, suc, ◌+◌, ◌-◌, ◌*◌, ◌/◌, ◌%◌, true, false, cond, List, [], ◌∷◌, ◌++◌, ltb, length}

-- a digit below sixteen: `0` to `9`, then `a` to `f`
unfoldable pub glyph : ℕ → ℕ
glyph d = cond (ltb d 10) (48 + d) (87 + d)

-- what a byte is worth as a digit: `0` to `9`, `a` to `f`; sixteen where it is none
unfoldable pub worth : ℕ → ℕ
worth b =
    cond (ltb b 48) 16
    (cond (ltb b 58) (b - 48)
    (cond (ltb b 97) 16
    (cond (ltb b 103) (b - 87) 16)))

-- the last k digits of n in a base
abbrev pub digits : ℕ → ℕ → ℕ → List ℕ
digits base zero n = []
digits base (suc k) n = digits base k (n / base) ++ (glyph (n % base) ∷ [])

-- a byte in two hexadecimal digits, a word of 64 bits in sixteen
abbrev pub hex_byte_of : ℕ → List ℕ
hex_byte_of byte = digits 16 2 byte

abbrev pub hex_word_of : ℕ → List ℕ
hex_word_of word = digits 16 16 word

-- a number below ten is one digit; any other is the digits of its tens, then its last digit (the first argument counts the steps left)
abbrev pub decimal_in : ℕ → ℕ → List ℕ
decimal_in zero n = []
decimal_in (suc steps) n =
    elim (ltb n 10) [
      | true ↦ glyph n ∷ []
      | false ↦ decimal_in steps (n / 10) ++ (glyph (n % 10) ∷ [])
    ]

-- a number in decimal, with no leading zeros
unfoldable pub decimal_of : ℕ → List ℕ
decimal_of n = decimal_in (suc n) n

-- how many digits these are
abbrev pub places_of : ℕ → ℕ
places_of n = length (decimal_of n)

-- the number that digits are worth, after digits worth v
abbrev pub value_from : ℕ → ℕ → List ℕ → ℕ
value_from base v [] = v
value_from base v (b ∷ bs) = value_from base (v * base + worth b) bs
