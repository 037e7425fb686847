-- What the words of the walk hold (D-33, D-64), beside the limits: proofs/Packings.antt says that every limit is within it.
use Rattle.std.specs.Prelude.{ℕ, ◌*◌, ◌^◌}

-- an order has four bits
abbrev pub order_values : ℕ
order_values = 2 ^ 4

-- a prefactor has five
abbrev pub prefactor_values : ℕ
prefactor_values = 2 ^ 5

-- twelve of them to a word, and two words to a term
abbrev pub prefactor_places : ℕ
prefactor_places = 2 * 12

-- the bytes of a list that is measured have 32 bits, its terms the rest of a word
abbrev pub measured_bytes : ℕ
measured_bytes = 2 ^ 32
