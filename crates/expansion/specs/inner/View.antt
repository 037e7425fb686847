-- What the packed path of a term means.
use Rattle.std.specs.Prelude.{ℕ, zero, suc, ◌+◌, ◌*◌, ◌-◌, ◌/◌, ◌%◌, ◌^◌, ◌<◌, ◌≤◌, ◌≡◌, cond, List, [], ◌∷◌, ◌++◌, leb, length}
use Rattle.std.proofs.lemmas.List.Edits.{sets}
use Rattle.term.specs.Terms.{Term}
use Rattle.number.specs.Numbers.{bytes_of}
use Rattle.roll.specs.Bytes.{term_bytes}
use Rattle.expansion.specs.declared.Path.{Path}

-- the last n digits of five bits, the last one lowest
unfoldable pub five_bits : ℕ → ℕ → List ℕ
five_bits zero w = []
five_bits (suc n) w = five_bits n (w / 32) ++ ((w % 32) ∷ [])

-- a word has room for twelve
unfoldable pub path_prefactors : ℕ → ℕ → ℕ → List ℕ
path_prefactors count low high = cond (leb count 12) (five_bits count low) (five_bits 12 high ++ five_bits (count - 12) low)

abbrev pub path_term : Path → Term
path_term p = record { scale = p.scale; boys = p.boys; prefactors = path_prefactors p.count p.low p.high }

-- there is room for a term's bytes, and each of its numbers but the scale takes one
pub record TermMay (p : Path) (at : ℕ) (out : List ℕ) : Type 0 where
  pub scale : p.scale < 2 ^ 32
  pub boys : p.boys < 128
  pub count : p.count < 25
  pub room : at + length (term_bytes (path_term p)) ≤ length out

pub record NumberMay (n at : ℕ) (out : List ℕ) : Type 0 where
  pub below : n < 2 ^ 32
  pub room : at + length (bytes_of n) ≤ length out

pub record RestMay (boys count at : ℕ) (out : List ℕ) : Type 0 where
  pub boys-small : boys < 128
  pub count_small : count < 25
  pub room : at + 2 + count ≤ length out

-- bytes are stored from a place on, and the place after them comes back
pub record Emitted (bytes : List ℕ) (at : ℕ) (before : List ℕ) (r : ℕ) (after : List ℕ) : Type 0 where
  pub next : r ≡ at + length bytes
  pub out : after ≡ sets before at bytes

-- a step that the words have room for
pub record MoveMay (p : Path) (times raises adds : ℕ) : Type 0 where
  pub scale : p.scale * times < 2 ^ 64
  pub boys : p.boys + raises < 2 ^ 64
  pub adds-small : adds < 32
  pub count : p.count < 24

-- a term one step further on
abbrev pub moved_on : Term → ℕ → ℕ → ℕ → Term
moved_on t times raises adds = record { scale = t.scale * times; boys = t.boys + raises; prefactors = t.prefactors ++ (adds ∷ []) }
