-- One answer alone, with what the buffer then holds, meets each public contract of this crate, and it is the definition's.
use Prim.Native.Nat.{ℕ}
use mathlib.Core.List.{List}
use contract.Lifetimes.{Lfts}
use Rattle.std.specs.Prelude.{Option}
use Rattle.laws.specs.Placed.{placed_where_fits}
use Rattle.laws.proofs.Contract.{Alone, alone, Lent, Shown, ◌then◌, ◌▸◌, end}
use Rattle.text.specs.Digits.{decimal_of, hex_byte_of, hex_word_of, places_of}
use Rattle.text.specs.Reading.{decimal_at, hex_at}
use Rattle.text.specs.Writing.{answered}
use Rattle.text.proofs.put.Reads.{Post as Put}
use Rattle.text.proofs.decimal.Reads.{Post as Decimal}
use Rattle.text.proofs.hex_byte.Reads.{Post as HexByte}
use Rattle.text.proofs.hex_word.Reads.{Post as HexWord}
use Rattle.text.proofs.read_decimal.Reads.{Post as ReadDecimal}
use Rattle.text.proofs.read_hex.Reads.{Post as ReadHex}
use Rattle.text.proofs.places.Reads.{Post as Places}

-- the answer of a text that is put from a place on, and what the buffer then holds
abbrev Told : Type 0
Told = Option ℕ × List ℕ

abbrev told : List ℕ → ℕ → List ℕ → Told
told before at text = (answered before at text, placed_where_fits before at text)

module _ (κs : Lfts 2) (out : Lent ℕ) (at : ℕ) (bytes : Shown ℕ) where
  pub put_only : Alone {A = Told} (λ x. Put κs (out ▸ at ▸ bytes ▸ end) x.0 (out then x.1 ▸ at ▸ bytes ▸ end)) (told out.now at bytes.now)
  put_only = alone (λ x p i. (p.answer i, p.out i))

module _ (κs : Lfts 1) (out : Lent ℕ) (at n : ℕ) where
  pub decimal-only : Alone {A = Told} (λ x. Decimal κs (out ▸ at ▸ n ▸ end) x.0 (out then x.1 ▸ at ▸ n ▸ end)) (told out.now at (decimal_of n))
  decimal-only = alone (λ x p i. (p.answer i, p.out i))

  pub hex-byte-only : Alone {A = Told} (λ x. HexByte κs (out ▸ at ▸ n ▸ end) x.0 (out then x.1 ▸ at ▸ n ▸ end)) (told out.now at (hex_byte_of n))
  hex-byte-only = alone (λ x p i. (p.answer i, p.out i))

  pub hex-word-only : Alone {A = Told} (λ x. HexWord κs (out ▸ at ▸ n ▸ end) x.0 (out then x.1 ▸ at ▸ n ▸ end)) (told out.now at (hex_word_of n))
  hex-word-only = alone (λ x p i. (p.answer i, p.out i))

module _ (κs : Lfts 1) (s : Shown ℕ) (at : ℕ) where
  pub read-decimal-only : let g = s ▸ at ▸ end in Alone (λ r. ReadDecimal κs g r g) (decimal_at s.now at)
  read-decimal-only = alone (λ r p. p)

  pub read-hex-only : let g = s ▸ at ▸ end in Alone (λ r. ReadHex κs g r g) (hex_at s.now at)
  read-hex-only = alone (λ r p. p)

pub places-only : (n : ℕ) → let g = n ▸ end in Alone (λ r. Places tt g r g) (places_of n)
places-only n = alone (λ r p. p)
