-- The two forms beside each other: each reader refuses the other's rolls at 0, and what one form says the other can say too, so that moving there and back
-- gives the same bytes.
use Prim.Native.Nat.{ℕ, ◌+◌}
use mathlib.Core.Path.{◌≡◌, refl, sym}
use mathlib.Core.List.{List}
use native.Mathlib.Omega.{arith}
use lib.ListN.{length}
use Rattle.kind.specs.Kinds.{number_of}
use Rattle.kind.specs.declared.Kind.TheVariants.{Coulomb}
use Rattle.number.specs.Numbers.{read_at, Bytes}
use Rattle.roll.specs.Reading.{Reading, got, refused, Header, header_at, Roll, roll_at}
use Rattle.roll.proofs.FieldLaws.{within_low, within-high}
use Rattle.roll.proofs.Filling.{and_then-is}
use Rattle.roll.proofs.Inside.{header_read}
use Rattle.roll.proofs.Back.{roll-back}
use Rattle.roll.proofs.Written.{roll-read}
use Rattle.form2.specs.Bytes.{form_two}
use Rattle.form2.specs.Reading.{header_at2, roll_at2}
use Rattle.form2.specs.Moves.{in_form1, in_form2}
use Rattle.form2.proofs.Inside.{header-read2}
use Rattle.form2.proofs.Back.{roll-back2}
use Rattle.form2.proofs.Written.{roll-read2}
use Rattle.kind.specs.declared.refusals.Refusal.TheVariants.{BadRoll}

-- ---- each form's reader refuses the other with 7 at 0

-- a header of form 1, read as form 2: its kind is below 16
pub form1-refused : (s : List ℕ) (h : Header) (next : ℕ) → header_at s ≡ got h next → header_at2 s ≡ refused BadRoll 0
unfolding header_at2
form1-refused s h next e =
    let r = header_read s h next e in
    let small = r.kind.below in
    rw (sym (within_low s 0 form_two (form_two + number_of Coulomb) (read_at s 0) (number_of h.kind) r.a refl r.kind.read (omega arith)))

-- a header of form 2, read as form 1: its first number is above 4
pub form2-refused : (s : List ℕ) (h : Header) (next : ℕ) → header_at2 s ≡ got h next → header_at s ≡ refused BadRoll 0
unfolding header_at
form2-refused s h next e =
    let r = header-read2 s h next e in
    rw (sym (within-high s 0 0 (number_of Coulomb) (read_at s 0) (form_two + number_of h.kind) r.a refl r.kind.read (omega arith) (omega arith)))

pub roll1-refused : (s : List ℕ) (r : Roll) (end : ℕ) → roll_at s ≡ got r end → roll_at2 s ≡ refused BadRoll 0
unfolding roll_at roll_at2
roll1-refused s r end e = let x = and_then-is (header_at s) _ r end e in rw (form1-refused s x.0 x.1 x.2)

pub roll2-refused : (s : List ℕ) (r : Roll) (end : ℕ) → roll_at2 s ≡ got r end → roll_at s ≡ refused BadRoll 0
unfolding roll_at roll_at2
roll2-refused s r end e = let x = and_then-is (header_at2 s) _ r end e in rw (form2-refused s x.0 x.1 x.2)

-- ---- there and back, of every roll that reads

-- what a roll says, written in the other form, is read there as the same; written in its own form again it is the same bytes
pub record ThereAndBack (s : List ℕ) (other : List ℕ → Reading Roll) (there back : Roll → List ℕ) (r : Roll) : Type 0 where
  pub reads : other (there r) ≡ got r (length (there r))
  pub same : back r ≡ s

pub form2-and-back : (s : List ℕ) (r : Roll) (end : ℕ) → Bytes s → roll_at s ≡ got r end → ThereAndBack s roll_at2 in_form2 in_form1 r
unfolding in_form1 in_form2
form2-and-back s r end bytes e = let x = roll-read s r end bytes e in record { reads = roll-back2 r x.1; same = sym x.0 }

pub form1-and-back : (s : List ℕ) (r : Roll) (end : ℕ) → Bytes s → roll_at2 s ≡ got r end → ThereAndBack s roll_at in_form1 in_form2 r
unfolding in_form1 in_form2
form1-and-back s r end bytes e = let x = roll-read2 s r end bytes e in record { reads = roll-back r x.1; same = sym x.0 }
