-- Inside the crate: bytes that are put down one after the other, and what a move writes of a roll that has been judged.
use Rattle.std.specs.Prelude.{ℕ, zero, suc, ◌+◌, ◌≤◌, ◌≡◌, true, List, [], ◌∷◌, ◌++◌, length, get_or, take, drop, Some}
use Rattle.std.proofs.lemmas.List.Edits.{sets}
use Rattle.kind.specs.Limits.{most_l·any}
use Rattle.kind.specs.Kinds.{kind_of, number_of, most_l}
use Rattle.kind.specs.declared.Kind.{Kind}
use Rattle.kind.specs.declared.Kind.TheVariants.{Coulomb}
use Rattle.number.specs.Numbers.{one_byte, bytes_of, length_of, Bytes}
use Rattle.term.specs.Terms.{Term}
use Rattle.roll.specs.declared.again.Head.{Head}
use Rattle.roll.specs.declared.header.Opened.{Opened}
use Rattle.roll.specs.Bytes.{terms_bytes}
use Rattle.roll.specs.Reading.{Reading, got, refused, Roll, roll_at}
use Rattle.roll.specs.inner.Again.{head_at, between}
use Rattle.form2.specs.Bytes.{form_two, shared, further_of}
use Rattle.form2.specs.Reading.{terms_after, roll_at2}
use Rattle.form2.specs.Moves.{in_form1, in_form2}

-- bytes are stored from a place on, and the place after them comes back
pub record Put (bytes : List ℕ) (at : ℕ) (before : List ℕ) (r : ℕ) (after : List ℕ) : Type 0 where
  pub next : r ≡ at + length bytes
  pub out : after ≡ sets before at bytes

-- what is written of a roll that reads
abbrev pub bytes_in : (Roll → List ℕ) → Reading Roll → List ℕ
bytes_in form (got r end) = form r
bytes_in form (refused n place) = []

unfoldable pub two_bytes : ℕ → ℕ → List ℕ
two_bytes a b = bytes_of a ++ bytes_of b

-- a term whose prefactors are one byte each, in form 1
unfoldable pub plain1 : ℕ → ℕ → List ℕ → List ℕ
plain1 scale boys ps = two_bytes scale boys ++ (bytes_of (length ps) ++ ps)

-- and in form 2, of which so many are shared
unfoldable pub plain2 : ℕ → ℕ → ℕ → List ℕ → List ℕ
plain2 scale boys n fs = two_bytes scale boys ++ (two_bytes n (length fs) ++ fs)

unfoldable pub plain_length2 : ℕ → ℕ → ℕ → ℕ → ℕ
plain_length2 scale boys n further = length_of scale + length_of boys + length_of n + length_of further + further

-- ---- a form 1 roll that has been judged, written in form 2 as it is read again

unfoldable pub ps_at : List ℕ → Head → List ℕ
ps_at s h = between s h.from h.end

unfoldable pub head_bytes2 : List ℕ → List ℕ → Head → List ℕ
head_bytes2 s earlier h = plain2 h.scale h.boys (shared earlier (ps_at s h)) (further_of earlier (ps_at s h))

unfoldable pub again_bytes2 : List ℕ → List ℕ → ℕ → ℕ → List ℕ
again_bytes2 s earlier place zero = []
again_bytes2 s earlier place (suc left) = head_bytes2 s earlier (head_at s place) ++ again_bytes2 s (ps_at s (head_at s place)) (head_at s place).end left

-- none of its terms has more prefactors than any term may have
abbrev pub SmallAgain : List ℕ → ℕ → ℕ → Type 0
SmallAgain s place zero = Unit
SmallAgain s place (suc left) = ((head_at s place).end ≤ (head_at s place).from + most_l·any) × SmallAgain s (head_at s place).end left

pub record AgainMay (s : List ℕ) (place left : ℕ) : Type 0 where
  pub inside : place ≤ length s
  pub small : SmallAgain s place left

-- a Boys order and a count of one byte each, and the prefactors end inside the roll
pub record ShortRest (s : List ℕ) (at : ℕ) : Type 0 where
  pub boys : one_byte (get_or s at 0) ≡ true
  pub count : one_byte (get_or s (at + 1) 0) ≡ true
  pub inside : at + 2 + get_or s (at + 1) 0 ≤ length s

-- a term of such numbers behind its scale
abbrev pub short_head : List ℕ → ℕ → ℕ → Head
short_head s scale at = record { scale = scale; boys = get_or s at 0; from = at + 2; end = at + 2 + get_or s (at + 1) 0 }

-- two parts of a roll
pub record PartsMay (s : List ℕ) (a b c d : ℕ) : Type 0 where
  pub one : a ≤ b
  pub inside : b ≤ length s
  pub two : c ≤ d
  pub inside_too : d ≤ length s

-- ---- a form 2 roll that has been judged

-- a term's numbers and its further prefactors; those that it shares stand in the buffer before it
pub record Term1May (scale boys from shared : ℕ) (ps : List ℕ) (at : ℕ) (out : List ℕ) : Type 0 where
  pub apart : from + shared ≤ at
  pub few : shared + length ps ≤ most_l·any
  pub room : at + length (plain1 scale boys (take shared (drop from out) ++ ps)) ≤ length out

-- terms that read, and room for them in form 1
pub record TermsMay1 (s : List ℕ) (at left : ℕ) (k : Kind) (l : ℕ) (out : List ℕ) (start : ℕ) : Type 0 where
  pub small : l ≤ most_l k
  pub terms : List Term
  pub end : ℕ
  pub reads : terms_after s at left k l [] ≡ got terms end
  pub room : start + length (terms_bytes terms) ≤ length out
  pub each : Bytes s

-- ---- rolls that have been judged, as the moves know them: what is written begins with the header's own bytes but for the first

pub record May2 (o : Opened) (s : List ℕ) : Type 0 where
  pub roll : Roll
  pub end : ℕ
  pub reads : roll_at s ≡ got roll end
  pub some : 1 ≤ o.cursor.place
  pub inside : o.cursor.place ≤ length s
  pub kind : o.cursor.kind ≤ number_of Coulomb
  pub again : AgainMay s o.cursor.place o.cursor.left
  pub count : o.cursor.left ≡ length roll.terms
  pub most : length (in_form2 roll) ≤ length s + o.cursor.left
  pub bytes : in_form2 roll ≡ ((o.cursor.kind + form_two) ∷ between s 1 o.cursor.place) ++ again_bytes2 s [] o.cursor.place o.cursor.left

pub record May1 (o : Opened) (n : ℕ) (s : List ℕ) : Type 0 where
  pub roll : Roll
  pub end : ℕ
  pub reads : roll_at2 s ≡ got roll end
  pub some : 1 ≤ o.cursor.place
  pub inside : o.cursor.place ≤ length s
  pub kind : Kind
  pub named : kind_of o.cursor.kind ≡ Some kind
  pub small : o.cursor.l ≤ most_l kind
  pub last : ℕ
  pub terms : terms_after s o.cursor.place o.cursor.left kind o.cursor.l [] ≡ got roll.terms last
  pub count : o.cursor.left ≡ length roll.terms
  pub size : n ≡ length (terms_bytes roll.terms)
  pub each : Bytes s
  pub bytes : in_form1 roll ≡ (o.cursor.kind ∷ between s 1 o.cursor.place) ++ terms_bytes roll.terms
