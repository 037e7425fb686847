-- The form by the first byte: a header that reads in a form is taken in that form, and to what begins as neither both readers say the same.
use Prim.Native.Nat.{ℕ, ◌+◌, ◌-◌, ◌≤◌, ◌<◌}
use mathlib.Core.Path.{◌≡◌, refl, sym, ap, ◌∙◌}
use mathlib.Core.Logic.{◌⊎◌, inl, inr}
use mathlib.Core.Bool.{Bool, true, false, cond, ◌||◌}
use mathlib.Core.List.{List, ◌++◌}
use native.Mathlib.Omega.{arith}
use borrow.Author.Tests.{lt-ltb, ltb-false}
use lib.Dec.{ltb}
use lib.ListN.{get_or, drop}
use Rattle.kind.specs.Kinds.{kind_of, number_of}
use Rattle.kind.specs.declared.Kind.{Kind}
use Rattle.kind.specs.declared.Kind.TheVariants.{Coulomb}
use Rattle.kind.proofs.Within.{number-within}
use Rattle.number.specs.Read.{Number}
use Rattle.number.specs.Read as number
use Rattle.number.specs.Numbers.{bytes_of, read_at, Bytes}
use Rattle.number.proofs.Writing.{bytes-last}
use Rattle.roll.specs.Field as field
use Rattle.roll.specs.Bytes.{numbers_bytes}
use Rattle.roll.specs.Reading.{Reading, got, refused, opened, within_at, onward, Header, of_kind, header_at}
use Rattle.form2.specs.Bytes.{form_two}
use Rattle.form2.specs.Reading.{header_at2}
use Rattle.salvaging.specs.declared.forms.Form.{Form}
use Rattle.salvaging.specs.declared.forms.Form.TheVariants.{One, Two}
use Rattle.salvaging.specs.Salvage.{form_of, header_in}
use Rattle.salvaging.specs.inner.Forms.{first_in}
use Rattle.salvaging.proofs.FormsLaws.{form-below, second-form}
use Rattle.salvaging.proofs.Fresh.{header_is}
use Rattle.kind.specs.declared.refusals.Refusal.TheVariants.{BadRoll, CutRoll}

-- ---- a header that reads

low_first : (f : Form) (k : Kind) → first_in f k < 128
low_first One k = omega (arith, number-within k)
low_first Two k = omega (arith, number-within k)

-- its first byte is its kind, in form 2 with the 16
pub first_byte : (f : Form) (s : List ℕ) (h : Header) (next : ℕ) → Bytes s → header_in f s ≡ got h next → get_or s 0 0 ≡ first_in f h.kind
first_byte f s h next bytes e =
    ap (λ (l : List ℕ). get_or l 0 0) (header_is f s h next bytes e).bytes
    ∙ ap (λ (l : List ℕ). get_or ((l ++ numbers_bytes h.orders) ++ (bytes_of h.terms ++ drop next s)) 0 0) (bytes-last (first_in f h.kind) (low_first f h.kind))

-- it is taken in the form that it reads in, so it reads in one form alone
pub form-taken : (f : Form) (s : List ℕ) (h : Header) (next : ℕ) → Bytes s → header_in f s ≡ got h next → form_of s ≡ f
form-taken One s h next bytes e = let first = first_byte One s h next bytes e in sym (form-below s (omega (arith, first, number-within h.kind)))
form-taken Two s h next bytes e = let first = first_byte Two s h next bytes e in sym (second-form s (omega (arith, first)) (omega (arith, first, number-within h.kind)))

-- ---- what is neither

-- what it begins with is a kind of neither form: another number, or none
pub record Neither (s : List ℕ) : Type 0 where
  pub not-one : (n next : ℕ) → read_at s 0 ≡ number.Is n next → number_of Coulomb < n
  pub not-two : (n next : ℕ) → read_at s 0 ≡ number.Is n next → form_two ≤ n → n ≤ form_two + number_of Coulomb → ⊥

outside : (n : ℕ) → (form_two ≤ n → n ≤ form_two + number_of Coulomb → ⊥) → (ltb n form_two || ltb (form_two + number_of Coulomb) n) ≡ true
outside n none = by (ltb n form_two) refl
  where
    by : (b : Bool) → ltb n form_two ≡ b → (b || ltb (form_two + number_of Coulomb) n) ≡ true
    by true e = refl
    by false e = on (ltb (form_two + number_of Coulomb) n) refl
      where
        on : (c : Bool) → ltb (form_two + number_of Coulomb) n ≡ c → c ≡ true
        on true t = refl
        on false t = absurd (none (ltb-false n form_two e) (ltb-false (form_two + number_of Coulomb) n t))

above : (n : ℕ) → number_of Coulomb < n → (ltb n 0 || ltb (number_of Coulomb) n) ≡ true
above n more = by (ltb n 0)
  where
    by : (b : Bool) → (b || ltb (number_of Coulomb) n) ≡ true
    by true = refl
    by false = lt-ltb (number_of Coulomb) n more

-- what each reader makes of the number that a roll begins with
abbrev one : List ℕ → Number → Reading Header
one s x = onward (opened x 0 0 (number_of Coulomb)) (λ n next. of_kind s next (kind_of n))

abbrev two : List ℕ → Number → Reading Header
two s x = onward (opened x 0 form_two (form_two + number_of Coulomb)) (λ n next. of_kind s next (kind_of (n - form_two)))

-- both readers refuse it alike, at its first byte, so it does not matter which of them is asked
pub neither-alike : (s : List ℕ) → Neither s → (header_at s ≡ header_at2 s) × ((header_at s ≡ refused BadRoll 0) ⊎ (header_at s ≡ refused CutRoll 0))
unfolding header_at header_at2 within_at
neither-alike s none = by (read_at s 0) refl
  where
    by : (x : Number) → read_at s 0 ≡ x → (one s (read_at s 0) ≡ two s (read_at s 0)) × ((one s (read_at s 0) ≡ refused BadRoll 0) ⊎ (one s (read_at s 0) ≡ refused CutRoll 0))
    by (number.Is n next) e =
        let first : one s (read_at s 0) ≡ refused BadRoll 0 =
        ap (one s) e ∙ ap (λ (b : Bool). onward (cond b (field.Refused BadRoll 0) (field.Is n next)) (λ n next. of_kind s next (kind_of n))) (above n (none.not-one n next e)) in
        let second : two s (read_at s 0) ≡ refused BadRoll 0 =
        ap (two s) e ∙ ap (λ (b : Bool). onward (cond b (field.Refused BadRoll 0) (field.Is n next)) (λ n next. of_kind s next (kind_of (n - form_two)))) (outside n (none.not-two n next e)) in
        (first ∙ sym second, inl first)
    by number.Ended e = (ap (one s) e ∙ sym (ap (two s) e), inr (ap (one s) e))
    by number.NotShortest e = (ap (one s) e ∙ sym (ap (two s) e), inl (ap (one s) e))
    by number.TooLarge e = (ap (one s) e ∙ sym (ap (two s) e), inl (ap (one s) e))
