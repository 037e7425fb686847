-- The functions of src/header.rt: a law for each way out.
use Prim.Native.Nat.{ℕ, ◌+◌, ◌-◌, ◌≤◌, ◌<◌}
use mathlib.Core.Path.{◌≡◌, refl, sym, ap, ◌∙◌}
use mathlib.Core.Bool.{true, false}
use mathlib.Core.List.{List}
use native.Mathlib.Omega.{arith}
use borrow.Author.Tests.{le-leb, lt-leb}
use lib.Dec.{leb}
use lib.ListN.{length, get_or}
use Rattle.laws.proofs.Lists.{length-zero}
use Rattle.kind.specs.Kinds.{kind_of, number_of}
use Rattle.kind.specs.declared.Kind.{Kind}
use Rattle.kind.specs.declared.Kind.TheVariants.{Coulomb}
use Rattle.roll.specs.Field.{Field}
use Rattle.roll.specs.Field as field
use Rattle.roll.specs.declared.header.Opened.{Opened}
use Rattle.roll.specs.Reading.{onward, within_at, of_kind}
use Rattle.roll.specs.Header.{refused_opened, held_header, open_kind_of}
use Rattle.form2.specs.Bytes.{form_two}
use Rattle.form2.specs.Reading.{header_at2}
use Rattle.form2.specs.Header.{begun, begun_of, is_form2, open2_of}
use Rattle.std.specs.Prelude.{Option, Some, None, Result, Ok, Err}
use Rattle.kind.specs.declared.refusals.Fault.{Fault}
use Rattle.kind.specs.declared.refusals.Refusal.TheVariants.{BadRoll}

-- ---- the first byte

pub form2-empty : (s : List ℕ) → length s ≡ 0 → false ≡ is_form2 s
unfolding is_form2
form2-empty s none = let is = length-zero s none in rw is refl

pub form2-low : (s : List ℕ) (b : ℕ) → b ≡ get_or s 0 0 → b < form_two → false ≡ is_form2 s
unfolding is_form2
form2-low s b is low = let off : leb form_two (get_or s 0 0) ≡ false = lt-leb form_two (get_or s 0 0) (omega arith) in rw off refl

pub form2-high : (s : List ℕ) (b n : ℕ) → b ≡ get_or s 0 0 → form_two ≤ b → n ≡ number_of Coulomb → leb b (form_two + n) ≡ is_form2 s
unfolding is_form2
form2-high s b n is low most = let on : leb form_two (get_or s 0 0) ≡ true = le-leb form_two (get_or s 0 0) (omega arith) in rw (on, is, most) refl

-- ---- the header

module _ (s : List ℕ) (q : ℕ) (x : Field) (limit : q ≡ number_of Coulomb) (is : x ≡ within_at s 0 form_two (form_two + q)) where
  first : within_at s 0 form_two (form_two + number_of Coulomb) ≡ x
  first = ap (λ (m : ℕ). within_at s 0 form_two (form_two + m)) (sym limit) ∙ sym is

  pub header-kind : (n next : ℕ) (m : Option Kind) (k : Kind) (y : Result Opened Fault) → x ≡ field.Is n next → m ≡ kind_of (n - form_two) → m ≡ Some k → y ≡ open_kind_of s next k → y ≡ held_header (header_at2 s)
  unfolding header_at2 open_kind_of
  header-kind n next m k y e kind e' answer =
      answer
      ∙ sym (ap (λ (m : Option Kind). held_header (of_kind s next m)) (sym kind ∙ e'))
      ∙ sym (ap (λ (f : Field). held_header (onward f (λ n next. of_kind s next (kind_of (n - form_two))))) (first ∙ e))

  pub header-unknown : (n next : ℕ) (m : Option Kind) → x ≡ field.Is n next → m ≡ kind_of (n - form_two) → m ≡ None → refused_opened BadRoll 0 ≡ held_header (header_at2 s)
  unfolding header_at2
  header-unknown n next m e kind e' =
      sym (ap (λ (m : Option Kind). held_header (of_kind s next m)) (sym kind ∙ e'))
      ∙ sym (ap (λ (f : Field). held_header (onward f (λ n next. of_kind s next (kind_of (n - form_two))))) (first ∙ e))

  pub header-unread : (why : Fault) → x ≡ Err why → Err why ≡ held_header (header_at2 s)
  unfolding header_at2
  header-unread why e = sym (ap (λ (f : Field). held_header (onward f (λ n next. of_kind s next (kind_of (n - form_two))))) (first ∙ e))

pub open2-is : (s : List ℕ) (x : Result Opened Fault) (o : Opened) → x ≡ held_header (header_at2 s) → x ≡ Ok o → Ok (begun o) ≡ open2_of s
unfolding open2_of
open2-is s x o is ok = ap begun_of (sym ok ∙ is)

pub open2-not : (s : List ℕ) (x : Result Opened Fault) (why : Fault) → x ≡ held_header (header_at2 s) → x ≡ Err why → Err why ≡ open2_of s
unfolding open2_of
open2-not s x why is err = ap begun_of (sym err ∙ is)
