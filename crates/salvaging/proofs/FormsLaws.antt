-- The functions of src/forms.rt: a law for each way out.
use Prim.Native.Nat.{ℕ, ◌+◌, ◌≤◌, ◌<◌}
use mathlib.Core.Path.{◌≡◌, refl, sym, ◌∙◌}
use mathlib.Core.Bool.{Bool, true, false}
use mathlib.Core.List.{List}
use borrow.Author.Tests.{le-leb}
use lib.Dec.{leb}
use lib.ListN.{get_or}
use Rattle.kind.specs.Kinds.{number_of}
use Rattle.kind.specs.declared.Kind.TheVariants.{Coulomb}
use Rattle.roll.specs.declared.header.Opened.{Opened}
use Rattle.roll.specs.Header.{held_header, open_of}
use Rattle.form2.specs.Bytes.{form_two}
use Rattle.form2.specs.Reading.{header_at2}
use Rattle.form2.specs.Header.{is_form2, begun, begun_of, open2_of}
use Rattle.form2.proofs.HeaderLaws.{form2-low, form2-high}
use Rattle.form2.specs.declared.header.Opened2.{Opened2}
use Rattle.std.specs.Prelude.{Result, Ok, Err}
use Rattle.kind.specs.declared.refusals.Fault.{Fault}
use Rattle.kind.proofs.Faults.{err-is}
use Rattle.laws.proofs.Cases.{clash}
use Rattle.expansion.specs.Answer.{Answer}
use Rattle.expansion.specs.Expanding.{roll_of, roll_of2, FormTold}
use Rattle.salvaging.specs.declared.forms.Form.{Form}
use Rattle.salvaging.specs.declared.forms.Form.TheVariants.{One, Two}
use Rattle.salvaging.specs.Salvage.{form_of, header_in, roll_in}

-- ---- the form by the first byte

pub form-two : (s : List ℕ) (b : Bool) → b ≡ is_form2 s → b ≡ true → Two ≡ form_of s
unfolding form_of
form-two s b is on = rw (sym is ∙ on) refl

pub form-one : (s : List ℕ) (b : Bool) → b ≡ is_form2 s → b ≡ false → One ≡ form_of s
unfolding form_of
form-one s b is off = rw (sym is ∙ off) refl

pub second-form : (s : List ℕ) → form_two ≤ get_or s 0 0 → get_or s 0 0 ≤ form_two + number_of Coulomb → Two ≡ form_of s
second-form s low high = form-two s (leb (get_or s 0 0) (form_two + number_of Coulomb)) (form2-high s (get_or s 0 0) (number_of Coulomb) refl low refl) (le-leb (get_or s 0 0) (form_two + number_of Coulomb) high)

pub form-below : (s : List ℕ) → get_or s 0 0 < form_two → One ≡ form_of s
form-below s low = form-one s false (form2-low s (get_or s 0 0) refl low) refl

-- ---- the header

pub open-one : (f : Form) (s : List ℕ) (y : Result Opened Fault) → f ≡ One → y ≡ open_of s → y ≡ held_header (header_in f s)
unfolding open_of
open-one f s y e is = rw e is

pub open-two : (f : Form) (s : List ℕ) (y : Result Opened Fault) → f ≡ Two → y ≡ held_header (header_at2 s) → y ≡ held_header (header_in f s)
open-two f s y e is = rw e is

-- the cursor at the first term, without what form 2 holds beside it
pub plain : (x : Result Opened Fault) (o : Opened2) → begun_of x ≡ Ok o → ◌≡◌ {A = Result Opened Fault} (Ok (record { cursor = o.cursor.cursor; orders = o.orders })) x
plain (Ok p) o e = let same : begun p ≡ o = cc in rw (← same) refl
plain (Err why) o e = absurd (clash (cc))

pub plain_refused : (x : Result Opened Fault) (why : Fault) → begun_of x ≡ Err why → Err why ≡ x
plain_refused (Ok p) why e = absurd (clash (cc))
plain_refused (Err other) why e = let same = err-is other why e in rw same refl

module _ (s : List ℕ) (y : Result Opened2 Fault) (is : y ≡ open2_of s) where
  pub open_plain : (o : Opened2) → y ≡ Ok o → ◌≡◌ {A = Result Opened Fault} (Ok (record { cursor = o.cursor.cursor; orders = o.orders })) (held_header (header_at2 s))
  unfolding open2_of
  open_plain o e = plain (held_header (header_at2 s)) o (sym is ∙ e)

  pub open_refused : (why : Fault) → y ≡ Err why → Err why ≡ held_header (header_at2 s)
  unfolding open2_of
  open_refused why e = plain_refused (held_header (header_at2 s)) why (sym is ∙ e)

-- ---- the expansion

module _ (f : Form) (kind : ℕ) (orders before : List ℕ) (start : ℕ) (r : Answer) (now : List ℕ) where
  pub expand-one : f ≡ One → FormTold roll_of kind orders before start r now → FormTold (roll_in f) kind orders before start r now
  expand-one e told = rw e told

  pub expand-two : f ≡ Two → FormTold roll_of2 kind orders before start r now → FormTold (roll_in f) kind orders before start r now
  expand-two e told = rw e told
