-- A roll and itself, and a roll and its other form: `0 differ`, and nothing else.
use Prim.Native.Nat.{ℕ, ◌+◌}
use mathlib.Core.Path.{◌≡◌, refl, sym, ap, ap₂, ◌∙◌}
use mathlib.Core.Bool.{true, false}
use mathlib.Core.List.{List, [], ◌∷◌, ◌++◌, append-nil}
use borrow.Author.Tests.{eq-eqb}
use lib.ListN.{length}
use Rattle.kind.specs.Kinds.{number_of}
use Rattle.kind.specs.declared.Kind.{Kind}
use Rattle.kind.specs.declared.Kind.TheVariants.{Overlap, Kinetic, Nuclear, Moment, Coulomb}
use Rattle.laws.proofs.SameLaws.{same-numbers}
use Rattle.term.proofs.SameTerms.{term-same}
use Rattle.term.specs.Terms.{Term}
use Rattle.number.specs.Numbers.{groups, bytes_of, Bytes}
use Rattle.roll.specs.Bytes.{roll_bytes}
use Rattle.roll.specs.Reading.{got, Roll, roll_at}
use Rattle.form2.specs.Bytes.{form_two, roll_bytes2}
use Rattle.form2.specs.Moves.{in_form1, in_form2}
use Rattle.form2.specs.Header.{is_form2}
use Rattle.form2.specs.Reading.{roll_at2}
use Rattle.form2.proofs.Forms.{form2-and-back, form1-and-back}
use Rattle.text.specs.Digits.{glyph, decimal_of}
use Rattle.listing.specs.Text.{feed}
use Rattle.comparing.specs.Sides.{side_at}
use Rattle.comparing.specs.Text.{differences, differ_word, count_line, pair_line, orders_line, head_text, lines_text, compare_text, said_of}

pub none_differ : (n : ℕ) (ts : List Term) → differences n ts ts ≡ []
unfolding differences
none_differ n [] = refl
none_differ n (t ∷ ts) = rw (term-same t t refl) (none_differ (n + 1) ts)

-- two rolls that say the same
pub nothing-else : (r : Roll) → compare_text r r ≡ count_line 0
unfolding compare_text head_text lines_text pair_line orders_line
nothing-else r =
    rw (none_differ 1 r.terms, eq-eqb (number_of r.kind) (number_of r.kind) refl, same-numbers r.orders r.orders refl, eq-eqb (length r.terms) (length r.terms) refl)
    (append-nil _ ∙ append-nil _ ∙ append-nil (count_line 0))

-- which is `0 differ`, and a line feed
pub nought : count_line 0 ≡ 48 ∷ (differ_word ++ feed)
unfolding count_line decimal_of glyph
nought = refl

-- ---- the sides

pub same-reading : (s t : List ℕ) (r : Roll) (end last : ℕ) → side_at s ≡ got r end → side_at t ≡ got r last → said_of (side_at s) (side_at t) ≡ count_line 0
same-reading s t r end last one two = ap₂ said_of one two ∙ nothing-else r

pub itself : (s : List ℕ) (r : Roll) (end : ℕ) → side_at s ≡ got r end → said_of (side_at s) (side_at s) ≡ count_line 0
itself s r end reads = same-reading s s r end end reads reads

first_one : (k : Kind) (rest : List ℕ) → is_form2 (bytes_of (number_of k) ++ rest) ≡ false
unfolding is_form2 bytes_of groups
first_one Overlap rest = refl
first_one Kinetic rest = refl
first_one Nuclear rest = refl
first_one Moment rest = refl
first_one Coulomb rest = refl

first_two : (k : Kind) (rest : List ℕ) → is_form2 (bytes_of (form_two + number_of k) ++ rest) ≡ true
unfolding is_form2 bytes_of groups
first_two Overlap rest = refl
first_two Kinetic rest = refl
first_two Nuclear rest = refl
first_two Moment rest = refl
first_two Coulomb rest = refl

-- each form is told from what is written in it
pub form-one : (r : Roll) → side_at (in_form1 r) ≡ roll_at (in_form1 r)
unfolding side_at in_form1 roll_bytes
form-one r = rw (first_one r.kind _)

pub form-two : (r : Roll) → side_at (in_form2 r) ≡ roll_at2 (in_form2 r)
unfolding side_at in_form2 roll_bytes2
form-two r = rw (first_two r.kind _)

-- a roll of form 1 and the same roll in form 2, on either side
pub form1-with-form2 : (s : List ℕ) (r : Roll) (end : ℕ) → Bytes s → roll_at s ≡ got r end → (said_of (side_at s) (side_at (in_form2 r)) ≡ count_line 0) × (said_of (side_at (in_form2 r)) (side_at s) ≡ count_line 0)
form1-with-form2 s r end bytes reads =
    let b = form2-and-back s r end bytes reads in
    let one : side_at s ≡ got r end = ap side_at (sym b.same) ∙ form-one r ∙ ap roll_at b.same ∙ reads in
    let two = form-two r ∙ b.reads in
    (same-reading s (in_form2 r) r end _ one two, same-reading (in_form2 r) s r _ end two one)

-- a roll of form 2 and the same roll in form 1
pub form2-with-form1 : (s : List ℕ) (r : Roll) (end : ℕ) → Bytes s → roll_at2 s ≡ got r end → (said_of (side_at s) (side_at (in_form1 r)) ≡ count_line 0) × (said_of (side_at (in_form1 r)) (side_at s) ≡ count_line 0)
form2-with-form1 s r end bytes reads =
    let b = form1-and-back s r end bytes reads in
    let one : side_at s ≡ got r end = ap side_at (sym b.same) ∙ form-two r ∙ ap roll_at2 b.same ∙ reads in
    let two = form-one r ∙ b.reads in
    (same-reading s (in_form1 r) r end _ one two, same-reading (in_form1 r) s r _ end two one)
