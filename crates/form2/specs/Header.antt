-- 02, Q-7: the header's answer and the judge's of a form 2 roll, as form 1's; its kind is told without the 16, and no term stands before the first.
use Rattle.std.specs.Prelude.{ℕ, ◌+◌, Bool, ◌&&◌, List, [], leb, get_or, replicate, Result, Ok, Err}
use Rattle.kind.specs.Limits.{most_l·any}
use Rattle.kind.specs.Kinds.{number_of}
use Rattle.kind.specs.declared.Kind.TheVariants.{Coulomb}
use Rattle.kind.specs.declared.refusals.Refusal.{Refusal}
use Rattle.kind.specs.declared.refusals.Fault.{Fault}
use Rattle.laws.specs.Total.{total}
use Rattle.roll.specs.declared.cursor.Cursor.{Cursor}
use Rattle.roll.specs.declared.header.Opened.{Opened}
use Rattle.roll.specs.Field.{fault}
use Rattle.roll.specs.Reading.{Reading, got, refused, Header}
use Rattle.roll.specs.Header.{refused_opened, held_header, judged}
use Rattle.form2.specs.declared.cursor.Cursor2.{Cursor2}
use Rattle.form2.specs.declared.header.Opened2.{Opened2}
use Rattle.form2.specs.Bytes.{form_two}
use Rattle.form2.specs.Reading.{header_at2, terms_after}

-- form 2 begins with kind + 16, which is 16 to 20; all else is read as form 1, which gives 7 or 14 to what is neither (D-99)
unfoldable pub is_form2 : List ℕ → Bool
is_form2 s = leb form_two (get_or s 0 0) && leb (get_or s 0 0) (form_two + number_of Coulomb)

-- a cursor with no term before
abbrev pub first_cursor : Cursor → Cursor2
first_cursor c = record { cursor = c; count = 0; earlier = replicate most_l·any 0 }

-- at the first term
abbrev pub begun : Opened → Opened2
begun o = record { cursor = first_cursor o.cursor; orders = o.orders }

-- a header, or its refusal
abbrev pub refused_opened2 : Refusal → ℕ → Result Opened2 Fault
refused_opened2 r place = Err (fault r place)

abbrev pub begun_of : Result Opened Fault → Result Opened2 Fault
begun_of (Ok o) = Ok (begun o)
begun_of (Err e) = Err e

unfoldable pub open2_of : List ℕ → Result Opened2 Fault
open2_of s = begun_of (held_header (header_at2 s))

-- the header's answer where every term reads and nothing follows
abbrev pub checked2 : List ℕ → Reading Header → Result Opened Fault
checked2 s (got h next) = judged (held_header (got h next)) (terms_after s next h.terms h.kind (total h.orders) [])
checked2 s (refused r place) = refused_opened r place

unfoldable pub judged2 : List ℕ → Result Opened Fault
judged2 s = checked2 s (header_at2 s)

unfoldable pub check2_of : List ℕ → Result Opened2 Fault
check2_of s = begun_of (judged2 s)
