-- 01, "The roll": the header's answer and the judge's.
use Rattle.std.specs.Prelude.{ℕ, ◌-◌, List, ◌++◌, length, replicate, Some, Result, Ok, Err}
use Rattle.kind.specs.Limits.{request_orders}
use Rattle.kind.specs.Kinds.{number_of}
use Rattle.kind.specs.declared.Kind.{Kind}
use Rattle.kind.specs.declared.refusals.Refusal.{Refusal}
use Rattle.kind.specs.declared.refusals.Fault.{Fault}
use Rattle.kind.specs.Refusals.{refusal_number}
use Rattle.term.specs.Terms.{Term}
use Rattle.roll.specs.declared.cursor.Cursor.{Cursor}
use Rattle.roll.specs.declared.header.Opened.{Opened}
use Rattle.laws.specs.Total.{total}
use Rattle.roll.specs.Reading.{Reading, got, refused, of_kind, header_at, terms_at, Header}
use Rattle.roll.specs.Field.{fault}

abbrev pub refused_opened : Refusal → ℕ → Result Opened Fault
refused_opened r place = Err (fault r place)

abbrev pub cursor_at : Header → ℕ → Cursor
cursor_at h next = record { place = next; left = h.terms; kind = number_of h.kind; l = total h.orders }

-- a header's cursor stands at the first term; it says nothing of the terms (D-12)
abbrev pub held_header : Reading Header → Result Opened Fault
held_header (got h next) = Ok (record { cursor = cursor_at h next; orders = h.orders ++ replicate (request_orders - length h.orders) 0 })
held_header (refused r place) = refused_opened r place

-- from the orders on, of a kind that has a name
unfoldable pub open_kind_of : List ℕ → ℕ → Kind → Result Opened Fault
open_kind_of s at k = held_header (of_kind s at (Some k))

unfoldable pub open_of : List ℕ → Result Opened Fault
open_of s = held_header (header_at s)

-- the header's answer where every term reads and nothing follows
abbrev pub judged : Result Opened Fault → Reading (List Term) → Result Opened Fault
judged o (got ts end) = o
judged o (refused r place) = refused_opened r place

abbrev pub checked : List ℕ → Reading Header → Result Opened Fault
checked s (got h next) = judged (held_header (got h next)) (terms_at s next h.terms h.kind (total h.orders))
checked s (refused r place) = refused_opened r place

unfoldable pub check_of : List ℕ → Result Opened Fault
check_of s = checked s (header_at s)

-- 01's number and place for each case; 0 is none
abbrev pub refusal_of : {A : Type 0} → Result A Fault → ℕ
refusal_of (Ok a) = 0
refusal_of (Err e) = refusal_number e.refusal

abbrev pub place_of : {A : Type 0} → Result A Fault → ℕ
place_of (Ok a) = 0
place_of (Err e) = e.place
