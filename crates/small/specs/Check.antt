-- 02, Q-13: what the profile's reader says of a roll, in its order: the header of either form, 19, the terms, 20.
use Rattle.std.specs.Prelude.{ℕ, ◌-◌, cond, not, List, ◌++◌, length, replicate, Result, Ok}
use Rattle.laws.specs.Same.{same_numbers}
use Rattle.laws.specs.Total.{total}
use Rattle.kind.specs.Limits.{request_orders}
use Rattle.kind.specs.declared.Kind.{Kind}
use Rattle.kind.specs.declared.refusals.Refusal.TheVariants.{OutsideProfile, NotTheExpansion}
use Rattle.kind.specs.declared.refusals.Fault.{Fault}
use Rattle.term.specs.Terms.{Term}
use Rattle.roll.specs.declared.header.Opened.{Opened}
use Rattle.roll.specs.Reading.{Reading, got, refused, Header, header_at, terms_at}
use Rattle.roll.specs.Header.{refused_opened, cursor_at}
use Rattle.form2.specs.Bytes.{shared}
use Rattle.form2.specs.Header.{is_form2}
use Rattle.form2.specs.Reading.{header_at2}
use Rattle.expansion.specs.Expanding.{roll_of}
use Rattle.small.specs.Profile.{small}

-- "19 for a .. form .. outside the profile, right after the header is read"
abbrev pub in_form2 : Reading Header → Result Opened Fault
in_form2 (got h next) = refused_opened OutsideProfile 0
in_form2 (refused r place) = refused_opened r place

-- "accepts only rolls that equal the fresh expansion byte for byte"; "20 .. with the first differing byte's place", which is the length of what both begin with
abbrev pub if_fresh : List ℕ → List ℕ → Opened → Result Opened Fault
if_fresh s fresh o = cond (same_numbers s fresh) (Ok o) (refused_opened NotTheExpansion (shared s fresh))

-- "20 for a roll that reads": 7 or 14 of the terms come before
abbrev pub with_terms : List ℕ → Kind → Opened → Reading (List Term) → Result Opened Fault
with_terms s k o (got ts end) = if_fresh s (roll_of k o.orders) o
with_terms s k o (refused r place) = refused_opened r place

-- a header as it is answered (`held_header` of roll): the cursor at the first term, and twelve orders, zeros behind
abbrev pub opened_of : Header → ℕ → Opened
opened_of h next = record { cursor = cursor_at h next; orders = h.orders ++ replicate (request_orders - length h.orders) 0 }

-- "19 for a kind .. or order outside the profile, right after the header is read"
abbrev pub in_form1 : List ℕ → Reading Header → Result Opened Fault
in_form1 s (got h next) =
    cond (not (small h.kind (opened_of h next).orders)) (refused_opened OutsideProfile 0)
    (with_terms s h.kind (opened_of h next) (terms_at s next h.terms h.kind (total h.orders)))
in_form1 s (refused r place) = refused_opened r place

-- what begins as form 2 is read so; all else as form 1, which gives 7 or 14 to what is neither; the term count is of the header too (D-118)
unfoldable pub small_check_of : List ℕ → Result Opened Fault
small_check_of s = cond (is_form2 s) (in_form2 (header_at2 s)) (in_form1 s (header_at s))
