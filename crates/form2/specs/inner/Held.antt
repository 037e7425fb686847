-- Inside the crate: what each reading is as the code holds it, and the same answers made of what is held.
use Rattle.std.specs.Prelude.{ℕ, ◌+◌, ◌-◌, ◌≤◌, ◌≡◌, Bool, true, false, cond, List, ◌++◌, eqb, length, get_or, take, drop, replicate, Result, Ok, Err}
use Rattle.std.proofs.lemmas.List.Edits.{sets}
use Rattle.kind.specs.Limits.{most_l·any, table_places}
use Rattle.kind.specs.Kinds.{most_l, most_prefactors}
use Rattle.kind.specs.declared.Kind.{Kind}
use Rattle.kind.specs.declared.refusals.Refusal.TheVariants.{BadRoll}
use Rattle.kind.specs.declared.refusals.Fault.{Fault}
use Rattle.number.specs.Numbers.{length_of}
use Rattle.term.specs.Terms.{Term}
use Rattle.roll.specs.declared.cursor.Cursor.{Cursor}
use Rattle.roll.specs.Field.{Field, fault}
use Rattle.roll.specs.Field as field
use Rattle.roll.specs.declared.header.Opened.{Opened}
use Rattle.roll.specs.Reading.{Reading, got, refused, Roll}
use Rattle.roll.specs.Bytes.{terms_bytes}
use Rattle.form2.specs.declared.cursor.Step2.{Step2}
use Rattle.form2.specs.declared.judge.Sized.{Sized}
use Rattle.form2.specs.declared.terms.ReadFront.{ReadFront}
use Rattle.form2.specs.declared.terms.ReadAfter.{ReadAfter}
use Rattle.form2.specs.Reading.{Front, further_at, roll_at2}
use Rattle.form2.specs.Header.{judged2}

-- ---- a term

abbrev pub held_front : Reading Front → Result ReadFront Fault
held_front (got f next) = Ok (record { scale = f.scale; boys = f.boys; shared = f.shared; further = f.further; next = next })
held_front (refused r place) = Err (fault r place)

-- prefactors behind the first `from`: how many there are then
abbrev pub found_from : ℕ → Reading (List ℕ) → Field
found_from from (got ps next) = field.Is (from + length ps) next
found_from from (refused r place) = field.Refused r place

-- and the places that hold them; beside a refusal it does not matter what is left there
abbrev pub places_from : List ℕ → ℕ → List ℕ → Reading (List ℕ) → List ℕ
places_from values from left (got ps next) = sets values from ps
places_from values from left (refused r place) = left

pub record MoreTold (values : List ℕ) (from : ℕ) (x : Reading (List ℕ)) (r : Field) (after : List ℕ) : Type 0 where
  pub found : r ≡ found_from from x
  pub places : after ≡ places_from values from after x

-- a term's numbers and its count
abbrev pub held_after : Reading Term → Result ReadAfter Fault
held_after (got t next) = Ok (record { scale = t.scale; boys = t.boys; count = length t.prefactors; end = next })
held_after (refused r place) = Err (fault r place)

-- its prefactors stand in front of what stood there
abbrev pub places_after : List ℕ → List ℕ → Reading Term → List ℕ
places_after values left (got t next) = sets values 0 t.prefactors
places_after values left (refused r place) = left

pub record AfterTold (values : List ℕ) (x : Reading Term) (r : Result ReadAfter Fault) (after : List ℕ) : Type 0 where
  pub read : r ≡ held_after x
  pub places : after ≡ places_after values after x

-- what may be read: a kind and its L, and a term before that is no longer than a term may be
pub record AfterMay (k : Kind) (l count : ℕ) : Type 0 where
  pub small : l ≤ most_l k
  pub few : count ≤ most_prefactors k l

-- the further prefactors have places, and a table has entries
pub record MoreMay (from more table : ℕ) : Type 0 where
  pub room : from + more ≤ most_l·any
  pub some : 1 ≤ table
  pub most : table ≤ table_places

-- ---- the short way: behind the scale all numbers are one byte each

-- a Boys order, a shared length and a number of further prefactors within their limits
pub record ShortFront (s : List ℕ) (at limit longest most : ℕ) : Type 0 where
  pub inside : at + 3 ≤ length s
  pub boys : get_or s at 0 ≤ limit
  pub shared : get_or s (at + 1) 0 ≤ longest
  pub total : get_or s (at + 1) 0 + get_or s (at + 2) 0 ≤ most

abbrev pub short_front : List ℕ → ℕ → ℕ → ReadFront
short_front s scale at = record { scale = scale; boys = get_or s at 0; shared = get_or s (at + 1) 0; further = get_or s (at + 2) 0; next = at + 3 }

-- further prefactors that may be put into their places
pub record ShortMay (values : List ℕ) (count from left table : ℕ) : Type 0 where
  pub more : MoreMay from left table
  pub few : count ≤ most_l·any
  pub long : length values ≡ most_l·any

-- they stand in their places, or nothing has changed
pub record ShortTold (s : List ℕ) (at : ℕ) (values : List ℕ) (count from left table : ℕ) (r : Bool) (after : List ℕ) : Type 0 where
  pub placed : r ≡ true → MoreTold values from (further_at s at left table (drop from (take count values))) (field.Is (from + left) (at + left)) after
  pub inside : r ≡ true → at + left ≤ length s
  pub kept : r ≡ false → after ≡ values

-- ---- a step

-- the places behind the first so many are 0
unfoldable pub cleared_of : List ℕ → ℕ → List ℕ
cleared_of values count = take count values ++ replicate (most_l·any - count) 0

-- a term that was read, whose prefactors stand in front of `values`
abbrev pub stepped_over2 : Cursor → ReadAfter → List ℕ → Step2
stepped_over2 c read values =
    record {
      term = record { scale = read.scale; boys = read.boys; count = read.count; prefactors = cleared_of values read.count };
      next = record {
        cursor = record { place = read.end; left = c.left - 1; kind = c.kind; l = c.l };
        count = read.count;
        earlier = cleared_of values read.count;
      };
    }

-- a term that a step can hand out
pub record StepMay (c : Cursor) (read : ReadAfter) : Type 0 where
  pub left : 1 ≤ c.left
  pub boys : read.boys ≤ most_l·any
  pub few : read.count ≤ most_l·any

-- ---- the judge

-- what a term takes in form 1, whose prefactors are one byte each
unfoldable pub term_length : ℕ → ℕ → ℕ → ℕ
term_length scale boys count = length_of scale + length_of boys + length_of count + count

-- how many bytes terms take in form 1, after so many
abbrev pub size_plus : ℕ → Reading (List Term) → Result ℕ Fault
size_plus n (got ts end) = Ok (n + length (terms_bytes ts))
size_plus n (refused r place) = Err (fault r place)

-- nothing follows the last term
abbrev pub end_size : ℕ → ℕ → ℕ → Result ℕ Fault
end_size length place n = cond (eqb place length) (Ok n) (Err (fault BadRoll place))

-- the header's answer, and how many bytes the terms take in form 1
abbrev pub sized_from : Opened → Reading (List Term) → Result Sized Fault
sized_from o (got ts end) = Ok (record { opened = o; size = length (terms_bytes ts) })
sized_from o (refused r place) = Err (fault r place)

abbrev pub size_in : Reading Roll → ℕ
size_in (got r end) = length (terms_bytes r.terms)
size_in (refused n place) = 0

abbrev pub sized_with : ℕ → Result Opened Fault → Result Sized Fault
sized_with n (Ok o) = Ok (record { opened = o; size = n })
sized_with n (Err e) = Err e

unfoldable pub sized_of : List ℕ → Result Sized Fault
sized_of s = sized_with (size_in (roll_at2 s)) (judged2 s)
