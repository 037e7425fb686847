-- Inside the crate: a header that reads, its request worked out afresh, and what is told of both.
use Rattle.std.specs.Prelude.{ℕ, ◌+◌, ◌-◌, ◌≤◌, ◌≡◌, Bool, cond, List, length, drop, Ok}
use Rattle.kind.specs.Limits.{most_terms}
use Rattle.number.specs.Numbers.{length_of, Bytes}
use Rattle.roll.specs.declared.cursor.Cursor.{Cursor}
use Rattle.roll.specs.declared.header.Opened.{Opened}
use Rattle.roll.specs.Reading.{got, Header}
use Rattle.roll.specs.Header.{cursor_at, held_header}
use Rattle.salvaging.specs.declared.forms.Form.{Form}
use Rattle.salvaging.specs.declared.After.{After}
use Rattle.salvaging.specs.declared.After.TheVariants as after
use Rattle.salvaging.specs.declared.Told.{Told}
use Rattle.salvaging.specs.Salvage.{header_in, fresh_terms, fresh_roll, told_of, Salvaged, salvaged_in, bytes_out}
use Rattle.salvaging.specs.inner.Ends.{behind, Whole}

abbrev pub after_by : Bool → Bool → After
after_by all ends = cond all (cond ends after.None after.Bytes) after.Unknown

-- a header that reads
pub record HeaderOf (f : Form) (s : List ℕ) : Type 0 where
  pub h : Header
  pub next : ℕ
  pub reads : header_in f s ≡ got h next

-- beside its fresh roll
pub record ToldMay (f : Form) (s : List ℕ) (c : Cursor) (fresh : List ℕ) (terms : ℕ) : Type 0 where
  pub header : HeaderOf f s
  pub bytes : Bytes s
  pub cursor : c ≡ cursor_at header.h header.next
  pub roll : fresh ≡ fresh_roll f header.h
  pub count : terms ≡ length (fresh_terms header.h)
  pub few : terms ≤ most_terms
  -- both headers end inside, and differ in the count's bytes alone
  pub inside : c.place ≤ length s
  pub stored : length_of c.left ≤ c.place
  pub from : c.place - length_of c.left + length_of terms ≤ length fresh
  -- and the terms of the fresh roll end inside it
  pub whole : Whole (behind f) (drop (c.place - length_of c.left + length_of terms) fresh) 0 terms

pub record ToldFrom (f : Form) (s : List ℕ) (r : Told) : Type 0 where
  pub header : HeaderOf f s
  pub is : r ≡ told_of f s header.h header.next

-- as the code holds it
pub record RenewMay (f : Form) (s : List ℕ) (o : Opened) : Type 0 where
  pub header : HeaderOf f s
  pub bytes : Bytes s
  pub held : Ok o ≡ held_header (got header.h header.next)

pub record RenewTold (f : Form) (s before : List ℕ) (start : ℕ) (r : Salvaged) (now : List ℕ) : Type 0 where
  pub answer : r ≡ salvaged_in f s (header_in f s) before start
  pub out : now ≡ bytes_out (salvaged_in f s (header_in f s) before start) f (header_in f s) before start
