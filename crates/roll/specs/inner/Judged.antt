-- Inside the crates: a cursor and a header that the reader itself gave, so that what follows them reads.
use Rattle.std.specs.Prelude.{ℕ, ◌≤◌, ◌≡◌, List, [], length, Option, Some, None, Result, Ok}
use Rattle.kind.specs.Kinds.{kind_of, most_l}
use Rattle.kind.specs.declared.Kind.{Kind}
use Rattle.kind.specs.declared.refusals.Refusal.TheVariants.{BadRoll}
use Rattle.kind.specs.declared.refusals.Fault.{Fault}
use Rattle.roll.specs.declared.cursor.Cursor.{Cursor}
use Rattle.roll.specs.declared.header.Opened.{Opened}
use Rattle.term.specs.Terms.{Term}
use Rattle.roll.specs.Reading.{Reading, got, refused, terms_at, Roll, roll_at}
use Rattle.roll.specs.Header.{refused_opened, open_of, judged}

-- what the cursor has still to go through
abbrev pub judged_as : Option Kind → Opened → Cursor → List ℕ → Result Opened Fault
judged_as (Some k) o c s = judged (Ok o) (terms_at s c.place c.left k c.l)
judged_as None o c s = refused_opened BadRoll c.place

-- a cursor that is not forged
pub record Honest (c : Cursor) (s : List ℕ) : Type 0 where
  pub kind : Kind
  pub is : kind_of c.kind ≡ Some kind
  pub small : c.l ≤ most_l kind
  pub inside : c.place ≤ length s

-- the header's answer of a roll that reads
pub record Judged (o : Opened) (s : List ℕ) : Type 0 where
  pub roll : Roll
  pub end : ℕ
  pub reads : roll_at s ≡ got roll end
  pub header : Ok o ≡ open_of s

-- the terms that a cursor has still to go through
abbrev pub terms_got : Reading (List Term) → List Term
terms_got (got ts end) = ts
terms_got (refused n place) = []

abbrev pub left_as : Option Kind → Cursor → List ℕ → List Term
left_as (Some k) c s = terms_got (terms_at s c.place c.left k c.l)
left_as None c s = []

unfoldable pub left_of : Cursor → List ℕ → List Term
left_of c s = left_as (kind_of c.kind) c s

-- a cursor whose terms all read
pub record Readable (c : Cursor) (s : List ℕ) : Type 0 where
  pub honest : Honest c s
  pub terms : List Term
  pub end : ℕ
  pub reads : terms_at s c.place c.left honest.kind c.l ≡ got terms end
