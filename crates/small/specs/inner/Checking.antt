-- Inside the crate: a kind by its number, and a form 1 roll on its way through the profile's reader.
use Rattle.std.specs.Prelude.{ℕ, ◌≡◌, Bool, true, false, List, Option, Some, None}
use Rattle.laws.specs.Total.{total}
use Rattle.kind.specs.declared.Kind.{Kind}
use Rattle.term.specs.Terms.{Term}
use Rattle.roll.specs.declared.header.Opened.{Opened}
use Rattle.roll.specs.Reading.{got, Header, header_at, terms_at}
use Rattle.small.specs.Profile.{small}
use Rattle.small.specs.Check.{opened_of}

-- what has no name is not of the profile
abbrev pub small_as : Option Kind → List ℕ → Bool
small_as None orders = false
small_as (Some k) orders = small k orders

-- a header that reads
pub record HeaderMay (s : List ℕ) (o : Opened) : Type 0 where
  pub h : Header
  pub next : ℕ
  pub reads : header_at s ≡ got h next
  pub held : o ≡ opened_of h next

-- and is of the profile
pub record SmallMay (s : List ℕ) : Type 0 where
  pub h : Header
  pub next : ℕ
  pub reads : header_at s ≡ got h next
  pub within : small h.kind (opened_of h next).orders ≡ true

-- and whose terms read
pub record TermsMay (s : List ℕ) (o : Opened) : Type 0 where
  pub header : SmallMay s
  pub terms : List Term
  pub end : ℕ
  pub reads : terms_at s header.next header.h.terms header.h.kind (total header.h.orders) ≡ got terms end
  pub held : o ≡ opened_of header.h header.next
