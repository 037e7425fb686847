-- Demands 2 and 3 of document 00, said of every call of `expansion::expand` and of `expansion::expand2`: from their contract, `ExpandTold` and `Expand2Told` of Expanding.antt, to the lent bytes.
-- `kind`, `orders`, `before` and `begin` are what a call is lent, `r` is what it answers, and `after` is what the lent bytes then hold.
-- proofs/Demanded.antt proves that whatever fits the contract keeps `Demand2` and `Demand3` (its laws demand-2 and demand-3), for the twelve orders of an array; proofs/BothForms.antt the same of form 2.
use Rattle.std.specs.Prelude.{ℕ, ◌+◌, ◌≤◌, ◌<◌, ◌≡◌, false, length, take, drop, Some, Ok}
use mathlib.Core.List.{List, map, Memᴰ}
use Rattle.laws.specs.Placed.{placed}
use Rattle.laws.specs.Total.{total}
use Rattle.kind.specs.declared.Kind.{Kind}
use Rattle.kind.specs.declared.refusals.Refusal.TheVariants.{TooManyTerms}
use Rattle.kind.specs.Limits.{most_terms}
use Rattle.kind.specs.Kinds.{kind_of, orders_of}
use Rattle.term.specs.Terms.{Term}
use Rattle.term.specs.Weights.{weights}
use Rattle.number.specs.Numbers.{Bytes}
use Rattle.steps.specs.States.{start}
use Rattle.histories.specs.History.{Complete, replay, Ascending}
use Rattle.roll.specs.Bytes.{roll_bytes}
use Rattle.roll.specs.Reading.{got, roll_at, Roll}
use Rattle.roll.specs.declared.header.Opened.{Opened}
use Rattle.roll.specs.Header.{check_of}
use Rattle.form2.specs.Bytes.{roll_bytes2}
use Rattle.form2.specs.Reading.{roll_at2}
use Rattle.form2.specs.Header.{judged2}
use Rattle.expansion.specs.Answer.{Answer}
use Rattle.expansion.specs.Answer as answer
use Rattle.expansion.specs.Expanding.{◌exceeds◌, too_high, unused_set}

-- ---- demand 3

-- "every complete lowering history exactly once, in dictionary order of branch numbers"
pub record HistoriesOf (k : Kind) (orders : List ℕ) (hs : List (List ℕ)) : Type 0 where
  -- every complete history
  pub every : (h : List ℕ) → Complete (start k orders) h → Memᴰ h hs
  -- and nothing else
  pub no_other : (h : List ℕ) → Memᴰ h hs → Complete (start k orders) h
  -- each stands before all that follow it, so it stands once
  pub in_order : Ascending hs

-- the terms that histories give, each replayed alone
abbrev pub replayed : Kind → List ℕ → List (List ℕ) → List Term
replayed k orders hs = map (replay (start k orders)) hs

-- how kind, orders and terms are written: `roll_bytes`, or 02, Q-7: `roll_bytes2`
abbrev pub Writing : Type 0
Writing = Kind → List ℕ → List Term → List ℕ

-- the roll of terms: kind; the orders that it uses; term count; terms
abbrev pub roll_with : Writing → Kind → List ℕ → List Term → List ℕ
roll_with bytes k orders ts = bytes k (take (orders_of k) orders) ts

-- "For each kind and all orders within the limits, unless refused": what a call has written that answers with a length and a count
pub record WholeList (bytes : Writing) (kind : ℕ) (orders before : List ℕ) (begin long count : ℕ) (after : List ℕ) : Type 0 where
  pub k : Kind
  pub named : kind_of kind ≡ Some k
  pub hs : List (List ℕ)
  -- "the list holds every complete lowering history exactly once, in dictionary order of branch numbers"
  pub holds : HistoriesOf k orders hs
  -- "Each term is what its own history gives when replayed alone": these terms' roll stands from the place asked for on, and all else is as it was
  pub written : after ≡ placed before begin (roll_with bytes k orders (replayed k orders hs))
  pub long-is : long ≡ length (roll_with bytes k orders (replayed k orders hs))
  pub count-is : count ≡ length hs
  -- "Its prefactor weights add up to the total order L"
  pub weighs : (h : List ℕ) → Memᴰ h hs → weights k (replay (start k orders) h).prefactors ≡ total orders
  -- "and its Boys order is at most L"
  pub boys : (h : List ℕ) → Memᴰ h hs → (replay (start k orders) h).boys ≤ total orders

-- "with earlier checks passed": 1, 2, 3 and 5
pub record Passed (kind : ℕ) (orders before : List ℕ) (begin : ℕ) (k : Kind) : Type 0 where
  pub one : kind_of kind ≡ Some k
  pub two : too_high k orders ≡ false
  pub three : unused_set k orders ≡ false
  pub five : (begin exceeds length before) ≡ false

-- "with earlier checks passed .. more than 65,535 such histories", which is 1,048,575 since 02, Q-6. There is one such list alone (only-histories in proofs/Demanded.antt)
pub record TooMany (kind : ℕ) (orders before : List ℕ) (begin : ℕ) : Type 0 where
  pub k : Kind
  pub passed : Passed kind orders before begin k
  pub hs : List (List ℕ)
  pub holds : HistoriesOf k orders hs
  pub more : most_terms < length hs

pub record Demand3In (bytes : Writing) (kind : ℕ) (orders before : List ℕ) (begin : ℕ) (r : Answer) (after : List ℕ) : Type 0 where
  pub unless-refused : (long count : ℕ) → r ≡ answer.Roll long count → WholeList bytes kind orders before begin long count after
  -- "Refusal 4 comes, with earlier checks passed, exactly when there are more than 65,535 such histories." (1,048,575 since 02, Q-6)
  pub four-then-more : r ≡ answer.Refused TooManyTerms → TooMany kind orders before begin
  pub more-then-four : TooMany kind orders before begin → r ≡ answer.Refused TooManyTerms
  -- and no other refusal comes where the earlier checks are passed, the histories are no more than that and their roll has room
  pub else-a-roll : (k : Kind) (hs : List (List ℕ)) → Passed kind orders before begin k → HistoriesOf k orders hs → length hs ≤ most_terms
      → begin + length (roll_with bytes k orders (replayed k orders hs)) ≤ length before → r ≡ answer.Roll (length (roll_with bytes k orders (replayed k orders hs))) (length hs)

abbrev pub Demand3 : ℕ → List ℕ → List ℕ → ℕ → Answer → List ℕ → Type 0
Demand3 kind orders before begin r after = Demand3In roll_bytes kind orders before begin r after

-- 02, Q-7: the same of form 2
abbrev pub Demand3Form2 : ℕ → List ℕ → List ℕ → ℕ → Answer → List ℕ → Type 0
Demand3Form2 kind orders before begin r after = Demand3In roll_bytes2 kind orders before begin r after

-- ---- demand 2

-- the bytes that a call has written
abbrev pub written_at : List ℕ → ℕ → ℕ → List ℕ
written_at after begin long = take long (drop begin after)

-- terms whose roll was written, and what the reader and the judge (`roll::check`) say of exactly these bytes
pub record ReadsBack (kind : ℕ) (orders before : List ℕ) (begin long count : ℕ) (after : List ℕ) : Type 0 where
  pub k : Kind
  pub named : kind_of kind ≡ Some k
  pub ts : List Term
  pub written : after ≡ placed before begin (roll_with roll_bytes k orders ts)
  pub long-is : long ≡ length (roll_with roll_bytes k orders ts)
  pub count-is : count ≡ length ts
  -- "reads back as the same terms"
  pub reads : roll_at (written_at after begin long) ≡ got (record { kind = k; orders = take (orders_of k) orders; terms = ts }) long
  -- the judge says a roll, of this kind, these twelve orders, this L and this many terms
  pub opened : Opened
  pub judged : check_of (written_at after begin long) ≡ Ok opened
  pub judged-kind : opened.cursor.kind ≡ kind
  pub judged-orders : opened.orders ≡ orders
  pub judged-l : opened.cursor.l ≡ total orders
  pub judged-left : opened.cursor.left ≡ count

pub record Demand2 (kind : ℕ) (orders before : List ℕ) (begin : ℕ) (r : Answer) (after : List ℕ) : Type 0 where
  -- "A written term roll reads back as the same terms"
  pub reads-back : (long count : ℕ) → r ≡ answer.Roll long count → ReadsBack kind orders before begin long count after
  -- "and a roll that reads is the only writing of its kind, orders and terms": two lists of bytes that read as one roll are one
  pub only-writing : (s t : List ℕ) (roll : Roll) (end end' : ℕ) → Bytes s → Bytes t → roll_at s ≡ got roll end → roll_at t ≡ got roll end' → s ≡ t

-- ---- 02, Q-7: demand 2 of form 2, and both forms of one expansion

pub record ReadsBack2 (kind : ℕ) (orders before : List ℕ) (begin long count : ℕ) (after : List ℕ) : Type 0 where
  pub k : Kind
  pub named : kind_of kind ≡ Some k
  pub ts : List Term
  pub written : after ≡ placed before begin (roll_with roll_bytes2 k orders ts)
  pub long-is : long ≡ length (roll_with roll_bytes2 k orders ts)
  pub count-is : count ≡ length ts
  pub reads : roll_at2 (written_at after begin long) ≡ got (record { kind = k; orders = take (orders_of k) orders; terms = ts }) long
  -- and the judge (`form2::check2`) says a roll
  pub opened : Opened
  pub judged : judged2 (written_at after begin long) ≡ Ok opened

pub record Demand2Form2 (kind : ℕ) (orders before : List ℕ) (begin : ℕ) (r : Answer) (after : List ℕ) : Type 0 where
  pub reads-back : (long count : ℕ) → r ≡ answer.Roll long count → ReadsBack2 kind orders before begin long count after
  pub only-writing : (s t : List ℕ) (roll : Roll) (end end' : ℕ) → Bytes s → Bytes t → roll_at2 s ≡ got roll end → roll_at2 t ≡ got roll end' → s ≡ t

-- both forms of one expansion say the same terms: of one request, what `expand` wrote and what `expand2` wrote read as one roll
pub record SameTerms (begin long count : ℕ) (after : List ℕ) (begin2 long2 count2 : ℕ) (after2 : List ℕ) : Type 0 where
  pub roll : Roll
  pub first : roll_at (written_at after begin long) ≡ got roll long
  pub second : roll_at2 (written_at after2 begin2 long2) ≡ got roll long2
  pub counts : count ≡ count2
