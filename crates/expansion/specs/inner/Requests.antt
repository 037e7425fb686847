-- A request of a known kind: its limits kept, its orders in a word, the head of its roll, and room for it.
use Rattle.std.specs.Prelude.{ℕ, ◌+◌, ◌-◌, ◌^◌, ◌≤◌, ◌<◌, ◌≡◌, false, cond, List, [], ◌∷◌, ◌++◌, eqb, length, get_or, take, drop, Some, Ok}
use Rattle.kind.specs.declared.Kind.{Kind}
use Rattle.kind.specs.Kinds.{number_of, orders_of}
use Rattle.kind.specs.Limits.{most_terms, request_orders}
use Rattle.term.specs.Terms.{Term}
use Rattle.number.specs.Numbers.{bytes_of}
use Rattle.form2.specs.Bytes.{form_two}
use Rattle.steps.specs.inner.Packed.{nibbles}
use Rattle.expansion.specs.declared.Expanded.{Expanded}
use Rattle.expansion.specs.Answer.{Answer}
use Rattle.expansion.specs.Expanding.{Form, too_high, unused_set, terms_of, roll_of, roll_of2, kind_in, out_in, kind_measured}
use Rattle.expansion.specs.inner.Sinks.{in_form1, size2}

-- the form that a sink writes
abbrev pub roll_in : ℕ → Form
roll_in doing = cond (eqb doing in_form1) roll_of roll_of2

-- what a request of a known kind is answered in a form, and what the lent bytes then hold
pub record KnownTold (doing : ℕ) (k : Kind) (orders before : List ℕ) (begin : ℕ) (r : Answer) (after : List ℕ) : Type 0 where
  pub answer : r ≡ kind_in (roll_in doing) k orders before begin
  pub out : after ≡ out_in (roll_in doing) (kind_in (roll_in doing) k orders before begin) (Some k) orders before begin

-- orders that fit four bits each
pub record PackMay (orders : List ℕ) : Type 0 where
  pub small : (i : ℕ) → get_or orders i 0 < 16

-- a word that holds the orders from a place on
pub record Packed (orders : List ℕ) (i word : ℕ) : Type 0 where
  pub within : i ≤ request_orders
  pub holds : nibbles (request_orders - i) word ≡ drop i orders
  pub below : word < 16 ^ (request_orders - i)

-- a term with nothing done yet
abbrev pub empty_term : Term
empty_term = record { scale = 1; boys = 0; prefactors = [] }

-- a request within the limits
pub record RequestWithin (k : Kind) (orders : List ℕ) : Type 0 where
  pub low_sums : too_high k orders ≡ false
  pub none-unused : unused_set k orders ≡ false
  pub in-full : length orders ≡ request_orders

-- what is added to the kind, which a roll begins with
unfoldable pub form_of : ℕ → ℕ
form_of doing = cond (eqb doing in_form1) 0 form_two

-- what stands before the terms
unfoldable pub head_of : ℕ → Kind → List ℕ → List ℕ
head_of form k orders = (form + number_of k) ∷ (take (orders_of k) orders ++ bytes_of (length (terms_of k orders)))

-- a request with its word and its term count, and room for its head or its roll
pub record HeadMay (form : ℕ) (k : Kind) (orders : List ℕ) (terms : ℕ) (out : List ℕ) : Type 0 where
  pub within : RequestWithin k orders
  pub either : form ≤ form_two
  pub count : terms ≡ length (terms_of k orders)
  pub few : terms ≤ most_terms
  pub room : length (head_of form k orders) ≤ length out

pub record RollMay (doing : ℕ) (k : Kind) (orders : List ℕ) (left terms : ℕ) (out : List ℕ) : Type 0 where
  pub writes : doing < size2
  pub within : RequestWithin k orders
  pub word : Packed orders 0 left
  pub count : terms ≡ length (terms_of k orders)
  pub few : terms ≤ most_terms
  pub room : length (roll_in doing k orders) ≤ length out

pub record RequestMay (k : Kind) (orders : List ℕ) (begin : ℕ) (out : List ℕ) : Type 0 where
  pub within : RequestWithin k orders
  pub begins : begin ≤ length out

-- a request with its word
pub record WordMay (k : Kind) (orders : List ℕ) (left : ℕ) : Type 0 where
  pub within : RequestWithin k orders
  pub word : Packed orders 0 left

-- a request with its word, its form 1 length and its term count
pub record LongMay (k : Kind) (orders : List ℕ) (left : ℕ) (size : Expanded) : Type 0 where
  pub within : RequestWithin k orders
  pub word : Packed orders 0 left
  pub size-is : Ok size ≡ kind_measured k orders

-- a request that was measured, with the form that it is written in
pub record SizedMay (doing : ℕ) (k : Kind) (orders : List ℕ) (left : ℕ) (size : Expanded) (begin : ℕ) (out : List ℕ) : Type 0 where
  pub writes : doing < size2
  pub request : RequestMay k orders begin out
  pub word : Packed orders 0 left
  pub size-is : Ok size ≡ kind_measured k orders
