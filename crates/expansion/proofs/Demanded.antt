-- Demands 2 and 3: whatever fits the contract of `expand` keeps them, and demand 3 in either form. The answer is turned back into the checks that it has passed;
-- then the laws of the histories and of the roll apply.
use Prim.Native.Nat.{ℕ, ◌+◌, ◌-◌, ◌≤◌, ◌<◌}
use mathlib.Core.Path.{◌≡◌, refl, sym, ap, ap₂, subst, ◌∙◌}
use mathlib.Core.Bool.{Bool, true, false, cond}
use mathlib.Core.List.{List, [], ◌∷◌, ◌++◌, map, Memᴰ}
use native.Mathlib.Omega.{arith}
use borrow.Author.Tests.{ltb-true, ltb-false, lt-ltb, le-ltb}
use lib.ListN.{length, take, drop, replicate, length-take, length-drop, take-append-drop}
use lib.Seq.{take_at, drop_at}
use Rattle.laws.specs.Placed.{placed}
use Rattle.laws.specs.Total.{total}
use Rattle.laws.proofs.Cases.{clash}
use Rattle.kind.specs.declared.Kind.{Kind}
use Rattle.kind.specs.Limits.{most_terms, request_orders}
use Rattle.kind.specs.Kinds.{kind_of, orders_of}
use Rattle.kind.proofs.KindNumber.{number-kind}
use Rattle.term.specs.Terms.{Term}
use Rattle.steps.specs.States.{start}
use Rattle.histories.specs.History.{replay, histories}
use Rattle.histories.proofs.Demand.{expansion-is-replay, as_many}
use Rattle.histories.proofs.Whole.{complete-is-listed, listed-is-complete}
use Rattle.histories.proofs.Ascends.{histories-ascend}
use Rattle.histories.proofs.OneList.{one_list}
use Rattle.histories.proofs.Bounds.{Kept, terms-kept}
use Rattle.roll.specs.Reading as Read
use Rattle.roll.specs.Reading.{got, roll_at}
use Rattle.roll.specs.Bytes.{roll_bytes}
use Rattle.roll.specs.inner.Judged.{Judged}
use Rattle.roll.proofs.Written.{roll-only}
use Rattle.roll.proofs.Checked.{Opens, reads-checked, judged-kind, judged-orders, judged-l, judged-left}
use Rattle.expansion.specs.Answer.{Answer, Roll, Refused}
use Rattle.expansion.specs.Expanding.{Form, ◌exceeds◌, too_high, unused_set, terms_of, roll_of, kind_in, named_in, out_in, FormTold, ExpandTold, refusal_of, length_in, count_in}
use Rattle.expansion.specs.Demands.{HistoriesOf, replayed, Writing, roll_with, WholeList, Passed, TooMany, Demand3In, Demand3, written_at, ReadsBack, Demand2}
use Rattle.expansion.specs.inner.Requests.{RequestWithin}
use Rattle.expansion.proofs.HeaderLaws.{all_small, orders-long}
use Rattle.expansion.proofs.ReadsBack.{rest-zero, used-total, reads-back}
use Rattle.std.specs.Prelude.{Option, Some, None}
use Rattle.kind.specs.declared.refusals.Refusal.TheVariants.{OrderSum, UnusedOrder, TooManyTerms, StartBeyondEnd, NoRoom}

-- ---- the list of histories

pub all-histories : (k : Kind) (orders : List ℕ) → HistoriesOf k orders (histories (start k orders))
all-histories k orders =
    record {
      every = complete-is-listed (start k orders);
      no_other = listed-is-complete (start k orders);
      in_order = histories-ascend (start k orders);
    }

-- there is no other such list
pub only-histories : (k : Kind) (orders : List ℕ) (hs : List (List ℕ)) → HistoriesOf k orders hs → hs ≡ histories (start k orders)
only-histories k orders hs of =
    one_list hs (histories (start k orders)) of.in_order (histories-ascend (start k orders))
    (λ (h : List ℕ) (m : Memᴰ h hs). complete-is-listed (start k orders) h (of.no_other h m))
    (λ (h : List ℕ) (m : Memᴰ h (histories (start k orders))). of.every h (listed-is-complete (start k orders) h m))

in_map : (f : List ℕ → Term) (hs : List (List ℕ)) (h : List ℕ) → Memᴰ h hs → Memᴰ (f h) (map f hs)
in_map f [] h x' = elim x' [ ]
in_map f (g ∷ hs) h (Memᴰ.head e) = Memᴰ.head (ap f e)
in_map f (g ∷ hs) h (Memᴰ.tail m) = Memᴰ.tail (in_map f hs h m)

-- ---- what an answer shows

-- an answer that a roll is: the checks that it has passed
pub record Answered (roll : Form) (k : Kind) (orders before : List ℕ) (begin long count : ℕ) : Type 0 where
  pub two : too_high k orders ≡ false
  pub three : unused_set k orders ≡ false
  pub five : (begin exceeds length before) ≡ false
  pub four : (length (terms_of k orders) exceeds most_terms) ≡ false
  pub six : (begin + length (roll k orders) exceeds length before) ≡ false
  pub long-is : long ≡ length (roll k orders)
  pub count-is : count ≡ length (terms_of k orders)

abbrev in_turn : Bool → Bool → Bool → Bool → Bool → Answer → Answer
in_turn two three five four six roll = cond two (Refused OrderSum) (cond three (Refused UnusedOrder) (cond five (Refused StartBeyondEnd) (cond four (Refused TooManyTerms) (cond six (Refused NoRoom) roll))))

-- the five checks in turn end in a roll where none is met
none-met : (a b c d e : Bool) (l n long count : ℕ) → in_turn a b c d e (Roll l n) ≡ Roll long count
    → (a ≡ false) × (b ≡ false) × (c ≡ false) × (d ≡ false) × (e ≡ false) × (long ≡ l) × (count ≡ n)
none-met true b c d e l n long count is = absurd (clash (cc))
none-met false true c d e l n long count is = absurd (clash (cc))
none-met false false true d e l n long count is = absurd (clash (cc))
none-met false false false true e l n long count is = absurd (clash (cc))
none-met false false false false true l n long count is = absurd (clash (cc))
none-met false false false false false l n long count is = (refl, refl, refl, refl, refl, sym (ap length_in is), sym (ap count_in is))

-- and in 4 where those before it are not met
four-met : (a b c d e : Bool) (l n : ℕ) → in_turn a b c d e (Roll l n) ≡ Refused TooManyTerms → (a ≡ false) × (b ≡ false) × (c ≡ false) × (d ≡ true)
four-met true b c d e l n is = let h : ◌≡◌ {A = ℕ} 2 4 = ap refusal_of is in absurd (omega arith)
four-met false true c d e l n is = let h : ◌≡◌ {A = ℕ} 3 4 = ap refusal_of is in absurd (omega arith)
four-met false false true d e l n is = let h : ◌≡◌ {A = ℕ} 5 4 = ap refusal_of is in absurd (omega arith)
four-met false false false true e l n is = (refl, refl, refl, refl)
four-met false false false false true l n is = let h : ◌≡◌ {A = ℕ} 6 4 = ap refusal_of is in absurd (omega arith)
four-met false false false false false l n is = let h : ◌≡◌ {A = ℕ} 0 4 = ap refusal_of is in absurd (omega arith)

pub answered : (roll : Form) (k : Kind) (orders before : List ℕ) (begin long count : ℕ) → kind_in roll k orders before begin ≡ Roll long count → Answered roll k orders before begin long count
unfolding kind_in
answered roll k orders before begin long count e =
    let m =
    none-met (too_high k orders) (unused_set k orders) (begin exceeds length before) (length (terms_of k orders) exceeds most_terms)
    (begin + length (roll k orders) exceeds length before) (length (roll k orders)) (length (terms_of k orders)) long count e in
    record { two = m.0; three = m.1; five = m.2; four = m.3; six = m.4; long-is = m.5; count-is = m.6 }

answered-four : (roll : Form) (k : Kind) (orders before : List ℕ) (begin : ℕ) → kind_in roll k orders before begin ≡ Refused TooManyTerms
    → (too_high k orders ≡ false) × (unused_set k orders ≡ false) × ((begin exceeds length before) ≡ false) × ((length (terms_of k orders) exceeds most_terms) ≡ true)
unfolding kind_in
answered-four roll k orders before begin e =
    four-met (too_high k orders) (unused_set k orders) (begin exceeds length before) (length (terms_of k orders) exceeds most_terms)
    (begin + length (roll k orders) exceeds length before) (length (roll k orders)) (length (terms_of k orders)) e

told-four : (roll : Form) (k : Kind) (orders before : List ℕ) (begin : ℕ) → too_high k orders ≡ false → unused_set k orders ≡ false → (begin exceeds length before) ≡ false
    → (length (terms_of k orders) exceeds most_terms) ≡ true → kind_in roll k orders before begin ≡ Refused TooManyTerms
unfolding kind_in
told-four roll k orders before begin a b c d = simp (a, b, c, d)

told-roll : (roll : Form) (k : Kind) (orders before : List ℕ) (begin : ℕ) → too_high k orders ≡ false → unused_set k orders ≡ false → (begin exceeds length before) ≡ false
    → length (terms_of k orders) ≤ most_terms → begin + length (roll k orders) ≤ length before → kind_in roll k orders before begin ≡ Roll (length (roll k orders)) (length (terms_of k orders))
unfolding kind_in
told-roll roll k orders before begin a b c few room =
    simp (a, b, c, le-ltb most_terms (length (terms_of k orders)) few, le-ltb (length before) (begin + length (roll k orders)) room)

-- the kind is known where the answer is not refusal 1
pub record Known (roll : Form) (kind : ℕ) (orders before : List ℕ) (begin : ℕ) (r : Answer) (after : List ℕ) : Type 0 where
  pub k : Kind
  pub named : kind_of kind ≡ Some k
  pub answer : kind_in roll k orders before begin ≡ r
  pub out : after ≡ out_in roll r (Some k) orders before begin

pub known : (roll : Form) (kind : ℕ) (orders before : List ℕ) (begin : ℕ) (r : Answer) (after : List ℕ)
    → FormTold roll kind orders before begin r after → (refusal_of r ≡ 1 → ⊥) → Known roll kind orders before begin r after
known roll kind orders before begin r after told other = at (kind_of kind) refl told.answer told.out
  where
    at : (m : Option Kind) → kind_of kind ≡ m → r ≡ named_in roll m orders before begin → after ≡ out_in roll (named_in roll m orders before begin) m orders before begin → Known roll kind orders before begin r after
    at None e a o = absurd (other (ap refusal_of a))
    at (Some k) e a o = record { k = k; named = e; answer = sym a; out = o ∙ ap (λ (x : Answer). out_in roll x (Some k) orders before begin) (sym a) }

-- ---- demand 3

module _ (k : Kind) (orders : List ℕ) where
  replays : terms_of k orders ≡ replayed k orders (histories (start k orders))
  replays = expansion-is-replay (start k orders)

  rolls : (roll : Form) (bytes : Writing) → roll k orders ≡ roll_with bytes k orders (terms_of k orders) → roll k orders ≡ roll_with bytes k orders (replayed k orders (histories (start k orders)))
  rolls roll bytes is = is ∙ ap (roll_with bytes k orders) replays

  module _ (within : RequestWithin k orders) where
    replay-kept : (h : List ℕ) → Memᴰ h (histories (start k orders)) → Kept k orders (replay (start k orders) h)
    replay-kept h m =
        terms-kept k orders (all_small k orders within) (replay (start k orders) h)
        (subst (Memᴰ (replay (start k orders) h)) (sym replays) (in_map (replay (start k orders)) (histories (start k orders)) h m))

-- of a form, and how it is written
module _ (roll : Form) (bytes : Writing) (writes : (k : Kind) (os : List ℕ) → roll k os ≡ roll_with bytes k os (terms_of k os)) (kind : ℕ) (orders before : List ℕ) (begin : ℕ) (in-full : length orders ≡ request_orders) where
  whole-list : (long count : ℕ) (after : List ℕ) → Known roll kind orders before begin (Roll long count) after → WholeList bytes kind orders before begin long count after
  whole-list long count after of =
      let k = of.k in
      let a = answered roll k orders before begin long count of.answer in
      let within : RequestWithin k orders = record { low_sums = a.two; none-unused = a.three; in-full = in-full } in
      record {
        k = k;
        named = of.named;
        hs = histories (start k orders);
        holds = all-histories k orders;
        written = of.out ∙ ap (placed before begin) (rolls k orders roll bytes (writes k orders));
        long-is = a.long-is ∙ ap length (rolls k orders roll bytes (writes k orders));
        count-is = a.count-is ∙ as_many (start k orders);
        weighs = λ (h : List ℕ) (m : Memᴰ h (histories (start k orders))). (replay-kept k orders within h m).weighs;
        boys = λ (h : List ℕ) (m : Memᴰ h (histories (start k orders))). (replay-kept k orders within h m).boys;
      }

  too_many_lem : (after : List ℕ) → Known roll kind orders before begin (Refused TooManyTerms) after → TooMany kind orders before begin
  too_many_lem after of =
      let k = of.k in
      let a = answered-four roll k orders before begin of.answer in
      let more : most_terms < length (terms_of k orders) = ltb-true most_terms (length (terms_of k orders)) a.3 in
      record {
        k = k;
        passed = record { one = of.named; two = a.0; three = a.1; five = a.2 };
        hs = histories (start k orders);
        holds = all-histories k orders;
        more = omega (arith, as_many (start k orders));
      }

  refused-four : (r : Answer) (after : List ℕ) → FormTold roll kind orders before begin r after → TooMany kind orders before begin → r ≡ Refused TooManyTerms
  refused-four r after told many =
      let k = many.k in
      let same = ap length (only-histories k orders many.hs many.holds) in
      let more : most_terms < length (terms_of k orders) = omega (arith, as_many (start k orders), many.more) in
      told.answer ∙ ap (λ (m : Option Kind). named_in roll m orders before begin) many.passed.one
      ∙ told-four roll k orders before begin many.passed.two many.passed.three many.passed.five (lt-ltb most_terms (length (terms_of k orders)) more)

  roll-comes : (r : Answer) (after : List ℕ) → FormTold roll kind orders before begin r after
      → (k : Kind) (hs : List (List ℕ)) → Passed kind orders before begin k → HistoriesOf k orders hs → length hs ≤ most_terms
      → begin + length (roll_with bytes k orders (replayed k orders hs)) ≤ length before → r ≡ Roll (length (roll_with bytes k orders (replayed k orders hs))) (length hs)
  roll-comes r after told k hs passed holds few room =
      let same = only-histories k orders hs holds in
      let long : length (roll k orders) ≡ length (roll_with bytes k orders (replayed k orders hs)) = ap length (rolls k orders roll bytes (writes k orders))
      ∙ ap (λ (gs : List (List ℕ)). length (roll_with bytes k orders (replayed k orders gs))) (sym same) in
      let count : length (terms_of k orders) ≡ length hs = as_many (start k orders) ∙ ap length (sym same) in
      told.answer ∙ ap (λ (m : Option Kind). named_in roll m orders before begin) passed.one
      ∙ told-roll roll k orders before begin passed.two passed.three passed.five (omega arith) (omega arith) ∙ ap₂ Roll long count

  pub demand-3-in : (r : Answer) (after : List ℕ) → FormTold roll kind orders before begin r after → Demand3In bytes kind orders before begin r after
  demand-3-in r after told =
      record {
        unless-refused = λ (long count : ℕ) (e : r ≡ Roll long count). whole-list long count after (having (Roll long count) e (λ f. omega arith));
        four-then-more = λ (e : r ≡ Refused TooManyTerms). too_many_lem after (having (Refused TooManyTerms) e (λ f. omega arith));
        more-then-four = refused-four r after told;
        else-a-roll = roll-comes r after told;
      }
    where
      having : (x : Answer) → r ≡ x → (refusal_of x ≡ 1 → ⊥) → Known roll kind orders before begin x after
      having x e other = known roll kind orders before begin x after (subst (λ (y : Answer). FormTold roll kind orders before begin y after) e told) other

-- each form is the writing of a request's terms
roll-is : (k : Kind) (orders : List ℕ) → roll_of k orders ≡ roll_with roll_bytes k orders (terms_of k orders)
unfolding roll_of
roll-is k orders = refl

pub demand-3 : (kind : ℕ) (orders before : List ℕ) (begin : ℕ) → length orders ≡ request_orders → (r : Answer) (after : List ℕ) → ExpandTold kind orders before begin r after → Demand3 kind orders before begin r after
demand-3 kind orders before begin in-full r after told = demand-3-in roll_of roll_bytes roll-is kind orders before begin in-full r after told

-- ---- demand 2

zeros : (l : List ℕ) → total l ≡ 0 → l ≡ replicate (length l) 0
unfolding total
zeros [] e = refl
zeros (n ∷ l) e = let none : n ≡ 0 = omega arith in ap₂ ◌∷◌ none (zeros l (omega arith))

-- the orders that a kind uses, with zeros behind, are the twelve of a request
pub all-orders : (k : Kind) (orders : List ℕ) → RequestWithin k orders → take (orders_of k) orders ++ replicate (request_orders - length (take (orders_of k) orders)) 0 ≡ orders
all-orders k orders within =
    ap (λ (l : List ℕ). take (orders_of k) orders ++ l) (ap (λ (n : ℕ). replicate n 0) behind ∙ sym (zeros (drop (orders_of k) orders) (rest-zero k orders within)))
    ∙ take-append-drop (orders_of k) orders
  where
    behind : request_orders - length (take (orders_of k) orders) ≡ length (drop (orders_of k) orders)
    behind = let a = orders-long k orders within in let b = length-drop (orders_of k) orders in let c = within.in-full in omega arith

module _ (k : Kind) (orders : List ℕ) (within : RequestWithin k orders) (few : length (terms_of k orders) ≤ most_terms) (s : List ℕ) (is : s ≡ roll_of k orders) where
  abbrev the_roll : Read.Roll
  the_roll = record { kind = k; orders = take (orders_of k) orders; terms = terms_of k orders }

  reads_as : roll_at s ≡ got the_roll (length (roll_of k orders))
  reads_as = ap roll_at is ∙ reads-back k orders within few

  opens : Opens s
  opens = reads-checked s the_roll (length (roll_of k orders)) reads_as

  abbrev the-judged : Judged opens.opened s
  the-judged = record { roll = the_roll; end = length (roll_of k orders); reads = reads_as; header = sym opens.opens }

-- the bytes that were placed
pub cut : (out : List ℕ) (at long : ℕ) (after bytes : List ℕ) → at ≤ length out → long ≡ length bytes → after ≡ placed out at bytes → written_at after at long ≡ bytes
cut out at long after bytes h l e =
    ap (λ (x : List ℕ). take long (drop at x)) e
    ∙ ap (take long) (drop_at (take at out) (bytes ++ drop (at + length bytes) out) at (length-take at out ∙ omega arith))
    ∙ take_at bytes (drop (at + length bytes) out) long (sym l)

-- the bytes that a call has written are the request's roll
pub written_is : (kind : ℕ) (orders before : List ℕ) (begin long count : ℕ) (after : List ℕ) (of : Known roll_of kind orders before begin (Roll long count) after) → written_at after begin long ≡ roll_of of.k orders
written_is kind orders before begin long count after of =
    let a = answered roll_of of.k orders before begin long count of.answer in
    cut before begin long after (roll_of of.k orders) (ltb-false (length before) begin a.five) a.long-is of.out

module _ (kind : ℕ) (orders before : List ℕ) (begin : ℕ) (in-full : length orders ≡ request_orders) where
  read_again : (long count : ℕ) (after : List ℕ) → Known roll_of kind orders before begin (Roll long count) after → ReadsBack kind orders before begin long count after
  read_again long count after of =
      let k = of.k in
      let a = answered roll_of k orders before begin long count of.answer in
      let within : RequestWithin k orders = record { low_sums = a.two; none-unused = a.three; in-full = in-full } in
      let few : length (terms_of k orders) ≤ most_terms = ltb-false most_terms (length (terms_of k orders)) a.four in
      let s = written_at after begin long in
      let is = written_is kind orders before begin long count after of in
      let o = opens k orders within few s is in
      let j = the-judged k orders within few s is in
      record {
        k = k;
        named = of.named;
        ts = terms_of k orders;
        written = of.out ∙ ap (placed before begin) (roll-is k orders);
        long-is = a.long-is ∙ ap length (roll-is k orders);
        count-is = a.count-is;
        reads = reads_as k orders within few s is ∙ ap (got (the_roll k orders within few s is)) (sym a.long-is);
        opened = o.opened;
        judged = o.checks;
        judged-kind = judged-kind o.opened s j ∙ sym (number-kind kind k of.named);
        judged-orders = (judged-orders o.opened s j).0 ∙ all-orders k orders within;
        judged-l = judged-l o.opened s j ∙ used-total k orders within;
        judged-left = judged-left o.opened s j ∙ sym a.count-is;
      }

  pub demand-2 : (r : Answer) (after : List ℕ) → ExpandTold kind orders before begin r after → Demand2 kind orders before begin r after
  demand-2 r after told =
      record {
        reads-back = λ (long count : ℕ) (e : r ≡ Roll long count).
            read_again long count after (known roll_of kind orders before begin (Roll long count) after (subst (λ (y : Answer). ExpandTold kind orders before begin y after) e told) (λ f. omega arith));
        only-writing = roll-only;
      }
