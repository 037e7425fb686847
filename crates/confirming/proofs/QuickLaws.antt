-- The functions of src/quick.rt and src/reading.rt: a law for each need and each way out.
use Prim.Native.Nat.{ℕ, ◌+◌, ◌*◌, ◌%◌, ◌^◌, ◌≤◌, ◌<◌}
use mathlib.Core.Path.{◌≡◌, refl, sym, ap, ◌∙◌}
use mathlib.Core.Bool.{Bool, true, false}
use mathlib.Core.List.{List, []}
use native.Mathlib.Omega.{arith}
use native.Mathlib.Numerals.{add-one}
use lib.Dec.{eqb}
use lib.ListN.{length, get_or, drop, drop_of_length-le}
use Rattle.laws.specs.Total.{total}
use Rattle.laws.proofs.Totals.{total-drop}
use Rattle.kind.specs.declared.Kind.{Kind}
use Rattle.kind.specs.Kinds.{kind_of, number_of, orders_of}
use Rattle.kind.specs.Limits.{request_orders}
use Rattle.kind.proofs.Within.{orders-within}
use Rattle.number.specs.Numbers.{length_of}
use Rattle.number.proofs.Writing.{length-few}
use Rattle.roll.specs.declared.header.Opened.{Opened}
use Rattle.roll.specs.Header.{check_of}
use Rattle.form2.specs.declared.header.Opened2.{Opened2}
use Rattle.form2.specs.Header.{judged2, check2_of}
use Rattle.expansion.specs.declared.matching.Against.{Against}
use Rattle.expansion.specs.Expanding.{roll_of, roll_of2}
use Rattle.expansion.specs.Against.{named_against}
use Rattle.expansion.specs.inner.Requests.{RequestWithin}
use Rattle.expansion.proofs.HeaderLaws.{all-sums}
use Rattle.salvaging.specs.declared.forms.Form.{Form}
use Rattle.salvaging.specs.declared.forms.Form.TheVariants.{One, Two}
use Rattle.salvaging.specs.Salvage.{roll_in}
use Rattle.salvaging.proofs.FormsLaws.{plain, plain_refused}
use Rattle.confirming.specs.Confirm.{judged_in}
use Rattle.confirming.specs.inner.Quick.{request_opened, first_named}
use Rattle.std.specs.Prelude.{Option, None, Result, Ok, Err}
use Rattle.kind.specs.declared.refusals.Refusal.{Refusal}
use Rattle.kind.specs.declared.refusals.Fault.{Fault}

-- ---- the kind that the first byte names

module _ (f : Form) (s : List ℕ) (empty : Bool) (is : empty ≡ eqb (length s) 0) where
  pub first-none : empty ≡ true → None ≡ first_named f s
  first-none none = rw (← is, none) refl

  module _ (some : empty ≡ false) (r : Option Kind) where
    pub first_one : f ≡ One → r ≡ kind_of (get_or s 0 0) → r ≡ first_named f s
    first_one on answer = rw (← is, some, on) answer

    pub first_two : f ≡ Two → r ≡ kind_of (get_or s 0 0 % 16) → r ≡ first_named f s
    first_two on answer = rw (← is, some, on) answer

-- ---- the sum of the orders

pub record Summing (os : List ℕ) (i sum : ℕ) : Type 0 where
  pub all : sum + total (drop i os) ≡ total os
  pub small : sum ≤ 256 * i
  pub within : i ≤ request_orders

pub summing-first : (os : List ℕ) → Summing os 0 0
summing-first os = record { all = omega arith; small = omega arith; within = omega arith }

pub sum_fits : (os : List ℕ) (i sum v : ℕ) → Summing os i sum → v ≡ get_or os i 0 → v < 256 → sum + v < 2 ^ 32
sum_fits os i sum v s e h = let a = s.small in let b = s.within in omega arith

pub summing-more : (os : List ℕ) (i sum v : ℕ) → Summing os i sum → i < request_orders → v ≡ get_or os i 0 → v < 256 → Summing os (i + 1) (sum + v)
summing-more os i sum v s less e h =
    let one = total-drop os i in
    let next = ap (λ (j : ℕ). total (drop j os)) (add-one i) in
    let a = s.all in
    let b = s.small in
    record { all = omega (arith, one, next, a, e); small = omega arith; within = omega arith }

pub summing-done : (os : List ℕ) (i sum : ℕ) → Summing os i sum → request_orders ≤ i → length os ≡ request_orders → sum ≡ total os
unfolding total
summing-done os i sum s done long =
    let none : drop i os ≡ [] = drop_of_length-le os {i = i} (omega arith) in
    let zero : total (drop i os) ≡ 0 = ap total none in
    let a = s.all in
    omega (arith, zero, a)

-- ---- the header of a request's roll

module _ (k : Kind) (os : List ℕ) (within : RequestWithin k os) where
  pub sum-small : (v : ℕ) → v ≡ total os → v < 256
  sum-small v e = let h = (all-sums k os within).deep in omega arith

  pub opened-made : (n o l count v : ℕ) → o ≡ orders_of k → l ≡ length_of count → n ≡ number_of k → v ≡ total os
      → ◌≡◌ {A = Opened} (record { cursor = record { place = 1 + o + l; left = count; kind = n; l = v }; orders = os }) (request_opened k os count)
  opened-made n o l count v a b c d = rw (a, b, c, d) refl

pub place-fits : (k : Kind) (o : ℕ) → o ≡ orders_of k → 1 + o < 2 ^ 64
place-fits k o e = let h = orders-within k in omega arith

pub place-whole : (k : Kind) (o l count : ℕ) → o ≡ orders_of k → l ≡ length_of count → 1 + o + l < 2 ^ 64
place-whole k o l count e f = let h = orders-within k in let g = length-few count in omega arith

-- ---- in either form

-- the cursor at the first term, without what form 2 holds beside it
module _ (s : List ℕ) (y : Result Opened2 Fault) (is : y ≡ check2_of s) where
  pub judged_plain : (o : Opened2) → y ≡ Ok o → ◌≡◌ {A = Result Opened Fault} (Ok (record { cursor = o.cursor.cursor; orders = o.orders })) (judged2 s)
  unfolding check2_of
  judged_plain o e = plain (judged2 s) o (sym is ∙ e)

  pub judged_refused : (why : Fault) → y ≡ Err why → Err why ≡ judged2 s
  unfolding check2_of
  judged_refused why e = plain_refused (judged2 s) why (sym is ∙ e)

module _ (f : Form) (s : List ℕ) where
  pub judged-one : (y : Result Opened Fault) → f ≡ One → y ≡ check_of s → y ≡ judged_in f s
  judged-one y on answer = rw on answer

  pub judged-two : (y : Result Opened Fault) → f ≡ Two → y ≡ judged2 s → y ≡ judged_in f s
  judged-two y on answer = rw on answer

  module _ (kind : ℕ) (os : List ℕ) (r : Result Against Refusal) where
    pub held_one : f ≡ One → r ≡ named_against roll_of (kind_of kind) os s → r ≡ named_against (roll_in f) (kind_of kind) os s
    held_one on answer = rw on answer

    pub held_two : f ≡ Two → r ≡ named_against roll_of2 (kind_of kind) os s → r ≡ named_against (roll_in f) (kind_of kind) os s
    held_two on answer = rw on answer

-- ---- the orders behind the first byte

pub orders-most : (k : Kind) (n : ℕ) → n ≡ orders_of k → n ≤ request_orders
orders-most k n e = let h = orders-within k in omega arith
