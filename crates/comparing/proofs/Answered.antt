-- A comparison's answers: a refusal of the left side, then of the right; of two rolls that read, what differs.
use Prim.Native.Nat.{ℕ, ◌-◌}
use mathlib.Core.Path.{◌≡◌, refl, sym, ap, ap₂, ◌∙◌}
use mathlib.Core.Bool.{Bool, not}
use mathlib.Core.List.{List, map}
use native.Mathlib.Omega.{arith}
use lib.Dec.{eqb}
use lib.ListN.{length, take, replicate, length-map}
use lib.Seq.{take_at}
use Rattle.std.specs.Prelude.{Result, Ok, Err}
use Rattle.kind.specs.Limits.{request_orders}
use Rattle.kind.specs.Kinds.{kind_of, orders_of}
use Rattle.kind.specs.declared.refusals.Fault.{Fault}
use Rattle.kind.proofs.KindNumber.{kind-number}
use Rattle.roll.specs.Reading.{Reading, got, refused, Roll}
use Rattle.form2.specs.declared.header.Opened2.{Opened2}
use Rattle.comparing.specs.declared.sides.Side.{Side}
use Rattle.comparing.specs.declared.sides.Side.TheVariants as side
use Rattle.comparing.specs.declared.sides.Sided.{Sided}
use Rattle.comparing.specs.Sides.{side_at, check_side, on_side}
use Rattle.laws.specs.Same.{same_numbers}
use Rattle.comparing.specs.Text.{differences, kinds_differ, orders_differ, terms_differ}
use Rattle.comparing.specs.Pairs.{lines_of}
use Rattle.comparing.specs.Answers.{first_pair, compared_with, opened_as, compared_as, compared_of, used_as, used_of, position_of}
use Rattle.comparing.specs.inner.Judged.{Judged}
use Rattle.comparing.proofs.Lines.{lines_are}
use Rattle.comparing.proofs.SidesLaws.{side-ok, side-err}
use Rattle.comparing.proofs.Steps.{sided, side-refused}

-- ---- a side as a function that has judged it knows it

pub judged-side : (s : List ℕ) (at : Side) (u : Result Opened2 Sided) (o : Opened2) → u ≡ on_side at (check_side s) → u ≡ Ok o → Judged o s
judged-side s at u o is ok = sided s o (side-ok at (check_side s) o (sym is ∙ ok))

-- ---- refusals

pub compared-as : (s t : List ℕ) (x y : Reading Roll) → side_at s ≡ x → side_at t ≡ y → compared_of s t ≡ compared_as x y s t
unfolding compared_of
compared-as s t x y one two = ap₂ (λ (x y : Reading Roll). compared_as x y s t) one two

pub refused-left : (s t : List ℕ) (u : Result Opened2 Sided) (d : Sided) → u ≡ on_side side.Left (check_side s) → u ≡ Err d → Err d ≡ compared_of s t
refused-left s t u d is e =
    let f = side-err side.Left (check_side s) d (sym is ∙ e) in
    ap (λ (d : Sided). Err d) f.2 ∙ sym (compared-as s t (refused f.0.refusal f.0.place) (side_at t) (side-refused s f.0 f.1) refl)

pub refused-right : (s t : List ℕ) (u v : Result Opened2 Sided) (l : Opened2) (d : Sided) → u ≡ on_side side.Left (check_side s) → u ≡ Ok l → v ≡ on_side side.Right (check_side t) → v ≡ Err d → Err d ≡ compared_of s t
refused-right s t u v l d one ok two e =
    let a = judged-side s side.Left u l one ok in
    let f = side-err side.Right (check_side t) d (sym two ∙ e) in
    ap (λ (d : Sided). Err d) f.2 ∙ sym (compared-as s t (got a.roll a.end) (refused f.0.refusal f.0.place) a.reads (side-refused t f.0 f.1))

-- ---- two rolls that read

-- the orders that the kind uses are the roll's
pub used-orders : (o : Opened2) (s : List ℕ) (a : Judged o s) → take (used_of o.cursor.cursor.kind) o.orders ≡ a.roll.orders
unfolding used_of
used-orders o s a =
    let os = a.roll.orders in
    let used : used_as (kind_of o.cursor.cursor.kind) ≡ orders_of a.roll.kind = ap (λ (k : ℕ). used_as (kind_of k)) a.kind ∙ ap used_as (kind-number a.roll.kind) in
    ap₂ take used a.orders ∙ take_at os (replicate (request_orders - length os) 0) (orders_of a.roll.kind) a.places

module _ (s t : List ℕ) (l r : Opened2) (a : Judged l s) (b : Judged r t) where
  pub judged-lines : map position_of (lines_of (first_pair l r) s t) ≡ differences 1 a.roll.terms b.roll.terms
  judged-lines = lines_are a.roll.terms b.roll.terms (first_pair l r) s t a.gives b.gives (omega (arith, a.few)) (omega (arith, b.few))

  -- the answer
  pub judged-compared : compared_of s t ≡ Ok (compared_with a.roll b.roll l r)
  judged-compared =
      compared-as s t (got a.roll a.end) (got b.roll b.end) a.reads b.reads
      ∙ ap₂ (λ (x y : Result Opened2 Fault). opened_as a.roll b.roll x y) a.header b.header

  pub what-differs : (n : ℕ) (x : Bool) → n ≡ length (lines_of (first_pair l r) s t) → x ≡ not (same_numbers (take (used_of l.cursor.cursor.kind) l.orders) (take (used_of r.cursor.cursor.kind) r.orders)) → Ok (record { differ = n; kinds = not (eqb l.cursor.cursor.kind r.cursor.cursor.kind); orders = x; terms = not (eqb l.cursor.cursor.left r.cursor.cursor.left); left = l.orders; right = r.orders; cursor = first_pair l r }) ≡ compared_of s t
  what-differs n x count orders =
      let differ : n ≡ length (differences 1 a.roll.terms b.roll.terms) = count ∙ sym (length-map (lines_of (first_pair l r) s t) position_of) ∙ ap length judged-lines in
      let kinds : not (eqb l.cursor.cursor.kind r.cursor.cursor.kind) ≡ kinds_differ a.roll b.roll = ap₂ (λ (n m : ℕ). not (eqb n m)) a.kind b.kind in
      let order : x ≡ orders_differ a.roll b.roll = orders ∙ ap₂ (λ (p q : List ℕ). not (same_numbers p q)) (used-orders l s a) (used-orders r t b) in
      let terms : not (eqb l.cursor.cursor.left r.cursor.cursor.left) ≡ terms_differ a.roll b.roll = ap₂ (λ (n m : ℕ). not (eqb n m)) a.left b.left in
      rw (judged-compared, differ, kinds, order, terms) refl
