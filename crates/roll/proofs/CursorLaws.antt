-- The functions of src/cursor.rt: a step, a law for each way out.
use Prim.Native.Nat.{ℕ, ◌-◌, ◌≤◌, ◌<◌}
use mathlib.Core.Path.{◌≡◌, sym, ap, ◌∙◌}
use mathlib.Core.Bool.{true, false}
use mathlib.Core.List.{List}
use native.Mathlib.Omega.{arith}
use borrow.Author.Tests.{lt-ltb, le-ltb, eq-eqb, ne_eqb}
use lib.Dec.{ltb}
use lib.ListN.{length}
use Rattle.kind.specs.Kinds.{kind_of, most_l}
use Rattle.kind.specs.declared.Kind.{Kind}
use Rattle.term.specs.declared.Term.{Term as Held}
use Rattle.term.specs.Terms.{Term}
use Rattle.roll.specs.declared.cursor.Cursor.{Cursor}
use Rattle.roll.specs.Reading.{Reading, got, refused, term_at}
use Rattle.roll.specs.Cursor.{Stepped, refused_step, end_step, stepped, end_or, step_as, step_of}
use Rattle.roll.specs.inner.Held.{held_term}
use Rattle.laws.proofs.Cases.{clash}
use Rattle.laws.proofs.Pairs.{ok-both}
use Rattle.kind.proofs.Faults.{err-is}
use Rattle.kind.specs.declared.refusals.Fault.{Fault}
use Rattle.roll.specs.Field.{fault}
use Rattle.std.specs.Prelude.{Option, Some, None, Result, Ok, Err}
use Rattle.kind.specs.declared.refusals.Refusal.TheVariants.{BadRoll}

pub end-not : (s : List ℕ) (place : ℕ) → (place ≡ length s → ⊥) → refused_step BadRoll place ≡ end_or s place
end-not s place more = simp (ne_eqb place (length s) more)

pub end_is : (s : List ℕ) (place : ℕ) → place ≡ length s → end_step ≡ end_or s place
end_is s place e = simp (eq-eqb place (length s) e)

pub forged-l : (k : Kind) (c : Cursor) (s : List ℕ) (most : ℕ) (x : Stepped) → most ≡ most_l k → most < c.l → x ≡ refused_step BadRoll c.place → x ≡ step_as (Some k) c s
forged-l k c s most x is beyond answer = let yes-l : ltb (most_l k) c.l ≡ true = lt-ltb (most_l k) c.l (omega arith) in simp yes-l answer

pub forged-place : (k : Kind) (c : Cursor) (s : List ℕ) (most : ℕ) (x : Stepped) → most ≡ most_l k → c.l ≤ most → length s < c.place → x ≡ refused_step BadRoll c.place → x ≡ step_as (Some k) c s
forged-place k c s most x is within beyond answer =
    let no-l : ltb (most_l k) c.l ≡ false = le-ltb (most_l k) c.l (omega arith) in
    simp (no-l, lt-ltb (length s) c.place beyond) answer

pub step_end : (k : Kind) (c : Cursor) (s : List ℕ) (most : ℕ) (x : Stepped) → most ≡ most_l k → c.l ≤ most → c.place ≤ length s → c.left ≡ 0 → x ≡ end_or s c.place → x ≡ step_as (Some k) c s
step_end k c s most x is within inside none answer =
    let no-l : ltb (most_l k) c.l ≡ false = le-ltb (most_l k) c.l (omega arith) in
    simp (no-l, le-ltb (length s) c.place inside, eq-eqb c.left 0 none) answer

within-bounds : (k : Kind) (c : Cursor) (s : List ℕ) (most : ℕ) → most ≡ most_l k → c.l ≤ most → c.place ≤ length s → (c.left ≡ 0 → ⊥) → stepped c (term_at s c.place k c.l) ≡ step_as (Some k) c s
within-bounds k c s most is within inside some =
    let no-l : ltb (most_l k) c.l ≡ false = le-ltb (most_l k) c.l (omega arith) in
    simp (no-l, le-ltb (length s) c.place inside, ne_eqb c.left 0 some)

pub step-term : (k : Kind) (c : Cursor) (s : List ℕ) (most : ℕ) (read : Result (Held × ℕ) Fault) (t : Held) (next : ℕ) → most ≡ most_l k → c.l ≤ most → c.place ≤ length s → (c.left ≡ 0 → ⊥) → read ≡ held_term (term_at s c.place k c.l) → read ≡ Ok (t, next) → Ok (Some (record { term = t; next = record { place = next; left = c.left - 1; kind = c.kind; l = c.l } })) ≡ step_as (Some k) c s
step-term k c s most read t next is within inside some term ok = by (term_at s c.place k c.l) (sym term ∙ ok) ∙ within-bounds k c s most is within inside some
  where
    by : (x : Reading Term) → held_term x ≡ Ok (t, next) → Ok (Some (record { term = t; next = record { place = next; left = c.left - 1; kind = c.kind; l = c.l } })) ≡ stepped c x
    by (got u n) e = let both = ok-both e in rw (← both.0, ← both.1)
    by (refused r place) e = absurd (clash (cc))

pub step-refused : (k : Kind) (c : Cursor) (s : List ℕ) (most : ℕ) (read : Result (Held × ℕ) Fault) (why : Fault) → most ≡ most_l k → c.l ≤ most → c.place ≤ length s → (c.left ≡ 0 → ⊥) → read ≡ held_term (term_at s c.place k c.l) → read ≡ Err why → Err why ≡ step_as (Some k) c s
step-refused k c s most read why is within inside some term err = by (term_at s c.place k c.l) (sym term ∙ err) ∙ within-bounds k c s most is within inside some
  where
    by : (x : Reading Term) → held_term x ≡ Err why → Err why ≡ stepped c x
    by (got u n) e = absurd (clash (cc))
    by (refused r place) e = let same : fault r place ≡ why = err-is _ _ e in rw same

pub step-kind : (c : Cursor) (s : List ℕ) (n : Option Kind) (k : Kind) (x : Stepped) → n ≡ kind_of c.kind → n ≡ Some k → x ≡ step_as (Some k) c s → x ≡ step_of c s
unfolding step_of
step-kind c s n k x is e answer = answer ∙ ap (λ (m : Option Kind). step_as m c s) (sym e ∙ is)

pub step-unknown : (c : Cursor) (s : List ℕ) (n : Option Kind) (x : Stepped) → n ≡ kind_of c.kind → n ≡ None → x ≡ refused_step BadRoll c.place → x ≡ step_of c s
unfolding step_of
step-unknown c s n x is e answer = answer ∙ ap (λ (m : Option Kind). step_as m c s) (sym e ∙ is)
