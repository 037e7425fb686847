-- The ways out of an element: one law for each, from the counts to the sum.
use Prim.Native.Nat.{ℕ, ◌*◌, ◌<◌, ◌≤◌}
use mathlib.Core.Path.{◌≡◌, sym, ap, ◌∙◌}
use mathlib.Core.Bool.{Bool, true, false}
use mathlib.Core.List.{List}
use native.Mathlib.Nat.{mul_comm}
use native.Mathlib.Omega.{arith}
use borrow.Author.Tests.{leb-true, le-leb, lt-leb, eq-eqb, ne_eqb}
use lib.Dec.{leb}
use lib.Ieee.{Float}
use lib.ListN.{length, take}
use lib.Seq.{length-take-le}
use Rattle.std.specs.Prelude.{Result, Ok, Err}
use Rattle.std.specs.List.{list_all}
use Rattle.laws.specs.Unless.{unless}
use Rattle.laws.proofs.Cases.{and-true-both}
use Rattle.kind.specs.declared.Kind.{Kind}
use Rattle.kind.specs.declared.refusals.Refusal.{Refusal}
use Rattle.kind.specs.declared.refusals.Refusal.TheVariants.{InputNotFinite, Exponent, PrimitiveCount, HostCount}
use Rattle.kind.specs.declared.refusals.Fault.{Fault}
use Rattle.kind.specs.Refusals.{unplaced, without_place}
use Rattle.kind.specs.Kinds.{kind_of}
use Rattle.kind.proofs.KindNumber.{kind-number}
use Rattle.term.specs.Terms.{Term}
use Rattle.number.specs.Numbers.{Bytes}
use Rattle.roll.specs.Reading.{roll_at}
use Rattle.roll.specs.declared.header.Opened.{Opened}
use Rattle.roll.specs.Header.{check_of}
use Rattle.roll.specs.inner.Judged.{Judged}
use Rattle.roll.proofs.Checked.{checked-judged, checked_refused, judged-kind, judged-l}
use Rattle.roll.proofs.AgainLaws.{judged-again}
use Rattle.integrals.specs.Values.{Value, refused_unless, result_of}
use Rattle.integrals.specs.Evaluation.{Answer}
use Rattle.contracting.specs.declared.Primitive.{Primitive}
use Rattle.contracting.specs.declared.Contracted.{Contracted}
use Rattle.contracting.specs.Pairs.{most_primitives, counted, primitives_of, Row, rows_from, rows_of, all_pairs}
use Rattle.contracting.specs.Elements.{contracts, pair_finite, pair_above_zero, element_of, checked_of, of_roll, contracted_of}
use Rattle.contracting.specs.inner.Summed.{all_finite_of, all_above_of, kept_value, PairsMay, of_cursor}
use Rattle.contracting.proofs.Carried.{one-look}
use Rattle.contracting.proofs.PairChecks.{finite-over-pairs, above-over-pairs}

-- ---- counts

counted-some : (n : ℕ) → counted n ≡ true → (1 ≤ n) × (n ≤ most_primitives)
unfolding counted
counted-some n e =
    let both = and-true-both (leb 1 n) (leb n most_primitives) e in
    (leb-true 1 n both.0, leb-true n most_primitives both.1)

pub counted_none : (n : ℕ) → n < 1 → false ≡ counted n
unfolding counted
counted_none n few = rw (lt-leb 1 n few)

pub counted-both : (n : ℕ) → 1 ≤ n → leb n most_primitives ≡ counted n
unfolding counted
counted-both n some = rw (le-leb 1 n some)

-- ---- 8, 9, and one look for 11

module _ (k : Kind) (l : ℕ) (ts : List Term) (lefts rights : List Primitive) (host : List Float) (may : PairsMay lefts rights host) (kept : contracts k ≡ true) where
  abbrev rows : List Row
  rows = rows_from host lefts 0 rights

  left-some : 0 < length lefts
  left-some = (counted-some (length lefts) may.left_counted).0

  right-some : 0 < length rights
  right-some = (counted-some (length rights) may.right_counted).0

  room : length host ≤ length rights * length lefts
  room = let is : length host ≡ length rights * length lefts = may.hosts ∙ mul_comm (length lefts) (length rights) in omega arith

  over-finite : list_all (pair_finite k) (all_pairs rows) ≡ all_finite_of lefts rights host
  over-finite = finite-over-pairs k kept lefts rights host left-some right-some room

  over-above : list_all (pair_above_zero k) (all_pairs rows) ≡ all_above_of lefts rights
  over-above = above-over-pairs k kept lefts rights host left-some right-some room

  module _ (s : Bool) (e : s ≡ all_finite_of lefts rights host) where
    pub refused-float : s ≡ false → Err InputNotFinite ≡ checked_of k l ts rows
    unfolding checked_of refused_unless
    refused-float p = rw (over-finite, ← e, p)

    module _ (t : Bool) (p : s ≡ true) (f : t ≡ all_above_of lefts rights) where
      pub refused-exponent : t ≡ false → Err Exponent ≡ checked_of k l ts rows
      unfolding checked_of refused_unless
      refused-exponent q = rw (over-finite, ← e, p, over-above, ← f, q)

      pub summed : (x : Float) (r : Value) → t ≡ true → x ≡ element_of (kept_value k l ts) rows → r ≡ result_of x → r ≡ checked_of k l ts rows
      unfolding checked_of refused_unless
      summed x r q g h = rw (over-finite, ← e, p, over-above, ← f, q) (h ∙ ap result_of g ∙ one-look k l ts rows)

-- ---- the judge's 7 or 14, and the judged roll

module _ (s : List ℕ) (rows : List Row) where
  from-judged : (o : Opened) (v : Value) → Bytes s → Judged o s → v ≡ of_cursor (kind_of o.cursor.kind) o.cursor s rows → without_place v ≡ of_roll (roll_at s) rows
  unfolding of_roll of_cursor
  from-judged o v bytes j g = rw j.reads (ap without_place (rw (judged-kind o s j, kind-number j.roll.kind, judged-l o s j, judged-again s o bytes j) at g))

  module _ (y : Result Opened Fault) (is : y ≡ check_of s) where
    pub roll-refused : (why : Fault) → y ≡ Err why → Err why ≡ of_roll (roll_at s) rows
    unfolding of_roll
    roll-refused why e = rw (checked_refused s y why is e)

    module _ (o : Opened) (v : Value) (bytes : Bytes s) (e : y ≡ Ok o) (f : v ≡ of_cursor (kind_of o.cursor.kind) o.cursor s rows) where
      pub roll-value : (x : Float) → v ≡ Ok x → Ok x ≡ of_roll (roll_at s) rows
      roll-value x g = ap without_place (sym g) ∙ from-judged o v bytes (checked-judged s y o is e) f

      pub roll-barred : (r : Refusal) → v ≡ Err r → Err (unplaced r) ≡ of_roll (roll_at s) rows
      roll-barred r g = ap without_place (sym g) ∙ from-judged o v bytes (checked-judged s y o is e) f

-- ---- 15 and 16

pub few-primitives : (n : ℕ) (t : Bool) → t ≡ counted n → t ≡ true → n ≤ most_primitives
few-primitives n t e p = (counted-some n (sym e ∙ p)).1

pub refused-left : (left right : Contracted) (host : List Float) (t : Bool) (s : List ℕ) → t ≡ counted left.count → t ≡ false → Err (unplaced PrimitiveCount) ≡ contracted_of s left right host
unfolding contracted_of unless
refused-left left right host t s e p = rw (← e, p)

module _ (left right : Contracted) (host : List Float) (t u : Bool) (e : t ≡ counted left.count) (f : u ≡ counted right.count) where
  module _ (p : t ≡ true) where
    pub refused-right : (s : List ℕ) → u ≡ false → Err (unplaced PrimitiveCount) ≡ contracted_of s left right host
    unfolding contracted_of unless
    refused-right s q = rw (← e, p, ← f, q)

    module _ (q : u ≡ true) where
      pub refused-length : (s : List ℕ) → (length host ≡ left.count * right.count → ⊥) → Err (unplaced HostCount) ≡ contracted_of s left right host
      unfolding contracted_of unless
      refused-length s differs = rw (← e, p, ← f, q, ne_eqb (length host) (left.count * right.count) differs)

      module _ (same : length host ≡ left.count * right.count) where
        pub pairs-may : length left.primitives ≡ most_primitives → length right.primitives ≡ most_primitives → PairsMay (take left.count left.primitives) (take right.count right.primitives) host
        pairs-may long long' =
            let few = few-primitives left.count t e p in
            let few' = few-primitives right.count u f q in
            let m : length (take left.count left.primitives) ≡ left.count = length-take-le left.count left.primitives (omega arith) in
            let n : length (take right.count right.primitives) ≡ right.count = length-take-le right.count right.primitives (omega arith) in
            record { left_counted = ap counted m ∙ sym e ∙ p; right_counted = ap counted n ∙ sym f ∙ q; hosts = rw (m, n) same }

        pub passed : (s : List ℕ) (v : Answer) → v ≡ of_roll (roll_at s) (rows_from host (take left.count left.primitives) 0 (take right.count right.primitives)) → v ≡ contracted_of s left right host
        unfolding contracted_of unless rows_of primitives_of
        passed s v g = rw (← e, p, ← f, q, eq-eqb (length host) (left.count * right.count) same) g
