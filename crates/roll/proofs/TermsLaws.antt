-- The functions of src/terms.rt: the loop over prefactors, and a term part by part, a law for each way out.
use Prim.Native.Nat.{ℕ, zero, suc, zero-le, ◌+◌, ◌-◌, ◌≤◌, ◌<◌}
use mathlib.Core.Path.{◌≡◌, refl, sym, ap, ◌∙◌}
use mathlib.Core.List.{List, [], ◌∷◌, ◌++◌, append-nil}
use native.Mathlib.Omega.{arith}
use lib.ListN.{length, set, take, replicate}
use lib.Seq.{length-take-le}
use Rattle.kind.specs.Limits.{most_l·any, most_scale, table_places}
use Rattle.kind.specs.Kinds.{table_of, most_l, most_prefactors}
use Rattle.kind.specs.declared.Kind.{Kind}
use Rattle.kind.specs.declared.Kind.TheVariants.{Overlap, Kinetic, Nuclear, Moment, Coulomb}
use Rattle.kind.proofs.Within.{some-entries, table-within}
use Rattle.laws.proofs.Cases.{clash}
use Rattle.laws.proofs.Pairs.{ok-both}
use Rattle.kind.proofs.Faults.{err-is}
use Rattle.roll.specs.Field.{fault}
use Rattle.std.specs.Prelude.{Result, Ok, Err}
use Rattle.kind.specs.declared.refusals.Fault.{Fault}
use Rattle.term.specs.declared.Term.{Term as Held}
use Rattle.roll.specs.Field.{Field}
use Rattle.roll.specs.Field as field
use Rattle.roll.specs.Reading.{Reading, got, refused, onward, and_then, before, within_at, prefactors_at, most_boys, count_at, boys_at, term_at}
use Rattle.roll.specs.inner.Held.{held_prefactors, held_term}
use Rattle.roll.proofs.FieldLaws.{taken-below}
use Rattle.roll.proofs.Filling.{Filled, filled_none, filled_more, taken_more, before-none, before_more, before-is, onward-is}

-- ---- prefactors

pub record Filling (s : List ℕ) (at count table : ℕ) (values : List ℕ) (place i : ℕ) : Type 0 where
  pub inside : i ≤ count
  pub room : count ≤ most_l·any
  pub filled : Filled most_l·any values i
  pub whole : before (take i values) (prefactors_at s place (count - i) table) ≡ prefactors_at s at count table

pub filling-none : (s : List ℕ) (at count table : ℕ) → count ≤ most_l·any → Filling s at count table (replicate most_l·any 0) at 0
filling-none s at count table room =
    let all : count - 0 ≡ count = omega arith in
    record { inside = zero-le; room = room; filled = filled_none most_l·any; whole = rw all (before-none (prefactors_at s at count table)) }

-- one more turn of the reading
turn : (s : List ℕ) (place count table i : ℕ) (x : Field) → i < count → x ≡ within_at s place 0 (table - 1) → prefactors_at s place (count - i) table ≡ onward x (λ p next. before (p ∷ []) (prefactors_at s next (count - (i + 1)) table))
unfolding prefactors_at
turn s place count table i x less is = let fewer : count - i ≡ suc (count - (i + 1)) = omega arith in rw (fewer, is)

pub filling-more : (s : List ℕ) (at count table : ℕ) (values : List ℕ) (place i : ℕ) (x : Field) (p next : ℕ) → Filling s at count table values place i → i < count → x ≡ within_at s place 0 (table - 1) → x ≡ field.Is p next → Filling s at count table (set values i p) next (i + 1)
filling-more s at count table values place i x p next f less is e =
    let inside : i < most_l·any = omega (arith, f.room) in
    let rest : prefactors_at s place (count - i) table ≡ before (p ∷ []) (prefactors_at s next (count - (i + 1)) table) = rw e at (turn s place count table i x less is) in
    record {
      inside = omega arith;
      room = f.room;
      filled = filled_more most_l·any values i p f.filled inside;
      whole =
          rw (taken_more most_l·any values i p f.filled inside)
          (sym (before_more (take i values) p (prefactors_at s next (count - (i + 1)) table))
          ∙ ap (before (take i values)) (sym rest)
          ∙ f.whole);
    }

pub filling-refused : (s : List ℕ) (at count table : ℕ) (values : List ℕ) (place i : ℕ) (x : Field) (why : Fault) → Filling s at count table values place i → i < count → x ≡ within_at s place 0 (table - 1) → x ≡ Err why → Err why ≡ held_prefactors (prefactors_at s at count table)
filling-refused s at count table values place i x why f less is e =
    let rest : prefactors_at s place (count - i) table ≡ refused why.refusal why.place = rw e at (turn s place count table i x less is) in
    ap held_prefactors (ap (before (take i values)) (sym rest) ∙ f.whole)

no_more : (s : List ℕ) (place table n : ℕ) → n ≡ 0 → prefactors_at s place n table ≡ got [] place
unfolding prefactors_at
no_more s place table n none = rw none

pub filling-done : (s : List ℕ) (at count table : ℕ) (values : List ℕ) (place i : ℕ) → Filling s at count table values place i → count ≤ i → Ok (values, place) ≡ held_prefactors (prefactors_at s at count table)
filling-done s at count table values place i f done =
    let all : i ≡ count = omega (arith, f.inside) in
    let none = no_more s place table (count - i) (omega arith) in
    let whole : got (take i values ++ []) place ≡ prefactors_at s at count table = ap (before (take i values)) (sym none) ∙ f.whole in
    let got-all : got (take i values) place ≡ prefactors_at s at count table = ap (λ (l : List ℕ). got l place) (sym (append-nil (take i values))) ∙ whole in
    let long : length (take i values) ≡ i = length-take-le i values (omega (arith, f.filled.long, f.room)) in
    let zeros = f.filled.zeros in
    let held : Ok (values, place) ≡ held_prefactors (got (take i values) place) = cc (long, all, zeros) in
    held ∙ ap held_prefactors got-all

pub prefactors-length : (count table : ℕ) (s : List ℕ) (at : ℕ) (ps : List ℕ) (next : ℕ) → prefactors_at s at count table ≡ got ps next → length ps ≡ count
unfolding prefactors_at
prefactors-length zero table s at ps next e = let none : [] ≡ ps = cc in ap length (sym none)
prefactors-length (suc count) table s at ps next e =
    let o = onward-is (within_at s at 0 (table - 1)) (λ p n. before (p ∷ []) (prefactors_at s n count table)) ps next e in
    let b = before-is o.0 (prefactors_at s o.1 count table) ps next o.3 in
    ap length b.2 ∙ ap suc (prefactors-length count table s o.1 b.0 next b.1)

-- ---- a term

-- a term of prefactors that were read is the term that the definition reads
pub counted : (k : Kind) (l scale boys : ℕ) (s : List ℕ) (at : ℕ) (most table : ℕ) (x : Field) (count next : ℕ) (read : Result (List ℕ × ℕ) Fault) (values : List ℕ) (end : ℕ) → most ≡ most_prefactors k l → x ≡ within_at s at 0 most → x ≡ field.Is count next → table ≡ table_of k → read ≡ held_prefactors (prefactors_at s next count table) → read ≡ Ok (values, end) → Ok (record { scale = scale; boys = boys; count = count; prefactors = values }, end) ≡ held_term (count_at s at k l scale boys)
unfolding count_at
counted k l scale boys s at most table x count next read values end limit is e size held ok =
    rw (← limit, sym is ∙ e, ← size) (by (prefactors_at s next count table) (λ ps n h. prefactors-length count table s next ps n h) (sym held ∙ ok))
  where
    by : (y : Reading (List ℕ)) → ((ps : List ℕ) (n : ℕ) → y ≡ got ps n → length ps ≡ count) → held_prefactors y ≡ Ok (values, end) → Ok (record { scale = scale; boys = boys; count = count; prefactors = values }, end) ≡ held_term (and_then y (λ ps end. got (record { scale = scale; boys = boys; prefactors = ps }) end))
    by (got ps n) long e = let both = ok-both e in let many : length ps ≡ count = long ps n refl in cc
    by (refused r place) long e = absurd (clash (cc))

pub miscounted : (k : Kind) (l scale boys : ℕ) (s : List ℕ) (at : ℕ) (most table : ℕ) (x : Field) (count next : ℕ) (read : Result (List ℕ × ℕ) Fault) (why : Fault) → most ≡ most_prefactors k l → x ≡ within_at s at 0 most → x ≡ field.Is count next → table ≡ table_of k → read ≡ held_prefactors (prefactors_at s next count table) → read ≡ Err why → Err why ≡ held_term (count_at s at k l scale boys)
unfolding count_at
miscounted k l scale boys s at most table x count next read why limit is e size held err =
    rw (← limit, sym is ∙ e, ← size) (by (prefactors_at s next count table) (sym held ∙ err))
  where
    by : (y : Reading (List ℕ)) → held_prefactors y ≡ Err why → Err why ≡ held_term (and_then y (λ ps end. got (record { scale = scale; boys = boys; prefactors = ps }) end))
    by (got ps n) e = absurd (clash (cc))
    by (refused r place) e = let same = err-is (fault r place) why e in rw same

pub uncounted : (k : Kind) (l scale boys : ℕ) (s : List ℕ) (at : ℕ) (most : ℕ) (x : Field) (why : Fault) → most ≡ most_prefactors k l → x ≡ within_at s at 0 most → x ≡ Err why → Err why ≡ held_term (count_at s at k l scale boys)
unfolding count_at
uncounted k l scale boys s at most x why limit is e = rw (← limit, sym is ∙ e)

pub term-read : (k : Kind) (l : ℕ) (s : List ℕ) (at most : ℕ) (x y : Field) (scale next boys after : ℕ) (r : Result (Held × ℕ) Fault) → x ≡ within_at s at 1 most_scale → x ≡ field.Is scale next → most ≡ most_boys k l → y ≡ within_at s next 0 most → y ≡ field.Is boys after → r ≡ held_term (count_at s after k l scale boys) → r ≡ held_term (term_at s at k l)
unfolding term_at boys_at
term-read k l s at most x y scale next boys after r is e limit then f answer = answer ∙ rw (sym is ∙ e, ← limit, sym then ∙ f)

pub boys-unread : (k : Kind) (l : ℕ) (s : List ℕ) (at most : ℕ) (x y : Field) (scale next : ℕ) (why : Fault) → x ≡ within_at s at 1 most_scale → x ≡ field.Is scale next → most ≡ most_boys k l → y ≡ within_at s next 0 most → y ≡ Err why → Err why ≡ held_term (term_at s at k l)
unfolding term_at boys_at
boys-unread k l s at most x y scale next why is e limit then f = rw (sym is ∙ e, ← limit, sym then ∙ f)

pub scale-unread : (k : Kind) (l : ℕ) (s : List ℕ) (at : ℕ) (x : Field) (why : Fault) → x ≡ within_at s at 1 most_scale → x ≡ Err why → Err why ≡ held_term (term_at s at k l)
unfolding term_at
scale-unread k l s at x why is e = rw (sym is ∙ e)

-- a kind's limits fit the places that are there for them
pub few-prefactors : (k : Kind) (l : ℕ) → l ≤ most_l k → most_prefactors k l ≤ most_l·any
few-prefactors Overlap l small = omega arith
few-prefactors Kinetic l small = omega arith
few-prefactors Nuclear l small = omega arith
few-prefactors Moment l small = omega arith
few-prefactors Coulomb l small = omega arith

pub count-few : (k : Kind) (l : ℕ) (s : List ℕ) (at most : ℕ) (x : Field) (count next : ℕ) → l ≤ most_l k → most ≡ most_prefactors k l → x ≡ within_at s at 0 most → x ≡ field.Is count next → count ≤ most_l·any
count-few k l s at most x count next small limit is e = omega (arith, few-prefactors k l small, taken-below s at 0 most x count next is e)

pub table-some : (k : Kind) (table : ℕ) → table ≡ table_of k → 1 ≤ table
table-some k table is = omega (arith, some-entries k)

pub table_fits : (k : Kind) (table : ℕ) → table ≡ table_of k → table ≤ table_places
table_fits k table is = omega (arith, table-within k)
