-- The functions of src/lib.rt: what is left of a list of nuclei decides each check and the sum.
use Prim.Native.Nat.{ℕ, ◌+◌, ◌*◌, ◌-◌, ◌<◌, ◌≤◌}
use mathlib.Core.Path.{◌≡◌, refl, sym, ap, ◌∙◌}
use mathlib.Core.Bool.{and-false, Bool, true, false, ◌&&◌}
use mathlib.Core.List.{List, [], ◌∷◌}
use native.Mathlib.Numerals.{add-one}
use native.Mathlib.Nat.{suc-mul}
use native.Mathlib.Omega.{arith}
use borrow.Author.Tests.{eq-eqb, ne_eqb, leb-true, le-leb, lt-leb}
use denote.Laws.{Is as Held}
use denote.Struct.Declared.{row}
use mir.Val.{Val}
use lib.Dec.{leb, eqb}
use lib.Ieee.{Float}
use lib.ListN.{length, take, drop, get_or, drop_of_length-le}
use lib.Seq.{drop-cons, drop-drop, length-take-le}
use Rattle.laws.proofs.Cases.{and-true-both, clash}
use Rattle.kind.specs.Kinds.{number_of}
use Rattle.kind.specs.Limits.{table_places}
use Rattle.kind.specs.declared.Kind.{Kind}
use Rattle.kind.specs.declared.Kind.TheVariants.{Overlap, Kinetic, Nuclear, Moment, Coulomb}
use Rattle.number.specs.Numbers.{Bytes}
use Rattle.term.specs.Terms.{Term}
use Rattle.geometry.specs.declared.Centre.{Centre}
use Rattle.geometry.specs.Floats.{◌⊕◌, zero as 0·0, in_places}
use Rattle.geometry.specs.Charges.{charge_kept, charged}
use Rattle.geometry.specs.Checks.{exponents_above_zero, finite_with, geometry_finite}
use Rattle.geometry.specs.Tables.{prefac}
use Rattle.geometry.proofs.Checks.{finite-table}
use Rattle.roll.specs.declared.cursor.Cursor.{Cursor}
use Rattle.roll.specs.declared.header.Opened.{Opened}
use Rattle.roll.specs.Header.{check_of}
use Rattle.roll.specs.inner.Judged.{Judged}
use Rattle.roll.proofs.Checked.{checked-judged, checked_refused, judged-kind, judged-l}
use Rattle.roll.proofs.AgainLaws.{judged-again}
use Rattle.std.specs.Prelude.{Result, Ok, Err}
use Rattle.std.specs.List.{list_all}
use Rattle.kind.specs.declared.refusals.Refusal.{Refusal}
use Rattle.kind.specs.declared.refusals.Refusal.TheVariants as refusal
use Rattle.kind.specs.declared.refusals.Refusal.TheVariants.{WrongKind, InputNotFinite, Exponent, BoysCount, ResultNotFinite}
use Rattle.kind.specs.declared.refusals.Fault.{Fault}
use Rattle.kind.specs.Refusals.{unplaced, without_place}
use Rattle.integrals.specs.Sums.{kinetic_start, total_of, factor_of, integral_of}
use Rattle.integrals.specs.Values.{Value, refused_unless, result_of}
use Rattle.integrals.specs.inner.Stored.{again_from}
use Rattle.nuclei.specs.declared.Nuclei.{Nuclei}
use Rattle.nuclei.specs.contracts.Nuclei as nuclei-type
use Rattle.nuclei.specs.Nuclei.{most_nuclei, nuclei_of, list_kept, inputs_finite, boys_counted, charged_value, sum_from, list_of, is_nuclear, of_roll, nuclear_of}
use Rattle.nuclei.specs.inner.Listed.{product_of, summed_from, of_cursor}

-- ---- the list

-- the array has its 32 places
pub centres-long : (n : Nuclei) (vs : List Val) → Held (row nuclei-type.the_type) n vs → length n.centres ≡ most_nuclei
centres-long n vs p = p.1.1.0.1.0.1

-- ---- check 17

pub none_kept : (n : Nuclei) → n.count < 1 → false ≡ list_kept n
unfolding list_kept
none_kept n few = let less : leb 1 n.count ≡ false = lt-leb 1 n.count few in rw less

pub many-kept : (n : Nuclei) → most_nuclei < n.count → false ≡ list_kept n
unfolding list_kept
many-kept n many = let more : leb n.count most_nuclei ≡ false = lt-leb n.count most_nuclei many in rw (more, and-false (leb 1 n.count))

pub all-kept : (n : Nuclei) (t : Bool) → 1 ≤ n.count → n.count ≤ most_nuclei → t ≡ list_all (charge_kept Nuclear) (nuclei_of n) → t ≡ list_kept n
unfolding list_kept
all-kept n t some few e =
    let enough : leb 1 n.count ≡ true = le-leb 1 n.count some in
    let less : leb n.count most_nuclei ≡ true = le-leb n.count most_nuclei few in
    rw (enough, less) e

-- a list that is kept has 32 nuclei at most
pub kept-few : (n : Nuclei) (t : Bool) → t ≡ list_kept n → t ≡ true → n.count ≤ most_nuclei
unfolding list_kept
kept-few n t e p = leb-true n.count most_nuclei (and-true-both (leb 1 n.count) (leb n.count most_nuclei) (and-true-both (leb 1 n.count && leb n.count most_nuclei) (list_all (charge_kept Nuclear) (nuclei_of n)) (sym e ∙ p)).0).1

kept-count : (n : Nuclei) (t : Bool) → length n.centres ≡ most_nuclei → t ≡ list_kept n → t ≡ true → length (nuclei_of n) ≡ n.count
kept-count n t long e p = let few = kept-few n t e p in length-take-le n.count n.centres (omega arith)

-- ---- one nucleus' product

module _ (l : ℕ) (a b c : Centre) (aux : Float) (boys : List Float) (ts : List Term) (table : List Float) (t : Bool) (is : table ≡ in_places table_places (prefac Nuclear a b c c)) (e : t ≡ finite_with Nuclear a b c c table) where
  geometry-is : t ≡ geometry_finite Nuclear a b c c
  geometry-is = finite-table Nuclear a b c c table t is e

  pub product-kept : (x y : Float) → t ≡ true → x ≡ total_of Nuclear l (kinetic_start a b) table aux boys ts → y ≡ charged Nuclear c x → Ok y ≡ product_of l a b c aux boys ts
  unfolding product_of refused_unless integral_of factor_of
  product-kept x y p f g =
      let whole : x ≡ total_of Nuclear l (kinetic_start a b) (in_places table_places (prefac Nuclear a b c c)) aux boys ts = rw (← is) f in
      rw (← geometry-is, p, g, whole)

  pub product-not : t ≡ false → Err ResultNotFinite ≡ product_of l a b c aux boys ts
  unfolding product_of refused_unless
  product-not p = rw (← geometry-is, p)

-- ---- the sum of what is left

pub next-from : (i each from : ℕ) → from ≡ i * each → from + each ≡ (i + 1) * each
next-from i each from is = rw (is, add-one i) (sym (suc-mul i each))

value-passes : (g : Bool) (y x : Float) → refused_unless g ResultNotFinite (Ok y) ≡ Ok x → (g ≡ true) × (y ≡ x)
unfolding refused_unless
value-passes true y x e = (refl, cc)
value-passes false y x e = absurd (clash (cc))

value-stops : (g : Bool) (y : Float) (why : Refusal) → refused_unless g ResultNotFinite (Ok y) ≡ Err why → (g ≡ false) × (ResultNotFinite ≡ why)
unfolding refused_unless
value-stops true y why e = absurd (clash (cc))
value-stops false y why e = (refl, cc)

module _ (l : ℕ) (a b : Centre) (aux : Float) (boys : List Float) (ts : List Term) (cs : List Centre) (from i : ℕ) (sum : Float) (v : Value) (inv : summed_from l a b aux (drop i cs) (drop from boys) ts sum ≡ v) where
  module _ (d : Centre) (p : Value) (more : i < length cs) (is : p ≡ product_of l a b (get_or cs i d) aux (take (from + (l + 1) - from) (drop from boys)) ts) where
    abbrev c : Centre
    c = get_or cs i d

    value : Float
    value = charged_value l a b c aux (take (l + 1) (drop from boys)) ts

    own : p ≡ refused_unless (geometry_finite Nuclear a b c c) ResultNotFinite (Ok value)
    unfolding product_of value
    own = let size : from + (l + 1) - from ≡ l + 1 = omega arith in rw size at is

    turn : refused_unless (geometry_finite Nuclear a b c c) ResultNotFinite (summed_from l a b aux (drop (i + 1) cs) (drop (from + (l + 1)) boys) ts (sum ⊕ value)) ≡ v
    unfolding summed_from value
    turn = rw (← (drop-drop (l + 1) from boys), add-one i) (rw (drop-cons cs i d more) at inv)

    pub summed-more : (x : Float) → p ≡ Ok x → summed_from l a b aux (drop (i + 1) cs) (drop (from + (l + 1)) boys) ts (sum ⊕ x) ≡ v
    unfolding refused_unless
    summed-more x q =
        let passes = value-passes (geometry_finite Nuclear a b c c) value x (sym own ∙ q) in
        rw (← passes.1) (rw passes.0 at turn)

    pub summed-not : (why : Refusal) → p ≡ Err why → Err why ≡ v
    unfolding refused_unless
    summed-not why q =
        let stops = value-stops (geometry_finite Nuclear a b c c) value why (sym own ∙ q) in
        rw (← stops.1) (rw stops.0 at turn)

  pub summed-done : (r : Value) → length cs ≤ i → r ≡ result_of sum → r ≡ v
  unfolding summed_from
  summed-done r none e = e ∙ (rw (drop_of_length-le cs {i = i} none) at inv)

both : (t u : Bool) (v w : Value) → v ≡ refused_unless u ResultNotFinite w → refused_unless t ResultNotFinite v ≡ refused_unless (t && u) ResultNotFinite w
unfolding refused_unless
both true u v w e = e
both false u v w e = refl

-- the sum by parts is the check over all nuclei, then the sum
parts : (l : ℕ) (a b : Centre) (aux : Float) (cs : List Centre) (boys : List Float) (ts : List Term) (sum : Float) →
    summed_from l a b aux cs boys ts sum ≡ refused_unless (list_all (λ c. geometry_finite Nuclear a b c c) cs) ResultNotFinite (result_of (sum_from l a b aux cs boys ts sum))
unfolding summed_from sum_from refused_unless
parts l a b aux [] boys ts sum = refl
parts l a b aux (c ∷ cs) boys ts sum =
    let next = sum ⊕ charged_value l a b c aux (take (l + 1) boys) ts in
    both (geometry_finite Nuclear a b c c) (list_all (λ c. geometry_finite Nuclear a b c c) cs) _ _ (parts l a b aux cs (drop (l + 1) boys) ts next)

-- ---- the checks in their order

module _ (l : ℕ) (a b : Centre) (n : Nuclei) (aux : Float) (boys : List Float) (ts : List Term) (s : Bool) (e : s ≡ list_kept n) where
  pub list-seventeen : s ≡ false → Err refusal.Nuclei ≡ list_of l a b n aux boys ts
  unfolding list_of refused_unless
  list-seventeen p = rw (← e, p)

  module _ (t : Bool) (p : s ≡ true) (f : t ≡ inputs_finite a b (nuclei_of n) aux boys) where
    pub list-eight : t ≡ false → Err InputNotFinite ≡ list_of l a b n aux boys ts
    unfolding list_of refused_unless
    list-eight q = rw (← e, p, ← f, q)

    module _ (u : Bool) (q : t ≡ true) (g : u ≡ exponents_above_zero Nuclear a b a b) where
      pub list-nine : u ≡ false → Err Exponent ≡ list_of l a b n aux boys ts
      unfolding list_of refused_unless
      list-nine o = rw (← e, p, ← f, q, ← g, o)

      module _ (long : length n.centres ≡ most_nuclei) (o : u ≡ true) where
        size : length (nuclei_of n) * (l + 1) ≡ n.count * (l + 1)
        size = ap (λ (k : ℕ). k * (l + 1)) (kept-count n s long e p)

        pub list-ten : (length boys ≡ length (nuclei_of n) * (l + 1) → ⊥) → Err BoysCount ≡ list_of l a b n aux boys ts
        unfolding list_of refused_unless boys_counted
        list-ten other = rw (← e, p, ← f, q, ← g, o, ne_eqb (length boys) (n.count * (l + 1)) (λ same. other (same ∙ sym size)))

        pub list-summed : (v : Value) → length boys ≡ length (nuclei_of n) * (l + 1) → v ≡ summed_from l a b aux (nuclei_of n) boys ts 0·0 → v ≡ list_of l a b n aux boys ts
        unfolding list_of refused_unless boys_counted
        list-summed v same is = rw (← e, p, ← f, q, ← g, o, eq-eqb (length boys) (n.count * (l + 1)) (same ∙ size)) (is ∙ parts l a b aux (nuclei_of n) boys ts 0·0)

-- ---- a judged roll

module _ (cursor : Cursor) (a b : Centre) (n : Nuclei) (aux : Float) (boys : List Float) (s : List ℕ) (number : ℕ) (is : number ≡ number_of Nuclear) where
  pub kind-nuclear : (v : Value) → cursor.kind ≡ number → v ≡ list_of cursor.l a b n aux boys (again_from s cursor) → v ≡ of_cursor cursor a b n aux boys s
  unfolding of_cursor refused_unless
  kind-nuclear v e f = rw (eq-eqb cursor.kind (number_of Nuclear) (e ∙ is)) f

  pub kind-other : (cursor.kind ≡ number → ⊥) → Err WrongKind ≡ of_cursor cursor a b n aux boys s
  unfolding of_cursor refused_unless
  kind-other differs = rw (ne_eqb cursor.kind (number_of Nuclear) (λ q. differs (q ∙ sym is)))

by_number : (k : Kind) → eqb (number_of k) (number_of Nuclear) ≡ is_nuclear k
by_number Overlap = refl
by_number Kinetic = refl
by_number Nuclear = refl
by_number Moment = refl
by_number Coulomb = refl

module _ (a b : Centre) (n : Nuclei) (aux : Float) (boys : List Float) (s : List ℕ) where
  from-judged : (o : Opened) (v : Value) → Bytes s → Judged o s → v ≡ of_cursor o.cursor a b n aux boys s → without_place v ≡ nuclear_of s a b n aux boys
  unfolding nuclear_of of_roll of_cursor
  from-judged o v bytes j g = rw j.reads (ap without_place (rw (judged-kind o s j, by_number j.roll.kind, judged-l o s j, judged-again s o bytes j) at g))

  module _ (y : Result Opened Fault) (is : y ≡ check_of s) where
    pub nuclear-refused : (why : Fault) → y ≡ Err why → Err why ≡ nuclear_of s a b n aux boys
    unfolding nuclear_of of_roll
    nuclear-refused why e = rw (checked_refused s y why is e)

    module _ (o : Opened) (v : Value) (bytes : Bytes s) (e : y ≡ Ok o) (f : v ≡ of_cursor o.cursor a b n aux boys s) where
      pub nuclear-value : (x : Float) → v ≡ Ok x → Ok x ≡ nuclear_of s a b n aux boys
      nuclear-value x g = ap without_place (sym g) ∙ from-judged o v bytes (checked-judged s y o is e) f

      pub nuclear-barred : (r : Refusal) → v ≡ Err r → Err (unplaced r) ≡ nuclear_of s a b n aux boys
      nuclear-barred r g = ap without_place (sym g) ∙ from-judged o v bytes (checked-judged s y o is e) f
