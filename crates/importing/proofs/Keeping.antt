-- What a line's numbers keep as tests is what the reader's limits say, and places in the text say what the numbers say.
use Prim.Native.Nat.{ℕ, zero, suc, ◌+◌, ◌-◌, ◌≤◌, ◌<◌}
use mathlib.Core.Path.{◌≡◌, refl, sym, ap, ◌∙◌}
use mathlib.Core.Bool.{Bool, true, false, cond, ◌&&◌}
use mathlib.Core.List.{List, [], ◌∷◌, ◌++◌}
use native.Mathlib.Omega.{arith}
use borrow.Author.Tests.{lt-ltb, le-ltb, le-leb, ltb-true, ltb-false, leb-true, leb-false}
use lib.Dec.{ltb, leb}
use lib.ListN.{length, drop, length-append, length-drop, drop_of_length-le}
use lib.Seq.{drop-cons}
use Rattle.laws.proofs.Cases.{tested, and_left, and_right}
use Rattle.laws.proofs.Lists.{drop-after}
use Rattle.kind.specs.Limits.{most_scale, table_places}
use Rattle.kind.specs.Kinds.{table_of, most_prefactors}
use Rattle.kind.specs.declared.Kind.{Kind}
use Rattle.kind.proofs.Within.{some-entries, table-within}
use Rattle.number.specs.Numbers.{bytes_of, length_of}
use Rattle.number.proofs.Writing.{length_last}
use Rattle.term.specs.Terms.{Term}
use Rattle.roll.specs.Bytes.{numbers_bytes, term_bytes, terms_bytes}
use Rattle.roll.specs.Reading.{most_boys}
use Rattle.roll.specs.Fits.{Below, TermFits}
use Rattle.roll.proofs.Back.{most-boys}
use Rattle.exporting.specs.Text.{line_of}
use Rattle.importing.specs.Answer.{Answer}
use Rattle.importing.specs.Answer as imported
use Rattle.importing.specs.inner.Size as size
use Rattle.importing.specs.inner.Shape as shape
use Rattle.importing.specs.Lines.{Line, line, broken, line_on}
use Rattle.importing.specs.Import.{Judged, taken, refused, and_then, other_count, on_line, below, term_keeps, term_of, terms_from}
use Rattle.importing.specs.inner.Places.{counted, shape_at, each_at, boys_at, term_at, sized, term_line_at, end_at, on_size, terms_at}
use Rattle.importing.proofs.Numbers.{prefactors-most}
use Rattle.importing.proofs.Standing.{standing, line_reads, next_place, stands-next, stands-in, stands-under, stands-over}
use Rattle.importing.proofs.Judging.{line-missing, line-short, line-broken, line-long, end-right, end_short, end-many, end-broken}
use Rattle.kind.specs.declared.refusals.Refusal.TheVariants.{LineShape, LineNumbers}

-- ---- prefactors and terms: tests and limits

pub below-fits : (table : ℕ) (ps : List ℕ) → below table ps ≡ true → Below table ps
below-fits table [] e = tt
below-fits table (p ∷ ps) e = (ltb-true p table (and_left (ltb p table) (below table ps) e), below-fits table ps (and_right (ltb p table) (below table ps) e))

pub fits_below : (table : ℕ) (ps : List ℕ) → Below table ps → below table ps ≡ true
fits_below table [] e = refl
fits_below table (p ∷ ps) e = rw (lt-ltb p table e.0) (fits_below table ps e.1)

pub keeps-fits : (k : Kind) (l : ℕ) (t : Term) → term_keeps k l t ≡ true → TermFits k l t
unfolding term_keeps
keeps-fits k l t e =
    let scales = and_left (leb 1 t.scale && leb t.scale most_scale) (leb t.boys (most_boys k l) && (leb (length t.prefactors) (most_prefactors k l) && below (table_of k) t.prefactors)) e in
    let more = and_right (leb 1 t.scale && leb t.scale most_scale) (leb t.boys (most_boys k l) && (leb (length t.prefactors) (most_prefactors k l) && below (table_of k) t.prefactors)) e in
    let most = and_right (leb t.boys (most_boys k l)) (leb (length t.prefactors) (most_prefactors k l) && below (table_of k) t.prefactors) more in
    record {
      scale-least = leb-true 1 t.scale (and_left (leb 1 t.scale) (leb t.scale most_scale) scales);
      scale = leb-true t.scale most_scale (and_right (leb 1 t.scale) (leb t.scale most_scale) scales);
      boys = leb-true t.boys (most_boys k l) (and_left (leb t.boys (most_boys k l)) (leb (length t.prefactors) (most_prefactors k l) && below (table_of k) t.prefactors) more);
      count = leb-true (length t.prefactors) (most_prefactors k l) (and_left (leb (length t.prefactors) (most_prefactors k l)) (below (table_of k) t.prefactors) most);
      prefactors = below-fits (table_of k) t.prefactors (and_right (leb (length t.prefactors) (most_prefactors k l)) (below (table_of k) t.prefactors) most);
    }

pub fits-keeps : (k : Kind) (l : ℕ) (t : Term) → TermFits k l t → term_keeps k l t ≡ true
unfolding term_keeps
fits-keeps k l t f =
    rw (le-leb 1 t.scale f.scale-least, le-leb t.scale most_scale f.scale, le-leb t.boys (most_boys k l) f.boys, le-leb (length t.prefactors) (most_prefactors k l) f.count)
    (fits_below (table_of k) t.prefactors f.prefactors)

-- ---- how long a term's writing is

small-length : (table : ℕ) (ps : List ℕ) → table ≤ table_places → Below table ps → length (numbers_bytes ps) ≡ length ps
unfolding numbers_bytes length_of
small-length table [] few b = refl
small-length table (p ∷ ps) few b =
    let under : p < table = b.0 in
    omega (arith, length-append (bytes_of p) (numbers_bytes ps), length_last p (omega arith), small-length table ps few b.1)

pub term-length : (k : Kind) (l : ℕ) (t : Term) → l ≤ 100 → TermFits k l t → length_of t.scale + suc (suc (length t.prefactors)) ≡ length (term_bytes t)
unfolding term_bytes length_of
term-length k l t small f =
    let ps = t.prefactors in
    let a = length-append (bytes_of t.scale) (bytes_of t.boys ++ (bytes_of (length ps) ++ numbers_bytes ps)) in
    let b = length-append (bytes_of t.boys) (bytes_of (length ps) ++ numbers_bytes ps) in
    let c = length-append (bytes_of (length ps)) (numbers_bytes ps) in
    let boys = length_last t.boys (omega (arith, f.boys, most-boys k l)) in
    let count = length_last (length ps) (omega (arith, f.count, prefactors-most k l)) in
    omega (arith, a, b, c, boys, count, small-length (table_of k) ps (table-within k) f.prefactors)

-- ---- a term's line

each_stands : (ps s : List ℕ) (at : ℕ) (rest : List ℕ) (table z next : ℕ) → drop at s ≡ standing ps ++ rest → 1 ≤ table → table ≤ table_places
    → sized next (each_at s at (length ps) (table - 1) z) ≡ cond (below table ps) (size.Is z next) (size.Refused LineNumbers)
unfolding each_at
each_stands [] s at rest table z next stands some few = refl
each_stands (p ∷ ps) s at rest table z next stands some few =
    tested (ltb p table)
    (λ y.
    let under : p < table = ltb-true p table y in
    let read = stands-in s at p ps rest stands 0 (table - 1) (omega arith) (omega arith) (omega arith) in
    rw (read, y) (each_stands ps s (next_place at p) rest table z next (stands-next s at p ps rest stands) some few))
    (λ y.
    let over : table ≤ p = ltb-false p table y in
    let wrong = stands-over s at p ps rest stands 0 (table - 1) (omega arith) (omega arith) in
    rw (wrong, y))

and_none : (a b : Bool) → (a && (b && false)) ≡ false
and_none true true = refl
and_none true false = refl
and_none false b = refl

abbrev term_on : ℕ → ℕ → List ℕ → Term
term_on scale boys ps = record { scale = scale; boys = boys; prefactors = ps }

-- from the Boys order on
boys-stands : (k : Kind) (l boys : ℕ) (ps s : List ℕ) (at : ℕ) (rest : List ℕ) (z next : ℕ) → l ≤ 100 → drop at s ≡ standing (boys ∷ ps) ++ rest
    → sized next (boys_at s at (length ps) k l z) ≡ cond (leb boys (most_boys k l) && below (table_of k) ps) (size.Is z next) (size.Refused LineNumbers)
unfolding boys_at
boys-stands k l boys ps s at rest z next small stands =
    tested (leb boys (most_boys k l))
    (λ y.
    let most = most-boys k l in
    let read = stands-in s at boys ps rest stands 0 (most_boys k l) (omega arith) (omega arith) (leb-true boys (most_boys k l) y) in
    rw (read, y) (each_stands ps s (next_place at boys) rest (table_of k) z next (stands-next s at boys ps rest stands) (some-entries k) (table-within k)))
    (λ y.
    let wrong = stands-over s at boys ps rest stands 0 (most_boys k l) (omega arith) (leb-false boys (most_boys k l) y) in
    rw (wrong, y))

term-stands : (k : Kind) (l scale boys : ℕ) (ps s : List ℕ) (at : ℕ) (rest : List ℕ) (next : ℕ) → l ≤ 100 → drop at s ≡ standing (scale ∷ boys ∷ ps) ++ rest
    → sized next (term_at s at (suc (suc (length ps))) k l) ≡ cond (term_keeps k l (term_on scale boys ps)) (size.Is (length_of scale + suc (suc (length ps))) next) (size.Refused LineNumbers)
unfolding term_at term_keeps
term-stands k l scale boys ps s at rest next small stands =
    let less : suc (suc (length ps)) - 2 ≡ length ps = omega arith in
    let after = boys-stands k l boys ps s (next_place at scale) rest (length_of scale + suc (suc (length ps))) next small (stands-next s at scale (boys ∷ ps) rest stands) in
    tested (leb (length ps) (most_prefactors k l))
    (λ c.
    let few : suc (suc (length ps)) ≤ most_prefactors k l + 2 = omega (arith, leb-true (length ps) (most_prefactors k l) c) in
    tested (leb 1 scale)
    (λ a.
    tested (leb scale most_scale)
    (λ b.
    let read = stands-in s at scale (boys ∷ ps) rest stands 1 most_scale (omega arith) (leb-true 1 scale a) (leb-true scale most_scale b) in
    rw (le-ltb (most_prefactors k l + 2) (suc (suc (length ps))) few, read, less, a, b, c) after)
    (λ b.
    let wrong = stands-over s at scale (boys ∷ ps) rest stands 1 most_scale (omega arith) (leb-false scale most_scale b) in
    rw (le-ltb (most_prefactors k l + 2) (suc (suc (length ps))) few, wrong, a, b)))
    (λ a.
    let wrong = stands-under s at scale (boys ∷ ps) rest stands 1 most_scale (omega arith) (leb-false 1 scale a) in
    rw (le-ltb (most_prefactors k l + 2) (suc (suc (length ps))) few, wrong, a)))
    (λ c.
    let many : most_prefactors k l + 2 < suc (suc (length ps)) = omega (arith, leb-false (length ps) (most_prefactors k l) c) in
    let no : ((leb 1 scale && leb scale most_scale) && (leb boys (most_boys k l) && false)) ≡ false = and_none (leb 1 scale && leb scale most_scale) (leb boys (most_boys k l)) in
    rw (lt-ltb (most_prefactors k l + 2) (suc (suc (length ps))) many, c) (rw no))

-- ---- the lines

-- the place after a line is where the rest stands
pub line-rest : (s : List ℕ) (at : ℕ) (ns rest : List ℕ) → at < length s → line_on (drop at s) ≡ line ns rest → drop (length s - length rest) s ≡ rest
line-rest s at ns rest inside e =
    let x = line_reads (drop at s) ns rest e in
    drop-after s (line_of ns) rest at (length s - length rest) x.text
    (omega (arith, length-drop at s, ap length x.text, length-append (line_of ns) rest))

-- the answer that the lines of terms give, after bytes of a size
abbrev pub totalled : ℕ → ℕ → Judged (List Term) → Answer
totalled z count (taken ts) = imported.Roll (z + length (terms_bytes ts)) count
totalled z count (refused r n) = imported.Refused r n

totalled_more : (z count : ℕ) (t : Term) (j : Judged (List Term)) → totalled (z + length (term_bytes t)) count j ≡ totalled z count (and_then j (λ ts. taken (t ∷ ts)))
unfolding terms_bytes
totalled_more z count t (taken ts) = ap (λ (n : ℕ). imported.Roll n count) (omega (arith, length-append (term_bytes t) (terms_bytes ts)))
totalled_more z count t (refused r n) = refl

pub shape-line : (s : List ℕ) (at : ℕ) (ns rest : List ℕ) → line_on (drop at s) ≡ line ns rest → shape_at s at ≡ shape.Line (length ns) (length s - length rest)
unfolding shape_at
shape-line s at ns rest e = ap (counted (length s) 0) e ∙ ap (λ (n : ℕ). shape.Line n (length s - length rest)) (omega arith)

pub shape-broken : (s : List ℕ) (at : ℕ) → line_on (drop at s) ≡ broken → shape_at s at ≡ shape.Broken
unfolding shape_at
shape-broken s at e = ap (counted (length s) 0) e

-- a line of a term in order, and one that isn't
line_kept : (s : List ℕ) (at : ℕ) (k : Kind) (l scale boys : ℕ) (ps rest : List ℕ) → at < length s → l ≤ 100 → line_on (drop at s) ≡ line (scale ∷ boys ∷ ps) rest → term_keeps k l (term_on scale boys ps) ≡ true
    → term_line_at s at k l ≡ size.Is (length (term_bytes (term_on scale boys ps))) (length s - length rest)
line_kept s at k l scale boys ps rest inside small e keeps =
    let next = length s - length rest in
    sym (line-long s at l (suc (suc (length ps))) next k (shape_at s at) (term_at s at (suc (suc (length ps))) k l) inside refl (shape-line s at (scale ∷ boys ∷ ps) rest e) (omega arith) refl)
    ∙ term-stands k l scale boys ps s at rest next small (line_reads (drop at s) (scale ∷ boys ∷ ps) rest e).text
    ∙ rw keeps (ap (λ (z : ℕ). size.Is z next) (term-length k l (term_on scale boys ps) small (keeps-fits k l (term_on scale boys ps) keeps)))

line-not-kept : (s : List ℕ) (at : ℕ) (k : Kind) (l scale boys : ℕ) (ps rest : List ℕ) → at < length s → l ≤ 100 → line_on (drop at s) ≡ line (scale ∷ boys ∷ ps) rest → term_keeps k l (term_on scale boys ps) ≡ false
    → term_line_at s at k l ≡ size.Refused LineNumbers
line-not-kept s at k l scale boys ps rest inside small e keeps =
    let next = length s - length rest in
    sym (line-long s at l (suc (suc (length ps))) next k (shape_at s at) (term_at s at (suc (suc (length ps))) k l) inside refl (shape-line s at (scale ∷ boys ∷ ps) rest e) (omega arith) refl)
    ∙ term-stands k l scale boys ps s at rest next small (line_reads (drop at s) (scale ∷ boys ∷ ps) rest e).text
    ∙ rw keeps

module _ (s : List ℕ) (k : Kind) (l count : ℕ) (small : l ≤ 100) where
  -- what the lines after this one say
  abbrev Later : ℕ → ℕ → Type 0
  Later number left = (next z : ℕ) → terms_at s next (number + 1) left k l z count ≡ totalled z count (terms_from k l (number + 1) left (drop next s))

  abbrev after_term : ℕ → ℕ → List ℕ → Term → Judged (List Term)
  after_term number left rest t = and_then (terms_from k l (number + 1) left rest) (λ ts. taken (t ∷ ts))

  abbrev sizes : ℕ → ℕ → ℕ → ℕ → ℕ → Answer
  sizes number left z more next = terms_at s next (number + 1) left k l (z + more) count

  terms-line : (at number left z : ℕ) (ns rest : List ℕ) → at < length s → line_on (drop at s) ≡ line ns rest → 2 ≤ length ns → Later number left
      → on_size (term_line_at s at k l) number (sizes number left z) ≡ totalled z count (and_then (term_of k l number ns) (after_term number left rest))
  terms-line at number left z [] rest inside e two later = absurd (omega arith)
  terms-line at number left z (n ∷ []) rest inside e two later = absurd (omega arith)
  terms-line at number left z (scale ∷ boys ∷ ps) rest inside e two later =
      let t = term_on scale boys ps in
      let next = length s - length rest in
      tested (term_keeps k l t)
      (λ y.
      rw (line_kept s at k l scale boys ps rest inside small e y, y)
      (later next (z + length (term_bytes t))
      ∙ ap (λ (x : List ℕ). totalled (z + length (term_bytes t)) count (terms_from k l (number + 1) left x)) (line-rest s at (scale ∷ boys ∷ ps) rest inside e)
      ∙ totalled_more z count t (terms_from k l (number + 1) left rest)))
      (λ y. rw (line-not-kept s at k l scale boys ps rest inside small e y, y))

  terms-step : (at number left z : ℕ) (x : Line) → at < length s → line_on (drop at s) ≡ x → Later number left
      → on_size (term_line_at s at k l) number (sizes number left z) ≡ totalled z count (on_line other_count x number (λ ns rest. and_then (term_of k l number ns) (after_term number left rest)))
  terms-step at number left z (line ns rest) inside e later =
      tested (leb 2 (length ns))
      (λ y. rw y (terms-line at number left z ns rest inside e (leb-true 2 (length ns) y) later))
      (λ y.
      let short : size.Refused LineShape ≡ term_line_at s at k l = line-short s at l (length ns) (length s - length rest) k (shape_at s at) inside refl (shape-line s at ns rest e) (leb-false 2 (length ns) y) in
      rw (y, ← short))
  terms-step at number left z broken inside e later =
      let none : size.Refused LineShape ≡ term_line_at s at k l = line-broken s at l k (shape_at s at) inside refl (shape-broken s at e) in
      rw (← none)

  terms-end : (at number z : ℕ) (x : Line) → at < length s → line_on (drop at s) ≡ x
      → end_at s at number z count ≡ totalled z count (on_line other_count x number (λ ns rest. refused LineNumbers number))
  terms-end at number z (line ns rest) inside e =
      tested (leb 2 (length ns))
      (λ y. rw y (sym (end-many s at number z count (length ns) (length s - length rest) (shape_at s at) inside refl (shape-line s at ns rest e) (leb-true 2 (length ns) y))))
      (λ y. rw y (sym (end_short s at number z count (length ns) (length s - length rest) (shape_at s at) inside refl (shape-line s at ns rest e) (leb-false 2 (length ns) y))))
  terms-end at number z broken inside e = sym (end-broken s at number z count (shape_at s at) inside refl (shape-broken s at e))

  from_end : (at number : ℕ) → at < length s → terms_from k l number 0 (drop at s) ≡ on_line other_count (line_on (drop at s)) number (λ ns rest. refused LineNumbers number)
  unfolding terms_from
  from_end at number inside =
      let c = drop-cons s at 0 inside in
      ap (terms_from k l number 0) c ∙ ap (λ (x : List ℕ). on_line {A = List Term} other_count (line_on x) number (λ ns rest. refused LineNumbers number)) (sym c)

  from-line : (at number left : ℕ) → at < length s → terms_from k l number (suc left) (drop at s) ≡ on_line other_count (line_on (drop at s)) number (λ ns rest. and_then (term_of k l number ns) (after_term number left rest))
  unfolding terms_from
  from-line at number left inside =
      let c = drop-cons s at 0 inside in
      ap (terms_from k l number (suc left)) c ∙ ap (λ (x : List ℕ). on_line other_count (line_on x) number (λ ns rest. and_then (term_of k l number ns) (after_term number left rest))) (sym c)

  -- the lines of the terms by places say what their numbers say
  pub terms-stand : (left at number z : ℕ) → terms_at s at number left k l z count ≡ totalled z count (terms_from k l number left (drop at s))
  unfolding terms_at terms_from terms_bytes
  terms-stand zero at number z =
      tested (ltb at (length s))
      (λ y.
      let inside = ltb-true at (length s) y in
      terms-end at number z (line_on (drop at s)) inside refl ∙ ap (totalled z count) (sym (from_end at number inside)))
      (λ y.
      let past = ltb-false at (length s) y in
      rw (drop_of_length-le s past) (sym (end-right s at number z count past) ∙ ap (λ (n : ℕ). imported.Roll n count) (omega arith)))
  terms-stand (suc left) at number z =
      tested (ltb at (length s))
      (λ y.
      let inside = ltb-true at (length s) y in
      terms-step at number left z (line_on (drop at s)) inside refl (λ next z. terms-stand left next (number + 1) z) ∙ ap (totalled z count) (sym (from-line at number left inside)))
      (λ y.
      let past = ltb-false at (length s) y in
      let missing : size.Refused LineNumbers ≡ term_line_at s at k l = line-missing s at l k past in
      rw (drop_of_length-le s past, ← missing))
