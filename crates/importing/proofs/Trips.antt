-- There and back: a text that imports is the export's text of its roll, which keeps the reader's limits; and the text of every such roll imports as it.
use Prim.Native.Nat.{ℕ, zero, suc, ◌+◌, ◌≤◌}
use mathlib.Core.Path.{◌≡◌, refl, sym, ap, ◌∙◌}
use mathlib.Core.Bool.{Bool, true, false, cond, ◌&&◌}
use mathlib.Core.List.{List, [], ◌∷◌, ◌++◌}
use native.Mathlib.Omega.{arith}
use borrow.Author.Tests.{le-leb, le-ltb, eq-eqb, leb-true, eqb-true}
use lib.Dec.{leb, eqb}
use lib.ListN.{length, get_or, take, length-append}
use lib.Seq.{take-append_seam, get_or-append_seam}
use Rattle.laws.specs.Total.{total}
use Rattle.laws.specs.Placed.{placed}
use Rattle.laws.proofs.Cases.{clash, tested, and_left, and_right}
use Rattle.kind.specs.Limits.{most_terms}
use Rattle.kind.specs.Kinds.{kind_of, number_of, orders_of}
use Rattle.kind.specs.declared.Kind.{Kind}
use Rattle.kind.specs.declared.Kind.TheVariants.{Overlap, Kinetic, Nuclear, Moment, Coulomb}
use Rattle.kind.proofs.KindNumber.{kind-number, number-kind}
use Rattle.term.specs.Terms.{Term}
use Rattle.roll.specs.Bytes.{roll_bytes}
use Rattle.number.specs.Numbers.{Bytes}
use Rattle.roll.specs.Reading.{got, roll_at, Header, Roll}
use Rattle.roll.proofs.Back.{roll-back}
use Rattle.roll.proofs.Written.{roll-read}
use Rattle.roll.specs.Fits.{CentresFit, TermFits, TermsFit, RollFits}
use Rattle.exporting.specs.Text.{line_of, head_numbers, term_numbers, term_lines, text_of}
use Rattle.importing.specs.Answer as imported
use Rattle.importing.specs.Lines.{Line, line, broken, line_from, line_on}
use Rattle.importing.specs.Import.{Judged, taken, refused, and_then, first_count, other_count, on_line, centres_keep, head_keeps, head_as, head_of, term_keeps, term_of, terms_from, roll_of, imported_of, imported_out}
use Rattle.importing.specs.Wrong.{HeadFits}
use Rattle.importing.proofs.Standing.{line_reads, line-back}
use Rattle.importing.proofs.Keeping.{keeps-fits, fits-keeps}
use Rattle.importing.proofs.FirstLines.{centres-fit, fit-centres, split-last}
use Rattle.std.specs.Prelude.{Option, Some, None}
use Rattle.kind.specs.declared.refusals.Refusal.TheVariants.{LineShape, LineNumbers}

-- ---- what was taken

taken-same : {A : Type 0} (x y : A) → taken x ≡ taken y → x ≡ y
taken-same x y e = cc

pub and_then-taken : {A B : Type 0} (j : Judged A) (f : A → Judged B) (x : B) → and_then j f ≡ taken x → (a : A) × (j ≡ taken a) × (f a ≡ taken x)
and_then-taken (taken a) f x e = (a, refl, e)
and_then-taken (refused r n) f x e = absurd (clash (cc))

record LineTaken {A : Type 0} (right : ℕ → Bool) (l : Line) (judge : List ℕ → List ℕ → Judged A) (x : A) : Type 0 where
  pub ns : List ℕ
  pub rest : List ℕ
  pub is : l ≡ line ns rest
  pub shaped : right (length ns) ≡ true
  pub judged : judge ns rest ≡ taken x

line_taken : {A : Type 0} (right : ℕ → Bool) (l : Line) (at : ℕ) (judge : List ℕ → List ℕ → Judged A) (x : A) → on_line right l at judge ≡ taken x → LineTaken right l judge x
line_taken right (line ns rest) at judge x e =
    tested (right (length ns))
    (λ y. record { ns = ns; rest = rest; is = refl; shaped = y; judged = rw y at e })
    (λ y. absurd (clash (let g : refused LineShape at ≡ taken x = rw y at e in cc)))
line_taken right broken at judge x e = absurd (clash (cc))

-- ---- a first line

pub record HeadTaken (ns : List ℕ) (h : Header) : Type 0 where
  pub keeps : head_keeps h ≡ true
  pub numbers : ns ≡ head_numbers h.kind h.orders h.terms

head-named : (m : Option Kind) (n : ℕ) (ns : List ℕ) (h : Header) → kind_of n ≡ m → head_as m ns ≡ taken h → HeadTaken (n ∷ ns) h
head-named None n ns h is e = absurd (clash (cc e))
head-named (Some k) n ns h is e = by (eqb (length ns) (orders_of k + 1) && head_keeps made) refl e
  where
    made : Header
    made = record { kind = k; orders = take (orders_of k) ns; terms = get_or ns (orders_of k) 0 }

    by : (b : Bool) → (eqb (length ns) (orders_of k + 1) && head_keeps made) ≡ b → cond b (taken made) (refused LineNumbers 1) ≡ taken h → HeadTaken (n ∷ ns) h
    by true y e =
        let same : made ≡ h = taken-same made h e in
        let long : length ns ≡ orders_of k + 1 = eqb-true (length ns) (orders_of k + 1) (and_left (eqb (length ns) (orders_of k + 1)) (head_keeps made) y) in
        let number : n ≡ number_of k = number-kind n k is in
        rw (← same) (record { keeps = and_right (eqb (length ns) (orders_of k + 1)) (head_keeps made) y; numbers = rw number (ap (λ (l : List ℕ). number_of k ∷ l) (split-last (orders_of k) ns long)) })
    by false y e = absurd (clash (cc e))

pub head-taken : (ns : List ℕ) (h : Header) → head_of ns ≡ taken h → HeadTaken ns h
head-taken [] h e = absurd (clash (cc e))
head-taken (n ∷ ns) h e = head-named (kind_of n) n ns h refl e

pub head-fits : (h : Header) → head_keeps h ≡ true → HeadFits h
unfolding head_keeps
head-fits h e =
    let counts = leb 1 h.terms && leb h.terms most_terms in
    let rest = and_right (eqb (length h.orders) (orders_of h.kind)) (centres_keep h.orders && counts) e in
    let count = and_right (centres_keep h.orders) counts rest in
    record {
      places = eqb-true (length h.orders) (orders_of h.kind) (and_left (eqb (length h.orders) (orders_of h.kind)) (centres_keep h.orders && counts) e);
      sums = centres-fit h.orders (and_left (centres_keep h.orders) counts rest);
      some = leb-true 1 h.terms (and_left (leb 1 h.terms) (leb h.terms most_terms) count);
      most = leb-true h.terms most_terms (and_right (leb 1 h.terms) (leb h.terms most_terms) count);
    }

-- ---- a term's line

pub record TermTaken (k : Kind) (l : ℕ) (ns : List ℕ) (t : Term) : Type 0 where
  pub fits : TermFits k l t
  pub numbers : ns ≡ term_numbers t

pub term-taken : (k : Kind) (l at : ℕ) (ns : List ℕ) (t : Term) → term_of k l at ns ≡ taken t → TermTaken k l ns t
term-taken k l at [] t e = absurd (clash (cc e))
term-taken k l at (n ∷ []) t e = absurd (clash (cc e))
term-taken k l at (scale ∷ boys ∷ ps) t e = by (term_keeps k l made) refl e
  where
    made : Term
    made = record { scale = scale; boys = boys; prefactors = ps }

    by : (b : Bool) → term_keeps k l made ≡ b → cond b (taken made) (refused LineNumbers at) ≡ taken t → TermTaken k l (scale ∷ boys ∷ ps) t
    by true y e = let same : made ≡ t = taken-same made t e in rw (← same) (record { fits = keeps-fits k l made y; numbers = refl })
    by false y e = absurd (clash (cc e))

-- ---- the lines of the terms

pub record TermsTaken (k : Kind) (l left : ℕ) (s : List ℕ) (ts : List Term) : Type 0 where
  pub count : length ts ≡ left
  pub fit : TermsFit k l ts
  pub text : s ≡ term_lines ts

terms-none : (k : Kind) (l at : ℕ) (s : List ℕ) (ts : List Term) → terms_from k l at 0 s ≡ taken ts → TermsTaken k l 0 s ts
unfolding terms_from term_lines
terms-none k l at [] ts e = let none : [] ≡ ts = taken-same [] ts e in rw (← none) (record { count = refl; fit = tt; text = refl })
terms-none k l at (b ∷ s) ts e =
    let x = line_taken other_count (line_on (b ∷ s)) at (λ ns rest. refused LineNumbers at) ts e in
    absurd (clash (cc x.judged))

pub terms-taken : (left : ℕ) (k : Kind) (l at : ℕ) (s : List ℕ) (ts : List Term) → terms_from k l at left s ≡ taken ts → TermsTaken k l left s ts
unfolding terms_from term_lines
terms-taken zero k l at s ts e = terms-none k l at s ts e
terms-taken (suc left) k l at [] ts e = absurd (clash (cc e))
terms-taken (suc left) k l at (b ∷ s) ts e =
    let x = line_taken other_count (line_on (b ∷ s)) at (λ ns rest. and_then (term_of k l at ns) (λ t. and_then (terms_from k l (at + 1) left rest) (λ ts. taken (t ∷ ts)))) ts e in
    let a = and_then-taken (term_of k l at x.ns) (λ t. and_then (terms_from k l (at + 1) left x.rest) (λ ts. taken (t ∷ ts))) ts x.judged in
    let c = and_then-taken (terms_from k l (at + 1) left x.rest) (λ ts. taken (a.0 ∷ ts)) ts a.2 in
    let t = term-taken k l at x.ns a.0 a.1 in
    let r = terms-taken left k l (at + 1) x.rest c.0 c.1 in
    let made : a.0 ∷ c.0 ≡ ts = taken-same (a.0 ∷ c.0) ts c.2 in
    let first = line_reads (b ∷ s) x.ns x.rest x.is in
    rw (← made)
    (record {
      count = ap suc r.count;
      fit = (t.fits, r.fit);
      text = first.text ∙ ap (λ (l : List ℕ). line_of l ++ x.rest) t.numbers ∙ ap (λ (l : List ℕ). line_of (term_numbers a.0) ++ l) r.text;
    })

-- ---- the roll

pub record RollTaken (s : List ℕ) (r : Roll) : Type 0 where
  pub fits : RollFits r
  pub text : s ≡ text_of r

-- a text that imports is the export's text of the roll that it gives
pub import-export : (s : List ℕ) (r : Roll) → roll_of s ≡ taken r → RollTaken s r
unfolding roll_of text_of
import-export s r e =
    let x = line_taken first_count (line_on s) 1 (λ ns rest. and_then (head_of ns) (λ h. and_then (terms_from h.kind (total h.orders) 2 h.terms rest) (λ ts. taken (record { kind = h.kind; orders = h.orders; terms = ts })))) r e in
    let a = and_then-taken (head_of x.ns) (λ h. and_then (terms_from h.kind (total h.orders) 2 h.terms x.rest) (λ ts. taken (record { kind = h.kind; orders = h.orders; terms = ts }))) r x.judged in
    let h = a.0 in
    let c = and_then-taken (terms_from h.kind (total h.orders) 2 h.terms x.rest) (λ ts. taken (record { kind = h.kind; orders = h.orders; terms = ts })) r a.2 in
    let made : record { kind = h.kind; orders = h.orders; terms = c.0 } ≡ r = taken-same (record { kind = h.kind; orders = h.orders; terms = c.0 }) r c.2 in
    let head = head-taken x.ns h a.1 in
    let hf = head-fits h head.keeps in
    let ts = terms-taken h.terms h.kind (total h.orders) 2 x.rest c.0 c.1 in
    let first = line_reads s x.ns x.rest x.is in
    let some = hf.some in
    let most = hf.most in
    rw (← made)
    (record {
      fits = record { places = hf.places; sums = hf.sums; terms-least = omega (arith, ts.count); most = omega (arith, ts.count); terms = ts.fit };
      text = first.text
          ∙ ap (λ (l : List ℕ). line_of l ++ x.rest) (head.numbers ∙ ap (head_numbers h.kind h.orders) (sym ts.count))
          ∙ ap (λ (l : List ℕ). line_of (head_numbers h.kind h.orders (length c.0)) ++ l) ts.text;
    })

-- ---- back

pub term-back : (k : Kind) (l at : ℕ) (t : Term) → TermFits k l t → term_of k l at (term_numbers t) ≡ taken t
term-back k l at t f = rw (fits-keeps k l t f)

no_line : (ns rest : List ℕ) → line ns rest ≡ line_on [] → ⊥
unfolding line_from
no_line ns rest e = clash (cc e)

line-there : (n : ℕ) (ns rest : List ℕ) → (b : ℕ) × (s : List ℕ) × (line_of (n ∷ ns) ++ rest ≡ b ∷ s)
line-there n ns rest = by (line_of (n ∷ ns) ++ rest) refl
  where
    by : (t : List ℕ) → line_of (n ∷ ns) ++ rest ≡ t → (b : ℕ) × (s : List ℕ) × (line_of (n ∷ ns) ++ rest ≡ b ∷ s)
    by [] e = absurd (no_line (n ∷ ns) rest (sym (line-back n ns rest) ∙ ap line_on e))
    by (b ∷ s) e = (b, s, e)

pub terms-back : (ts : List Term) (k : Kind) (l at : ℕ) → TermsFit k l ts → terms_from k l at (length ts) (term_lines ts) ≡ taken ts
unfolding terms_from term_lines
terms-back [] k l at fit = refl
terms-back (t ∷ ts) k l at fit =
    let c = line-there t.scale (t.boys ∷ t.prefactors) (term_lines ts) in
    let read : line_on (c.0 ∷ c.1) ≡ line (term_numbers t) (term_lines ts) = ap line_on (sym c.2) ∙ line-back t.scale (t.boys ∷ t.prefactors) (term_lines ts) in
    let two : leb 2 (length (term_numbers t)) ≡ true = le-leb 2 (length (term_numbers t)) (omega arith) in
    rw c.2 (rw (read, two, fits-keeps k l t fit.0, terms-back ts k l (at + 1) fit.1))

first_count_lem : (k : Kind) (n : ℕ) → n ≡ orders_of k + 2 → first_count n ≡ true
first_count_lem Overlap n e = rw e
first_count_lem Kinetic n e = rw e
first_count_lem Nuclear n e = rw e
first_count_lem Moment n e = rw e
first_count_lem Coulomb n e = rw e

pub head-back : (k : Kind) (os : List ℕ) (count : ℕ) → length os ≡ orders_of k → CentresFit os → 1 ≤ count → count ≤ most_terms
    → head_of (head_numbers k os count) ≡ taken (record { kind = k; orders = os; terms = count })
unfolding head_keeps
head-back k os count places sums some most =
    let long : length (os ++ (count ∷ [])) ≡ orders_of k + 1 = omega (arith, places, length-append os (count ∷ [])) in
    let orders : take (orders_of k) (os ++ (count ∷ [])) ≡ os = ap (λ (n : ℕ). take n (os ++ (count ∷ []))) (sym places) ∙ take-append_seam os (count ∷ []) in
    let last : get_or (os ++ (count ∷ [])) (orders_of k) 0 ≡ count = ap (λ (n : ℕ). get_or (os ++ (count ∷ [])) n 0) (sym places) ∙ get_or-append_seam os count [] 0 in
    rw (kind-number k)
    (rw (eq-eqb (length (os ++ (count ∷ []))) (orders_of k + 1) long, orders, last, eq-eqb (length os) (orders_of k) places, fit-centres os sums, le-leb 1 count some, le-leb count most_terms most))

-- the export's text of a roll that keeps the reader's limits imports as the roll
pub export-import : (r : Roll) → RollFits r → roll_of (text_of r) ≡ taken r
unfolding roll_of text_of
export-import r f =
    let numbers = r.orders ++ (length r.terms ∷ []) in
    let read = line-back (number_of r.kind) numbers (term_lines r.terms) in
    let long : suc (length numbers) ≡ orders_of r.kind + 2 = omega (arith, f.places, length-append r.orders (length r.terms ∷ [])) in
    rw (read, first_count_lem r.kind (suc (length numbers)) long)
    (rw (head-back r.kind r.orders (length r.terms) f.places f.sums f.terms-least f.most, terms-back r.terms r.kind (total r.orders) 2 f.terms))

-- ---- in bytes

abbrev bytes_of_roll : Roll → List ℕ
bytes_of_roll r = roll_bytes r.kind r.orders r.terms

pub record Imports (text bytes out : List ℕ) (start terms : ℕ) : Type 0 where
  pub answer : imported_of text out start ≡ imported.Roll (length bytes) terms
  pub holds : imported_out text out start ≡ placed out start bytes

-- every roll that reads: its text imports, where there is room, as the same bytes
pub same_bytes : (s : List ℕ) (r : Roll) (end : ℕ) (out : List ℕ) (start : ℕ) → Bytes s → roll_at s ≡ got r end → start + length s ≤ length out → Imports (text_of r) s out start (length r.terms)
unfolding imported_of imported_out
same_bytes s r end out start bytes reads room =
    let w = roll-read s r end bytes reads in
    let is = export-import r w.1 in
    let size : length s ≡ length (bytes_of_roll r) = ap length w.0 in
    let fits : leb (start + length (bytes_of_roll r)) (length out) ≡ true = le-leb (start + length (bytes_of_roll r)) (length out) (omega arith) in
    record {
      answer = rw (is, le-ltb (length out) start (omega arith), le-ltb (length out) (start + length (bytes_of_roll r)) (omega arith)) (ap (λ (n : ℕ). imported.Roll n (length r.terms)) (sym size));
      holds = rw (is, fits) (ap (placed out start) (sym w.0));
    }

-- so a text that imports is the only one of its roll
pub only-text : (s t : List ℕ) (r : Roll) → roll_of s ≡ taken r → roll_of t ≡ taken r → s ≡ t
only-text s t r a b = (import-export s r a).text ∙ sym (import-export t r b).text

-- import then export: the bytes written read as the roll whose text the text is
pub same_text : (s : List ℕ) (r : Roll) → roll_of s ≡ taken r → (roll_at (bytes_of_roll r) ≡ got r (length (bytes_of_roll r))) × (s ≡ text_of r)
same_text s r e = let t = import-export s r e in (roll-back r t.fits, t.text)
