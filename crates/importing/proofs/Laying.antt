-- What is written of a text that imports is the writing of its roll; and the answers of `import`.
use Prim.Native.Nat.{ℕ, suc, ◌+◌, ◌*◌, ◌-◌, ◌≤◌, ◌<◌}
use mathlib.Core.Path.{◌≡◌, refl, sym, ap, ◌∙◌}
use mathlib.Core.Bool.{true}
use mathlib.Core.List.{List, [], ◌∷◌, ◌++◌, append_assoc, append-nil}
use native.Mathlib.Omega.{arith}
use borrow.Author.Tests.{lt-ltb, le-ltb, le-leb, lt-leb}
use lib.Dec.{leb}
use lib.ListN.{length, drop}
use lib.Seq.{sets}
use Rattle.laws.specs.Total.{total}
use Rattle.laws.proofs.Cases.{clash}
use Rattle.laws.proofs.Parts.{room-placed}
use Rattle.kind.specs.Limits.{most_order, table_places}
use Rattle.kind.specs.Kinds.{number_of, table_of}
use Rattle.kind.specs.declared.Kind.{Kind}
use Rattle.kind.proofs.Within.{number-within, table-within}
use Rattle.number.specs.Numbers.{bytes_of}
use Rattle.term.specs.Terms.{Term}
use Rattle.roll.specs.Bytes.{numbers_bytes, term_bytes, terms_bytes, roll_bytes}
use Rattle.roll.specs.Reading.{Roll}
use Rattle.roll.specs.Fits.{CentresFit, Below, TermFits, TermsFit, RollFits}
use Rattle.roll.proofs.Back.{most-boys}
use Rattle.exporting.specs.Text.{head_numbers, term_numbers, term_lines, text_of}
use Rattle.importing.specs.declared.Imported.{Imported}
use Rattle.importing.specs.declared.ImportFault.{ImportFault}
use Rattle.importing.specs.Answer.{Answer}
use Rattle.importing.specs.Answer as imported
use Rattle.importing.specs.Lines.{line, line_on}
use Rattle.importing.specs.Import.{Judged, taken, refused, roll_of, imported_of, imported_out, ImportTold}
use Rattle.importing.specs.inner.Places.{most_word, copied_at, past_at, further, term_put, terms_put, roll_put, measured}
use Rattle.importing.proofs.Standing.{standing, line-inside, line-back, next_place, stands-next, stands-in}
use Rattle.importing.proofs.Numbers.{orders-room, prefactors-most}
use Rattle.importing.proofs.Keeping.{shape-line, line-rest}
use Rattle.importing.proofs.Answers.{centres-length}
use Rattle.importing.proofs.Trips.{import-export}
use Rattle.importing.proofs.Parts.{roll-both}
use Rattle.std.specs.Prelude.{Ok, Err}
use Rattle.kind.specs.declared.refusals.Refusal.TheVariants.{StartBeyondEnd, NoRoom}

-- ---- numbers of 32 bits

abbrev Words : List ℕ → Type 0
Words ns = Below 4294967296 ns

words_more : (ns ms : List ℕ) → Words ns → Words ms → Words (ns ++ ms)
words_more [] ms a b = b
words_more (n ∷ ns) ms a b = (a.0, words_more ns ms a.1 b)

words-below : (table : ℕ) (ps : List ℕ) → table ≤ table_places → Below table ps → Words ps
words-below table [] few b = tt
words-below table (p ∷ ps) few b = let under : p < table = b.0 in (omega arith, words-below table ps few b.1)

words-orders : (os : List ℕ) → CentresFit os → Words os
words-orders [] f = tt
words-orders (x ∷ []) f = absurd f
words-orders (x ∷ y ∷ []) f = absurd f
words-orders (x ∷ y ∷ z ∷ os) f = let sum : x + y + z ≤ most_order = f.0 in (omega arith, (omega arith, (omega arith, words-orders os f.1)))

record CopiedNumbers (s : List ℕ) (at : ℕ) (ns ms rest : List ℕ) : Type 0 where
  pub bytes : copied_at s at (length ns) ≡ numbers_bytes ns
  pub after : drop (past_at s at (length ns)) s ≡ standing ms ++ rest

copied-stands : (ns ms s : List ℕ) (at : ℕ) (rest : List ℕ) → Words ns → drop at s ≡ standing (ns ++ ms) ++ rest → CopiedNumbers s at ns ms rest
unfolding copied_at past_at numbers_bytes
copied-stands [] ms s at rest w stands = record { bytes = refl; after = stands }
copied-stands (n ∷ ns) ms s at rest w stands =
    let under : n < 4294967296 = w.0 in
    let read = stands-in s at n (ns ++ ms) rest stands 0 most_word (omega arith) (omega arith) (omega arith) in
    let c = copied-stands ns ms s (next_place at n) rest w.1 (stands-next s at n (ns ++ ms) rest stands) in
    record { bytes = rw read (ap (λ (l : List ℕ). bytes_of n ++ l) c.bytes); after = rw read c.after }

copied_all : (ns s : List ℕ) (at : ℕ) (rest : List ℕ) → Words ns → drop at s ≡ standing ns ++ rest → copied_at s at (length ns) ≡ numbers_bytes ns
copied_all ns s at rest w stands = (copied-stands ns [] s at rest w (stands ∙ ap (λ (l : List ℕ). standing l ++ rest) (sym (append-nil ns)))).bytes

-- ---- a term, the terms

term-laid : (k : Kind) (l : ℕ) (t : Term) (s : List ℕ) (at : ℕ) (rest : List ℕ) → l ≤ 100 → TermFits k l t → drop at s ≡ standing (term_numbers t) ++ rest
    → term_put s at (length (term_numbers t)) ≡ term_bytes t
unfolding term_put term_bytes numbers_bytes
term-laid k l t s at rest small f stands =
    let ps = t.prefactors in
    let scale = f.scale in
    let boys = f.boys in
    let count = f.count in
    let few = most-boys k l in
    let most = prefactors-most k l in
    let c = copied-stands (t.scale ∷ t.boys ∷ []) ps s at rest (omega arith, (omega arith, tt)) stands in
    let n : further (suc (suc (length ps))) ≡ length ps = omega arith in
    let after = copied_all ps s (past_at s at 2) rest (words-below (table_of k) ps (table-within k) f.prefactors) c.after in
    rw (n, c.bytes, after)
    (append_assoc (bytes_of t.scale) (bytes_of t.boys ++ []) (bytes_of (length ps) ++ numbers_bytes ps)
    ∙ ap (λ (l : List ℕ). bytes_of t.scale ++ l) (append_assoc (bytes_of t.boys) [] (bytes_of (length ps) ++ numbers_bytes ps)))

terms-laid : (ts : List Term) (k : Kind) (l : ℕ) (s : List ℕ) (at : ℕ) → l ≤ 100 → TermsFit k l ts → drop at s ≡ term_lines ts → terms_put s at (length ts) ≡ terms_bytes ts
unfolding terms_put terms_bytes term_lines
terms-laid [] k l s at small fit e = refl
terms-laid (t ∷ ts) k l s at small fit e =
    let inside = line-inside s at t.scale (t.boys ∷ t.prefactors) (term_lines ts) e in
    let read : line_on (drop at s) ≡ line (term_numbers t) (term_lines ts) = ap line_on e ∙ line-back t.scale (t.boys ∷ t.prefactors) (term_lines ts) in
    let is = shape-line s at (term_numbers t) (term_lines ts) read in
    let next = line-rest s at (term_numbers t) (term_lines ts) inside read in
    rw (is, term-laid k l t s at (term_lines ts) small fit.0 e, terms-laid ts k l s (length s - length (term_lines ts)) small fit.1 next)

-- ---- the roll

numbers-append : (xs ys : List ℕ) → numbers_bytes (xs ++ ys) ≡ numbers_bytes xs ++ numbers_bytes ys
unfolding numbers_bytes
numbers-append [] ys = refl
numbers-append (x ∷ xs) ys = ap (λ (l : List ℕ). bytes_of x ++ l) (numbers-append xs ys) ∙ sym (append_assoc (bytes_of x) (numbers_bytes xs) (numbers_bytes ys))

head_bytes : (k : Kind) (os ts : List ℕ) (count : ℕ) → numbers_bytes (head_numbers k os count) ++ ts ≡ bytes_of (number_of k) ++ (numbers_bytes os ++ (bytes_of count ++ ts))
unfolding numbers_bytes
head_bytes k os ts count =
    append_assoc (bytes_of (number_of k)) (numbers_bytes (os ++ (count ∷ []))) ts
    ∙ ap (λ (l : List ℕ). bytes_of (number_of k) ++ (l ++ ts)) (numbers-append os (count ∷ []) ∙ ap (λ (l : List ℕ). numbers_bytes os ++ l) (append-nil (bytes_of count)))
    ∙ ap (λ (l : List ℕ). bytes_of (number_of k) ++ l) (append_assoc (numbers_bytes os) (bytes_of count) ts)

roll-laid : (s : List ℕ) (r : Roll) → RollFits r → s ≡ text_of r → roll_put s (length r.terms) ≡ roll_bytes r.kind r.orders r.terms
unfolding roll_put roll_bytes text_of
roll-laid s r f e =
    let numbers = head_numbers r.kind r.orders (length r.terms) in
    let lines = term_lines r.terms in
    let inside = line-inside s 0 (number_of r.kind) (r.orders ++ (length r.terms ∷ [])) lines e in
    let read : line_on s ≡ line numbers lines = ap line_on e ∙ line-back (number_of r.kind) (r.orders ++ (length r.terms ∷ [])) lines in
    let is = shape-line s 0 numbers lines read in
    let next = line-rest s 0 numbers lines inside read in
    let few : total r.orders ≤ 2 * length r.orders = (centres-length r.orders f.sums).1 in
    let small : total r.orders ≤ 100 = omega (arith, few, orders-room r.kind (length r.orders) f.places) in
    let kind = number-within r.kind in
    let most = f.most in
    let words : Words numbers = (omega arith, words_more r.orders (length r.terms ∷ []) (words-orders r.orders f.sums) (omega arith, tt)) in
    rw (is, copied_all numbers s 0 lines words e, terms-laid r.terms r.kind (total r.orders) s (length s - length lines) small f.terms next)
    (head_bytes r.kind r.orders (terms_bytes r.terms) (length r.terms))

-- ---- the answers

record Measured (s : List ℕ) (n terms : ℕ) : Type 0 where
  pub roll : Roll
  pub is : roll_of s ≡ taken roll
  pub long : length (roll_bytes roll.kind roll.orders roll.terms) ≡ n
  pub count : length roll.terms ≡ terms

measured-is : (s : List ℕ) (n terms : ℕ) → imported.Roll n terms ≡ measured (roll_of s) → Measured s n terms
measured-is s n terms e = by (roll_of s) refl e
  where
    by : (j : Judged Roll) → roll_of s ≡ j → imported.Roll n terms ≡ measured j → Measured s n terms
    by (taken r) is e = let both = roll-both e in record { roll = r; is = is; long = sym both.0; count = sym both.1 }
    by (refused x y) is e = absurd (clash (cc))

laid-bytes : (s : List ℕ) (n terms : ℕ) (m : Measured s n terms) → roll_put s terms ≡ roll_bytes m.roll.kind m.roll.orders m.roll.terms
laid-bytes s n terms m =
    let t = import-export s m.roll m.is in
    ap (roll_put s) (sym m.count) ∙ roll-laid s m.roll t.fits t.text

pub lay-beyond : (s out : List ℕ) (n terms start : ℕ) → imported.Roll n terms ≡ measured (roll_of s) → length out < start → ImportTold s out start (imported.Refused StartBeyondEnd 0) out
unfolding imported_of imported_out
lay-beyond s out n terms start e beyond =
    let m = measured-is s n terms e in
    let size = length (roll_bytes m.roll.kind m.roll.orders m.roll.terms) in
    record {
      answer = rw (m.is, lt-ltb (length out) start beyond);
      out = rw (m.is, lt-leb (start + size) (length out) (omega arith));
    }

pub lay-full : (s out : List ℕ) (n terms start : ℕ) → imported.Roll n terms ≡ measured (roll_of s) → start ≤ length out → length out - start < n → ImportTold s out start (imported.Refused NoRoom 0) out
unfolding imported_of imported_out
lay-full s out n terms start e inside full =
    let m = measured-is s n terms e in
    let size = length (roll_bytes m.roll.kind m.roll.orders m.roll.terms) in
    let long : size ≡ n = m.long in
    record {
      answer = rw (m.is, le-ltb (length out) start inside, lt-ltb (length out) (start + size) (omega arith));
      out = rw (m.is, lt-leb (start + size) (length out) (omega arith));
    }

pub lay-room : (s out : List ℕ) (n terms start : ℕ) → imported.Roll n terms ≡ measured (roll_of s) → start ≤ length out → n ≤ length out - start → start + length (roll_put s terms) ≤ length out
lay-room s out n terms start e inside room =
    let m = measured-is s n terms e in
    omega (arith, ap length (laid-bytes s n terms m), m.long)

pub lay-told : (s out after : List ℕ) (n terms start : ℕ) → imported.Roll n terms ≡ measured (roll_of s) → start ≤ length out → n ≤ length out - start → after ≡ sets out start (roll_put s terms)
    → ImportTold s out start (imported.Roll n terms) after
unfolding imported_of imported_out
lay-told s out after n terms start e inside room put =
    let m = measured-is s n terms e in
    let bytes = roll_bytes m.roll.kind m.roll.orders m.roll.terms in
    let long : length bytes ≡ n = m.long in
    let fits : leb (start + length bytes) (length out) ≡ true = le-leb (start + length bytes) (length out) (omega arith) in
    record {
      answer = rw (m.is, le-ltb (length out) start inside, le-ltb (length out) (start + length bytes) (omega arith)) (ap (λ (x : ℕ). imported.Roll x terms) (sym long) ∙ ap (imported.Roll (length bytes)) (sym m.count));
      out = put ∙ ap (sets out start) (laid-bytes s n terms m) ∙ room-placed bytes out start fits ∙ rw m.is;
    }

pub import-refused : (s out : List ℕ) (start : ℕ) (why : ImportFault) (q : Answer) → q ≡ measured (roll_of s) → q ≡ Err why → ImportTold s out start (Err why) out
unfolding imported_of imported_out
import-refused s out start why q is made = by (roll_of s) refl
  where
    by : (j : Judged Roll) → roll_of s ≡ j → ImportTold s out start (Err why) out
    by (taken r) e = absurd (clash (let g : Err why ≡ measured (taken r) = sym made ∙ is ∙ ap measured e in cc g))
    by (refused x y) e =
        let g : Err why ≡ imported.Refused x y = sym made ∙ is ∙ ap measured e in
        record { answer = rw e g; out = rw e }

pub import-laid : (s : List ℕ) (roll : Imported) (q : Answer) → q ≡ measured (roll_of s) → q ≡ Ok roll → Ok roll ≡ measured (roll_of s)
import-laid s roll q is made = sym made ∙ is
