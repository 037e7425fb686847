-- The functions of src/over.rt: going over terms says what reading them says; a law for each way out, and that both are one.
use Prim.Native.Nat.{ℕ, zero, suc, zero-le, ◌+◌, ◌-◌, ◌≤◌, ◌<◌}
use mathlib.Core.Path.{◌≡◌, refl, sym, ap, ◌∙◌}
use mathlib.Core.Bool.{Bool, true, false, true≢false, cond}
use mathlib.Core.List.{List, [], ◌∷◌}
use native.Mathlib.Omega.{arith}
use native.Mathlib.Nat.{le_refl}
use borrow.Author.Tests.{eq-eqb, ne_eqb, eqb-true, eqb-false, ltb-true}
use lib.Dec.{eqb}
use lib.ListN.{length, get_or}
use Rattle.kind.specs.Limits.{most_scale}
use Rattle.kind.specs.Kinds.{table_of, most_prefactors}
use Rattle.kind.specs.declared.Kind.{Kind}
use Rattle.term.specs.Terms.{Term}
use Rattle.number.specs.Numbers.{one_byte, read_at}
use Rattle.number.proofs.Reading.{read_one}
use Rattle.roll.specs.Field.{Field}
use Rattle.roll.specs.Field as field
use Rattle.roll.specs.declared.header.Opened.{Opened}
use Rattle.roll.specs.Reading.{Reading, got, refused, onward, and_then, before, within_at, prefactors_at, most_boys, count_at, boys_at, term_at, terms_at}
use Rattle.roll.specs.Header.{judged}
use Rattle.roll.specs.inner.Over.{SmallBytes, OneByteEach, over, over_then, count_over, boys_over, term_over, end_over, terms_then, terms_over, judged_over, over_of}
use Rattle.roll.proofs.FieldLaws.{within-is}
use Rattle.std.specs.Prelude.{⊤, Result, Ok, Err}
use Rattle.kind.specs.declared.refusals.Fault.{Fault}
use Rattle.roll.specs.Field.{fault}
use Rattle.kind.specs.declared.refusals.Refusal.TheVariants.{BadRoll}

-- ---- both are one

over-onward : {A : Type 0} (x : Field) (f : ℕ → ℕ → Reading A) → over (onward x f) ≡ over_then x (λ n next. over (f n next))
over-onward (field.Is n next) f = refl
over-onward (Err why) f = refl

over-kept : {A B : Type 0} (x : Reading A) (f : A → B) → over (and_then x (λ a end. got (f a) end)) ≡ over x
over-kept (got a next) f = refl
over-kept (refused r place) f = refl

-- the same with what follows
over-same : (x : Field) (f g : ℕ → ℕ → Result ℕ Fault) → ((n next : ℕ) → f n next ≡ g n next) → over_then x f ≡ over_then x g
over-same (field.Is n next) f g same = same n next
over-same (Err why) f g same = refl

count-over : (k : Kind) (l scale boys : ℕ) (s : List ℕ) (at : ℕ) → count_over s at (most_prefactors k l) (table_of k) ≡ over (count_at s at k l scale boys)
unfolding count_over count_at
count-over k l scale boys s at =
    sym (over-onward (within_at s at 0 (most_prefactors k l)) (λ count next. and_then (prefactors_at s next count (table_of k)) (λ ps end. got (record { scale = scale; boys = boys; prefactors = ps }) end))
    ∙ over-same (within_at s at 0 (most_prefactors k l)) (λ count next. over (and_then (prefactors_at s next count (table_of k)) (λ ps end. got (record { scale = scale; boys = boys; prefactors = ps }) end))) (λ count next. over (prefactors_at s next count (table_of k))) (λ count next. over-kept (prefactors_at s next count (table_of k)) (λ (ps : List ℕ). record { scale = scale; boys = boys; prefactors = ps })))

boys-over : (k : Kind) (l scale : ℕ) (s : List ℕ) (at : ℕ) → boys_over s at (most_boys k l) (most_prefactors k l) (table_of k) ≡ over (boys_at s at k l scale)
unfolding boys_over boys_at
boys-over k l scale s at =
    over-same (within_at s at 0 (most_boys k l)) (λ n next. count_over s next (most_prefactors k l) (table_of k)) (λ n next. over (count_at s next k l scale n)) (λ n next. count-over k l scale n s next)
    ∙ sym (over-onward (within_at s at 0 (most_boys k l)) (λ boys next. count_at s next k l scale boys))

term-over : (k : Kind) (l : ℕ) (s : List ℕ) (at : ℕ) → term_over s at (most_boys k l) (most_prefactors k l) (table_of k) ≡ over (term_at s at k l)
unfolding term_over term_at
term-over k l s at =
    over-same (within_at s at 1 most_scale) (λ n next. boys_over s next (most_boys k l) (most_prefactors k l) (table_of k)) (λ n next. over (boys_at s next k l n)) (λ n next. boys-over k l n s next)
    ∙ sym (over-onward (within_at s at 1 most_scale) (λ scale next. boys_at s next k l scale))

over-before : (t : Term) (r : Reading (List Term)) → over_of (before (t ∷ []) r) ≡ over_of r
over-before t (got ts end) = refl
over-before t (refused r place) = refl

over-end : (b : Bool) (at : ℕ) (x : Reading (List Term)) → x ≡ cond b (got [] at) (refused BadRoll at) → cond {A = Result ⊤ Fault} b (Ok tt) (Err (fault BadRoll at)) ≡ over_of x
over-end true at x is = rw is
over-end false at x is = rw is

-- one term, where the rest is known
one-over : (left boys most table : ℕ) (k : Kind) (l : ℕ) (s : List ℕ) (x : Reading Term) → ((next : ℕ) → terms_over s next left boys most table ≡ over_of (terms_at s next left k l)) → terms_then (over x) (λ next. terms_over s next left boys most table) ≡ over_of (and_then x (λ t next. before (t ∷ []) (terms_at s next left k l)))
one-over left boys most table k l s (got t next) rest = rest next ∙ sym (over-before t (terms_at s next left k l))
one-over left boys most table k l s (refused r place) rest = refl

pub terms-over : (left : ℕ) (k : Kind) (l : ℕ) (s : List ℕ) (at : ℕ) → terms_over s at left (most_boys k l) (most_prefactors k l) (table_of k) ≡ over_of (terms_at s at left k l)
unfolding terms_over terms_at
terms-over zero k l s at = over-end (eqb at (length s)) at (cond (eqb at (length s)) (got [] at) (refused BadRoll at)) refl
terms-over (suc left) k l s at =
    ap (λ (x : Result ℕ Fault). terms_then x (λ next. terms_over s next left (most_boys k l) (most_prefactors k l) (table_of k))) (term-over k l s at)
    ∙ one-over left (most_boys k l) (most_prefactors k l) (table_of k) k l s (term_at s at k l) (λ next. terms-over left k l s next)

pub judged-over : (o : Opened) (x : Reading (List Term)) → judged_over o (over_of x) ≡ judged (Ok o) x
judged-over o (got ts end) = refl
judged-over o (refused r place) = refl

-- ---- the loop over prefactors: what is left says what the whole says

pub record Passing (s : List ℕ) (at count table place i : ℕ) : Type 0 where
  pub inside : i ≤ count
  pub same : over (prefactors_at s place (count - i) table) ≡ over (prefactors_at s at count table)

pub passing-first : (s : List ℕ) (at count table : ℕ) → Passing s at count table at 0
passing-first s at count table = let all : count - 0 ≡ count = omega arith in record { inside = zero-le; same = rw all }

drop-first : (p : ℕ) (r : Reading (List ℕ)) → over (before (p ∷ []) r) ≡ over r
drop-first p (got ps next) = refl
drop-first p (refused r place) = refl

passing-turn : (s : List ℕ) (table place count i : ℕ) (x : Field) → i < count → x ≡ within_at s place 0 (table - 1) → over (prefactors_at s place (count - i) table) ≡ over_then x (λ n next. over (prefactors_at s next (count - (i + 1)) table))
unfolding prefactors_at
passing-turn s table place count i x some is = let less : count - i ≡ suc (count - (i + 1)) = omega arith in rw (less, ← is) (by x)
  where
    by : (x : Field) → over (onward x (λ p next. before (p ∷ []) (prefactors_at s next (count - (i + 1)) table))) ≡ over_then x (λ n next. over (prefactors_at s next (count - (i + 1)) table))
    by (field.Is p next) = drop-first p (prefactors_at s next (count - (i + 1)) table)
    by (Err why) = refl

pub passing-more : (s : List ℕ) (at count table place i last : ℕ) (x : Field) (n next : ℕ) → Passing s at count table place i → i < count → last ≡ table - 1 → x ≡ within_at s place 0 last → x ≡ field.Is n next → Passing s at count table next (i + 1)
passing-more s at count table place i last x n next p some size is e =
    record { inside = omega arith; same = sym (passing-turn s table place count i x some (is ∙ ap (within_at s place 0) size) ∙ ap (λ (y : Field). over_then y (λ n next. over (prefactors_at s next (count - (i + 1)) table))) e) ∙ p.same }

pub passing-refused : (s : List ℕ) (at count table place i last : ℕ) (x : Field) (why : Fault) → Passing s at count table place i → i < count → last ≡ table - 1 → x ≡ within_at s place 0 last → x ≡ Err why → Err why ≡ over (prefactors_at s at count table)
passing-refused s at count table place i last x why p some size is e =
    sym (passing-turn s table place count i x some (is ∙ ap (within_at s place 0) size) ∙ ap (λ (y : Field). over_then y (λ n next. over (prefactors_at s next (count - (i + 1)) table))) e) ∙ p.same

passing-none : (s : List ℕ) (table place left : ℕ) → left ≡ 0 → Ok place ≡ over (prefactors_at s place left table)
unfolding prefactors_at
passing-none s table place left none = rw none

pub passing-done : (s : List ℕ) (at count table place i : ℕ) → Passing s at count table place i → count ≤ i → Ok place ≡ over (prefactors_at s at count table)
passing-done s at count table place i p none = passing-none s table place (count - i) (omega arith) ∙ p.same

-- ---- prefactors of one byte each

byte-turn : (s : List ℕ) (at last b : ℕ) → at < length s → b ≡ get_or s at 0 → b ≤ last → one_byte last ≡ true → within_at s at 0 last ≡ field.Is b (at + 1)
byte-turn s at last b inside byte small limit = sym (within-is s at 0 last (read_at s at) b (at + 1) refl (sym (read_one s at b inside byte (omega (arith, ltb-true last 128 limit)))) (zero-le) small)

bytes-all : (count table : ℕ) (s : List ℕ) (at : ℕ) → OneByteEach s at count (table - 1) → over (prefactors_at s at count table) ≡ Ok (at + count)
unfolding prefactors_at
bytes-all zero table s at p = let same : at + 0 ≡ at = omega arith in rw same
bytes-all (suc count) table s at p =
    let room = p.inside in
    let here : at < length s = omega arith in
    let small : get_or s at 0 ≤ table - 1 = p.small.each at (omega arith) (omega arith) in
    let turn = byte-turn s at (table - 1) (get_or s at 0) here refl small p.in_one_byte in
    let rest : OneByteEach s (at + 1) count (table - 1) = record { in_one_byte = p.in_one_byte; inside = omega arith; small = record { each = λ i low high. p.small.each i (omega arith) (omega arith) } } in
    let end : at + 1 + count ≡ at + suc count = omega arith in
    rw turn (drop-first (get_or s at 0) (prefactors_at s (at + 1) count table) ∙ bytes-all count table s (at + 1) rest ∙ ap (λ (n : ℕ). Ok n) end)

pub bytes-went : (s : List ℕ) (at count table last : ℕ) (t : Bool) (y : ℕ) → last ≡ table - 1 → (t ≡ true → OneByteEach s at count last) → t ≡ true → y ≡ at + count → Ok y ≡ over (prefactors_at s at count table)
bytes-went s at count table last t y size is e answer = ap (λ (n : ℕ). Ok n) answer ∙ sym (bytes-all count table s at (rw size at (is e)))

pub bytes-room : (s : List ℕ) (at count last : ℕ) (t : Bool) → (t ≡ true → OneByteEach s at count last) → t ≡ true → at + count ≤ length s
bytes-room s at count last t is e = (is e).inside

pub not-one-byte-each : (s : List ℕ) (at count last : ℕ) → false ≡ true → OneByteEach s at count last
not-one-byte-each s at count last e = absurd (true≢false (sym e))

pub one-byte-each-is : (s : List ℕ) (at count last : ℕ) (one t : Bool) → at ≤ length s → count ≤ length s - at → one ≡ one_byte last → one ≡ true → (t ≡ true → SmallBytes s at (at + count) last) → t ≡ true → OneByteEach s at count last
one-byte-each-is s at count last one t here room test limit small e = record { in_one_byte = sym test ∙ limit; inside = omega arith; small = small e }

-- the loop over bytes
pub record Looking (s : List ℕ) (at end last place : ℕ) : Type 0 where
  pub from : at ≤ place
  pub small : SmallBytes s at place last

pub looking-first : (s : List ℕ) (at end last : ℕ) → Looking s at end last at
looking-first s at end last = record { from = le_refl at; small = record { each = λ i low high. absurd (omega arith) } }

pub looking-more : (s : List ℕ) (at end last place b : ℕ) → Looking s at end last place → b ≡ get_or s place 0 → b ≤ last → Looking s at end last (place + 1)
looking-more s at end last place b l byte small =
    record { from = omega (arith, l.from); small = record { each = λ i low high. by i low high (eqb i place) refl } }
  where
    by : (i : ℕ) → at ≤ i → i < place + 1 → (v : Bool) → eqb i place ≡ v → get_or s i 0 ≤ last
    by i low high true e = let same : i ≡ place = eqb-true i place e in rw same (rw byte at small)
    by i low high false e = let other = eqb-false i place e in l.small.each i low (omega arith)

pub looking-not : (s : List ℕ) (at end last : ℕ) → false ≡ true → SmallBytes s at end last
looking-not s at end last e = absurd (true≢false (sym e))

pub looking-done : (s : List ℕ) (at end last place : ℕ) → Looking s at end last place → end ≤ place → true ≡ true → SmallBytes s at end last
looking-done s at end last place l done e = record { each = λ i low high. l.small.each i low (omega arith) }

-- ---- a term

pub term-went : (boys most table : ℕ) (s : List ℕ) (at : ℕ) (x y z : Field) (r : Result ℕ Fault) (scale a raise b count c : ℕ) → x ≡ within_at s at 1 most_scale → x ≡ field.Is scale a → y ≡ within_at s a 0 boys → y ≡ field.Is raise b → z ≡ within_at s b 0 most → z ≡ field.Is count c → r ≡ over (prefactors_at s c count table) → r ≡ term_over s at boys most table
unfolding term_over boys_over count_over
term-went boys most table s at x y z r scale a raise b count c is e then f last g answer = answer ∙ rw (sym is ∙ e, sym then ∙ f, sym last ∙ g)

pub count-refused : (boys most table : ℕ) (s : List ℕ) (at : ℕ) (x y z : Field) (scale a raise b : ℕ) (why : Fault) → x ≡ within_at s at 1 most_scale → x ≡ field.Is scale a → y ≡ within_at s a 0 boys → y ≡ field.Is raise b → z ≡ within_at s b 0 most → z ≡ Err why → Err why ≡ term_over s at boys most table
unfolding term_over boys_over count_over
count-refused boys most table s at x y z scale a raise b why is e then f last g = rw (sym is ∙ e, sym then ∙ f, sym last ∙ g)

pub boys-refused : (boys most table : ℕ) (s : List ℕ) (at : ℕ) (x y : Field) (scale a : ℕ) (why : Fault) → x ≡ within_at s at 1 most_scale → x ≡ field.Is scale a → y ≡ within_at s a 0 boys → y ≡ Err why → Err why ≡ term_over s at boys most table
unfolding term_over boys_over
boys-refused boys most table s at x y scale a why is e then f = rw (sym is ∙ e, sym then ∙ f)

pub scale-refused : (boys most table : ℕ) (s : List ℕ) (at : ℕ) (x : Field) (why : Fault) → x ≡ within_at s at 1 most_scale → x ≡ Err why → Err why ≡ term_over s at boys most table
unfolding term_over
scale-refused boys most table s at x why is e = rw (sym is ∙ e)

pub ends_there : (length place : ℕ) → place ≡ length → Ok tt ≡ end_over length place
ends_there length place e = simp (eq-eqb place length e)

pub ends-not : (length place : ℕ) → (place ≡ length → ⊥) → Err (fault BadRoll place) ≡ end_over length place
ends-not length place more = simp (ne_eqb place length more)

-- ---- the loop over terms

pub record Going (s : List ℕ) (at terms boys most table place i : ℕ) : Type 0 where
  pub inside : i ≤ terms
  pub same : terms_over s place (terms - i) boys most table ≡ terms_over s at terms boys most table

pub going-first : (s : List ℕ) (at terms boys most table : ℕ) → Going s at terms boys most table at 0
going-first s at terms boys most table = let all : terms - 0 ≡ terms = omega arith in record { inside = zero-le; same = rw all }

going-turn : (s : List ℕ) (boys most table place terms i : ℕ) (x : Result ℕ Fault) → i < terms → x ≡ term_over s place boys most table → terms_over s place (terms - i) boys most table ≡ terms_then x (λ next. terms_over s next (terms - (i + 1)) boys most table)
unfolding terms_over
going-turn s boys most table place terms i x some is = let less : terms - i ≡ suc (terms - (i + 1)) = omega arith in rw (less, is)

pub going_more : (s : List ℕ) (at terms boys most table place i : ℕ) (x : Result ℕ Fault) (next : ℕ) → Going s at terms boys most table place i → i < terms → x ≡ term_over s place boys most table → x ≡ Ok next → Going s at terms boys most table next (i + 1)
going_more s at terms boys most table place i x next g some is e =
    record { inside = omega arith; same = sym (going-turn s boys most table place terms i x some is ∙ ap (λ (y : Result ℕ Fault). terms_then y (λ next. terms_over s next (terms - (i + 1)) boys most table)) e) ∙ g.same }

pub going-refused : (s : List ℕ) (at terms boys most table place i : ℕ) (x : Result ℕ Fault) (why : Fault) → Going s at terms boys most table place i → i < terms → x ≡ term_over s place boys most table → x ≡ Err why → Err why ≡ terms_over s at terms boys most table
going-refused s at terms boys most table place i x why g some is e =
    sym (going-turn s boys most table place terms i x some is ∙ ap (λ (y : Result ℕ Fault). terms_then y (λ next. terms_over s next (terms - (i + 1)) boys most table)) e) ∙ g.same

going-none : (s : List ℕ) (boys most table place left : ℕ) → left ≡ 0 → end_over (length s) place ≡ terms_over s place left boys most table
unfolding terms_over
going-none s boys most table place left none = rw none

pub going_done : (s : List ℕ) (at terms boys most table place i : ℕ) (y : Result ⊤ Fault) → Going s at terms boys most table place i → terms ≤ i → y ≡ end_over (length s) place → y ≡ terms_over s at terms boys most table
going_done s at terms boys most table place i y g none answer = answer ∙ going-none s boys most table place (terms - i) (omega arith) ∙ g.same

-- ---- the judge

pub went-over : (k : Kind) (left l : ℕ) (s : List ℕ) (at : ℕ) (boys most table : ℕ) (x : Result ⊤ Fault) → boys ≡ most_boys k l → most ≡ most_prefactors k l → table ≡ table_of k → x ≡ terms_over s at left boys most table → x ≡ over_of (terms_at s at left k l)
went-over k left l s at boys most table x b m t is = is ∙ rw (b, m, t) (terms-over left k l s at)
