-- The line that 21 or 22 tells is the first that is wrong: line by line, from the first on.
use Prim.Native.Nat.{ℕ, zero, suc, ◌+◌, ◌-◌, ◌≤◌, ◌<◌}
use mathlib.Core.Path.{◌≡◌, refl, sym, ap, subst, ◌∙◌}
use mathlib.Core.Bool.{Bool, true, false, cond, ◌&&◌, true≢false}
use mathlib.Core.List.{List, [], ◌∷◌, ◌++◌, append_assoc}
use mathlib.Core.Logic.{◌⊎◌, inl, inr}
use native.Mathlib.Omega.{arith}
use borrow.Author.Tests.{lt-leb, ltb-true}
use lib.Dec.{ltb, eqb}
use lib.ListN.{length, get_or, take}
use Rattle.laws.specs.Total.{total}
use Rattle.laws.proofs.Cases.{clash, tested}
use Rattle.kind.specs.Kinds.{kind_of, orders_of}
use Rattle.kind.specs.declared.Kind.{Kind}
use Rattle.term.specs.Terms.{Term}
use Rattle.roll.specs.Bytes.{roll_bytes}
use Rattle.roll.specs.Reading.{Header, Roll}
use Rattle.roll.specs.Fits.{TermFits, TermsFit}
use Rattle.exporting.specs.Text.{line_of, head_numbers, term_numbers, term_lines}
use Rattle.importing.specs.Answer as imported
use Rattle.importing.specs.Lines.{Line, line, broken, line_on}
use Rattle.importing.specs.Import.{Judged, taken, refused, and_then, first_count, other_count, on_line, head_keeps, head_as, head_of, term_keeps, term_of, terms_from, roll_of, answer_of, out_of, imported_of, imported_out}
use Rattle.importing.specs.Wrong.{Begins, NoLine, HeadFits, WrongOther, FirstWrong}
use Rattle.importing.proofs.Standing.{line_reads, line-back}
use Rattle.importing.proofs.Parts.{refused-both}
use Rattle.importing.proofs.Trips.{head-taken, head-fits, head-back, term-taken, term-back}
use Rattle.std.specs.Prelude.{Option, Some, None}
use Rattle.kind.specs.declared.refusals.Refusal.{Refusal}
use Rattle.kind.specs.declared.refusals.Refusal.TheVariants.{StartBeyondEnd, NoRoom, LineShape, LineNumbers}

-- ---- shape

begins-reads : (right : ℕ → Bool) (s ns rest : List ℕ) → right 0 ≡ false → Begins right s ns rest → line_on s ≡ line ns rest
begins-reads right s [] rest none b = absurd (true≢false (sym b.shaped ∙ none))
begins-reads right s (n ∷ ns) rest none b = ap line_on b.text ∙ line-back n ns rest

no-line-broken : (right : ℕ → Bool) (s : List ℕ) → right 0 ≡ false → line_on s ≡ broken → NoLine right s
no-line-broken right s none e ns rest b = clash (let g : broken ≡ line ns rest = sym e ∙ begins-reads right s ns rest none b in cc g)

no-line-count : (right : ℕ → Bool) (s ms after : List ℕ) → right 0 ≡ false → line_on s ≡ line ms after → right (length ms) ≡ false → NoLine right s
no-line-count right s ms after none e count ns rest b =
    let g : line ms after ≡ line ns rest = sym e ∙ begins-reads right s ns rest none b in
    let same : ms ≡ ns = cc g in
    true≢false (sym b.shaped ∙ sym (ap (λ (l : List ℕ). right (length l)) same) ∙ count)

-- a line that was refused: by its shape, or by what was judged of its numbers
record LineRefused {A : Type 0} (right : ℕ → Bool) (s : List ℕ) (judge : List ℕ → List ℕ → Judged A) (r : Refusal) (n : ℕ) : Type 0 where
  pub ns : List ℕ
  pub rest : List ℕ
  pub begins : Begins right s ns rest
  pub judged : judge ns rest ≡ refused r n

record ShapeRefused (right : ℕ → Bool) (s : List ℕ) (at : ℕ) (r : Refusal) (n : ℕ) : Type 0 where
  pub refusal : r ≡ LineShape
  pub number : n ≡ at
  pub none : NoLine right s

refused-number : {A : Type 0} (x : Refusal) (y : ℕ) (r : Refusal) (n : ℕ) → ◌≡◌ {A = Judged A} (refused x y) (refused r n) → (r ≡ x) × (n ≡ y)
refused-number x y r n e = (cc, cc)

line_refused : {A : Type 0} (right : ℕ → Bool) (s : List ℕ) (at : ℕ) (judge : List ℕ → List ℕ → Judged A) (r : Refusal) (n : ℕ) → right 0 ≡ false → on_line right (line_on s) at judge ≡ refused r n
    → ShapeRefused right s at r n ⊎ LineRefused right s judge r n
line_refused {A} right s at judge r n none e = by (line_on s) refl e
  where
    count : (ns rest : List ℕ) → line_on s ≡ line ns rest → (b : Bool) → right (length ns) ≡ b → cond b (judge ns rest) (refused LineShape at) ≡ refused r n → ShapeRefused right s at r n ⊎ LineRefused right s judge r n
    count ns rest l true y e = inr (record { ns = ns; rest = rest; begins = record { shaped = y; text = (line_reads s ns rest l).text }; judged = e })
    count ns rest l false y e =
        let x = refused-number {A = A} LineShape at r n e in
        inl (record { refusal = x.0; number = x.1; none = no-line-count right s ns rest none l y })

    by : (x : Line) → line_on s ≡ x → on_line right x at judge ≡ refused r n → ShapeRefused right s at r n ⊎ LineRefused right s judge r n
    by (line ns rest) l e = count ns rest l (right (length ns)) refl e
    by broken l e =
        let x = refused-number {A = A} LineShape at r n e in
        inl (record { refusal = x.0; number = x.1; none = no-line-broken right s none l })

-- ---- the terms

record TermsWrong (k : Kind) (l at left : ℕ) (s : List ℕ) (r : Refusal) (n : ℕ) : Type 0 where
  pub ts : List Term
  pub rest : List ℕ
  pub terms : TermsFit k l ts
  pub before : length ts + at ≡ n
  pub few : length ts ≤ left
  pub text : s ≡ term_lines ts ++ rest
  pub wrong : WrongOther k l (left - length ts) rest r

wrong-here : (k : Kind) (l at left : ℕ) (s : List ℕ) (r : Refusal) (n : ℕ) → n ≡ at → WrongOther k l left s r → TermsWrong k l at left s r n
unfolding term_lines
wrong-here k l at left s r n is wrong =
    let all : left ≡ left - 0 = omega arith in
    record { ts = []; rest = s; terms = tt; before = omega arith; few = omega arith; text = refl; wrong = subst (λ (x : ℕ). WrongOther k l x s r) all wrong }

wrong-after : (k : Kind) (l at left : ℕ) (s rest : List ℕ) (t : Term) (r : Refusal) (n : ℕ) → TermFits k l t → s ≡ line_of (term_numbers t) ++ rest → TermsWrong k l (at + 1) left rest r n → TermsWrong k l at (suc left) s r n
unfolding term_lines
wrong-after k l at left s rest t r n fit text w =
    let before = w.before in
    let few = w.few in
    let same : left - length w.ts ≡ suc left - suc (length w.ts) = omega arith in
    record {
      ts = t ∷ w.ts;
      rest = w.rest;
      terms = (fit, w.terms);
      before = omega arith;
      few = omega arith;
      text = text ∙ ap (λ (x : List ℕ). line_of (term_numbers t) ++ x) w.text ∙ sym (append_assoc (line_of (term_numbers t)) (term_lines w.ts) w.rest);
      wrong = subst (λ (x : ℕ). WrongOther k l x w.rest r) same w.wrong;
    }

shape-other : (k : Kind) (l at left : ℕ) (s : List ℕ) (r : Refusal) (n : ℕ) → (s ≡ [] → ⊥) → ShapeRefused other_count s at r n → TermsWrong k l at left s r n
shape-other k l at left s r n more x = wrong-here k l at left s r n x.number (inl (x.refusal, record { more = more; none = x.none }))

term-wrong : (k : Kind) (l at left : ℕ) (s ns rest : List ℕ) (r : Refusal) (n : ℕ) → Begins other_count s ns rest → r ≡ LineNumbers → n ≡ at → ((t : Term) → TermFits k l t → ns ≡ term_numbers t → 0 < left → ⊥) → TermsWrong k l at left s r n
term-wrong k l at left s ns rest r n begins is number none = wrong-here k l at left s r n number (inr (is, inr (record { ns = ns; rest = rest; begins = begins; none = none })))

-- a term's numbers are refused as 22 at their line
term-number : (k : Kind) (l at : ℕ) (ns : List ℕ) (r : Refusal) (n : ℕ) → term_of k l at ns ≡ refused r n → (r ≡ LineNumbers) × (n ≡ at)
term-number k l at [] r n e = refused-number {A = Term} LineNumbers at r n e
term-number k l at (x ∷ []) r n e = refused-number {A = Term} LineNumbers at r n e
term-number k l at (scale ∷ boys ∷ ps) r n e = by (term_keeps k l made) e
  where
    made : Term
    made = record { scale = scale; boys = boys; prefactors = ps }

    by : (b : Bool) → cond b (taken made) (refused LineNumbers at) ≡ refused r n → (r ≡ LineNumbers) × (n ≡ at)
    by true e = absurd (clash (cc e))
    by false e = refused-number {A = Term} LineNumbers at r n e

none-fits : (k : Kind) (l at : ℕ) (ns : List ℕ) (r : Refusal) (n : ℕ) (t : Term) → term_of k l at ns ≡ refused r n → TermFits k l t → ns ≡ term_numbers t → ⊥
none-fits k l at ns r n t e fit is = clash (let g : refused r n ≡ taken t = sym e ∙ ap (term_of k l at) is ∙ term-back k l at t fit in cc g)

and_then-refused : {A B : Type 0} (j : Judged A) (f : A → Judged B) (r : Refusal) (n : ℕ) → and_then j f ≡ refused r n → (j ≡ refused r n) ⊎ ((a : A) × (j ≡ taken a) × (f a ≡ refused r n))
and_then-refused {A} {B} (taken a) f r n e = inr (a, refl, e)
and_then-refused {A} {B} (refused x y) f r n e =
    let s = refused-number {A = B} x y r n e in
    inl (rw (s.0, s.1) refl)

terms-wrong : (left : ℕ) (k : Kind) (l at : ℕ) (s : List ℕ) (r : Refusal) (n : ℕ) → terms_from k l at left s ≡ refused r n → TermsWrong k l at left s r n
unfolding terms_from
terms-wrong zero k l at [] r n e = absurd (clash (cc e))
terms-wrong zero k l at (b ∷ s) r n e = by (line_refused {A = List Term} other_count (b ∷ s) at (λ ns rest. refused LineNumbers at) r n refl e)
  where
    by : ShapeRefused other_count (b ∷ s) at r n ⊎ LineRefused {A = List Term} other_count (b ∷ s) (λ ns rest. refused LineNumbers at) r n → TermsWrong k l at 0 (b ∷ s) r n
    by (inl x) = shape-other k l at 0 (b ∷ s) r n (λ e. clash (cc e)) x
    by (inr x) =
        let y = refused-number {A = List Term} LineNumbers at r n x.judged in
        term-wrong k l at 0 (b ∷ s) x.ns x.rest r n x.begins y.0 y.1 (λ t fit is some. omega arith)
terms-wrong (suc left) k l at [] r n e =
    let y = refused-number {A = List Term} LineNumbers at r n e in
    wrong-here k l at (suc left) [] r n y.1 (inr (y.0, inl (record { ends = refl; some = omega arith })))
terms-wrong (suc left) k l at (b ∷ s) r n e =
    by (terms-wrong left k l (at + 1)) (line_refused other_count (b ∷ s) at (λ ns rest. and_then (term_of k l at ns) (λ t. and_then (terms_from k l (at + 1) left rest) (λ ts. taken (t ∷ ts)))) r n refl e)
  where
    later : ((s : List ℕ) (r : Refusal) (n : ℕ) → terms_from k l (at + 1) left s ≡ refused r n → TermsWrong k l (at + 1) left s r n) → (ns rest : List ℕ) (t : Term) → Begins other_count (b ∷ s) ns rest → term_of k l at ns ≡ taken t
        → (terms_from k l (at + 1) left rest ≡ refused r n) ⊎ ((a : List Term) × (terms_from k l (at + 1) left rest ≡ taken a) × (taken (t ∷ a) ≡ refused r n)) → TermsWrong k l at (suc left) (b ∷ s) r n
    later again ns rest t begins is (inl x) =
        let y = term-taken k l at ns t is in
        wrong-after k l at left (b ∷ s) rest t r n y.fits (begins.text ∙ ap (λ (l : List ℕ). line_of l ++ rest) y.numbers) (again rest r n x)
    later again ns rest t begins is (inr x) = absurd (clash (cc x.2))

    by : ((s : List ℕ) (r : Refusal) (n : ℕ) → terms_from k l (at + 1) left s ≡ refused r n → TermsWrong k l (at + 1) left s r n)
        → ShapeRefused other_count (b ∷ s) at r n ⊎ LineRefused other_count (b ∷ s) (λ ns rest. and_then (term_of k l at ns) (λ t. and_then (terms_from k l (at + 1) left rest) (λ ts. taken (t ∷ ts)))) r n
        → TermsWrong k l at (suc left) (b ∷ s) r n
    by again (inl x) = shape-other k l at (suc left) (b ∷ s) r n (λ e. clash (cc e)) x
    by again (inr x) = judged (and_then-refused (term_of k l at x.ns) (λ t. and_then (terms_from k l (at + 1) left x.rest) (λ ts. taken (t ∷ ts))) r n x.judged)
      where
        judged : (term_of k l at x.ns ≡ refused r n) ⊎ ((t : Term) × (term_of k l at x.ns ≡ taken t) × (and_then (terms_from k l (at + 1) left x.rest) (λ ts. taken (t ∷ ts)) ≡ refused r n)) → TermsWrong k l at (suc left) (b ∷ s) r n
        judged (inl y) =
            let z = term-number k l at x.ns r n y in
            term-wrong k l at (suc left) (b ∷ s) x.ns x.rest r n x.begins z.0 z.1 (λ t fit is some. none-fits k l at x.ns r n t y fit is)
        judged (inr y) = later again x.ns x.rest y.0 x.begins y.1 (and_then-refused (terms_from k l (at + 1) left x.rest) (λ ts. taken (y.0 ∷ ts)) r n y.2)

-- ---- the text

head-number : (m : Option Kind) (ns : List ℕ) (r : Refusal) (n : ℕ) → head_as m ns ≡ refused r n → (r ≡ LineNumbers) × (n ≡ 1)
head-number None ns r n e = refused-number {A = Header} LineNumbers 1 r n e
head-number (Some k) ns r n e = by (eqb (length ns) (orders_of k + 1) && head_keeps made) e
  where
    made : Header
    made = record { kind = k; orders = take (orders_of k) ns; terms = get_or ns (orders_of k) 0 }

    by : (b : Bool) → cond b (taken made) (refused LineNumbers 1) ≡ refused r n → (r ≡ LineNumbers) × (n ≡ 1)
    by true e = absurd (clash (cc e))
    by false e = refused-number {A = Header} LineNumbers 1 r n e

first-number : (ns : List ℕ) (r : Refusal) (n : ℕ) → head_of ns ≡ refused r n → (r ≡ LineNumbers) × (n ≡ 1)
first-number [] r n e = refused-number {A = Header} LineNumbers 1 r n e
first-number (x ∷ ns) r n e = head-number (kind_of x) ns r n e

none-heads : (ns : List ℕ) (r : Refusal) (n : ℕ) (h : Header) → head_of ns ≡ refused r n → HeadFits h → ns ≡ head_numbers h.kind h.orders h.terms → ⊥
none-heads ns r n h e f is =
    clash (let g : refused r n ≡ taken h = sym e ∙ ap head_of is ∙ head-back h.kind h.orders h.terms f.places f.sums f.some f.most in cc g)

-- 21 and 22 tell the first line that is wrong
pub first-wrong : (s : List ℕ) (r : Refusal) (n : ℕ) → roll_of s ≡ refused r n → FirstWrong s r n
unfolding roll_of
first-wrong s r n e = by (line_refused first_count s 1 judge r n refl e)
  where
    after : List ℕ → Header → Judged Roll
    after rest h = and_then (terms_from h.kind (total h.orders) 2 h.terms rest) (λ ts. taken (record { kind = h.kind; orders = h.orders; terms = ts }))

    judge : List ℕ → List ℕ → Judged Roll
    judge ns rest = and_then (head_of ns) (after rest)

    later : (ns rest : List ℕ) (h : Header) → Begins first_count s ns rest → head_of ns ≡ taken h
        → (terms_from h.kind (total h.orders) 2 h.terms rest ≡ refused r n) ⊎ ((a : List Term) × (terms_from h.kind (total h.orders) 2 h.terms rest ≡ taken a) × (◌≡◌ {A = Judged Roll} (taken (record { kind = h.kind; orders = h.orders; terms = a })) (refused r n)))
        → FirstWrong s r n
    later ns rest h begins is (inl x) =
        let t = head-taken ns h is in
        let w = terms-wrong h.terms h.kind (total h.orders) 2 rest r n x in
        inr (record {
          h = h;
          ts = w.ts;
          rest = w.rest;
          head = head-fits h t.keeps;
          terms = w.terms;
          before = w.before;
          few = w.few;
          text = begins.text ∙ ap (λ (l : List ℕ). line_of l ++ rest) t.numbers ∙ ap (λ (l : List ℕ). line_of (head_numbers h.kind h.orders h.terms) ++ l) w.text;
          wrong = w.wrong;
        })
    later ns rest h begins is (inr x) = absurd (clash (cc x.2))

    judged : (ns rest : List ℕ) → Begins first_count s ns rest → (head_of ns ≡ refused r n) ⊎ ((h : Header) × (head_of ns ≡ taken h) × (after rest h ≡ refused r n)) → FirstWrong s r n
    judged ns rest begins (inl y) =
        let z = first-number ns r n y in
        inl (z.1, inr (z.0, record { ns = ns; rest = rest; begins = begins; none = λ h f is. none-heads ns r n h y f is }))
    judged ns rest begins (inr y) =
        later ns rest y.0 begins y.1 (and_then-refused (terms_from y.0.kind (total y.0.orders) 2 y.0.terms rest) (λ ts. taken (record { kind = y.0.kind; orders = y.0.orders; terms = ts })) r n y.2)

    by : ShapeRefused first_count s 1 r n ⊎ LineRefused first_count s judge r n → FirstWrong s r n
    by (inl x) = inl (x.number, inl (x.refusal, x.none))
    by (inr x) = judged x.ns x.rest x.begins (and_then-refused (head_of x.ns) (after x.rest) r n x.judged)

-- ---- the answer

-- a refusal other than 5 and 6 tells the first line that is wrong
pub told-wrong : (text out : List ℕ) (start : ℕ) (r : Refusal) (n : ℕ) → imported_of text out start ≡ imported.Refused r n → (r ≡ StartBeyondEnd → ⊥) → (r ≡ NoRoom → ⊥) → FirstWrong text r n
unfolding imported_of
told-wrong text out start r n e five six = by (roll_of text) refl e
  where
    by : (j : Judged Roll) → roll_of text ≡ j → answer_of j out start ≡ imported.Refused r n → FirstWrong text r n
    by (refused x y) is e =
        let both = refused-both e in
        let a : x ≡ r = both.0 in
        let b : y ≡ n = both.1 in
        first-wrong text r n (is ∙ ap (λ (k : Refusal). refused k y) a ∙ ap (refused r) b)
    by (taken z) is e =
        let size = length (roll_bytes z.kind z.orders z.terms) in
        tested (ltb (length out) start)
        (λ y. absurd (five (let g : imported.Refused StartBeyondEnd 0 ≡ imported.Refused r n = rw y at e in sym (refused-both g).0)))
        (λ y.
        tested (ltb (length out) (start + size))
        (λ x. absurd (six (let g : imported.Refused NoRoom 0 ≡ imported.Refused r n = rw (y, x) at e in sym (refused-both g).0)))
        (λ x. absurd (clash (let g : imported.Roll size (length z.terms) ≡ imported.Refused r n = rw (y, x) at e in cc g))))

-- and no refusal changes a byte
pub refused-kept : (text out : List ℕ) (start : ℕ) (r : Refusal) (n : ℕ) → imported_of text out start ≡ imported.Refused r n → imported_out text out start ≡ out
unfolding imported_of imported_out
refused-kept text out start r n e = by (roll_of text) e
  where
    by : (j : Judged Roll) → answer_of j out start ≡ imported.Refused r n → out_of j out start ≡ out
    by (refused x y) e = refl
    by (taken z) e =
        let size = length (roll_bytes z.kind z.orders z.terms) in
        tested (ltb (length out) start)
        (λ y. let beyond = ltb-true (length out) start y in rw (lt-leb (start + size) (length out) (omega arith)))
        (λ y.
        tested (ltb (length out) (start + size))
        (λ x. rw (lt-leb (start + size) (length out) (ltb-true (length out) (start + size) x)))
        (λ x. absurd (clash (let g : imported.Roll size (length z.terms) ≡ imported.Refused r n = rw (y, x) at e in cc g))))
