-- The judge and the writer by places say what the definition says of the whole text.
use Prim.Native.Nat.{ℕ, ◌+◌, ◌*◌, ◌-◌, ◌≤◌, ◌<◌}
use mathlib.Core.Path.{◌≡◌, refl, sym, ap, ◌∙◌}
use mathlib.Core.Bool.{Bool, true, false, cond, ◌&&◌}
use mathlib.Core.List.{List, [], ◌∷◌, ◌++◌}
use native.Mathlib.Omega.{arith}
use lib.Dec.{eqb}
use lib.ListN.{length, get_or, take, drop, length-append}
use Rattle.laws.specs.Total.{total}
use Rattle.laws.proofs.Cases.{clash}
use Rattle.laws.proofs.Pairs.{some-both}
use Rattle.kind.specs.Limits.{most_order}
use Rattle.kind.specs.Kinds.{kind_of, number_of, orders_of}
use Rattle.kind.specs.declared.Kind.{Kind}
use Rattle.kind.proofs.Within.{number-within}
use Rattle.number.specs.Numbers.{bytes_of, length_of}
use Rattle.number.proofs.Writing.{length_last}
use Rattle.term.specs.Terms.{Term}
use Rattle.roll.specs.Bytes.{numbers_bytes, terms_bytes, roll_bytes}
use Rattle.roll.specs.Reading.{Header, Roll}
use Rattle.roll.specs.Fits.{CentresFit}
use Rattle.importing.specs.Answer.{Answer}
use Rattle.importing.specs.Answer as imported
use Rattle.importing.specs.inner.FirstLine.{FirstLine}
use Rattle.importing.specs.inner.Shape.{Shape}
use Rattle.importing.specs.inner.Shape as shape
use Rattle.importing.specs.Lines.{Line, line, broken, line_on}
use Rattle.importing.specs.Import.{Judged, taken, refused, and_then, first_count, head_keeps, head_as, head_of, terms_from, roll_of}
use Rattle.importing.specs.inner.Places.{shape_at, on_head, head_line_at, measured, terms_at}
use Rattle.importing.specs.Wrong.{HeadFits}
use Rattle.importing.proofs.Standing.{line-inside, line_reads}
use Rattle.importing.proofs.Numbers.{orders-room}
use Rattle.importing.proofs.Keeping.{shape-line, shape-broken, line-rest, totalled, terms-stand}
use Rattle.importing.proofs.FirstLines.{headed, head-stands}
use Rattle.importing.proofs.Trips.{head-taken, head-fits, terms-taken}
use Rattle.std.specs.Prelude.{Option, Some, None}
use Rattle.kind.specs.declared.refusals.Refusal.TheVariants.{LineShape, LineNumbers}

-- ---- how long a roll is

pub centres-length : (os : List ℕ) → CentresFit os → (length (numbers_bytes os) ≡ length os) × (total os ≤ 2 * length os)
unfolding numbers_bytes length_of total
centres-length [] f = (refl, omega arith)
centres-length (x ∷ []) f = absurd f
centres-length (x ∷ y ∷ []) f = absurd f
centres-length (x ∷ y ∷ z ∷ os) f =
    let sum : x + y + z ≤ most_order = f.0 in
    let rest = centres-length os f.1 in
    let long = rest.0 in
    let few = rest.1 in
    let a = length-append (bytes_of x) (bytes_of y ++ (bytes_of z ++ numbers_bytes os)) in
    let b = length-append (bytes_of y) (bytes_of z ++ numbers_bytes os) in
    let c = length-append (bytes_of z) (numbers_bytes os) in
    (omega (arith, a, b, c, length_last x (omega arith), length_last y (omega arith), length_last z (omega arith)), omega arith)

roll-length : (k : Kind) (os : List ℕ) (ts : List Term) → length os ≡ orders_of k → CentresFit os
    → 1 + orders_of k + length_of (length ts) + length (terms_bytes ts) ≡ length (roll_bytes k os ts)
unfolding roll_bytes length_of
roll-length k os ts places fit =
    let a = length-append (bytes_of (number_of k)) (numbers_bytes os ++ (bytes_of (length ts) ++ terms_bytes ts)) in
    let b = length-append (numbers_bytes os) (bytes_of (length ts) ++ terms_bytes ts) in
    let c = length-append (bytes_of (length ts)) (terms_bytes ts) in
    let one = length_last (number_of k) (omega (arith, number-within k)) in
    let long = (centres-length os fit).0 in
    omega (arith, a, b, c, one, places, long)

-- ---- the judge

abbrev roll_from : Header → List ℕ → Judged Roll
roll_from h rest = and_then (terms_from h.kind (total h.orders) 2 h.terms rest) (λ ts. taken (record { kind = h.kind; orders = h.orders; terms = ts }))

measured-terms : (h : Header) (j : Judged (List Term)) → HeadFits h → ((ts : List Term) → j ≡ taken ts → length ts ≡ h.terms)
    → totalled (1 + orders_of h.kind + length_of h.terms) h.terms j ≡ measured (and_then j (λ ts. taken (record { kind = h.kind; orders = h.orders; terms = ts })))
measured-terms h (taken ts) f count =
    let same : h.terms ≡ length ts = sym (count ts refl) in
    rw same (ap (λ (n : ℕ). imported.Roll n (length ts)) (roll-length h.kind h.orders ts f.places f.sums))
measured-terms h (refused r n) f count = refl

-- a head is taken, or 22 at line 1
head-either : (m : Option Kind) (ns : List ℕ) (X : Judged Header → Type 0) → ((h : Header) → head_as m ns ≡ taken h → X (taken h)) → X (refused LineNumbers 1) → X (head_as m ns)
head-either None ns X t f = f
head-either (Some k) ns X t f = by (eqb (length ns) (orders_of k + 1) && head_keeps made) refl
  where
    made : Header
    made = record { kind = k; orders = take (orders_of k) ns; terms = get_or ns (orders_of k) 0 }

    by : (b : Bool) → (eqb (length ns) (orders_of k + 1) && head_keeps made) ≡ b → X (cond b (taken made) (refused LineNumbers 1))
    by true y = t made (rw y)
    by false y = f

head-judged : (s : List ℕ) (next n : ℕ) (ns rest : List ℕ) → drop next s ≡ rest
    → on_head (headed (head_of (n ∷ ns))) (λ k l terms. terms_at s next 2 terms k l (1 + orders_of k + length_of terms) terms) ≡ measured (and_then (head_of (n ∷ ns)) (λ h. roll_from h rest))
unfolding headed
head-judged s next n ns rest after =
    head-either (kind_of n) ns
    (λ j. on_head (headed j) (λ k l terms. terms_at s next 2 terms k l (1 + orders_of k + length_of terms) terms) ≡ measured (and_then j (λ h. roll_from h rest)))
    (λ h e.
    let f = head-fits h (head-taken (n ∷ ns) h e).keeps in
    let few : total h.orders ≤ 2 * length h.orders = (centres-length h.orders f.sums).1 in
    let small : total h.orders ≤ 100 = omega (arith, few, orders-room h.kind (length h.orders) f.places) in
    terms-stand s h.kind (total h.orders) h.terms small h.terms next 2 (1 + orders_of h.kind + length_of h.terms)
    ∙ ap (λ (x : List ℕ). totalled (1 + orders_of h.kind + length_of h.terms) h.terms (terms_from h.kind (total h.orders) 2 h.terms x)) after
    ∙ measured-terms h (terms_from h.kind (total h.orders) 2 h.terms rest) f
    (λ ts t. (terms-taken h.terms h.kind (total h.orders) 2 rest ts t).count))
    refl

line-judged : (s ns rest : List ℕ) → line_on s ≡ line ns rest → first_count (length ns) ≡ true → head_line_at s (length ns) (length s - length rest) ≡ measured (roll_of s)
unfolding head_line_at roll_of
line-judged s [] rest e count = absurd (let x = line_reads s [] rest e in omega (arith, x.some))
line-judged s (n ∷ ns) rest e count =
    let x = line_reads s (n ∷ ns) rest e in
    let inside : 0 < length s = line-inside s 0 n ns rest x.text in
    rw (e, count)
    (ap (λ (h : FirstLine). on_head h (λ k l terms. terms_at s (length s - length rest) 2 terms k l (1 + orders_of k + length_of terms) terms)) (head-stands n ns s rest x.text)
    ∙ head-judged s (length s - length rest) n ns rest (line-rest s 0 (n ∷ ns) rest inside e))

pub judged-line : (s : List ℕ) (n next : ℕ) (q : Shape) (t : Bool) (r : Answer) → q ≡ shape_at s 0 → q ≡ shape.Line n next → t ≡ first_count n → t ≡ true → r ≡ head_line_at s n next → r ≡ measured (roll_of s)
judged-line s n next q t r is made count right e = by (line_on s) refl
  where
    by : (x : Line) → line_on s ≡ x → r ≡ measured (roll_of s)
    by (line ns rest) l =
        let same : shape.Line n next ≡ shape.Line (length ns) (length s - length rest) = sym made ∙ is ∙ shape-line s 0 ns rest l in
        let both = some-both same in
        let ends : n ≡ length ns = both.0 in
        let nexts : next ≡ length s - length rest = both.1 in
        e ∙ ap (λ (x : ℕ). head_line_at s x next) ends ∙ ap (head_line_at s (length ns)) nexts ∙ line-judged s ns rest l (sym (ap first_count ends) ∙ sym count ∙ right)
    by broken l = absurd (clash (let g : shape.Line n next ≡ shape.Broken = sym made ∙ is ∙ shape-broken s 0 l in cc g))

pub judged-other : (s : List ℕ) (n next : ℕ) (q : Shape) (t : Bool) → q ≡ shape_at s 0 → q ≡ shape.Line n next → t ≡ first_count n → t ≡ false → imported.Refused LineShape 1 ≡ measured (roll_of s)
unfolding roll_of
judged-other s n next q t is made count wrong = by (line_on s) refl
  where
    by : (x : Line) → line_on s ≡ x → imported.Refused LineShape 1 ≡ measured (roll_of s)
    by (line ns rest) l =
        let same : shape.Line n next ≡ shape.Line (length ns) (length s - length rest) = sym made ∙ is ∙ shape-line s 0 ns rest l in
        let ends : n ≡ length ns = (some-both same).0 in
        let other : first_count (length ns) ≡ false = sym (ap first_count ends) ∙ sym count ∙ wrong in
        rw (l, other)
    by broken l = rw l

pub judged-broken : (s : List ℕ) (q : Shape) → q ≡ shape_at s 0 → q ≡ shape.Broken → imported.Refused LineShape 1 ≡ measured (roll_of s)
unfolding roll_of
judged-broken s q is made = by (line_on s) refl
  where
    by : (x : Line) → line_on s ≡ x → imported.Refused LineShape 1 ≡ measured (roll_of s)
    by (line ns rest) l = absurd (clash (let g : shape.Broken ≡ shape.Line (length ns) (length s - length rest) = sym made ∙ is ∙ shape-line s 0 ns rest l in cc g))
    by broken l = rw l
