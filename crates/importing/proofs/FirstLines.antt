-- The first line: what its numbers keep as tests is what the reader's limits say, and places in the text say what the numbers say.
use Prim.Native.Nat.{ℕ, zero, suc, ◌+◌, ◌-◌, ◌%◌, ◌≤◌, ◌<◌}
use mathlib.Core.Path.{◌≡◌, refl, sym, ap, ◌∙◌}
use mathlib.Core.Bool.{Bool, true, cond, ◌&&◌, false≢true}
use mathlib.Core.List.{List, [], ◌∷◌, ◌++◌}
use native.Mathlib.Omega.{arith}
use borrow.Author.Tests.{le-leb, lt-leb, eq-eqb, ne_eqb, ltb-true, ltb-false, leb-true, leb-false, eqb-true, eqb-false}
use lib.Dec.{ltb, leb, eqb}
use lib.ListN.{length, get_or, take, drop}
use lib.Seq.{take-suc, take_all, length-take-le}
use Rattle.laws.specs.Total.{total}
use Rattle.laws.proofs.Cases.{tested, and_left, and_right}
use Rattle.kind.specs.Limits.{most_order, most_terms}
use Rattle.kind.specs.Kinds.{kind_of, number_of, orders_of}
use Rattle.kind.specs.declared.Kind.{Kind}
use Rattle.kind.specs.declared.Kind.TheVariants.{Overlap, Kinetic, Nuclear, Moment, Coulomb}
use Rattle.roll.specs.Reading.{sum_after, Header}
use Rattle.roll.specs.Fits.{CentresFit}
use Rattle.roll.proofs.HeaderLaws.{sum-small}
use Rattle.importing.specs.inner.Numeral as numeral
use Rattle.importing.specs.inner.FirstLine.{FirstLine}
use Rattle.importing.specs.inner.FirstLine as head
use Rattle.importing.specs.Import.{Judged, taken, refused, centres_keep, head_keeps, head_as, head_of}
use Rattle.importing.specs.inner.Places.{within_at, orders_at, counted_head, head_orders_at, named_head, head_at}
use Rattle.importing.proofs.Standing.{standing, next_place, stands-next, stands-in, stands-under, stands-over}
use Rattle.std.specs.Prelude.{Option, Some, None}
use Rattle.kind.specs.declared.refusals.Refusal.TheVariants.{LineNumbers}

-- ---- order sums

pub centres-fit : (os : List ℕ) → centres_keep os ≡ true → CentresFit os
centres-fit [] e = tt
centres-fit (x ∷ []) e = absurd (false≢true e)
centres-fit (x ∷ y ∷ []) e = absurd (false≢true e)
centres-fit (x ∷ y ∷ z ∷ os) e =
    (leb-true (x + y + z) most_order (and_left (leb (x + y + z) most_order) (centres_keep os) e), centres-fit os (and_right (leb (x + y + z) most_order) (centres_keep os) e))

pub fit-centres : (os : List ℕ) → CentresFit os → centres_keep os ≡ true
fit-centres [] f = refl
fit-centres (x ∷ []) f = absurd f
fit-centres (x ∷ y ∷ []) f = absurd f
fit-centres (x ∷ y ∷ z ∷ os) f = rw (le-leb (x + y + z) most_order f.0) (fit-centres os f.1)

-- each order within what its centre's sum leaves
abbrev keeps : ℕ → ℕ → List ℕ → Bool
keeps i sum [] = true
keeps i sum (o ∷ os) = leb o (most_order - sum) && keeps (i + 1) (sum_after i sum o) os

-- three tests are one
three : (x y z : ℕ) (rest : Bool) → (leb x (most_order - 0) && (leb y (most_order - (0 + x)) && (leb z (most_order - (0 + x + y)) && rest))) ≡ (leb (x + y + z) most_order && rest)
three x y z rest =
    tested (leb x (most_order - 0))
    (λ a.
    let fx = leb-true x (most_order - 0) a in
    tested (leb y (most_order - (0 + x)))
    (λ b.
    let fy = leb-true y (most_order - (0 + x)) b in
    tested (leb z (most_order - (0 + x + y)))
    (λ c. let fz = leb-true z (most_order - (0 + x + y)) c in rw (a, b, c, le-leb (x + y + z) most_order (omega arith)))
    (λ c. let fz = leb-false z (most_order - (0 + x + y)) c in rw (a, b, c, lt-leb (x + y + z) most_order (omega arith))))
    (λ b. let fy = leb-false y (most_order - (0 + x)) b in rw (a, b, lt-leb (x + y + z) most_order (omega arith))))
    (λ a. let fx = leb-false x (most_order - 0) a in rw (a, lt-leb (x + y + z) most_order (omega arith)))

keeps-centres : (i : ℕ) (os : List ℕ) → i % 3 ≡ 0 → length os % 3 ≡ 0 → keeps i 0 os ≡ centres_keep os
keeps-centres i [] phase long = refl
keeps-centres i (x ∷ []) phase long = absurd (omega arith)
keeps-centres i (x ∷ y ∷ []) phase long = absurd (omega arith)
keeps-centres i (x ∷ y ∷ z ∷ os) phase long =
    let one : sum_after i 0 x ≡ 0 + x = simp (ne_eqb (i % 3) 2 (λ e. omega arith)) in
    let two : sum_after (i + 1) (0 + x) y ≡ 0 + x + y = simp (ne_eqb ((i + 1) % 3) 2 (λ e. omega arith)) in
    let anew : sum_after (i + 1 + 1) (0 + x + y) z ≡ 0 = simp (eq-eqb ((i + 1 + 1) % 3) 2 (omega arith)) in
    let rest : keeps (i + 1 + 1 + 1) 0 os ≡ centres_keep os = keeps-centres (i + 1 + 1 + 1) os (omega arith) (omega arith) in
    rw one (rw two (rw (anew, rest) (three x y z (centres_keep os))))

-- ---- orders at their places

abbrev place_after : ℕ → List ℕ → ℕ
place_after at [] = at
place_after at (o ∷ os) = place_after (next_place at o) os

after-stands : (os ns s : List ℕ) (at : ℕ) (rest : List ℕ) → drop at s ≡ standing (os ++ ns) ++ rest → drop (place_after at os) s ≡ standing ns ++ rest
after-stands [] ns s at rest stands = stands
after-stands (o ∷ os) ns s at rest stands = after-stands os ns s (next_place at o) rest (stands-next s at o (os ++ ns) rest stands)

orders-stand : (os ns s : List ℕ) (at : ℕ) (rest : List ℕ) (i sum l : ℕ) → drop at s ≡ standing (os ++ ns) ++ rest → sum ≤ most_order
    → orders_at s at (length os) i sum l ≡ cond (keeps i sum os) (numeral.Is (l + total os) (place_after at os)) numeral.Wrong
unfolding orders_at total
orders-stand [] ns s at rest i sum l stands small = ap (λ (n : ℕ). numeral.Is n at) (omega arith)
orders-stand (o ∷ os) ns s at rest i sum l stands small =
    tested (leb o (most_order - sum))
    (λ y.
    let under : o ≤ most_order - sum = leb-true o (most_order - sum) y in
    let read = stands-in s at o (os ++ ns) rest stands 0 (most_order - sum) (omega arith) (omega arith) under in
    let sums : l + o + total os ≡ l + (o + total os) = omega arith in
    rw (read, y) (orders-stand os ns s (next_place at o) rest (i + 1) (sum_after i sum o) (l + o) (stands-next s at o (os ++ ns) rest stands) (sum-small i sum o small under)
    ∙ ap (λ (n : ℕ). cond (keeps (i + 1) (sum_after i sum o) os) (numeral.Is n (place_after (next_place at o) os)) numeral.Wrong) sums))
    (λ y.
    let wrong = stands-over s at o (os ++ ns) rest stands 0 (most_order - sum) (omega arith) (leb-false o (most_order - sum) y) in
    rw (wrong, y))

-- ---- the head

unfoldable pub headed : Judged Header → FirstLine
headed (taken h) = head.Is h.kind (total h.orders) h.terms
headed (refused r n) = head.Wrong

whole-orders : (k : Kind) → orders_of k % 3 ≡ 0
whole-orders Overlap = refl
whole-orders Kinetic = refl
whole-orders Nuclear = refl
whole-orders Moment = refl
whole-orders Coulomb = refl

pub split-last : (m : ℕ) (ns : List ℕ) → length ns ≡ m + 1 → ns ≡ take m ns ++ (get_or ns m 0 ∷ [])
split-last m ns e = sym (take_all (suc m) ns (omega arith)) ∙ take-suc ns m 0 (omega arith)

count-stands : (k : Kind) (os s : List ℕ) (at count : ℕ) (rest : List ℕ) → drop at s ≡ standing (count ∷ []) ++ rest
    → counted_head k (total os) (within_at s at 1 most_terms) ≡ headed (cond (leb 1 count && leb count most_terms) (taken (record { kind = k; orders = os; terms = count })) (refused LineNumbers 1))
unfolding headed
count-stands k os s at count rest stands =
    tested (leb 1 count)
    (λ a.
    tested (leb count most_terms)
    (λ b. rw (a, b, stands-in s at count [] rest stands 1 most_terms (omega arith) (leb-true 1 count a) (leb-true count most_terms b)))
    (λ b. rw (a, b, stands-over s at count [] rest stands 1 most_terms (omega arith) (leb-false count most_terms b))))
    (λ a. rw (a, stands-under s at count [] rest stands 1 most_terms (omega arith) (leb-false 1 count a)))

head-orders : (k : Kind) (os s : List ℕ) (at count : ℕ) (rest : List ℕ) → length os ≡ orders_of k → drop at s ≡ standing (os ++ (count ∷ [])) ++ rest
    → head_orders_at s at k ≡ headed (cond (head_keeps (record { kind = k; orders = os; terms = count })) (taken (record { kind = k; orders = os; terms = count })) (refused LineNumbers 1))
unfolding head_orders_at head_keeps headed
head-orders k os s at count rest long stands =
    let same : keeps 0 0 os ≡ centres_keep os = keeps-centres 0 os refl (ap (λ (n : ℕ). n % 3) long ∙ whole-orders k) in
    let read : orders_at s at (orders_of k) 0 0 0 ≡ cond (centres_keep os) (numeral.Is (0 + total os) (place_after at os)) numeral.Wrong =
    ap (λ (n : ℕ). orders_at s at n 0 0 0) (sym long) ∙ orders-stand os (count ∷ []) s at rest 0 0 0 stands (omega arith)
    ∙ ap (λ (b : Bool). cond b (numeral.Is (0 + total os) (place_after at os)) numeral.Wrong) same in
    let zero-total : 0 + total os ≡ total os = omega arith in
    tested (centres_keep os)
    (λ y. rw (read, y, eq-eqb (length os) (orders_of k) long, zero-total) (count-stands k os s (place_after at os) count rest (after-stands os (count ∷ []) s at rest stands)))
    (λ y. rw (read, y, eq-eqb (length os) (orders_of k) long))

named-stands : (m : Option Kind) (ns s : List ℕ) (at : ℕ) (rest : List ℕ) → drop at s ≡ standing ns ++ rest → named_head s (suc (length ns)) at m ≡ headed (head_as m ns)
unfolding headed
named-stands None ns s at rest stands = refl
named-stands (Some k) ns s at rest stands =
    tested (eqb (length ns) (orders_of k + 1))
    (λ y.
    let long : length ns ≡ orders_of k + 1 = eqb-true (length ns) (orders_of k + 1) y in
    let split = split-last (orders_of k) ns long in
    let os = take (orders_of k) ns in
    let stands' : drop at s ≡ standing (os ++ (get_or ns (orders_of k) 0 ∷ [])) ++ rest = stands ∙ ap (λ (l : List ℕ). standing l ++ rest) split in
    rw (y, eq-eqb (suc (length ns)) (orders_of k + 2) (omega arith))
    (head-orders k os s at (get_or ns (orders_of k) 0) rest (length-take-le (orders_of k) ns (omega arith)) stands'))
    (λ y.
    let other : suc (length ns) ≡ orders_of k + 2 → ⊥ = λ q. eqb-false (length ns) (orders_of k + 1) y (omega arith) in
    rw (y, ne_eqb (suc (length ns)) (orders_of k + 2) other))

kind-none : (n : ℕ) → 4 < n → kind_of n ≡ None
kind-none zero h = absurd (omega arith)
kind-none (suc zero) h = absurd (omega arith)
kind-none (suc (suc zero)) h = absurd (omega arith)
kind-none (suc (suc (suc zero))) h = absurd (omega arith)
kind-none (suc (suc (suc (suc zero)))) h = absurd (omega arith)
kind-none (suc (suc (suc (suc (suc n))))) h = refl

pub head-stands : (n : ℕ) (ns s rest : List ℕ) → s ≡ standing (n ∷ ns) ++ rest → head_at s (suc (length ns)) ≡ headed (head_of (n ∷ ns))
unfolding head_at headed
head-stands n ns s rest stands =
    tested (ltb (number_of Coulomb) n)
    (λ y.
    let over = ltb-true (number_of Coulomb) n y in
    rw (stands-over s 0 n ns rest stands 0 (number_of Coulomb) (omega arith) over, kind-none n over))
    (λ y.
    let within = ltb-false (number_of Coulomb) n y in
    rw (stands-in s 0 n ns rest stands 0 (number_of Coulomb) (omega arith) (omega arith) within)
    (named-stands (kind_of n) ns s (next_place 0 n) rest (stands-next s 0 n ns rest stands)))
