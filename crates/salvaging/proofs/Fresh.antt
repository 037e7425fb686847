-- A header that reads: its bytes, its request, which is not refused for its orders, and its fresh roll, which differs from the damaged one only behind the orders.
use Prim.Native.Nat.{ℕ, zero, suc, ◌+◌, ◌-◌, ◌≤◌}
use mathlib.Core.Path.{◌≡◌, refl, sym, ap, subst, ◌∙◌}
use mathlib.Core.Bool.{false}
use mathlib.Core.List.{List, [], ◌∷◌, ◌++◌, append_assoc}
use native.Mathlib.Omega.{arith}
use borrow.Author.Tests.{le-ltb}
use lib.ListN.{length, get_or, take, drop, replicate, length-append, length-drop, length-replicate}
use lib.Seq.{get_or-drop, take_at, drop_at}
use Rattle.laws.specs.Total.{total}
use Rattle.kind.specs.Limits.{most_order, most_terms, request_orders}
use Rattle.kind.specs.Kinds.{number_of, orders_of, most_l}
use Rattle.kind.specs.declared.Kind.{Kind}
use Rattle.kind.specs.declared.Kind.TheVariants.{Overlap, Kinetic, Nuclear, Moment, Coulomb}
use Rattle.kind.proofs.Within.{orders-within}
use Rattle.number.specs.Numbers.{bytes_of, length_of, Bytes}
use Rattle.steps.specs.declared.CentreName.TheVariants.{A, B, C, D}
use Rattle.steps.specs.Choice.{sum_of}
use Rattle.roll.specs.Bytes.{numbers_bytes, terms_bytes, roll_bytes}
use Rattle.roll.specs.Reading.{got, Header}
use Rattle.roll.specs.Fits.{CentresFit, TermsFit}
use Rattle.roll.proofs.Inside.{header_read, header-inside, orders-most}
use Rattle.roll.proofs.Written.{taken-bytes, head_bytes}
use Rattle.form2.specs.Bytes.{form_two, terms_bytes2, roll_bytes2}
use Rattle.form2.proofs.Inside.{header-read2, header-inside2, header-most2}
use Rattle.expansion.specs.Expanding.{too_high, terms_of, roll_of, roll_of2}
use Rattle.expansion.specs.inner.Requests.{RequestWithin}
use Rattle.expansion.proofs.ReadsBack.{roll-fits}
use Rattle.salvaging.specs.declared.forms.Form.{Form}
use Rattle.salvaging.specs.declared.forms.Form.TheVariants.{One, Two}
use Rattle.salvaging.specs.Salvage.{header_in, request_of, fresh_terms, fresh_roll}
use Rattle.salvaging.specs.inner.Forms.{first_in, terms_bytes_in}

-- what stands before the count
abbrev pub head_of : Form → Header → List ℕ
head_of f h = bytes_of (first_in f h.kind) ++ numbers_bytes h.orders

-- ---- the header's bytes

pub record HeaderIs (f : Form) (s : List ℕ) (h : Header) (next : ℕ) : Type 0 where
  pub bytes : s ≡ head_of f h ++ (bytes_of h.terms ++ drop next s)
  pub places : length h.orders ≡ orders_of h.kind
  pub sums : CentresFit h.orders
  pub most : total h.orders ≤ most_l h.kind
  pub some : 1 ≤ h.terms
  pub few : h.terms ≤ most_terms
  pub inside : next ≤ length s

pub header_is : (f : Form) (s : List ℕ) (h : Header) (next : ℕ) → Bytes s → header_in f s ≡ got h next → HeaderIs f s h next
header_is One s h next bytes e =
    let r = header_read s h next e in
    let b = head_bytes s r.a r.b h next bytes r.orders r.terms in
    record {
      bytes =
          taken-bytes s 0 0 (number_of Coulomb) (number_of h.kind) r.a bytes r.kind
          ∙ ap (λ (l : List ℕ). bytes_of (number_of h.kind) ++ l) b.bytes
          ∙ sym (append_assoc (bytes_of (number_of h.kind)) (numbers_bytes h.orders) (bytes_of h.terms ++ drop next s));
      places = b.places;
      sums = b.sums;
      most = orders-most h.kind s r.a h.orders r.b r.orders;
      some = r.terms.above;
      few = r.terms.below;
      inside = header-inside s h next r;
    }
header_is Two s h next bytes e =
    let r = header-read2 s h next e in
    let b = head_bytes s r.a r.b h next bytes r.orders r.terms in
    record {
      bytes =
          taken-bytes s 0 form_two (form_two + number_of Coulomb) (form_two + number_of h.kind) r.a bytes r.kind
          ∙ ap (λ (l : List ℕ). bytes_of (form_two + number_of h.kind) ++ l) b.bytes
          ∙ sym (append_assoc (bytes_of (form_two + number_of h.kind)) (numbers_bytes h.orders) (bytes_of h.terms ++ drop next s));
      places = b.places;
      sums = b.sums;
      most = header-most2 s h next e;
      some = r.terms.above;
      few = r.terms.below;
      inside = header-inside2 s h next e;
    }

-- the terms begin behind the count
pub header-long : (f : Form) (s : List ℕ) (h : Header) (next : ℕ) → HeaderIs f s h next → next ≡ length (head_of f h) + length_of h.terms
unfolding length_of
header-long f s h next is =
    let all = ap length is.bytes ∙ length-append (head_of f h) (bytes_of h.terms ++ drop next s) in
    let rest = length-append (bytes_of h.terms) (drop next s) in
    omega (arith, all, rest, length-drop next s, is.inside)

-- ---- its request

fit_append : (xs ys : List ℕ) → CentresFit xs → CentresFit ys → CentresFit (xs ++ ys)
fit_append [] ys a b = b
fit_append (x ∷ []) ys a b = absurd a
fit_append (x ∷ y ∷ []) ys a b = absurd a
fit_append (x ∷ y ∷ z ∷ xs) ys a b = (a.0, fit_append xs ys a.1 b)

fit-first : (os : List ℕ) → CentresFit os → get_or os 0 0 + get_or os 1 0 + get_or os 2 0 ≤ most_order
fit-first [] fit = omega arith
fit-first (x ∷ []) fit = absurd fit
fit-first (x ∷ y ∷ []) fit = absurd fit
fit-first (x ∷ y ∷ z ∷ os) fit = fit.0

fit_next : (os : List ℕ) → CentresFit os → CentresFit (drop 3 os)
fit_next [] fit = tt
fit_next (x ∷ []) fit = absurd fit
fit_next (x ∷ y ∷ []) fit = absurd fit
fit_next (x ∷ y ∷ z ∷ os) fit = fit.1

-- the sum on each centre keeps the limit
record Low (os : List ℕ) : Type 0 where
  pub of-a : sum_of os A ≤ most_order
  pub of-b : sum_of os B ≤ most_order
  pub of_c : sum_of os C ≤ most_order
  pub of-d : sum_of os D ≤ most_order

low : (os : List ℕ) → CentresFit os → Low os
low os fit =
    let b = fit_next os fit in
    let c = fit_next (drop 3 os) b in
    let d = fit_next (drop 3 (drop 3 os)) c in
    record {
      of-a = fit-first os fit;
      of-b = omega (arith, fit-first (drop 3 os) b, at3 os 0, at3 os 1, at3 os 2);
      of_c = omega (arith, fit-first (drop 3 (drop 3 os)) c, at3 (drop 3 os) 0, at3 (drop 3 os) 1, at3 (drop 3 os) 2, at3 os 3, at3 os 4, at3 os 5);
      of-d = omega (arith, fit-first (drop 3 (drop 3 (drop 3 os))) d, at3 (drop 3 (drop 3 os)) 0, at3 (drop 3 (drop 3 os)) 1, at3 (drop 3 (drop 3 os)) 2, at3 (drop 3 os) 3, at3 (drop 3 os) 4, at3 (drop 3 os) 5, at3 os 6, at3 os 7, at3 os 8);
    }
  where
    at3 : (os : List ℕ) (i : ℕ) → get_or (drop 3 os) i 0 ≡ get_or os (3 + i) 0
    at3 os i = get_or-drop 3 os i 0

not-high : (k : Kind) (os : List ℕ) → Low os → too_high k os ≡ false
not-high Overlap os s = rw (le-ltb most_order (sum_of os A) s.of-a, le-ltb most_order (sum_of os B) s.of-b) refl
not-high Kinetic os s = rw (le-ltb most_order (sum_of os A) s.of-a, le-ltb most_order (sum_of os B) s.of-b) refl
not-high Nuclear os s = rw (le-ltb most_order (sum_of os A) s.of-a, le-ltb most_order (sum_of os B) s.of-b) refl
not-high Moment os s = rw (le-ltb most_order (sum_of os A) s.of-a, le-ltb most_order (sum_of os B) s.of-b, le-ltb most_order (sum_of os C) s.of_c) refl
not-high Coulomb os s = rw (le-ltb most_order (sum_of os A) s.of-a, le-ltb most_order (sum_of os B) s.of-b, le-ltb most_order (sum_of os C) s.of_c, le-ltb most_order (sum_of os D) s.of-d) refl

zeros-fit : (k : Kind) → CentresFit (replicate (request_orders - orders_of k) 0)
zeros-fit Overlap = (omega arith, (omega arith, tt))
zeros-fit Kinetic = (omega arith, (omega arith, tt))
zeros-fit Nuclear = (omega arith, (omega arith, tt))
zeros-fit Moment = (omega arith, tt)
zeros-fit Coulomb = tt

zeros-total : (n : ℕ) → total (replicate {A = ℕ} n 0) ≡ 0
unfolding total
zeros-total zero = refl
zeros-total (suc n) = omega (arith, zeros-total n)

module _ (h : Header) (places : length h.orders ≡ orders_of h.kind) where
  -- the orders that the kind uses are the header's
  pub request-orders : take (orders_of h.kind) (request_of h) ≡ h.orders
  unfolding request_of
  request-orders = take_at h.orders (replicate (request_orders - length h.orders) 0) (orders_of h.kind) places

  -- a header's request is not refused 2 or 3
  pub request-within : CentresFit h.orders → RequestWithin h.kind (request_of h)
  unfolding request_of
  request-within sums =
      let zeros = zeros_of (length h.orders) in
      let same : zeros_of (length h.orders) ≡ zeros_of (orders_of h.kind) = ap zeros_of places in
      let all : CentresFit (h.orders ++ zeros) = fit_append h.orders zeros sums (subst (λ (l : List ℕ). CentresFit l) (sym same) (zeros-fit h.kind)) in
      let rest : drop (orders_of h.kind) (h.orders ++ zeros) ≡ zeros = drop_at h.orders zeros (orders_of h.kind) places in
      let none : total (drop (orders_of h.kind) (h.orders ++ zeros)) ≡ 0 = ap total rest ∙ zeros-total (request_orders - length h.orders) in
      let within = orders-within h.kind in
      record {
        low_sums = not-high h.kind (h.orders ++ zeros) (low (h.orders ++ zeros) all);
        none-unused = le-ltb 0 (total (drop (orders_of h.kind) (h.orders ++ zeros))) (omega (arith, none));
        in-full = omega (arith, length-append h.orders zeros, length-replicate {A = ℕ} (request_orders - length h.orders) 0, places, within);
      }
    where
      zeros_of : ℕ → List ℕ
      zeros_of n = replicate (request_orders - n) 0

  -- and its terms keep the reader's limits
  pub fresh-fits : CentresFit h.orders → length (fresh_terms h) ≤ most_terms → TermsFit h.kind (total h.orders) (fresh_terms h)
  unfolding fresh_terms
  fresh-fits sums few = subst (λ (os : List ℕ). TermsFit h.kind (total os) (terms_of h.kind (request_of h))) request-orders (roll-fits h.kind (request_of h) (request-within sums) few).terms

  pub fresh-some : CentresFit h.orders → length (fresh_terms h) ≤ most_terms → 1 ≤ length (fresh_terms h)
  unfolding fresh_terms
  fresh-some sums few = (roll-fits h.kind (request_of h) (request-within sums) few).terms-least

  -- the fresh roll: the same head, the fresh count, the fresh terms
  pub fresh-bytes : (f : Form) → fresh_roll f h ≡ head_of f h ++ (bytes_of (length (fresh_terms h)) ++ terms_bytes_in f [] (fresh_terms h))
  unfolding fresh_roll fresh_terms roll_of roll_of2 roll_bytes roll_bytes2
  fresh-bytes One =
      ap (λ (os : List ℕ). bytes_of (number_of h.kind) ++ (numbers_bytes os ++ (bytes_of (length (terms_of h.kind (request_of h))) ++ terms_bytes (terms_of h.kind (request_of h))))) request-orders
      ∙ sym (append_assoc (bytes_of (number_of h.kind)) (numbers_bytes h.orders) (bytes_of (length (terms_of h.kind (request_of h))) ++ terms_bytes (terms_of h.kind (request_of h))))
  fresh-bytes Two =
      ap (λ (os : List ℕ). bytes_of (form_two + number_of h.kind) ++ (numbers_bytes os ++ (bytes_of (length (terms_of h.kind (request_of h))) ++ terms_bytes2 [] (terms_of h.kind (request_of h))))) request-orders
      ∙ sym (append_assoc (bytes_of (form_two + number_of h.kind)) (numbers_bytes h.orders) (bytes_of (length (terms_of h.kind (request_of h))) ++ terms_bytes2 [] (terms_of h.kind (request_of h))))

-- where the fresh terms begin
abbrev pub fresh_from : Form → Header → ℕ
fresh_from f h = length (head_of f h) + length_of (length (fresh_terms h))

pub fresh-tail : (f : Form) (h : Header) → length h.orders ≡ orders_of h.kind → (drop (fresh_from f h) (fresh_roll f h) ≡ terms_bytes_in f [] (fresh_terms h)) × (length (fresh_roll f h) ≡ fresh_from f h + length (terms_bytes_in f [] (fresh_terms h)))
unfolding length_of
fresh-tail f h places =
    let count = bytes_of (length (fresh_terms h)) in
    let tail = terms_bytes_in f [] (fresh_terms h) in
    let is : fresh_roll f h ≡ (head_of f h ++ count) ++ tail = fresh-bytes h places f ∙ sym (append_assoc (head_of f h) count tail) in
    let front : length (head_of f h ++ count) ≡ length (head_of f h) + length count = length-append (head_of f h) count in
    (ap (drop (length (head_of f h) + length count)) is ∙ drop_at (head_of f h ++ count) tail (length (head_of f h) + length count) front, ap length is ∙ length-append (head_of f h ++ count) tail ∙ ap (λ (n : ℕ). n + length tail) front)
