-- Both forms at once: what a roll that reads says of its header, and what the expansion of a request reads as.
use Prim.Native.Nat.{ℕ, ◌+◌, ◌≤◌}
use mathlib.Core.Path.{◌≡◌, refl, sym, ap, ◌∙◌}
use mathlib.Core.List.{List, []}
use native.Mathlib.Omega.{arith}
use lib.ListN.{length, take}
use Rattle.laws.specs.Total.{total}
use Rattle.kind.specs.declared.Kind.{Kind}
use Rattle.kind.specs.Kinds.{number_of, orders_of}
use Rattle.kind.specs.Limits.{most_terms}
use Rattle.number.specs.Numbers.{length_of, Bytes}
use Rattle.term.specs.Terms.{Term}
use Rattle.roll.specs.Reading.{got, refused, terms_at, Header, header_at, Roll, roll_at}
use Rattle.roll.specs.Header.{held_header, open_of, check_of}
use Rattle.roll.proofs.Filling.{and_then-is}
use Rattle.roll.proofs.JudgeLaws.{terms-count}
use Rattle.roll.proofs.Checked.{reads-checked, checked-reads, checked_refused, opened-of}
use Rattle.form2.specs.Reading.{header_at2, terms_after, roll_at2}
use Rattle.form2.proofs.Checked.{beside, reads-checked2, checked-reads2, checked-refused2}
use Rattle.form2.proofs.Written.{terms-count2}
use Rattle.expansion.specs.Expanding.{terms_of}
use Rattle.expansion.specs.inner.Requests.{RequestWithin}
use Rattle.expansion.proofs.ReadsBack.{reads-back, reads-back2, used-total}
use Rattle.expansion.proofs.Demanded.{all-orders}
use Rattle.expansion.proofs.HeaderLaws.{roll-length, roll-length2}
use Rattle.salvaging.specs.declared.forms.Form.{Form}
use Rattle.salvaging.specs.declared.forms.Form.TheVariants.{One, Two}
use Rattle.salvaging.specs.Salvage.{read_in, header_in, header_of, request_of, roll_in, fresh_roll, fresh_terms}
use Rattle.salvaging.specs.inner.Forms.{terms_bytes_in}
use Rattle.salvaging.proofs.Fresh.{header_is, header-long, request-within, fresh-tail}
use Rattle.confirming.specs.Confirm.{judged_in}
use Rattle.confirming.specs.inner.Quick.{request_opened}
use Rattle.std.specs.Prelude.{Ok, Err}
use Rattle.kind.specs.declared.refusals.Fault.{Fault}
use Rattle.roll.specs.declared.header.Opened.{Opened}

-- ---- a roll that reads

pub record Headed (f : Form) (s : List ℕ) (r : Roll) : Type 0 where
  pub next : ℕ
  pub reads : header_in f s ≡ got (header_of r) next
  pub opened : judged_in f s ≡ Ok (opened-of (header_of r) next)

-- a header is its roll's
same-header : (h : Header) (ts : List Term) (r : Roll) → length ts ≡ h.terms → record { kind = h.kind; orders = h.orders; terms = ts } ≡ r → h ≡ header_of r
same-header h ts r count is = (λ i. record { kind = h.kind; orders = h.orders; terms = sym count i }) ∙ ap header_of is

pub headed : (f : Form) (s : List ℕ) (r : Roll) (end : ℕ) → read_in f s ≡ got r end → Headed f s r
unfolding roll_at roll_at2 open_of
headed One s r end e =
    let x = and_then-is (header_at s) _ r end e in
    let h = x.0 in
    let y = and_then-is (terms_at s x.1 h.terms h.kind (total h.orders)) (beside h) r end x.3 in
    let count : length y.0 ≡ h.terms = terms-count h.terms h.kind (total h.orders) s x.1 y.0 y.1 y.2 in
    let all : record { kind = h.kind; orders = h.orders; terms = y.0 } ≡ r = cc y.3 in
    let same : h ≡ header_of r = same-header h y.0 r count all in
    let is : header_at s ≡ got (header_of r) x.1 = x.2 ∙ ap (λ (h : Header). got h x.1) same in
    let opens = reads-checked s r end e in
    record { next = x.1; reads = is; opened = opens.checks ∙ sym opens.opens ∙ ap held_header is }
headed Two s r end e =
    let x = and_then-is (header_at2 s) _ r end e in
    let h = x.0 in
    let y = and_then-is (terms_after s x.1 h.terms h.kind (total h.orders) []) (beside h) r end x.3 in
    let count : length y.0 ≡ h.terms = terms-count2 h.terms h.kind (total h.orders) [] s x.1 y.0 y.1 y.2 in
    let all : record { kind = h.kind; orders = h.orders; terms = y.0 } ≡ r = cc y.3 in
    let same : h ≡ header_of r = same-header h y.0 r count all in
    let is : header_at2 s ≡ got (header_of r) x.1 = x.2 ∙ ap (λ (h : Header). got h x.1) same in
    let opens = reads-checked2 s r end e in
    record { next = x.1; reads = is; opened = opens.checks ∙ sym opens.opens ∙ ap held_header is }

-- its request keeps the limits
pub roll-within : (f : Form) (s : List ℕ) (r : Roll) → Bytes s → Headed f s r → RequestWithin r.kind (request_of (header_of r))
roll-within f s r bytes d = let is = header_is f s (header_of r) d.next bytes d.reads in request-within (header_of r) is.places is.sums

-- the judge says a roll exactly where it reads, and refuses what reading refuses
pub judged-reads : (f : Form) (s : List ℕ) (o : Opened) → judged_in f s ≡ Ok o → (r : Roll) × (end : ℕ) × (read_in f s ≡ got r end)
judged-reads One s o found = checked-reads s o found
judged-reads Two s o found = checked-reads2 s o found

pub judged-refused : (f : Form) (s : List ℕ) (why : Fault) → judged_in f s ≡ Err why → read_in f s ≡ refused why.refusal why.place
judged-refused One s why found = checked_refused s (check_of s) why refl found
judged-refused Two s why found = checked-refused2 s why found

-- ---- the roll of a request

abbrev pub the_roll : Kind → List ℕ → Roll
the_roll k os = record { kind = k; orders = take (orders_of k) os; terms = terms_of k os }

module _ (k : Kind) (os : List ℕ) (within : RequestWithin k os) where
  -- a request is what its own roll names
  pub own-request : request_of (header_of (the_roll k os)) ≡ os
  unfolding request_of
  own-request = all-orders k os within

  module _ (few : length (terms_of k os) ≤ most_terms) where
    pub fresh-reads : (f : Form) → read_in f (roll_in f k os) ≡ got (the_roll k os) (length (roll_in f k os))
    fresh-reads One = reads-back k os within few
    fresh-reads Two = reads-back2 k os within few

    fresh-length : (f : Form) → length (roll_in f k os) ≡ 1 + orders_of k + length_of (length (terms_of k os)) + length (terms_bytes_in f [] (terms_of k os))
    fresh-length One = roll-length k os within
    fresh-length Two = roll-length2 k os within

    fresh-same : (f : Form) → fresh_roll f (header_of (the_roll k os)) ≡ roll_in f k os
    unfolding fresh_roll
    fresh-same f = ap (roll_in f k) own-request

    terms-same : fresh_terms (header_of (the_roll k os)) ≡ terms_of k os
    unfolding fresh_terms
    terms-same = ap (terms_of k) own-request

    -- and the header that the judge tells of it
    pub fresh-opened : (f : Form) (s : List ℕ) → Bytes s → s ≡ roll_in f k os → judged_in f s ≡ Ok (request_opened k os (length (terms_of k os)))
    fresh-opened f s bytes e =
        let h = header_of (the_roll k os) in
        let reads : read_in f s ≡ got (the_roll k os) (length (roll_in f k os)) = ap (read_in f) e ∙ fresh-reads f in
        let d = headed f s (the_roll k os) (length (roll_in f k os)) reads in
        let is = header_is f s h d.next bytes d.reads in
        let long = header-long f s h d.next is in
        let tail = (fresh-tail f h is.places).1 in
        let a = ap length (fresh-same f) in
        let b = fresh-length f in
        let c = ap (λ (ts : List Term). length_of (length ts)) terms-same in
        let g = ap (λ (ts : List Term). length (terms_bytes_in f [] ts)) terms-same in
        let place : d.next ≡ 1 + orders_of k + length_of (length (terms_of k os)) = omega (arith, long, tail, a, b, c, g) in
        d.opened
        ∙ (λ i. Ok (record {
          cursor = record { place = place i; left = length (terms_of k os); kind = number_of k; l = used-total k os within i };
          orders = all-orders k os within i;
        }))
