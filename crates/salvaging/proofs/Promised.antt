-- 02, Q-8, sentence by sentence, of what `salvage` promises: what is written, what is kept and what is anew, a roll that is whole, and damage behind the first terms.
use Prim.Native.Nat.{ℕ, zero, suc, zero-le, ◌+◌, ◌-◌, ◌≤◌}
use mathlib.Core.Path.{◌≡◌, refl, sym, ap, ap₂, ◌∙◌}
use mathlib.Core.Bool.{Bool, true, false, cond, not}
use mathlib.Core.List.{List, [], ◌∷◌, ◌++◌, append_assoc, append-nil}
use native.Mathlib.Omega.{arith}
use borrow.Author.Tests.{ltb-false, le-ltb, eq-eqb}
use lib.Dec.{eqb}
use lib.ListN.{length, take, drop, length-append, length-drop, take-append-drop}
use lib.Seq.{take-length, take_at}
use Rattle.laws.specs.Placed.{placed}
use Rattle.laws.specs.Total.{total}
use Rattle.laws.proofs.Cases.{clash}
use Rattle.kind.specs.Limits.{most_terms}
use Rattle.kind.specs.Kinds.{kind_of, number_of, orders_of, most_l}
use Rattle.kind.specs.declared.Kind.{Kind}
use Rattle.kind.specs.declared.Kind.TheVariants.{Coulomb}
use Rattle.kind.proofs.KindNumber.{kind-number}
use Rattle.kind.proofs.Within.{number-within}
use Rattle.number.specs.Numbers.{bytes_of, length_of, Bytes}
use Rattle.term.specs.Terms.{Term}
use Rattle.roll.specs.Field.{Field}
use Rattle.roll.specs.Bytes.{numbers_bytes, roll_bytes}
use Rattle.roll.specs.Reading.{Reading, got, refused, onward, Header, of_kind, header_at, Roll}
use Rattle.roll.specs.Fits.{CentresFit, TermsFit, RollFits}
use Rattle.roll.proofs.Back.{field_back, kind-back}
use Rattle.roll.proofs.Written.{roll-read}
use Rattle.form2.specs.Bytes.{form_two, roll_bytes2}
use Rattle.form2.specs.Reading.{header_at2}
use Rattle.form2.proofs.Written.{roll-read2}
use Rattle.expansion.specs.Expanding.{◌exceeds◌, too_many}
use Rattle.salvaging.specs.declared.forms.Form.{Form}
use Rattle.salvaging.specs.declared.forms.Form.TheVariants.{One, Two}
use Rattle.salvaging.specs.declared.After.TheVariants as after
use Rattle.salvaging.specs.declared.Told.{Told}
use Rattle.salvaging.specs.Salvage.{Salvaged, form_of, header_in, request_of, fresh_terms, fresh_roll, Leading, leading, leading_of, after_of, told_of, salvaged_in, bytes_out, salvaged_of, out_of, terms_from, read_in, header_of}
use Rattle.salvaging.specs.inner.Forms.{term_bytes_in, terms_bytes_in}
use Rattle.salvaging.proofs.InForms.{term-there, terms-next, terms-none}
use Rattle.salvaging.proofs.Kept.{lead-more, lead-place, lead-few, lead-reads, lead-most}
use Rattle.salvaging.proofs.Fresh.{head_of, fresh-fits, fresh-some, fresh-bytes, header_is}
use Rattle.salvaging.proofs.FirstByte.{form-taken}
use Rattle.std.specs.Prelude.{Option, Ok, Err}
use Rattle.kind.specs.declared.refusals.Fault.{Fault}
use Rattle.roll.specs.Field.{fault}
use Rattle.kind.specs.declared.refusals.Refusal.TheVariants.{TooManyTerms, StartBeyondEnd, NoRoom}

-- ---- what is written

-- "the tool works out the expansion afresh and writes it in the same form": of a header that reads, its request's roll stands from the start on, and all else is as it was
pub record WrittenAnew (s out : List ℕ) (start : ℕ) (told : Told) : Type 0 where
  pub h : Header
  pub next : ℕ
  pub reads : header_in (form_of s) s ≡ got h next
  pub tells : told ≡ told_of (form_of s) s h next
  pub room : start + length (fresh_roll (form_of s) h) ≤ length out
  pub few : length (fresh_terms h) ≤ most_terms
  pub written : out_of s out start ≡ placed out start (fresh_roll (form_of s) h)

pub salvage-writes : (s out : List ℕ) (start : ℕ) (told : Told) → salvaged_of s out start ≡ Ok told → WrittenAnew s out start told
unfolding salvaged_of out_of salvaged_in fresh_terms
salvage-writes s out start told e = by (header_in (form_of s) s) refl e
  where
    by : (x : Reading Header) → header_in (form_of s) s ≡ x → salvaged_in (form_of s) s x out start ≡ Ok told → WrittenAnew s out start told
    by (refused n place) reads e = absurd (clash (cc))
    by (got h next) reads e = on (start exceeds length out) (too_many h.kind (request_of h)) (start + length (fresh_roll (form_of s) h) exceeds length out) refl refl e
      where
        on : (five four six : Bool) → too_many h.kind (request_of h) ≡ four → (start + length (fresh_roll (form_of s) h) exceeds length out) ≡ six
            → cond {A = Salvaged} five (Err (fault StartBeyondEnd 0)) (cond four (Err (fault TooManyTerms 0)) (cond six (Err (fault NoRoom 0)) (Ok (told_of (form_of s) s h next)))) ≡ Ok told → WrittenAnew s out start told
        on true four six p q e = absurd (clash (cc))
        on false true six p q e = absurd (clash (cc))
        on false false true p q e = absurd (clash (cc))
        on false false false p q is =
            record {
              h = h;
              next = next;
              reads = reads;
              tells = cc (is);
              room = ltb-false (length out) (start + length (fresh_roll (form_of s) h)) q;
              few = ltb-false most_terms (length (fresh_terms h)) p;
              written =
                  ap (λ (x : Reading Header). bytes_out (salvaged_in (form_of s) s x out start) (form_of s) x out start) reads
                  ∙ ap (λ (x : Salvaged). bytes_out x (form_of s) (got h next) out start) e;
            }

-- a refusal changes nothing
pub refusal-changes-nothing : (s out : List ℕ) (start : ℕ) (why : Fault) → salvaged_of s out start ≡ Err why → out_of s out start ≡ out
unfolding out_of
refusal-changes-nothing s out start why e = ap (λ (x : Salvaged). bytes_out x (form_of s) (header_in (form_of s) s) out start) e

-- ---- what is kept, and what is anew

-- the largest number of terms that read one after the other from the header on and equal the first of the fresh ones
pub record Largest (f : Form) (s : List ℕ) (h : Header) (next n : ℕ) : Type 0 where
  pub few : n ≤ length (fresh_terms h)
  pub end : ℕ
  pub reads : terms_from f s next n h.kind (total h.orders) [] ≡ got (take n (fresh_terms h)) end
  pub most : (m last : ℕ) → m ≤ length (fresh_terms h) → terms_from f s next m h.kind (total h.orders) [] ≡ got (take m (fresh_terms h)) last → m ≤ n

pub kept-largest : (f : Form) (s : List ℕ) (h : Header) (next : ℕ) → Largest f s h next (told_of f s h next).kept
unfolding told_of leading_of
kept-largest f s h next =
    record {
      few = lead-few f h.kind (total h.orders) (fresh_terms h) [] s next;
      end = (leading f s next h.kind (total h.orders) [] (fresh_terms h)).place;
      reads = lead-reads f h.kind (total h.orders) (fresh_terms h) [] s next;
      most = λ m last few e. lead-most f h.kind (total h.orders) (fresh_terms h) [] s next m last few e;
    }

-- "the two add up to the fresh term count"
pub adds-up : (f : Form) (s : List ℕ) (h : Header) (next : ℕ) → (told_of f s h next).kept + (told_of f s h next).anew ≡ length (fresh_terms h)
unfolding told_of leading_of
adds-up f s h next = let few = lead-few f h.kind (total h.orders) (fresh_terms h) [] s next in omega (arith, few)

-- ---- damage behind the first terms

-- bytes that begin with so many terms' writing: at least so many read and are equal
lead-begins : (f : Form) (k : Kind) (l : ℕ) → l ≤ most_l k → (n : ℕ) (ts : List Term) (earlier s rest : List ℕ) (at : ℕ) → TermsFit k l ts → n ≤ length ts → drop at s ≡ terms_bytes_in f earlier (take n ts) ++ rest → n ≤ (leading f s at k l earlier ts).count
lead-begins f k l small zero ts earlier s rest at fit few is = zero-le
lead-begins f k l small (suc n) [] earlier s rest at fit few is = absurd (omega (arith, few))
lead-begins f k l small (suc n) (t ∷ ts) earlier s rest at fit few is =
    let split : drop at s ≡ term_bytes_in f earlier t ++ (terms_bytes_in f t.prefactors (take n ts) ++ rest) =
    is ∙ ap (λ (x : List ℕ). x ++ rest) (terms-next f earlier t (take n ts)) ∙ append_assoc (term_bytes_in f earlier t) (terms_bytes_in f t.prefactors (take n ts)) rest in
    let x = term-there f k l earlier t s (terms_bytes_in f t.prefactors (take n ts) ++ rest) at small fit.0 split in
    let others = lead-begins f k l small n ts t.prefactors s rest x.0 fit.1 (omega (arith, few)) x.2 in
    let count = ap (λ (y : Leading). y.count) (lead-more f s at k l earlier t ts x.0 x.1) in
    omega (arith, others, count)

-- from a header on that reads, whatever count it says
pub kept-behind-header : (f : Form) (s : List ℕ) (h : Header) (next n : ℕ) (rest : List ℕ) → Bytes s → header_in f s ≡ got h next → length (fresh_terms h) ≤ most_terms → n ≤ length (fresh_terms h)
    → drop next s ≡ terms_bytes_in f [] (take n (fresh_terms h)) ++ rest → n ≤ (told_of f s h next).kept
unfolding told_of leading_of
kept-behind-header f s h next n rest bytes reads many few is =
    let parts = header_is f s h next bytes reads in
    lead-begins f h.kind (total h.orders) parts.most n (fresh_terms h) [] s rest next (fresh-fits h parts.places parts.sums many) few is

-- a header that was written reads
header-there : (f : Form) (h : Header) (s rest : List ℕ) → length h.orders ≡ orders_of h.kind → CentresFit h.orders → 1 ≤ h.terms → h.terms ≤ most_terms → s ≡ head_of f h ++ (bytes_of h.terms ++ rest) → (next : ℕ) × (header_in f s ≡ got h next) × (drop next s ≡ rest)
unfolding header_at header_at2
header-there One h s rest places sums some most is =
    let k = h.kind in
    let split : s ≡ bytes_of (number_of k) ++ (numbers_bytes h.orders ++ (bytes_of h.terms ++ rest)) = is ∙ append_assoc (bytes_of (number_of k)) (numbers_bytes h.orders) (bytes_of h.terms ++ rest) in
    let x = field_back s (numbers_bytes h.orders ++ (bytes_of h.terms ++ rest)) 0 0 (number_of Coulomb) (number_of k) split (omega (arith, number-within k)) zero-le (number-within k) in
    let r = kind-back k h.orders h.terms s rest x.0 places sums some most x.2 in (
      r.0,
      ap (λ (y : Field). onward y (λ n next. of_kind s next (kind_of n))) x.1
          ∙ ap (λ (m : Option Kind). of_kind s x.0 m) (kind-number k)
          ∙ r.1,
      r.2,
    )
header-there Two h s rest places sums some most is =
    let k = h.kind in
    let within = number-within k in
    let split : s ≡ bytes_of (form_two + number_of k) ++ (numbers_bytes h.orders ++ (bytes_of h.terms ++ rest)) = is ∙ append_assoc (bytes_of (form_two + number_of k)) (numbers_bytes h.orders) (bytes_of h.terms ++ rest) in
    let x = field_back s (numbers_bytes h.orders ++ (bytes_of h.terms ++ rest)) 0 form_two (form_two + number_of Coulomb) (form_two + number_of k) split (omega arith) (omega arith) (omega arith) in
    let r = kind-back k h.orders h.terms s rest x.0 places sums some most x.2 in
    let number : form_two + number_of k - form_two ≡ number_of k = omega arith in (
      r.0,
      ap (λ (y : Field). onward y (λ n next. of_kind s next (kind_of (n - form_two)))) x.1
          ∙ ap (λ (m : Option Kind). of_kind s x.0 m) (ap kind_of number ∙ kind-number k)
          ∙ r.1,
      r.2,
    )

-- a header as its own expansion has it
pub record FreshHeader (h : Header) : Type 0 where
  pub places : length h.orders ≡ orders_of h.kind
  pub sums : CentresFit h.orders
  pub count : h.terms ≡ length (fresh_terms h)
  pub few : h.terms ≤ most_terms

-- where the first n terms of its roll end
abbrev pub end_of : Form → Header → ℕ → ℕ
end_of f h n = length (head_of f h) + length_of h.terms + length (terms_bytes_in f [] (take n (fresh_terms h)))

terms-split : (f : Form) (n : ℕ) (ts : List Term) (earlier : List ℕ) → (others : List ℕ) × (terms_bytes_in f earlier ts ≡ terms_bytes_in f earlier (take n ts) ++ others)
terms-split f zero ts earlier = (terms_bytes_in f earlier ts, ap (λ (x : List ℕ). x ++ terms_bytes_in f earlier ts) (sym (terms-none f earlier)))
terms-split f (suc n) [] earlier = ([], terms-none f earlier ∙ sym (ap (λ (x : List ℕ). x ++ []) (terms-none f earlier)))
terms-split f (suc n) (t ∷ ts) earlier =
    let r = terms-split f n ts t.prefactors in (
      r.0,
      terms-next f earlier t ts
          ∙ ap (λ (x : List ℕ). term_bytes_in f earlier t ++ x) r.1
          ∙ sym (append_assoc (term_bytes_in f earlier t) (terms_bytes_in f t.prefactors (take n ts)) r.0)
          ∙ sym (ap (λ (x : List ℕ). x ++ r.0) (terms-next f earlier t (take n ts))),
    )

-- what is told of a header that reads, and of so many terms at least
pub record KeptAtLeast (f : Form) (s : List ℕ) (h : Header) (n : ℕ) : Type 0 where
  pub form : form_of s ≡ f
  pub next : ℕ
  pub reads : header_in f s ≡ got h next
  pub kept : n ≤ (told_of f s h next).kept

-- bytes that agree with a fresh roll up to the end of its first n terms, whatever follows: at least n are kept
pub damage-behind : (f : Form) (s : List ℕ) (h : Header) (n : ℕ) → Bytes s → FreshHeader h → n ≤ length (fresh_terms h) → take (end_of f h n) s ≡ take (end_of f h n) (fresh_roll f h) → KeptAtLeast f s h n
unfolding length_of
damage-behind f s h n bytes fresh few same =
    let ts = fresh_terms h in
    let head = head_of f h in
    let count = bytes_of h.terms in
    let first = terms_bytes_in f [] (take n ts) in
    let split = terms-split f n ts [] in
    let many : length ts ≤ most_terms = omega (arith, fresh.count, fresh.few) in
    let roll : fresh_roll f h ≡ (head ++ (count ++ first)) ++ split.0 =
    fresh-bytes h fresh.places f
    ∙ ap₂ (λ (m : ℕ) (x : List ℕ). head ++ (bytes_of m ++ x)) (sym fresh.count) split.1
    ∙ ap (λ (x : List ℕ). head ++ x) (sym (append_assoc count first split.0))
    ∙ sym (append_assoc head (count ++ first) split.0) in
    let long : length (head ++ (count ++ first)) ≡ length head + length count + length first = omega (arith, length-append head (count ++ first), length-append count first) in
    let begins : take (length head + length count + length first) s ≡ head ++ (count ++ first) = same ∙ ap (take (length head + length count + length first)) roll ∙ take_at (head ++ (count ++ first)) split.0 (length head + length count + length first) long in
    let rest = drop (length head + length count + length first) s in
    let all : s ≡ head ++ (count ++ (first ++ rest)) =
    sym (take-append-drop (length head + length count + length first) s)
    ∙ ap (λ (x : List ℕ). x ++ rest) begins
    ∙ append_assoc head (count ++ first) rest
    ∙ ap (λ (x : List ℕ). head ++ x) (append_assoc count first rest) in
    let x = header-there f h s (first ++ rest) fresh.places fresh.sums (omega (arith, fresh.count, fresh-some h fresh.places fresh.sums many)) fresh.few all in
    record {
      form = form-taken f s h x.0 bytes x.1;
      next = x.0;
      reads = x.1;
      kept = kept-behind-header f s h x.0 n rest bytes x.1 many few x.2;
    }

-- ---- a roll that is whole

-- its bytes are its writing, and it keeps the limits
read_is : (f : Form) (s : List ℕ) (r : Roll) (end : ℕ) → Bytes s → read_in f s ≡ got r end → (s ≡ head_of f (header_of r) ++ (bytes_of (length r.terms) ++ terms_bytes_in f [] r.terms)) × RollFits r
unfolding roll_bytes roll_bytes2
read_is One s r end bytes e =
    let x = roll-read s r end bytes e in
    (x.0 ∙ sym (append_assoc (bytes_of (number_of r.kind)) (numbers_bytes r.orders) (bytes_of (length r.terms) ++ terms_bytes_in One [] r.terms)), x.1)
read_is Two s r end bytes e =
    let x = roll-read2 s r end bytes e in
    (x.0 ∙ sym (append_assoc (bytes_of (form_two + number_of r.kind)) (numbers_bytes r.orders) (bytes_of (length r.terms) ++ terms_bytes_in Two [] r.terms)), x.1)

-- everything is kept, the count is right, nothing follows
abbrev pub all_kept : List ℕ → Roll → Told
all_kept s r = record { length = length s; terms = length r.terms; kept = length r.terms; anew = 0; miscounted = false; after = after.None }

-- of a header whose count is its request's, with the fresh terms and nothing behind it
whole-told : (f : Form) (s : List ℕ) (h : Header) (next : ℕ) → Bytes s → header_in f s ≡ got h next → FreshHeader h → drop next s ≡ terms_bytes_in f [] (fresh_terms h) → fresh_roll f h ≡ s
    → told_of f s h next ≡ record { length = length s; terms = h.terms; kept = h.terms; anew = 0; miscounted = false; after = after.None }
unfolding told_of leading_of
whole-told f s h next bytes reads fresh tail roll =
    let ts = fresh_terms h in
    let l = total h.orders in
    let parts = header_is f s h next bytes reads in
    let lead = leading f s next h.kind l [] ts in
    let many : length ts ≤ most_terms = omega (arith, fresh.count, fresh.few) in
    let fit = fresh-fits h fresh.places fresh.sums many in
    let begins : drop next s ≡ terms_bytes_in f [] (take (length ts) ts) ++ [] = tail ∙ ap (terms_bytes_in f []) (sym (take-length ts)) ∙ sym (append-nil (terms_bytes_in f [] (take (length ts) ts))) in
    let least = lead-begins f h.kind l parts.most (length ts) ts [] s [] next fit (omega arith) begins in
    let most = lead-few f h.kind l ts [] s next in
    let all : lead.count ≡ length ts = omega (arith, least, most) in
    let place : lead.place ≡ next + length (terms_bytes_in f [] ts) = lead-place f h.kind l ts [] s next bytes parts.inside all in
    let ends : lead.place ≡ length s = omega (arith, place, ap length tail, length-drop next s, parts.inside) in
    made (length (fresh_roll f h)) (length ts) lead (ap length roll) (sym fresh.count) (all ∙ sym fresh.count) ends
  where
    made : (m n : ℕ) (x : Leading) → m ≡ length s → n ≡ h.terms → x.count ≡ h.terms → x.place ≡ length s
        → ◌≡◌ {A = Told} (record { length = m; terms = n; kept = x.count; anew = n - x.count; miscounted = not (eqb h.terms n); after = after_of s n x }) (record { length = length s; terms = h.terms; kept = h.terms; anew = 0; miscounted = false; after = after.None })
    made m n x a b c d =
        let none : h.terms - h.terms ≡ 0 = omega arith in
        rw (a, b, c, d, eq-eqb h.terms h.terms refl, eq-eqb (length s) (length s) refl, none) refl

-- with few terms and room, what is told is the answer
room-told : (f : Form) (s : List ℕ) (h : Header) (next : ℕ) (out : List ℕ) (start : ℕ) → length (fresh_terms h) ≤ most_terms → start + length (fresh_roll f h) ≤ length out → salvaged_in f s (got h next) out start ≡ Ok (told_of f s h next)
unfolding salvaged_in fresh_terms
room-told f s h next out start few room =
    rw (le-ltb (length out) start (omega (arith, room)), le-ltb most_terms (length (fresh_terms h)) few, le-ltb (length out) (start + length (fresh_roll f h)) room) refl

-- a roll that reads and whose terms are its request's expansion: all of that is told, and the bytes written are its own
pub whole-roll : (f : Form) (s : List ℕ) (r : Roll) (end : ℕ) → Bytes s → read_in f s ≡ got r end → r.terms ≡ fresh_terms (header_of r) → (out : List ℕ) (start : ℕ) → start + length s ≤ length out
    → (salvaged_of s out start ≡ Ok (all_kept s r)) × (out_of s out start ≡ placed out start s)
unfolding salvaged_of out_of
whole-roll f s r end bytes e own out start room =
    let h = header_of r in
    let x = read_is f s r end bytes e in
    let fits = x.1 in
    let fresh : FreshHeader h = record { places = fits.places; sums = fits.sums; count = ap length own; few = fits.most } in
    let there = header-there f h s (terms_bytes_in f [] r.terms) fits.places fits.sums fits.terms-least fits.most x.0 in
    let form : form_of s ≡ f = form-taken f s h there.0 bytes there.1 in
    let tail : drop there.0 s ≡ terms_bytes_in f [] (fresh_terms h) = there.2 ∙ ap (terms_bytes_in f []) own in
    let roll : fresh_roll f h ≡ s = fresh-bytes h fits.places f ∙ ap (λ (us : List Term). head_of f h ++ (bytes_of (length us) ++ terms_bytes_in f [] us)) (sym own) ∙ sym x.0 in
    let told = whole-told f s h there.0 bytes there.1 fresh tail roll in
    let is : salvaged_in (form_of s) s (header_in (form_of s) s) out start ≡ Ok (all_kept s r) =
    ap (λ (g : Form). salvaged_in g s (header_in g s) out start) form
    ∙ ap (λ (y : Reading Header). salvaged_in f s y out start) there.1
    ∙ room-told f s h there.0 out start (omega (arith, fresh.count, fresh.few)) (omega (arith, room, ap length roll))
    ∙ ap (λ (t : Told). Ok t) told in (
      is,
      ap (λ (y : Salvaged). bytes_out y (form_of s) (header_in (form_of s) s) out start) is
          ∙ ap (λ (g : Form). bytes_out (Ok (all_kept s r)) g (header_in g s) out start) form
          ∙ ap (λ (y : Reading Header). bytes_out (Ok (all_kept s r)) f y out start) there.1
          ∙ ap (placed out start) roll,
    )
