-- What was written in form 2 reads back: number by number, from the front, as the definitions read.
use Prim.Native.Nat.{ℕ, zero, suc, zero-le, ◌+◌, ◌-◌, ◌≤◌}
use mathlib.Core.Path.{◌≡◌, refl, sym, ap, ◌∙◌}
use mathlib.Core.List.{List, [], ◌∷◌, ◌++◌, append_assoc}
use native.Mathlib.Omega.{arith}
use borrow.Author.Tests.{eq-eqb}
use lib.ListN.{length, drop, length-drop}
use Rattle.kind.specs.Limits.{most_scale, most_terms, table_places}
use Rattle.kind.specs.Kinds.{kind_of, number_of, orders_of, table_of, most_l, most_prefactors}
use Rattle.kind.specs.declared.Kind.{Kind}
use Rattle.kind.specs.declared.Kind.TheVariants.{Coulomb}
use Rattle.kind.proofs.KindNumber.{kind-number}
use Rattle.kind.proofs.Within.{number-within, l-within, table-within}
use Rattle.laws.specs.Total.{total}
use Rattle.number.specs.Numbers.{bytes_of}
use Rattle.term.specs.Terms.{Term}
use Rattle.roll.specs.Field.{Field}
use Rattle.roll.specs.Bytes.{numbers_bytes}
use Rattle.roll.specs.Reading.{got, onward, before, within_at, prefactors_at, most_boys, Header, of_kind, Roll}
use Rattle.roll.specs.Fits.{CentresFit, Below, TermFits, TermsFit, RollFits}
use Rattle.roll.proofs.Filling.{before-is, onward-is}
use Rattle.roll.proofs.TermsLaws.{few-prefactors}
use Rattle.roll.proofs.Back.{field_back, prefactors-back, most-boys, kind-back}
use Rattle.form2.specs.Bytes.{form_two, shared, further_of, term_bytes2, terms_bytes2, roll_bytes2}
use Rattle.form2.specs.Reading.{header_at2, further_count_at, shared_at, boys_at2, front_at, further_at, term_after, terms_after, roll_at2}
use Rattle.form2.proofs.Sharing.{Parts, shares, further-joined}
use Rattle.form2.proofs.Inside.{term-inside2, header-inside2, header-most2}
use Rattle.std.specs.Prelude.{Option}

-- ---- a term

-- prefactors that read as form 1's, of which the first is not the one that follows in the term before
pub further-reads : (count table : ℕ) (follow s : List ℕ) (at : ℕ) (ps : List ℕ) (next : ℕ) → Parts follow ps → prefactors_at s at count table ≡ got ps next → further_at s at count table follow ≡ got ps next
unfolding further_at prefactors_at
further-reads zero table follow s at ps next parts e = e
further-reads (suc count) table follow s at ps next parts e =
    let x = onward-is (within_at s at 0 (table - 1)) (λ p n. before (p ∷ []) (prefactors_at s n count table)) ps next e in
    let b = before-is x.0 (prefactors_at s x.1 count table) ps next x.3 in
    rw x.2 (rw (rw b.2 at parts) x.3)

pub further-back : (ps : List ℕ) (table : ℕ) (follow s rest : List ℕ) (at : ℕ) → table ≤ table_places → Below table ps → Parts follow ps → drop at s ≡ numbers_bytes ps ++ rest → (next : ℕ) × (further_at s at (length ps) table follow ≡ got ps next) × (drop next s ≡ rest)
further-back ps table follow s rest at places below parts is =
    let r = prefactors-back ps table s rest at places below is in
    (r.0, further-reads (length ps) table follow s at ps r.0 parts r.1, r.2)

below-drop : (table n : ℕ) (ps : List ℕ) → Below table ps → Below table (drop n ps)
below-drop table zero ps b = b
below-drop table (suc n) [] b = tt
below-drop table (suc n) (p ∷ ps) b = below-drop table n ps b.1

pub below-further : (table : ℕ) (earlier ps : List ℕ) → Below table ps → Below table (further_of earlier ps)
unfolding further_of
below-further table earlier ps b = below-drop table (shared earlier ps) ps b

pub further-length : (earlier ps : List ℕ) → length (further_of earlier ps) + shared earlier ps ≡ length ps
unfolding further_of
further-length earlier ps = omega (arith, length-drop (shared earlier ps) ps, (shares earlier ps).right)

further-parts : (earlier ps : List ℕ) → Parts (drop (shared earlier ps) earlier) (further_of earlier ps)
unfolding further_of
further-parts earlier ps = (shares earlier ps).parts

pub term-back2 : (k : Kind) (l : ℕ) (earlier : List ℕ) (t : Term) (s rest : List ℕ) (at : ℕ) → l ≤ most_l k → TermFits k l t → drop at s ≡ term_bytes2 earlier t ++ rest → (next : ℕ) × (term_after s at k l earlier ≡ got t next) × (drop next s ≡ rest)
unfolding term_bytes2 term_after front_at boys_at2 shared_at further_count_at
term-back2 k l earlier t s rest at small fit is =
    let ps = t.prefactors in
    let n = shared earlier ps in
    let fs = further_of earlier ps in
    let after-count = numbers_bytes fs ++ rest in
    let after-shared = bytes_of (length fs) ++ after-count in
    let after-boys = bytes_of n ++ after-shared in
    let after-scale = bytes_of t.boys ++ after-boys in
    let split : drop at s ≡ bytes_of t.scale ++ after-scale = is ∙ simp append_assoc in
    let few = few-prefactors k l small in
    let sh = shares earlier ps in
    let count = fit.count in
    let long = further-length earlier ps in
    let f = field_back s after-scale at 1 most_scale t.scale split (omega (arith, fit.scale)) fit.scale-least fit.scale in
    let g = field_back s after-boys f.0 0 (most_boys k l) t.boys f.2 (omega (arith, fit.boys, most-boys k l, l-within k)) zero-le fit.boys in
    let h = field_back s after-shared g.0 0 (length earlier) n g.2 (omega (arith, sh.right)) zero-le sh.left in
    let i = field_back s after-count h.0 0 (most_prefactors k l - n) (length fs) h.2 (omega arith) zero-le (omega arith) in
    let j = further-back fs (table_of k) (drop n earlier) s rest i.0 (table-within k) (below-further (table_of k) earlier ps fit.prefactors) (further-parts earlier ps) i.2 in
    (j.0, rw (f.1, g.1, h.1, i.1, j.1) (ap (λ (l : List ℕ). got (record { scale = t.scale; boys = t.boys; prefactors = l }) j.0) (sym (further-joined earlier ps))), j.2)

pub terms-back2 : (k : Kind) (l : ℕ) (earlier : List ℕ) (ts : List Term) (s : List ℕ) (at : ℕ) → l ≤ most_l k → at ≤ length s → TermsFit k l ts → drop at s ≡ terms_bytes2 earlier ts → terms_after s at (length ts) k l earlier ≡ got ts (length s)
unfolding terms_after terms_bytes2
terms-back2 k l earlier [] s at small inside fit is =
    let end : at ≡ length s = omega (arith, length-drop at s, ap length is) in
    simp (eq-eqb at (length s) end) (ap (λ (n : ℕ). got [] n) end)
terms-back2 k l earlier (t ∷ ts) s at small inside fit is =
    let x = term-back2 k l earlier t s (terms_bytes2 t.prefactors ts) at small fit.0 is in
    let r = terms-back2 k l t.prefactors ts s x.0 small (term-inside2 k l earlier s at t x.0 x.1) fit.1 x.2 in
    rw (x.1, r)

-- ---- the header

header-back2 : (k : Kind) (os : List ℕ) (terms : ℕ) (s rest : List ℕ) → length os ≡ orders_of k → CentresFit os → 1 ≤ terms → terms ≤ most_terms → s ≡ bytes_of (form_two + number_of k) ++ (numbers_bytes os ++ (bytes_of terms ++ rest)) → (next : ℕ) × (header_at2 s ≡ got (record { kind = k; orders = os; terms = terms }) next) × (drop next s ≡ rest)
unfolding header_at2
header-back2 k os terms s rest places fit some most is =
    let within = number-within k in
    let f = field_back s (numbers_bytes os ++ (bytes_of terms ++ rest)) 0 form_two (form_two + number_of Coulomb) (form_two + number_of k) is (omega arith) (omega arith) (omega arith) in
    let r = kind-back k os terms s rest f.0 places fit some most f.2 in
    let number : form_two + number_of k - form_two ≡ number_of k = omega arith in (
      r.0,
      ap (λ (x : Field). onward x (λ n next. of_kind s next (kind_of (n - form_two)))) f.1
          ∙ ap (λ (m : Option Kind). of_kind s f.0 m) (ap kind_of number ∙ kind-number k)
          ∙ r.1,
      r.2,
    )

-- ---- the roll

pub roll-back2 : (r : Roll) → RollFits r → roll_at2 (roll_bytes2 r.kind r.orders r.terms) ≡ got r (length (roll_bytes2 r.kind r.orders r.terms))
unfolding roll_at2 roll_bytes2
roll-back2 r fit =
    let s = bytes_of (form_two + number_of r.kind) ++ (numbers_bytes r.orders ++ (bytes_of (length r.terms) ++ terms_bytes2 [] r.terms)) in
    let h = header-back2 r.kind r.orders (length r.terms) s (terms_bytes2 [] r.terms) fit.places fit.sums fit.terms-least fit.most refl in
    let o : Header = record { kind = r.kind; orders = r.orders; terms = length r.terms } in
    let ts = terms-back2 r.kind (total r.orders) [] r.terms s h.0 (header-most2 s o h.0 h.1) (header-inside2 s o h.0 h.1) fit.terms h.2 in
    rw (h.1, ts)
