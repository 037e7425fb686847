-- `check2` says that a form 2 roll is one exactly where the whole of it reads; and what its answer then says of the roll.
use Prim.Native.Nat.{ℕ}
use mathlib.Core.Path.{◌≡◌, refl, sym, ap, ◌∙◌}
use mathlib.Core.List.{List, []}
use Rattle.laws.proofs.Cases.{clash}
use Rattle.laws.specs.Total.{total}
use Rattle.term.specs.Terms.{Term}
use Rattle.roll.specs.declared.header.Opened.{Opened}
use Rattle.roll.specs.Reading.{Reading, got, refused, and_then, Header, Roll}
use Rattle.roll.specs.Header.{refused_opened, held_header, judged}
use Rattle.roll.proofs.Filling.{and_then-is}
use Rattle.form2.specs.Reading.{header_at2, terms_after, roll_at2}
use Rattle.form2.specs.Header.{checked2, judged2}
use Rattle.std.specs.Prelude.{Ok, Err}
use Rattle.kind.specs.declared.refusals.Refusal.{Refusal}
use Rattle.kind.specs.declared.refusals.Fault.{Fault}
use Rattle.kind.proofs.Faults.{err-is}
use Rattle.roll.specs.Field.{fault}
use Rattle.roll.proofs.Checked.{opened-of}

-- a roll's terms beside its header
abbrev pub beside : Header → List Term → ℕ → Reading Roll
beside h ts end = got (record { kind = h.kind; orders = h.orders; terms = ts }) end

abbrev pub whole : List ℕ → Header → ℕ → Reading Roll
whole s h next = and_then (terms_after s next h.terms h.kind (total h.orders) []) (beside h)

-- where the whole reads, the header's own answer comes back
pub record Opens2 (s : List ℕ) : Type 0 where
  pub opened : Opened
  pub checks : judged2 s ≡ Ok opened
  pub opens : held_header (header_at2 s) ≡ Ok opened

pub reads-checked2 : (s : List ℕ) (r : Roll) (end : ℕ) → roll_at2 s ≡ got r end → Opens2 s
unfolding roll_at2 judged2
reads-checked2 s r end e =
    let x = and_then-is (header_at2 s) (whole s) r end e in
    let h = x.0 in
    let y = and_then-is (terms_after s x.1 h.terms h.kind (total h.orders) []) (beside h) r end x.3 in
    record {
      opened = opened-of h x.1;
      checks = ap (checked2 s) x.2 ∙ ap (judged (held_header (got h x.1))) y.2;
      opens = ap held_header x.2;
    }

-- what does not read is refused, with the same number and place
pub refused-checked2 : (s : List ℕ) (r : Refusal) (p : ℕ) → roll_at2 s ≡ refused r p → judged2 s ≡ refused_opened r p
unfolding roll_at2 judged2
refused-checked2 s r p e = by-header (header_at2 s) e
  where
    by-terms : (h : Header) (next : ℕ) (x : Reading (List Term)) → and_then x (beside h) ≡ refused r p → judged (held_header (got h next)) x ≡ refused_opened r p
    by-terms h next (got ts end) e = absurd (clash (cc))
    by-terms h next (refused q o) e = let number : q ≡ r = cc in let there : o ≡ p = cc in rw (number, there) refl

    by-header : (x : Reading Header) → and_then x (whole s) ≡ refused r p → checked2 s x ≡ refused_opened r p
    by-header (got h next) e = by-terms h next (terms_after s next h.terms h.kind (total h.orders) []) e
    by-header (refused q o) e = let number : q ≡ r = cc in let there : o ≡ p = cc in rw (number, there) refl

-- and where the check says a roll, the whole reads; where it refuses, reading is refused so
pub checked-reads2 : (s : List ℕ) (o : Opened) → judged2 s ≡ Ok o → (r : Roll) × (end : ℕ) × (roll_at2 s ≡ got r end)
checked-reads2 s o found = by (roll_at2 s) refl
  where
    by : (x : Reading Roll) → roll_at2 s ≡ x → (r : Roll) × (end : ℕ) × (roll_at2 s ≡ got r end)
    by (got r end) e = (r, end, e)
    by (refused q p) e = let not : Ok o ≡ refused_opened q p = sym found ∙ refused-checked2 s q p e in absurd (clash (cc))

pub checked-refused2 : (s : List ℕ) (why : Fault) → judged2 s ≡ Err why → roll_at2 s ≡ refused why.refusal why.place
checked-refused2 s why found = by (roll_at2 s) refl
  where
    by : (x : Reading Roll) → roll_at2 s ≡ x → roll_at2 s ≡ refused why.refusal why.place
    by (got r end) e = let opens = reads-checked2 s r end e in let checks = opens.checks in absurd (clash (cc))
    by (refused q p) e =
        let same : fault q p ≡ why = err-is (fault q p) why (sym (refused-checked2 s q p e) ∙ found) in
        rw (← same) e
