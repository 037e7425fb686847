-- Stepping a form 2 cursor from the header to its end gives the terms that judging the whole roll reads.
use Prim.Native.Nat.{ℕ, zero, suc, ◌-◌, ◌≤◌}
use mathlib.Core.Path.{◌≡◌, refl, sym, ap, ◌∙◌}
use mathlib.Core.Bool.{Bool, true, false, cond}
use mathlib.Core.List.{List, [], ◌∷◌}
use native.Mathlib.Omega.{arith}
use borrow.Author.Tests.{eq-eqb, ne_eqb, le-ltb, lt-leb}
use lib.Dec.{eqb}
use lib.ListN.{length, replicate}
use lib.Seq.{take-append_seam}
use Rattle.kind.specs.Limits.{most_l·any}
use Rattle.kind.specs.Kinds.{table_of, most_l, most_prefactors}
use Rattle.kind.specs.declared.Kind.{Kind}
use Rattle.kind.proofs.KindNumber.{kind-number}
use Rattle.laws.specs.Total.{total}
use Rattle.term.specs.Terms.{Term, held}
use Rattle.roll.specs.Fits.{Below}
use Rattle.roll.specs.Reading.{Reading, got, refused, before, Header}
use Rattle.roll.specs.Cursor.{held_terms}
use Rattle.roll.specs.Header.{cursor_at}
use Rattle.roll.specs.inner.Judged.{Honest}
use Rattle.form2.specs.declared.cursor.Cursor2.{Cursor2}
use Rattle.form2.specs.Reading.{header_at2, term_after, terms_after}
use Rattle.form2.specs.Header.{first_cursor}
use Rattle.form2.specs.Cursor.{earlier_of, Stepped2, refused_step2, end_step2, step_behind, stepped_after, end_or2, step_with2, some_above, forged_earlier, step_as2, step2_of, gathering2, gathered2}
use Rattle.form2.proofs.Inside.{term-inside2, header-inside2, header-most2}
use Rattle.form2.proofs.JudgeLaws.{terms-turn2}
use Rattle.form2.proofs.Written.{EarlierFits, none-fits, term-earlier, term-fits2}
use Rattle.std.specs.Prelude.{Option}
use Rattle.kind.specs.declared.refusals.Refusal.TheVariants.{BadRoll}

-- a cursor that is not forged, its term before neither
pub record Honest2 (c : Cursor2) (s : List ℕ) : Type 0 where
  pub honest : Honest c.cursor s
  pub earlier : List ℕ
  pub is : earlier_of c ≡ earlier
  pub count : c.count ≡ length earlier
  pub fits : EarlierFits honest.kind c.cursor.l earlier

none_above : (table : ℕ) (ps : List ℕ) → Below table ps → some_above table ps ≡ false
unfolding some_above
none_above table [] below = refl
none_above table (p ∷ ps) below = rw (lt-leb table p below.0) (none_above table ps below.1)

honest-step2 : (c : Cursor2) (s : List ℕ) (h : Honest2 c s) → step2_of c s ≡ step_with2 h.honest.kind c s
unfolding step2_of forged_earlier
honest-step2 c s h =
    let k = h.honest.kind in
    let few : c.count ≤ most_prefactors k c.cursor.l = omega (arith, h.count, h.fits.count) in
    let below : some_above (table_of k) (earlier_of c) ≡ false = ap (some_above (table_of k)) h.is ∙ none_above (table_of k) h.earlier h.fits.prefactors in
    ap (λ (n : Option Kind). step_as2 n c s) h.honest.is
    ∙ simp (le-ltb (most_l k) c.cursor.l h.honest.small, le-ltb (length s) c.cursor.place h.honest.inside, le-ltb (most_prefactors k c.cursor.l) c.count few, below)

gather : (n : ℕ) (c : Cursor2) (s : List ℕ) (x : Stepped2) → step2_of c s ≡ x → gathered2 (suc n) c s ≡ gathering2 x (λ next. gathered2 n next s) c.cursor.place
unfolding gathered2
gather n c s x e = ap (λ (x : Stepped2). gathering2 x (λ next. gathered2 n next s) c.cursor.place) e

held-before : (t : Term) (r : Reading (List Term)) → before (held t ∷ []) (held_terms r) ≡ held_terms (before (t ∷ []) r)
held-before t (got ts end) = refl
held-before t (refused r place) = refl

at-end : (n : ℕ) (c : Cursor2) (s : List ℕ) (b : Bool) → step2_of c s ≡ cond b end_step2 (refused_step2 BadRoll c.cursor.place) → gathered2 (suc n) c s ≡ held_terms (cond b (got [] c.cursor.place) (refused BadRoll c.cursor.place))
at-end n c s true e = gather n c s end_step2 e
at-end n c s false e = gather n c s (refused_step2 BadRoll c.cursor.place) e

none-left2 : (s : List ℕ) (at : ℕ) (k : Kind) (l : ℕ) (earlier : List ℕ) → terms_after s at 0 k l earlier ≡ cond (eqb at (length s)) (got [] at) (refused BadRoll at)
unfolding terms_after
none-left2 s at k l earlier = refl

pub steps-are-terms2 : (n : ℕ) (c : Cursor2) (s : List ℕ) (h : Honest2 c s) → c.cursor.left ≡ n → gathered2 (suc n) c s ≡ held_terms (terms_after s c.cursor.place n h.honest.kind c.cursor.l h.earlier)
steps-are-terms2 zero c s h left =
    let end : step_with2 h.honest.kind c s ≡ end_or2 s c.cursor.place = simp (eq-eqb c.cursor.left 0 left) in
    at-end 0 c s (eqb c.cursor.place (length s)) (honest-step2 c s h ∙ end)
    ∙ ap held_terms (sym (none-left2 s c.cursor.place h.honest.kind c.cursor.l h.earlier))
steps-are-terms2 (suc n) c s h left = by (term_after s c.cursor.place h.honest.kind c.cursor.l h.earlier) refl (λ c' h' e. steps-are-terms2 n c' s h' e)
  where
    term-with : step_with2 h.honest.kind c s ≡ stepped_after c (term_after s c.cursor.place h.honest.kind c.cursor.l h.earlier)
    term-with =
        let some : eqb c.cursor.left 0 ≡ false = ne_eqb c.cursor.left 0 (λ z. omega arith) in
        let is = h.is in
        simp some (ap (λ (ps : List ℕ). stepped_after c (term_after s c.cursor.place h.honest.kind c.cursor.l ps)) is)

    by : (x : Reading Term) → term_after s c.cursor.place h.honest.kind c.cursor.l h.earlier ≡ x → ((c' : Cursor2) (h' : Honest2 c' s) → c'.cursor.left ≡ n → gathered2 (suc n) c' s ≡ held_terms (terms_after s c'.cursor.place n h'.honest.kind c'.cursor.l h'.earlier)) → gathered2 (suc (suc n)) c s ≡ held_terms (terms_after s c.cursor.place (suc n) h.honest.kind c.cursor.l h.earlier)
    by (got t next) e rest =
        let k = h.honest.kind in
        let l = c.cursor.l in
        let step : step2_of c s ≡ stepped_after c (got t next) = honest-step2 c s h ∙ term-with ∙ ap (stepped_after c) e in
        let less : suc n - 1 ≡ n = omega arith in
        let fit = term-fits2 k l h.earlier s c.cursor.place t next h.fits e in
        let c' : Cursor2 = (step_behind c t next).next in
        let h' : Honest2 c' s =
        record {
          honest = record { kind = k; is = h.honest.is; small = h.honest.small; inside = term-inside2 k l h.earlier s c.cursor.place t next e };
          earlier = t.prefactors;
          is = take-append_seam t.prefactors (replicate (most_l·any - length t.prefactors) 0);
          count = refl;
          fits = term-earlier k l t fit;
        } in
        gather (suc n) c s (stepped_after c (got t next)) step
        ∙ ap (before (held t ∷ [])) (rest c' h' (omega arith))
        ∙ held-before t (terms_after s next n k l t.prefactors)
        ∙ ap held_terms (sym (terms-turn2 (suc n) k l h.earlier s c.cursor.place (got t next) (omega arith) e ∙ ap (λ (m : ℕ). before (t ∷ []) (terms_after s next m k l t.prefactors)) less))
    by (refused r place) e rest =
        let k = h.honest.kind in
        let l = c.cursor.l in
        let step : step2_of c s ≡ refused_step2 r place = honest-step2 c s h ∙ term-with ∙ ap (stepped_after c) e in
        gather (suc n) c s (refused_step2 r place) step ∙ ap held_terms (sym (terms-turn2 (suc n) k l h.earlier s c.cursor.place (refused r place) (omega arith) e))

-- from the header's cursor on
pub header-steps2 : (s : List ℕ) (h : Header) (next : ℕ) → header_at2 s ≡ got h next → gathered2 (suc h.terms) (first_cursor (cursor_at h next)) s ≡ held_terms (terms_after s next h.terms h.kind (total h.orders) [])
header-steps2 s h next e =
    let honest : Honest2 (first_cursor (cursor_at h next)) s =
    record {
      honest = record { kind = h.kind; is = kind-number h.kind; small = header-most2 s h next e; inside = header-inside2 s h next e };
      earlier = [];
      is = refl;
      count = refl;
      fits = none-fits h.kind (total h.orders);
    } in
    steps-are-terms2 h.terms (first_cursor (cursor_at h next)) s honest refl
