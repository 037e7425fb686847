-- Stepping a cursor from the header to its end gives the terms that judging the whole roll reads; what one step gives.
use Prim.Native.Nat.{ℕ, zero, suc, ◌-◌, ◌≤◌, ◌<◌}
use mathlib.Core.Path.{◌≡◌, refl, sym, ap, ◌∙◌}
use mathlib.Core.Bool.{Bool, true, false, cond}
use mathlib.Core.List.{List, [], ◌∷◌}
use native.Mathlib.Omega.{arith}
use borrow.Author.Tests.{eq-eqb, ne_eqb}
use lib.Dec.{eqb}
use lib.ListN.{length, replicate, length-append}
use lib.Seq.{take-append_seam}
use Rattle.kind.specs.Limits.{most_l·any}
use Rattle.kind.specs.declared.Kind.{Kind}
use Rattle.kind.proofs.KindNumber.{kind-number}
use Rattle.laws.proofs.Cases.{clash}
use Rattle.term.specs.Terms.{Term, held}
use Rattle.roll.specs.declared.cursor.Cursor.{Cursor}
use Rattle.roll.specs.declared.cursor.Step.{Step}
use Rattle.laws.specs.Total.{total}
use Rattle.roll.specs.Reading.{Reading, got, refused, and_then, before, term_at, terms_at, Header, header_at}
use Rattle.roll.specs.Cursor.{Stepped, refused_step, end_step, stepped, end_or, step_with, step_of, gathering, gathered, held_terms}
use Rattle.roll.specs.Header.{cursor_at}
use Rattle.roll.specs.inner.Held.{from_held}
use Rattle.roll.specs.inner.Judged.{Honest, terms_got, left_as, left_of, Readable}
use Rattle.roll.proofs.Filling.{before-is}
use Rattle.roll.proofs.Inside.{term-inside, header_read, header-inside, orders-most}
use Rattle.roll.proofs.JudgeLaws.{honest-step, terms-turn, terms-none}
use Rattle.std.specs.Prelude.{Option, Some, Ok}
use Rattle.kind.specs.declared.refusals.Refusal.TheVariants.{BadRoll}

-- what one step adds
gather : (n : ℕ) (c : Cursor) (s : List ℕ) (x : Stepped) → step_of c s ≡ x → gathered (suc n) c s ≡ gathering x (λ next. gathered n next s) c.place
unfolding gathered
gather n c s x e = ap (λ (x : Stepped). gathering x (λ next. gathered n next s) c.place) e

held-before : (t : Term) (r : Reading (List Term)) → before (held t ∷ []) (held_terms r) ≡ held_terms (before (t ∷ []) r)
held-before t (got ts end) = refl
held-before t (refused r place) = refl

end_with : (k : Kind) (c : Cursor) (s : List ℕ) → c.left ≡ 0 → step_with k c s ≡ end_or s c.place
end_with k c s none = simp (eq-eqb c.left 0 none)

term-with : (k : Kind) (c : Cursor) (s : List ℕ) → (c.left ≡ 0 → ⊥) → step_with k c s ≡ stepped c (term_at s c.place k c.l)
term-with k c s some = simp (ne_eqb c.left 0 some)

at-end : (n : ℕ) (c : Cursor) (s : List ℕ) (b : Bool) → step_of c s ≡ cond b end_step (refused_step BadRoll c.place) → gathered (suc n) c s ≡ held_terms (cond b (got [] c.place) (refused BadRoll c.place))
at-end n c s true e = gather n c s end_step e
at-end n c s false e = gather n c s (refused_step BadRoll c.place) e

pub steps-are-terms : (n : ℕ) (c : Cursor) (s : List ℕ) (h : Honest c s) → c.left ≡ n → gathered (suc n) c s ≡ held_terms (terms_at s c.place n h.kind c.l)
steps-are-terms zero c s h left =
    at-end 0 c s (eqb c.place (length s)) (honest-step c s h ∙ end_with h.kind c s left)
    ∙ ap held_terms (sym (terms-none 0 h.kind c.l s c.place refl))
steps-are-terms (suc n) c s h left = by (term_at s c.place h.kind c.l) refl (λ c' h' e. steps-are-terms n c' s h' e)
  where
    by : (x : Reading Term) → term_at s c.place h.kind c.l ≡ x → ((c' : Cursor) (h' : Honest c' s) → c'.left ≡ n → gathered (suc n) c' s ≡ held_terms (terms_at s c'.place n h'.kind c'.l)) → gathered (suc (suc n)) c s ≡ held_terms (terms_at s c.place (suc n) h.kind c.l)
    by (got t next) e rest =
        let k = h.kind in
        let step : step_of c s ≡ stepped c (got t next) = honest-step c s h ∙ term-with k c s (λ z. omega arith) ∙ ap (stepped c) e in
        let less : suc n - 1 ≡ n = omega arith in
        let c' : Cursor = record { place = next; left = c.left - 1; kind = c.kind; l = c.l } in
        let h' : Honest c' s = record { kind = k; is = h.is; small = h.small; inside = term-inside k c.l s c.place t next e } in
        gather (suc n) c s (stepped c (got t next)) step
        ∙ ap (before (held t ∷ [])) (rest c' h' (omega arith))
        ∙ held-before t (terms_at s next n k c.l)
        ∙ ap held_terms (sym (terms-turn (suc n) k c.l s c.place (got t next) (omega arith) e ∙ ap (λ (m : ℕ). before (t ∷ []) (terms_at s next m k c.l)) less))
    by (refused r place) e rest =
        let k = h.kind in
        let step : step_of c s ≡ refused_step r place = honest-step c s h ∙ term-with k c s (λ z. omega arith) ∙ ap (stepped c) e in
        gather (suc n) c s (refused_step r place) step ∙ ap held_terms (sym (terms-turn (suc n) k c.l s c.place (refused r place) (omega arith) e))

-- from the header's cursor on
pub header-steps : (s : List ℕ) (h : Header) (next : ℕ) → header_at s ≡ got h next → gathered (suc h.terms) (cursor_at h next) s ≡ held_terms (terms_at s next h.terms h.kind (total h.orders))
header-steps s h next e =
    let r = header_read s h next e in
    let honest : Honest (cursor_at h next) s = record { kind = h.kind; is = kind-number h.kind; small = orders-most h.kind s r.a h.orders r.b r.orders; inside = header-inside s h next r } in
    steps-are-terms h.terms (cursor_at h next) s honest refl

-- ---- a cursor whose terms all read gives the next of them, and the next cursor reads the rest

-- what is held of a term is the term
pub from-held : (t : Term) → from_held (held t) ≡ t
from-held t = ap (λ (ps : List ℕ). record { scale = t.scale; boys = t.boys; prefactors = ps }) (take-append_seam t.prefactors (replicate (most_l·any - length t.prefactors) 0))

pub held-count : (t : Term) → (held t).count ≤ length (held t).prefactors
held-count t = omega (arith, length-append t.prefactors (replicate (most_l·any - length t.prefactors) 0))

-- what a step of a readable cursor gives
pub record StepGives (c : Cursor) (s : List ℕ) (terms : List Term) (end : ℕ) (x : Step) : Type 0 where
  pub term : Term
  pub rest : List Term
  pub is : terms ≡ term ∷ rest
  pub gives : x.term ≡ held term
  pub honest : Honest x.next s
  pub reads : terms_at s x.next.place x.next.left honest.kind x.next.l ≡ got rest end
  pub left : x.next.left ≡ c.left - 1

-- it gives one
pub record Gives (c : Cursor) (s : List ℕ) (terms : List Term) (end : ℕ) (y : Stepped) : Type 0 where
  pub step : Step
  pub ok : y ≡ Ok (Some step)
  pub gives : StepGives c s terms end step

term-gives : (c : Cursor) (s : List ℕ) (terms : List Term) (end : ℕ) (h : Honest c s) (y : Reading Term) → 0 < c.left → term_at s c.place h.kind c.l ≡ y → and_then y (λ t next. before (t ∷ []) (terms_at s next (c.left - 1) h.kind c.l)) ≡ got terms end → Gives c s terms end (stepped c y)
term-gives c s terms end h (got t next) some e reads =
    let b = before-is t (terms_at s next (c.left - 1) h.kind c.l) terms end reads in
    record {
      step = record { term = held t; next = record { place = next; left = c.left - 1; kind = c.kind; l = c.l } };
      ok = refl;
      gives = record {
        term = t;
        rest = b.0;
        is = b.2;
        gives = refl;
        honest = record { kind = h.kind; is = h.is; small = h.small; inside = term-inside h.kind c.l s c.place t next e };
        reads = b.1;
        left = refl;
      };
    }
term-gives c s terms end h (refused r place) some e reads = absurd (clash (cc))

pub readable-gives : (c : Cursor) (s : List ℕ) (r : Readable c s) → 0 < c.left → Gives c s r.terms r.end (step_of c s)
readable-gives c s r some =
    let k = r.honest.kind in
    let y = term_at s c.place k c.l in
    let step : step_of c s ≡ stepped c y = honest-step c s r.honest ∙ simp (ne_eqb c.left 0 (λ z. omega arith)) in
    rw step (term-gives c s r.terms r.end r.honest y some refl (sym (terms-turn c.left k c.l s c.place y some refl) ∙ r.reads))

pub step_gives : (c : Cursor) (s : List ℕ) (r : Readable c s) (y : Stepped) (x : Step) → 0 < c.left → y ≡ step_of c s → y ≡ Ok (Some x) → StepGives c s r.terms r.end x
step_gives c s r y x some is ok =
    let g = readable-gives c s r some in
    let gok = g.ok in
    let same : g.step ≡ x = cc in
    rw same at g.gives

pub left-terms : (c : Cursor) (s : List ℕ) (r : Readable c s) → left_of c s ≡ r.terms
unfolding left_of
left-terms c s r = ap (λ (n : Option Kind). left_as n c s) r.honest.is ∙ ap terms_got r.reads
