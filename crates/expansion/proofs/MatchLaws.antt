-- Terms compared one after the other: those of two parts, none once a byte differed, and what all of them come to.
use Prim.Native.Nat.{ℕ, ◌+◌, ◌≤◌, ◌<◌}
use mathlib.Core.Path.{◌≡◌, refl, sym, ap, ap₂, ◌∙◌}
use mathlib.Core.Bool.{Bool, true, false, cond}
use mathlib.Core.List.{List, [], ◌∷◌, ◌++◌}
use native.Mathlib.Omega.{arith}
use borrow.Author.Tests.{eq-eqb, ne_eqb, eqb-true, eqb-false}
use lib.Dec.{eqb}
use lib.ListN.{length, drop, length-append}
use lib.Seq.{drop-drop}
use Rattle.term.specs.Terms.{Term}
use Rattle.form2.specs.Bytes.{shared}
use Rattle.form2.proofs.Sharing.{shared-none, shares}
use Rattle.form2.proofs.BesideLaws.{shared-within, shared-whole}
use Rattle.expansion.specs.inner.Sinks.{form_bytes, forms_bytes}
use Rattle.expansion.specs.inner.Matching.{Match, differing, beside_term, matched, matched_all, Apt, Matched}
use Rattle.expansion.proofs.SinkLaws.{forms-cons, forms-none}

-- ---- one part after the other

pub match-append : (s : List ℕ) (m : Match) (xs ys : List Term) → matched_all s m (xs ++ ys) ≡ matched_all s (matched_all s m xs) ys
unfolding matched_all
match-append s m [] ys = refl
match-append s m (t ∷ xs) ys = match-append s (matched s m t) xs ys

pub match-ended : (s : List ℕ) (m : Match) (ts : List Term) → (m.differs ≡ 0 → ⊥) → matched_all s m ts ≡ m
unfolding matched_all matched
match-ended s m [] ended = refl
match-ended s m (t ∷ ts) ended = ap (λ (n : Match). matched_all s n ts) stays ∙ match-ended s m ts ended
  where
    stays : matched s m t ≡ m
    stays = rw (ne_eqb m.differs 0 ended)

pub matched-none : (s : List ℕ) (m : Match) (ts : List Term) → Apt s m → ts ≡ [] → Matched s m ts m
unfolding matched_all
matched-none s m ts apt e = record { is = sym (ap (matched_all s m) e); apt = apt }

pub matched-ended : (s : List ℕ) (m : Match) (ts : List Term) → Apt s m → (m.differs ≡ 0 → ⊥) → Matched s m ts m
matched-ended s m ts apt ended = record { is = sym (match-ended s m ts ended); apt = apt }

pub matched-both : (s : List ℕ) (m : Match) (ts xs ys : List Term) → ts ≡ xs ++ ys → (mid : Match) → Matched s m xs mid → (r : Match) → Matched s mid ys r → Matched s m ts r
matched-both s m ts xs ys split mid first r second =
    record { is = second.is ∙ ap (λ (n : Match). matched_all s n ys) first.is ∙ sym (match-append s m xs ys) ∙ sym (ap (matched_all s m) split); apt = second.apt }

-- ---- what all terms come to

-- the place is after what is shared, and a difference is told where less than all is
pub record Besides (s : List ℕ) (m : Match) (ts : List Term) : Type 0 where
  pub place_is : (matched_all s m ts).place ≡ m.place + shared (drop m.place s) (forms_bytes m.form m.earlier ts)
  pub differs-is : (matched_all s m ts).differs ≡ differing (shared (drop m.place s) (forms_bytes m.form m.earlier ts)) (length (forms_bytes m.form m.earlier ts))

pub differing-same : (n : ℕ) → differing n n ≡ 0
unfolding differing
differing-same n = rw (eq-eqb n n refl)

pub differing-less : (n all : ℕ) → (n ≡ all → ⊥) → differing n all ≡ 1
unfolding differing
differing-less n all less = rw (ne_eqb n all less)

pub none_differ : (same all : ℕ) → same ≡ all → 0 ≡ differing same all
unfolding differing
none_differ same all e = sym (rw (eq-eqb same all e) refl)

pub some-differ : (same all : ℕ) → (same ≡ all → ⊥) → 1 ≡ differing same all
some-differ same all e = sym (differing-less same all e)

module _ (s : List ℕ) (m : Match) (none : m.differs ≡ 0) (t : Term) where
  abbrev bytes : List ℕ
  bytes = form_bytes m.form m.earlier t

  pub one-is : matched s m t ≡ record { form = m.form; place = m.place + shared (drop m.place s) bytes; earlier = t.prefactors; differs = differing (shared (drop m.place s) bytes) (length bytes) }
  unfolding matched beside_term
  one-is = rw (eq-eqb m.differs 0 none)

pub differing-add : (i a b : ℕ) → differing a b ≡ differing (i + a) (i + b)
unfolding differing
differing-add i a b = at (eqb a b) refl
  where
    at : (v : Bool) → eqb a b ≡ v → ◌≡◌ {A = ℕ} (cond (eqb a b) 0 1) (cond (eqb (i + a) (i + b)) 0 1)
    at true f = let g = eqb-true a b f in rw (f, eq-eqb (i + a) (i + b) (omega arith)) refl
    at false f = let g = eqb-false a b f in rw (f, ne_eqb (i + a) (i + b) (λ h. g (omega arith))) refl

-- one more in front
module _ (s : List ℕ) (t : Term) (ts : List Term) (m : Match) (none : m.differs ≡ 0) (further : (x : Match) → x.differs ≡ 0 → Besides s x ts) where
  abbrev front : List ℕ
  front = form_bytes m.form m.earlier t

  abbrev from : List ℕ
  from = drop m.place s

  abbrev rest : List ℕ
  rest = forms_bytes m.form t.prefactors ts

  abbrev next : Match
  next = record { form = m.form; place = m.place + shared from front; earlier = t.prefactors; differs = differing (shared from front) (length front) }

  whole : matched_all s m (t ∷ ts) ≡ matched_all s next ts
  unfolding matched_all
  whole = ap (λ (x : Match). matched_all s x ts) (one-is s m none t)

  all : forms_bytes m.form m.earlier (t ∷ ts) ≡ front ++ rest
  all = forms-cons m.form m.earlier t ts

  long : length (forms_bytes m.form m.earlier (t ∷ ts)) ≡ length front + length rest
  long = ap length all ∙ length-append front rest

  on_same : shared from front ≡ length front → Besides s m (t ∷ ts)
  on_same same =
      let goes : next.differs ≡ 0 = ap (λ (i : ℕ). differing i (length front)) same ∙ differing-same (length front) in
      let more = further next goes in
      let there : drop (m.place + shared from front) s ≡ drop (length front) from = ap (λ (i : ℕ). drop (m.place + i) s) same ∙ sym (drop-drop (length front) m.place s) in
      let onward : shared from (forms_bytes m.form m.earlier (t ∷ ts)) ≡ shared from front + shared (drop (m.place + shared from front) s) rest =
      ap (shared from) all ∙ shared-whole from front rest same ∙ ap₂ (λ (i : ℕ) (l : List ℕ). i + shared l rest) (sym same) (sym there) in
      let sum : length (forms_bytes m.form m.earlier (t ∷ ts)) ≡ shared from front + length rest = long ∙ ap (λ (i : ℕ). i + length rest) (sym same) in
      let reached = ap (λ (x : Match). x.place) whole ∙ more.place_is in
      record {
        place_is = omega (arith, onward, reached);
        differs-is = ap (λ (x : Match). x.differs) whole ∙ more.differs-is ∙ differing-add (shared from front) (shared (drop (m.place + shared from front) s) rest) (length rest) ∙ ap₂ differing (sym onward) (sym sum);
      }

  on-other : (shared from front ≡ length front → ⊥) → Besides s m (t ∷ ts)
  on-other other =
      let most = (shares from front).right in
      let less : shared from front < length front = below (shared from front) (length front) most other in
      let ended : next.differs ≡ 1 = differing-less (shared from front) (length front) other in
      let stays : matched_all s next ts ≡ next = match-ended s next ts (λ h. omega (arith, h, ended)) in
      let same : shared from (forms_bytes m.form m.earlier (t ∷ ts)) ≡ shared from front = ap (shared from) all ∙ shared-within from front rest less in
      record {
        place_is = ap (λ (x : Match). x.place) (whole ∙ stays) ∙ ap (λ (i : ℕ). m.place + i) (sym same);
        differs-is =
            ap (λ (x : Match). x.differs) (whole ∙ stays) ∙ ended
            ∙ sym (differing-less (shared from (forms_bytes m.form m.earlier (t ∷ ts))) (length (forms_bytes m.form m.earlier (t ∷ ts))) (λ h. omega (arith, h, same, long, less)));
      }
    where
      below : (a b : ℕ) → a ≤ b → (a ≡ b → ⊥) → a < b
      below a b h ne = omega (arith, h, ne)

  besides-more : (b : Bool) → eqb (shared from front) (length front) ≡ b → Besides s m (t ∷ ts)
  besides-more true e = on_same (eqb-true (shared from front) (length front) e)
  besides-more false e = on-other (eqb-false (shared from front) (length front) e)

pub besides : (s : List ℕ) (ts : List Term) (m : Match) → m.differs ≡ 0 → Besides s m ts
unfolding matched_all
besides s [] m none =
    let e = forms-none m.form m.earlier in
    let n : shared (drop m.place s) (forms_bytes m.form m.earlier []) ≡ 0 = ap (shared (drop m.place s)) e ∙ shared-none (drop m.place s) in
    let l : length (forms_bytes m.form m.earlier []) ≡ 0 = ap length e in
    record { place_is = omega (arith, n); differs-is = none ∙ sym (differing-same 0) ∙ ap₂ differing (sym n) (sym l) }
besides s (t ∷ ts) m none = besides-more s t ts m none (λ x h. besides s ts x h) (eqb (shared (drop m.place s) (form_bytes m.form m.earlier t)) (length (form_bytes m.form m.earlier t))) refl
