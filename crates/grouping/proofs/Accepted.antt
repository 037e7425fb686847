-- What is never refused is a grouping: where each number from 1 to the number of terms gives a term, the bytes begin with the grouping of just those terms.
use Prim.Native.Nat.{ℕ, zero, suc, ◌+◌, ◌-◌, ◌≤◌, ◌<◌}
use mathlib.Core.Path.{◌≡◌, refl, sym, ap, ap₂, ◌∙◌}
use mathlib.Core.Bool.{Bool, true, false, cond, ◌&&◌}
use mathlib.Core.List.{List, [], ◌∷◌, ◌++◌}
use mathlib.Core.Logic.{◌⊎◌, inl, inr}
use native.Mathlib.Omega.{arith}
use borrow.Author.Tests.{leb-true, le-leb, eq-eqb, ne_eqb, eqb-true, eqb-false, ltb-true, ltb-false}
use lib.Dec.{ltb, leb, eqb}
use lib.ListN.{length, drop, get_or}
use Rattle.laws.specs.Unless.{unless}
use Rattle.laws.proofs.Cases.{tested, and-true-both, false-not-true}
use Rattle.laws.proofs.Lists.{drop-then}
use Rattle.kind.specs.Kinds.{most_l}
use Rattle.kind.specs.declared.Kind.TheVariants.{Coulomb}
use Rattle.number.specs.Numbers.{Bytes, bytes_of}
use Rattle.term.specs.Terms.{Term, held}
use Rattle.roll.specs.Field as field
use Rattle.std.specs.Prelude.{None, Ok, is_some, is_ok}
use Rattle.kind.specs.declared.refusals.Refusal.{Refusal}
use Rattle.kind.specs.declared.refusals.Refusal.TheVariants.{BadRoll, ComponentNumber}
use Rattle.roll.specs.Bytes.{term_bytes}
use Rattle.roll.specs.Fits.{TermFits, TermsFit}
use Rattle.roll.specs.Reading.{Reading, got, refused, and_then, before, within_at, term_at}
use Rattle.roll.proofs.FieldLaws.{taken}
use Rattle.roll.proofs.Filling.{onward-is, and_then-is}
use Rattle.roll.proofs.Written.{taken-bytes, term-bytes}
use Rattle.grouping.specs.declared.restoring.Passed.{Passed}
use Rattle.grouping.specs.Grouping.{Entry, grouping, entry_bytes, entries_bytes}
use Rattle.grouping.specs.Restoring.{Restored, refused_term, entry_at, none_passed, passed_on, behind, is_second, next_at, on_entry, restored_from, restored_of}
use Rattle.grouping.proofs.GroupedLaws.{fit-orders}
use Rattle.grouping.proofs.InOrder.{after, after-higher, after_same, Ordered, grouping-ordered, picked, each-once, NumbersWithin, grouping-within}
use Rattle.grouping.proofs.OwnList.{EntriesAt, run-sought}

-- ---- what is not refused stands in order, and the number asked stands there once

module _ (b : List ℕ) (l terms asked : ℕ) where
  stood : (e : Entry) (p : Passed) (at next : ℕ) (rest : Entry → ℕ → Restored) → entry_at b l terms at ≡ got e next → is_ok (on_entry (next_at b l terms asked p at) rest) ≡ true → (behind p e.number e.term.boys ≡ true) × (is_second p asked e.number ≡ false) × (is_ok (rest e next) ≡ true)
  unfolding next_at
  stood e p at next rest is none = by (behind p e.number e.term.boys) (is_second p asked e.number) refl refl (rw is at none)
    where
      by : (x y : Bool) → behind p e.number e.term.boys ≡ x → is_second p asked e.number ≡ y → is_ok (on_entry (cond x (cond y (refused BadRoll at) (got e next)) (refused BadRoll at)) rest) ≡ true → (behind p e.number e.term.boys ≡ true) × (is_second p asked e.number ≡ false) × (is_ok (rest e next) ≡ true)
      by true true x y none = false-not-true none
      by true false x y none = (x, y, none)
      by false y x z none = false-not-true none

  unread : (p : Passed) (at : ℕ) (n : Refusal) (place : ℕ) (rest : Entry → ℕ → Restored) → entry_at b l terms at ≡ refused n place → is_ok (on_entry (next_at b l terms asked p at) rest) ≡ true → ⊥
  unfolding next_at
  unread p at n place rest is none = false-not-true (rw is at none)

  accepted-entries : (left : ℕ) (p : Passed) (at : ℕ) → is_ok (restored_from b l terms asked p at left) ≡ true → (es : List Entry) × (length es ≡ left) × EntriesAt b l terms at es × Ordered p.boys p.number es
  unfolding restored_from
  accepted-entries zero p at none = ([], refl, tt, tt)
  accepted-entries (suc left) p at none = by (entry_at b l terms at) refl (λ q next. accepted-entries left q next)
    where
      by : (x : Reading Entry) → entry_at b l terms at ≡ x → ((q : Passed) (next : ℕ) → is_ok (restored_from b l terms asked q next left) ≡ true → (es : List Entry) × (length es ≡ left) × EntriesAt b l terms next es × Ordered q.boys q.number es) → (es : List Entry) × (length es ≡ suc left) × EntriesAt b l terms at es × Ordered p.boys p.number es
      by (got e next) is go =
          let s = stood e p at next (λ e next. restored_from b l terms asked (passed_on p asked e.number (held e.term)) next left) is none in
          let r = go (passed_on p asked e.number (held e.term)) next s.2 in
          (e ∷ r.0, ap suc r.1, (next, is, r.2), (s.0, r.3))
      by (refused n place) is go = absurd (unread p at n place (λ e next. restored_from b l terms asked (passed_on p asked e.number (held e.term)) next left) is none)

  accepted-found : (es : List Entry) (p : Passed) (at : ℕ) → EntriesAt b l terms at es → is_some p.found ≡ true → is_ok (restored_from b l terms asked p at (length es)) ≡ true → picked asked es ≡ []
  unfolding restored_from picked
  accepted-found [] p at reads found none = refl
  accepted-found (e ∷ es) p at reads found none =
      let s = stood e p at reads.0 (λ e next. restored_from b l terms asked (passed_on p asked e.number (held e.term)) next (length es)) reads.1 none in
      let other : eqb e.number asked ≡ false = rw found at s.1 in
      let kept : is_some (passed_on p asked e.number (held e.term)).found ≡ true = rw other found in
      rw other (accepted-found es (passed_on p asked e.number (held e.term)) reads.0 reads.2 kept s.2)

  accepted-once : (es : List Entry) (p : Passed) (at : ℕ) → EntriesAt b l terms at es → p.found ≡ None → is_ok (restored_from b l terms asked p at (length es)) ≡ true → (t : Term) × (picked asked es ≡ t ∷ [])
  unfolding restored_from picked
  accepted-once [] p at reads sought none = false-not-true (rw sought at none)
  accepted-once (e ∷ es) p at reads sought none =
      let on : Passed = passed_on p asked e.number (held e.term) in
      let s = stood e p at reads.0 (λ e next. restored_from b l terms asked (passed_on p asked e.number (held e.term)) next (length es)) reads.1 none in
      by (eqb e.number asked) refl (λ f. accepted-once es on reads.0 reads.2 f s.2) s.2
    where
      by : (y : Bool) → eqb e.number asked ≡ y → ((passed_on p asked e.number (held e.term)).found ≡ None → (t : Term) × (picked asked es ≡ t ∷ [])) → is_ok (restored_from b l terms asked (passed_on p asked e.number (held e.term)) reads.0 (length es)) ≡ true → (t : Term) × (cond y (e.term ∷ picked asked es) (picked asked es) ≡ t ∷ [])
      by true same go none =
          let on : Passed = passed_on p asked e.number (held e.term) in
          let now-found : is_some on.found ≡ true = rw same in
          (e.term, ap (λ (l : List Term). e.term ∷ l) (accepted-found es on reads.0 reads.2 now-found none))
      by false other go none = let not_yet : (passed_on p asked e.number (held e.term)).found ≡ None = rw other sought in go not_yet

-- ---- what is read is bytes within the limits

abbrev AllFit : ℕ → List Entry → Type 0
AllFit l [] = Unit
AllFit l (e ∷ es) = TermFits Coulomb l e.term × AllFit l es

module _ (b : List ℕ) (l terms : ℕ) (bytes : Bytes b) where
  entry-made : (at place end : ℕ) (e x : Entry) (next : ℕ) → x ≡ e → end ≡ next → within_at b at 1 terms ≡ field.Is x.number place → term_at b place Coulomb l ≡ got x.term end → (drop at b ≡ entry_bytes e ++ drop next b) × TermFits Coulomb l e.term × (1 ≤ e.number) × (e.number ≤ terms)
  unfolding entry_bytes
  entry-made at place end e x next same ends f g =
      let t = taken b at 1 terms (within_at b at 1 terms) x.number place refl f in
      let term = term-bytes Coulomb l b place x.term end bytes g in
      let both = drop-then b (bytes_of x.number) (term_bytes x.term) at place end (taken-bytes b at 1 terms x.number place bytes t) term.0 in
      rw (← same, ← ends) (both, term.1, t.above, t.below)

  entry-bytes : (at : ℕ) (e : Entry) (next : ℕ) → entry_at b l terms at ≡ got e next → (drop at b ≡ entry_bytes e ++ drop next b) × TermFits Coulomb l e.term × (1 ≤ e.number) × (e.number ≤ terms)
  unfolding entry_at
  entry-bytes at e next is =
      let x = onward-is (within_at b at 1 terms) (λ number next. and_then (term_at b next Coulomb l) (λ t end. got (record { number = number; term = t }) end)) e next is in
      let y = and_then-is (term_at b x.1 Coulomb l) (λ t end. got (record { number = x.0; term = t }) end) e next x.3 in
      entry-made at x.1 y.1 e (record { number = x.0; term = y.0 }) next (cc y.3) (cc y.3) x.2 y.2

  entries-bytes : (es : List Entry) (at : ℕ) → EntriesAt b l terms at es → (end : ℕ) × (drop at b ≡ entries_bytes es ++ drop end b) × AllFit l es × NumbersWithin terms es
  unfolding entries_bytes
  entries-bytes [] at reads = (at, refl, tt, tt)
  entries-bytes (e ∷ es) at reads =
      let one = entry-bytes at e reads.0 reads.1 in
      let rest = entries-bytes es reads.0 reads.2 in
      (rest.0, drop-then b (entry_bytes e) (entries_bytes es) at reads.0 rest.0 one.0 rest.1, (one.1, rest.2), (one.2, one.3, rest.3))

picked_fits : (l n : ℕ) (es : List Entry) (t : Term) (us : List Term) → AllFit l es → picked n es ≡ t ∷ us → TermFits Coulomb l t
unfolding picked
picked_fits l n [] t us fit is = let none : ◌≡◌ {A = ℕ} 0 (suc (length us)) = ap length is in absurd (omega arith)
picked_fits l n (e ∷ es) t us fit is = by (eqb e.number n) is (picked_fits l n es t us fit.1)
  where
    by : (y : Bool) → cond y (e.term ∷ picked n es) (picked n es) ≡ t ∷ us → (picked n es ≡ t ∷ us → TermFits Coulomb l t) → TermFits Coulomb l t
    by true is go = let same : e.term ≡ t = cc in rw (← same) fit.0
    by false is go = go is

picked_none : (terms n : ℕ) (es : List Entry) → NumbersWithin terms es → (1 ≤ n → n ≤ terms → ⊥) → picked n es ≡ []
unfolding picked
picked_none terms n [] within out = refl
picked_none terms n (e ∷ es) within out =
    let other : eqb e.number n ≡ false = ne_eqb e.number n (λ same. out (omega (arith, within.0)) (omega (arith, within.1))) in
    rw other (picked_none terms n es within.2 out)

-- ---- lists in order with the same terms by number are the same

after_is : (b m number boys : ℕ) → after b m number boys ≡ true → (b < boys) ⊎ ((b ≡ boys) × (m < number))
after_is b m number boys e = tested (ltb b boys) (λ t. inl (ltb-true b boys t)) (λ f. inr (let both = and-true-both (eqb b boys) (ltb m number) (rw f at e) in (eqb-true b boys both.0, ltb-true m number both.1)))

-- behind an entry no further one has its Boys order and its number
not-again : (es : List Entry) (b m i n : ℕ) (t : Term) (us : List Term) → Ordered b m es → (i < b) ⊎ ((i ≡ b) × (n ≤ m)) → picked n es ≡ t ∷ us → t.boys ≡ i → ⊥
unfolding picked
not-again [] b m i n t us ordered past is same = let none : ◌≡◌ {A = ℕ} 0 (suc (length us)) = ap length is in omega arith
not-again (e ∷ es) b m i n t us ordered past is same =
    let later = still (after_is b m e.number e.term.boys ordered.0) past in
    by (eqb e.number n) refl is later (λ past is. not-again es e.term.boys e.number i n t us ordered.1 past is same)
  where
    still : (b < e.term.boys) ⊎ ((b ≡ e.term.boys) × (m < e.number)) → (i < b) ⊎ ((i ≡ b) × (n ≤ m)) → (i < e.term.boys) ⊎ ((i ≡ e.term.boys) × (n < e.number))
    still (inl higher) (inl low) = inl (omega arith)
    still (inl higher) (inr low) = inl (omega (arith, low.0))
    still (inr higher) (inl low) = inl (omega (arith, higher.0))
    still (inr higher) (inr low) = inr (low.0 ∙ higher.0, omega (arith, low.1, higher.1))

    apart : (i < e.term.boys) ⊎ ((i ≡ e.term.boys) × (n < e.number)) → e.number ≡ n → e.term.boys ≡ i → ⊥
    apart (inl low) number boys = omega arith
    apart (inr low) number boys = omega (arith, low.1)

    weaker : (i < e.term.boys) ⊎ ((i ≡ e.term.boys) × (n < e.number)) → (i < e.term.boys) ⊎ ((i ≡ e.term.boys) × (n ≤ e.number))
    weaker (inl low) = inl low
    weaker (inr low) = inr (low.0, omega (arith, low.1))

    by : (y : Bool) → eqb e.number n ≡ y → cond y (e.term ∷ picked n es) (picked n es) ≡ t ∷ us → (i < e.term.boys) ⊎ ((i ≡ e.term.boys) × (n < e.number)) → ((i < e.term.boys) ⊎ ((i ≡ e.term.boys) × (n ≤ e.number)) → picked n es ≡ t ∷ us → ⊥) → ⊥
    by true number is later go = let term : e.term ≡ t = cc in apart later (eqb-true e.number n number) (ap (λ (t : Term). t.boys) term ∙ same)
    by false other is later go = go (weaker later) is

picked-empty : (n : ℕ) → [] ≡ picked n []
unfolding picked
picked-empty n = refl

entry-same : (x y : Entry) → x.number ≡ y.number → x.term ≡ y.term → x ≡ y
entry-same x y number term = ap₂ (λ (n : ℕ) (t : Term). record { number = n; term = t }) number term

picked_first : (e : Entry) (es : List Entry) → picked e.number (e ∷ es) ≡ e.term ∷ picked e.number es
unfolding picked
picked_first e es = rw (eq-eqb e.number e.number refl)

picked-other : (n : ℕ) (e : Entry) (es : List Entry) → (e.number ≡ n → ⊥) → picked n (e ∷ es) ≡ picked n es
unfolding picked
picked-other n e es other = rw (ne_eqb e.number n other)

-- the first entries are the same: neither stands before the other
not-before : (x y : Entry) (xs ys : List Entry) → Ordered y.term.boys y.number ys → after x.term.boys x.number y.number y.term.boys ≡ true → picked x.number (x ∷ xs) ≡ picked x.number (y ∷ ys) → ⊥
not-before x y xs ys ordered less same = not-again (y ∷ ys) x.term.boys x.number x.term.boys x.number x.term (picked x.number xs) (less, ordered) (inr (refl, omega arith)) (sym same ∙ picked_first x xs) refl

first-same : (x y : Entry) (xs ys : List Entry) → Ordered x.term.boys x.number xs → Ordered y.term.boys y.number ys → picked x.number (x ∷ xs) ≡ picked x.number (y ∷ ys) → picked y.number (x ∷ xs) ≡ picked y.number (y ∷ ys) → (x.term.boys ≡ y.term.boys) × (x.number ≡ y.number)
first-same x y xs ys before after-it same same-too =
    tested
    (ltb x.term.boys y.term.boys)
    (λ t. absurd (not-before x y xs ys after-it (after-higher x.term.boys x.number y.number y.term.boys (ltb-true x.term.boys y.term.boys t)) same))
    (λ f.
    tested
    (ltb y.term.boys x.term.boys)
    (λ t. absurd (not-before y x ys xs before (after-higher y.term.boys y.number x.number x.term.boys (ltb-true y.term.boys x.term.boys t)) (sym same-too)))
    (λ g.
    let boys : x.term.boys ≡ y.term.boys = omega (arith, ltb-false x.term.boys y.term.boys f, ltb-false y.term.boys x.term.boys g) in
    tested
    (ltb x.number y.number)
    (λ t. absurd (not-before x y xs ys after-it (after_same x.term.boys x.number y.number y.term.boys boys (ltb-true x.number y.number t)) same))
    (λ h.
    tested
    (ltb y.number x.number)
    (λ t. absurd (not-before y x ys xs before (after_same y.term.boys y.number x.number x.term.boys (sym boys) (ltb-true y.number x.number t)) (sym same-too)))
    (λ k. (boys, omega (arith, ltb-false x.number y.number h, ltb-false y.number x.number k))))))

same_lists : (xs ys : List Entry) (b m : ℕ) → Ordered b m xs → Ordered b m ys → ((n : ℕ) → picked n xs ≡ picked n ys) → xs ≡ ys
same_lists [] [] b m one two same = refl
same_lists [] (y ∷ ys) b m one two same = let none : ◌≡◌ {A = ℕ} 0 (suc (length (picked y.number ys))) = ap length (picked-empty y.number ∙ same y.number ∙ picked_first y ys) in absurd (omega arith)
same_lists (x ∷ xs) [] b m one two same = let none : ◌≡◌ {A = ℕ} (suc (length (picked x.number xs))) 0 = ap length (sym (picked_first x xs) ∙ same x.number ∙ sym (picked-empty x.number)) in absurd (omega arith)
same_lists (x ∷ xs) (y ∷ ys) b m one two same =
    let keys = first-same x y xs ys one.1 two.1 (same x.number) (same y.number) in
    let firsts : x.term ∷ picked x.number xs ≡ y.term ∷ picked y.number ys = sym (picked_first x xs) ∙ same x.number ∙ ap (λ (n : ℕ). picked n (y ∷ ys)) keys.1 ∙ picked_first y ys in
    let term : x.term ≡ y.term = cc in
    let rest : picked x.number xs ≡ picked y.number ys = cc in
    let rests : (n : ℕ) → picked n xs ≡ picked n ys =
    λ n. tested (eqb x.number n) (λ t. let is : x.number ≡ n = eqb-true x.number n t in ap (λ (n : ℕ). picked n xs) (sym is) ∙ rest ∙ ap (λ (n : ℕ). picked n ys) (sym keys.1 ∙ is)) (λ f.
    let other = eqb-false x.number n f in sym (picked-other n x xs other) ∙ same n ∙ picked-other n y ys (λ e. other (keys.1 ∙ e))) in
    let go_on : Ordered x.term.boys x.number ys = rw (keys.0, keys.1) two.1 in
    ap₂ ◌∷◌ (entry-same x y keys.1 term) (same_lists xs ys x.term.boys x.number one.1 go_on rests)

-- ---- the terms that are told

-- a term for each of so many numbers makes a list of terms
listed : (P : ℕ → Term → Type 0) (d : Term) (left n : ℕ) → ((m : ℕ) → n ≤ m → m < n + left → (t : Term) × P m t) → (ts : List Term) × (length ts ≡ left) × ((k : ℕ) → k < left → P (n + k) (get_or ts k d))
listed P d zero n each = ([], refl, λ k less. absurd (omega arith))
listed P d (suc left) n each =
    let first = each n (omega arith) (omega arith) in
    let rest = listed P d left (suc n) (λ m above below. each m (omega arith) (omega arith)) in
    (first.0 ∷ rest.0, ap suc rest.1, by first.0 first.1 rest.0 rest.2)
  where
    by : (t : Term) → P n t → (ts : List Term) → ((k : ℕ) → k < left → P (suc n + k) (get_or ts k d)) → (k : ℕ) → k < suc left → P (n + k) (get_or (t ∷ ts) k d)
    by t one ts more zero less = let same : n + 0 ≡ n = omega arith in rw same one
    by t one ts more (suc k) less = let same : n + suc k ≡ suc n + k = omega arith in rw same (more k (omega arith))

all_fit : (l : ℕ) (ts : List Term) (d : Term) → ((k : ℕ) → k < length ts → TermFits Coulomb l (get_or ts k d)) → TermsFit Coulomb l ts
all_fit l [] d each = tt
all_fit l (t ∷ ts) d each = (each 0 (omega arith), all_fit l ts d (λ k less. each (suc k) (omega arith)))

-- what numbers from 1 on tell, by the number
at-number : (P : ℕ → Term → Type 0) (d : Term) (ts : List Term) (terms n : ℕ) → ((k : ℕ) → k < terms → P (1 + k) (get_or ts k d)) → 1 ≤ n → n ≤ terms → P n (get_or ts (n - 1) d)
at-number P d ts terms n each some most = let same : 1 + (n - 1) ≡ n = omega arith in rw same at (each (n - 1) (omega arith))

-- entries in order in which each number stands once are the grouping of their terms
entries-grouped : (l terms : ℕ) (es : List Entry) (ts : List Term) (d : Term) → Ordered 0 0 es → NumbersWithin terms es → length ts ≡ terms → TermsFit Coulomb l ts → ((n : ℕ) → 1 ≤ n → n ≤ terms → picked n es ≡ get_or ts (n - 1) d ∷ []) → es ≡ grouping l ts
entries-grouped l terms es ts d ordered within long fit once = same_lists es (grouping l ts) 0 0 ordered (grouping-ordered l ts) each
  where
    inside : NumbersWithin terms (grouping l ts)
    inside = rw long at (grouping-within l ts (fit-orders l ts fit))

    each : (n : ℕ) → picked n es ≡ picked n (grouping l ts)
    each n =
        tested
        (leb 1 n && leb n terms)
        (λ t.
        let both = and-true-both (leb 1 n) (leb n terms) t in
        let some : 1 ≤ n = leb-true 1 n both.0 in
        let most : n ≤ terms = leb-true n terms both.1 in
        once n some most ∙ sym (each-once l n ts d (fit-orders l ts fit) some (omega arith)))
        (λ f.
        let out : 1 ≤ n → n ≤ terms → ⊥ = λ some most. false-not-true (sym f ∙ rw (le-leb 1 n some, le-leb n terms most)) in
        picked_none terms n es within out ∙ sym (picked_none terms n (grouping l ts) inside out))

-- L and the number are in order where nothing is refused, and the entries tell
accepted-start : (b : List ℕ) (l terms n : ℕ) → is_ok (restored_of b l terms n) ≡ true → (l ≤ most_l Coulomb) × (restored_of b l terms n ≡ restored_from b l terms n none_passed 0 terms)
unfolding restored_of unless
accepted-start b l terms n none = by (leb l (most_l Coulomb)) (leb 1 n && leb n terms) refl none
  where
    by : (x y : Bool) → leb l (most_l Coulomb) ≡ x → is_ok (unless x (refused_term BadRoll 0) (unless y (refused_term ComponentNumber 0) (restored_from b l terms n none_passed 0 terms))) ≡ true → (l ≤ most_l Coulomb) × (unless x (refused_term BadRoll 0) (unless y (refused_term ComponentNumber 0) (restored_from b l terms n none_passed 0 terms)) ≡ restored_from b l terms n none_passed 0 terms)
    by true true e none = (leb-true l (most_l Coulomb) e, refl)
    by true false e none = false-not-true none
    by false y e none = false-not-true none

-- what a host has that asks for each number and is never refused: these terms, told by number, and their grouping in the front of the bytes
pub record Accepted (b : List ℕ) (l terms : ℕ) (d : Term) : Type 0 where
  pub ts : List Term
  pub rest : List ℕ
  pub small : l ≤ most_l Coulomb
  pub long : length ts ≡ terms
  pub fit : TermsFit Coulomb l ts
  pub told : (n : ℕ) → 1 ≤ n → n ≤ terms → restored_of b l terms n ≡ Ok (held (get_or ts (n - 1) d))
  pub bytes : b ≡ entries_bytes (grouping l ts) ++ rest

of-entries : (b : List ℕ) (l terms : ℕ) (d : Term) → Bytes b → l ≤ most_l Coulomb → ((n : ℕ) → 1 ≤ n → n ≤ terms → is_ok (restored_of b l terms n) ≡ true) → ((n : ℕ) → 1 ≤ n → n ≤ terms → is_ok (restored_from b l terms n none_passed 0 terms) ≡ true) → (es : List Entry) → length es ≡ terms → EntriesAt b l terms 0 es → Ordered 0 0 es → Accepted b l terms d
of-entries b l terms d bytes small never start es count reads ordered =
    let read = entries-bytes b l terms bytes es 0 reads in
    let each : (m : ℕ) → 1 ≤ m → m < 1 + terms → (t : Term) × Picked m t =
    λ m above below.
    let none : is_ok (restored_from b l terms m none_passed 0 (length es)) ≡ true = rw count (start m above (omega arith)) in
    let one = accepted-once b l terms m es none_passed 0 reads refl none in
    (one.0, (one.1, picked_fits l m es one.0 [] read.2 one.1)) in
    let list = listed Picked d terms 1 each in
    let ts = list.0 in
    let by_number : (n : ℕ) → 1 ≤ n → n ≤ terms → Picked n (get_or ts (n - 1) d) = λ n above below. at-number Picked d ts terms n list.2 above below in
    let fit : TermsFit Coulomb l ts = all_fit l ts d (λ k less. (list.2 k (let long = list.1 in omega arith)).1) in
    let grouped : es ≡ grouping l ts = entries-grouped l terms es ts d ordered read.3 list.1 fit (λ n above below. (by_number n above below).0) in
    record {
      ts = ts;
      rest = drop read.0 b;
      small = small;
      long = list.1;
      fit = fit;
      told = λ n above below.
          (accepted-start b l terms n (never n above below)).1
          ∙ ap (restored_from b l terms n none_passed 0) (sym count)
          ∙ run-sought b l terms n es (get_or ts (n - 1) d) none_passed 0 refl (by_number n above below).0 reads ordered;
      bytes = read.1 ∙ ap (λ (es : List Entry). entries_bytes es ++ drop read.0 b) grouped;
    }
  where
    Picked : ℕ → Term → Type 0
    Picked n t = (picked n es ≡ t ∷ []) × TermFits Coulomb l t

pub accepted : (b : List ℕ) (l terms : ℕ) (d : Term) → Bytes b → 1 ≤ terms → ((n : ℕ) → 1 ≤ n → n ≤ terms → is_ok (restored_of b l terms n) ≡ true) → Accepted b l terms d
accepted b l terms d bytes some never =
    let start : (n : ℕ) → 1 ≤ n → n ≤ terms → is_ok (restored_from b l terms n none_passed 0 terms) ≡ true = λ n above below. ap (λ (r : Restored). is_ok r) (sym (accepted-start b l terms n (never n above below)).1) ∙ never n above below in
    let x = accepted-entries b l terms 1 terms none_passed 0 (start 1 (omega arith) some) in
    of-entries b l terms d bytes (accepted-start b l terms 1 (never 1 (omega arith) some)).0 never start x.0 x.1 x.2 x.3
