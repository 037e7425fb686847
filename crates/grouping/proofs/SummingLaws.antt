-- The functions of src/summing.rt: entries summed one after the other; and the sum over a grouping is the sum of the Boys orders one after the other.
use Prim.Native.Nat.{ℕ, zero, suc, ◌+◌, ◌*◌, ◌-◌, ◌%◌, ◌^◌, ◌≤◌, ◌<◌}
use mathlib.Core.Path.{◌≡◌, refl, sym, ap, ap₂, ◌∙◌}
use mathlib.Core.Bool.{Bool, true, false, cond}
use mathlib.Core.List.{List, [], ◌∷◌, ◌++◌, append_assoc}
use native.Mathlib.Omega.{arith}
use borrow.Author.Tests.{eqb-true, ltb-true, ltb-false}
use lib.Dec.{eqb}
use lib.Ieee.{Float}
use lib.ListN.{length, get_or, drop}
use Rattle.std.specs.Prelude.{Option, Some, None}
use Rattle.laws.proofs.Cases.{clash}
use Rattle.laws.proofs.Counting.{left_one, left-none}
use Rattle.laws.proofs.Lists.{drop-after}
use Rattle.kind.specs.Kinds.{most_l}
use Rattle.kind.specs.declared.Kind.TheVariants.{Coulomb}
use Rattle.number.specs.Numbers.{Bytes, one_byte, bytes_of, length_of, higher, read_at}
use Rattle.number.specs.Read.{Is}
use Rattle.number.proofs.Laws.{reads-back-from}
use Rattle.number.proofs.Reading.{read_one, read_more, higher-last, higher-more}
use Rattle.term.specs.Terms.{Term}
use Rattle.geometry.specs.Floats.{◌⊕◌, ◌⊗◌}
use Rattle.roll.specs.declared.again.Head.{Head}
use Rattle.roll.specs.declared.again.Seen.{Seen}
use Rattle.roll.specs.inner.Again.{seen_of, seen_at, head_at, head_term}
use Rattle.roll.specs.Bytes.{term_bytes}
use Rattle.roll.specs.Fits.{TermFits}
use Rattle.roll.proofs.AgainLaws.{term-again}
use Rattle.roll.proofs.Back.{term-back}
use Rattle.integrals.specs.Sums.{boys_number, coulomb_of, sum_from, of_order, run_orders}
use Rattle.integrals.specs.inner.Stored.{own_order_of}
use Rattle.grouping.specs.Grouping.{Entry, numbered_from, group_of, groups_from, entry_bytes, entries_bytes}
use Rattle.grouping.specs.inner.Laying.{entry_head, entries_again, ShortTold}

-- ---- one entry after the other

-- a number of one, two or three bytes, by its bytes
pub short-not : (b : List ℕ) (at : ℕ) → ShortTold b at None
short-not b at = record { end = λ n none. absurd (clash (cc)) }

told : (b : List ℕ) (at n : ℕ) → (seen_at b at).next ≡ n → at < n → n ≤ length b → ShortTold b at (Some n)
told b at n e past inside = record { end = λ m same. let is : n ≡ m = cc in (e ∙ is, omega (arith, past, is), omega (arith, inside, is)) }

module _ (b : List ℕ) (at x : ℕ) (inside : at < length b) (first : x ≡ get_or b at 0) where
  seen-is : (n next : ℕ) → Is n next ≡ read_at b at → (seen_at b at).next ≡ next
  unfolding seen_at seen_of
  seen-is n next e = rw (← e)

  pub short-one : (t : Bool) → t ≡ one_byte x → t ≡ true → ShortTold b at (Some (at + 1))
  short-one t e p = told b at (at + 1) (seen-is x (at + 1) (read_one b at x inside first (ltb-true x 128 (sym e ∙ p)))) (omega arith) (omega arith)

  module _ (t : Bool) (e : t ≡ one_byte x) (p : t ≡ false) (room : 3 ≤ length b - at) (y : ℕ) (second : y ≡ get_or b (at + 1) 0) (some : y ≡ 0 → ⊥) where
    pub short-two : (u : Bool) → u ≡ one_byte y → u ≡ true → ShortTold b at (Some (at + 2))
    short-two u f q =
        let more : Is y (at + 1 + 1) ≡ higher (drop (at + 1) b) (at + 1) 3 = higher-last b (at + 1) 3 y (omega arith) second (λ z. omega (arith, z)) some (ltb-true y 128 (sym f ∙ q)) in
        let two : at + 1 + 1 ≡ at + 2 = omega arith in
        told b at (at + 2) (seen-is (x % 128 + 128 * y) (at + 1 + 1) (read_more b at x (at + 1) t (Is (x % 128 + 128 * y) (at + 1 + 1)) (Is y (at + 1 + 1)) inside first refl e p more refl) ∙ two) (omega arith) (omega arith)

    pub short-three : (u : Bool) (w : ℕ) (v : Bool) → w ≡ get_or b (at + 2) 0 → u ≡ one_byte y → u ≡ false → (w ≡ 0 → ⊥) → v ≡ one_byte w → v ≡ true → ShortTold b at (Some (at + 3))
    short-three u w v third f q some-too g r =
        let two : at + 1 + 1 ≡ at + 2 = omega arith in
        let here : w ≡ get_or b (at + 1 + 1) 0 = third ∙ ap (λ (n : ℕ). get_or b n 0) (sym two) in
        let last : Is w (at + 1 + 1 + 1) ≡ higher (drop (at + 1 + 1) b) (at + 1 + 1) 2 = higher-last b (at + 1 + 1) 2 w (omega arith) here (λ z. omega (arith, z)) some-too (ltb-true w 128 (sym g ∙ r)) in
        let high : 128 ≤ y = ltb-false y 128 (sym f ∙ q) in
        let more : Is (y % 128 + 128 * w) (at + 1 + 1 + 1) ≡ higher (drop (at + 1) b) (at + 1) 3 = higher-more b (at + 1) 3 2 y (Is (y % 128 + 128 * w) (at + 1 + 1 + 1)) (Is w (at + 1 + 1 + 1)) (omega arith) second (λ z. omega (arith, z)) refl high last refl in
        let three : at + 1 + 1 + 1 ≡ at + 3 = omega arith in
        told b at (at + 3) (seen-is (x % 128 + 128 * (y % 128 + 128 * w)) (at + 1 + 1 + 1) (read_more b at x (at + 1) t (Is (x % 128 + 128 * (y % 128 + 128 * w)) (at + 1 + 1 + 1)) (Is (y % 128 + 128 * w) (at + 1 + 1 + 1)) inside first refl e p more refl) ∙ three) (omega arith) (omega arith)

pub end_seen : (b : List ℕ) (at : ℕ) (n : Seen) → n ≡ seen_at b at → n.next ≡ (seen_at b at).next
end_seen b at n e = ap (λ (s : Seen). s.next) e

pub end_short : (b : List ℕ) (at n : ℕ) (r : Option ℕ) → ShortTold b at r → r ≡ Some n → n ≡ (seen_at b at).next
end_short b at n r told is = sym (told.end n is).0

pub entry-is : (b : List ℕ) (at n : ℕ) (h : Head) → n ≡ (seen_at b at).next → h ≡ head_at b n → h ≡ entry_head b at
unfolding entry_head
entry-is b at n h e f = f ∙ ap (head_at b) e

entries-turn : (b : List ℕ) (at terms done : ℕ) → done < terms → entries_again b at (terms - done) ≡ head_term b (entry_head b at) ∷ entries_again b (entry_head b at).end (terms - (done + 1))
unfolding entries_again
entries-turn b at terms done some = rw (left_one terms done some)

entries_none : (b : List ℕ) (at terms done : ℕ) → terms ≤ done → entries_again b at (terms - done) ≡ []
unfolding entries_again
entries_none b at terms done none = rw (left-none terms done none)

module _ (b : List ℕ) (at terms done : ℕ) (table : List Float) (s : Float) (boys : List Float) (sum whole : Float) where
  pub sum_more : (h : Head) (v : Float) → done < terms → h ≡ entry_head b at → v ≡ own_order_of table s boys (head_term b h) → sum_from (own_order_of table s boys) (entries_again b at (terms - done)) sum ≡ whole → sum_from (own_order_of table s boys) (entries_again b h.end (terms - (done + 1))) (sum ⊕ v) ≡ whole
  unfolding sum_from
  sum_more h v p e f q = rw (f, e) (rw (entries-turn b at terms done p) at q)

  pub sum_done : terms ≤ done → sum_from (own_order_of table s boys) (entries_again b at (terms - done)) sum ≡ whole → sum ≡ whole
  unfolding sum_from
  sum_done p q = rw (entries_none b at terms done p) at q

-- ---- the groups one after the other

unfoldable pub terms_of : List Entry → List Term
terms_of [] = []
terms_of (e ∷ es) = e.term ∷ terms_of es

pub numbered-terms : (n : ℕ) (ts : List Term) → terms_of (numbered_from n ts) ≡ ts
unfolding terms_of numbered_from
numbered-terms n [] = refl
numbered-terms n (t ∷ ts) = ap (λ (l : List Term). t ∷ l) (numbered-terms (suc n) ts)

terms-both : (xs ys : List Entry) → terms_of (xs ++ ys) ≡ terms_of xs ++ terms_of ys
unfolding terms_of
terms-both [] ys = refl
terms-both (x ∷ xs) ys = ap (λ (l : List Term). x.term ∷ l) (terms-both xs ys)

sum_both : (f : Term → Float) (xs ys : List Term) (sum : Float) → sum_from f (xs ++ ys) sum ≡ sum_from f ys (sum_from f xs sum)
unfolding sum_from
sum_both f [] ys sum = refl
sum_both f (x ∷ xs) ys sum = sum_both f xs ys (sum ⊕ f x)

module _ (table : List Float) (s : Float) (boys : List Float) where
  own-order-is : (t : Term) (i : ℕ) → t.boys ≡ i → own_order_of table s boys t ≡ coulomb_of table (boys_number boys i ⊗ s) t
  unfolding own_order_of
  own-order-is t i same = rw same

  -- in its own group a term adds what it adds in the pass of its order
  group-sum : (i : ℕ) (es : List Entry) (sum : Float) → sum_from (own_order_of table s boys) (terms_of (group_of i es)) sum ≡ sum_from (coulomb_of table (boys_number boys i ⊗ s)) (of_order i (terms_of es)) sum
  unfolding group_of terms_of of_order sum_from
  group-sum i [] sum = refl
  group-sum i (e ∷ es) sum = by (eqb e.term.boys i) refl (λ x. group-sum i es x)
    where
      by : (b : Bool) → eqb e.term.boys i ≡ b → ((x : Float) → sum_from (own_order_of table s boys) (terms_of (group_of i es)) x ≡ sum_from (coulomb_of table (boys_number boys i ⊗ s)) (of_order i (terms_of es)) x) → sum_from (own_order_of table s boys) (terms_of (cond b (e ∷ group_of i es) (group_of i es))) sum ≡ sum_from (coulomb_of table (boys_number boys i ⊗ s)) (cond b (e.term ∷ of_order i (terms_of es)) (of_order i (terms_of es))) sum
      by true t rest =
          let same : e.term.boys ≡ i = eqb-true e.term.boys i t in
          let own : own_order_of table s boys e.term ≡ coulomb_of table (boys_number boys i ⊗ s) e.term = own-order-is e.term i same in
          ap (λ (x : Float). sum_from (own_order_of table s boys) (terms_of (group_of i es)) (sum ⊕ x)) own ∙ rest (sum ⊕ coulomb_of table (boys_number boys i ⊗ s) e.term)
      by false t rest = rest sum

  pub groups-sum : (left i : ℕ) (es : List Entry) (sum : Float) → sum_from (own_order_of table s boys) (terms_of (groups_from left i es)) sum ≡ run_orders table s boys (terms_of es) left i sum
  unfolding groups_from run_orders terms_of sum_from
  groups-sum zero i es sum = refl
  groups-sum (suc left) i es sum =
      ap (λ (ts : List Term). sum_from (own_order_of table s boys) ts sum) (terms-both (group_of i es) (groups_from left (suc i) es))
      ∙ sum_both (own_order_of table s boys) (terms_of (group_of i es)) (terms_of (groups_from left (suc i) es)) sum
      ∙ groups-sum left (suc i) es (sum_from (own_order_of table s boys) (terms_of (group_of i es)) sum)
      ∙ ap (run_orders table s boys (terms_of es) left (suc i)) (group-sum i es sum)

-- ---- entries that stand in a buffer read back

abbrev pub EntriesFit : ℕ → List Entry → Type 0
EntriesFit l [] = Unit
EntriesFit l (e ∷ es) = (e.number < 2 ^ 32) × TermFits Coulomb l e.term × EntriesFit l es

seen_back : (b : List ℕ) (at n : ℕ) (rest : List ℕ) → n < 2 ^ 32 → drop at b ≡ bytes_of n ++ rest → (seen_at b at).next ≡ at + length_of n
unfolding seen_at seen_of read_at
seen_back b at n rest small is = let read = reads-back-from n at rest small in rw (is, read)

pub entries-back : (l : ℕ) (es : List Entry) (b rest : List ℕ) (at : ℕ) → Bytes b → l ≤ most_l Coulomb → EntriesFit l es → drop at b ≡ entries_bytes es ++ rest → entries_again b at (length es) ≡ terms_of es
unfolding entries_bytes entry_bytes entries_again terms_of entry_head length_of
entries-back l [] b rest at bytes small fit is = refl
entries-back l (e ∷ es) b rest at bytes small fit is =
    let split : drop at b ≡ bytes_of e.number ++ (term_bytes e.term ++ (entries_bytes es ++ rest)) = is ∙ simp append_assoc in
    let next = (seen_at b at).next in
    let seen : next ≡ at + length (bytes_of e.number) = seen_back b at e.number (term_bytes e.term ++ (entries_bytes es ++ rest)) fit.0 split in
    let behind : drop next b ≡ term_bytes e.term ++ (entries_bytes es ++ rest) = drop-after b (bytes_of e.number) (term_bytes e.term ++ (entries_bytes es ++ rest)) at next split seen in
    let term = term-back Coulomb l e.term b (entries_bytes es ++ rest) next small fit.1 behind in
    let same = term-again Coulomb l b next e.term term.0 bytes term.1 in
    ap₂ (λ (t : Term) (n : ℕ). t ∷ entries_again b n (length es)) same.term same.after
    ∙ ap (λ (l : List Term). e.term ∷ l) (entries-back l es b rest term.0 bytes small fit.2 term.2)
