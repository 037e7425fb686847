-- No position that differs is left out, and none is listed that does not: in other words than the definition, by the terms that stand at a place of each list.
use Prim.Native.Nat.{ℕ, zero, suc, ◌+◌, ◌≤◌}
use mathlib.Core.Path.{◌≡◌, refl, sym, ap, ◌∙◌}
use mathlib.Core.Bool.{Bool, true, false, cond, true≢false}
use mathlib.Core.List.Memᴰ
use mathlib.Core.List.{List, [], ◌∷◌, Memᴰ}
use mathlib.Core.Logic.{◌⊎◌, inl, inr}
use native.Mathlib.Omega.{arith}
use Rattle.laws.proofs.Cases.{clash, tested}
use Rattle.term.specs.Terms.{Term, same_term}
use Rattle.comparing.specs.Text.{Difference, both, left, right, differences}
use Rattle.term.proofs.SameTerms.{term-same, term-equal}

-- what stands at a place of a list, counted from 0
pub data Entry : Type 0 where
  none : Entry
  some : Term → Entry

abbrev pub entry : ℕ → List Term → Entry
entry i [] = none
entry zero (t ∷ ts) = some t
entry (suc i) (t ∷ ts) = entry i ts

-- what a listed position says: its number, and the term of each side
abbrev pub place_of : Difference → ℕ
place_of (both n l r) = n
place_of (left n l) = n
place_of (right n r) = n

abbrev pub ours : Difference → Entry
ours (both n l r) = some l
ours (left n l) = some l
ours (right n r) = none

abbrev pub theirs : Difference → Entry
theirs (both n l r) = some r
theirs (left n l) = none
theirs (right n r) = some r

-- a position of two lists that are numbered from n on, whose terms differ or which one list alone has
pub record Differs (n : ℕ) (ls rs : List Term) (d : Difference) : Type 0 where
  pub at : ℕ
  pub number : place_of d ≡ n + at
  pub left_is : ours d ≡ entry at ls
  pub right_is : theirs d ≡ entry at rs
  pub other : entry at ls ≡ entry at rs → ⊥

-- one place further on
further : (n : ℕ) (ls rs us vs : List Term) (d : Difference) → ((i : ℕ) → entry (suc i) us ≡ entry i ls) → ((i : ℕ) → entry (suc i) vs ≡ entry i rs) → Differs (n + 1) ls rs d → Differs n us vs d
further n ls rs us vs d one two x =
    record {
      at = suc x.at;
      number = omega (arith, x.number);
      left_is = x.left_is ∙ sym (one x.at);
      right_is = x.right_is ∙ sym (two x.at);
      other = λ e. x.other (sym (one x.at) ∙ e ∙ two x.at);
    }

pub listed-differs : (n : ℕ) (ls rs : List Term) (d : Difference) → Memᴰ d (differences n ls rs) → Differs n ls rs d
unfolding differences
listed-differs n [] [] d m = absurd (Memᴰ.not-nil m)
listed-differs n (l ∷ ls) [] d m = by (Memᴰ.cases_cons m) (λ m. listed-differs (n + 1) ls [] d m)
  where
    by : (d ≡ left n l) ⊎ Memᴰ d (differences (n + 1) ls []) → (Memᴰ d (differences (n + 1) ls []) → Differs (n + 1) ls [] d) → Differs n (l ∷ ls) [] d
    by (inl is) rest = record { at = 0; number = ap place_of is ∙ omega arith; left_is = ap ours is; right_is = ap theirs is; other = λ e. clash (cc) }
    by (inr m) rest = further n ls [] (l ∷ ls) [] d (λ i. refl) (λ i. refl) (rest m)
listed-differs n [] (r ∷ rs) d m = by (Memᴰ.cases_cons m) (λ m. listed-differs (n + 1) [] rs d m)
  where
    by : (d ≡ right n r) ⊎ Memᴰ d (differences (n + 1) [] rs) → (Memᴰ d (differences (n + 1) [] rs) → Differs (n + 1) [] rs d) → Differs n [] (r ∷ rs) d
    by (inl is) rest = record { at = 0; number = ap place_of is ∙ omega arith; left_is = ap ours is; right_is = ap theirs is; other = λ e. clash (cc) }
    by (inr m) rest = further n [] rs [] (r ∷ rs) d (λ i. refl) (λ i. refl) (rest m)
listed-differs n (l ∷ ls) (r ∷ rs) d m = by (same_term l r) refl m (λ m. listed-differs (n + 1) ls rs d m)
  where
    behind : Differs (n + 1) ls rs d → Differs n (l ∷ ls) (r ∷ rs) d
    behind x = further n ls rs (l ∷ ls) (r ∷ rs) d (λ i. refl) (λ i. refl) x

    here : same_term l r ≡ false → (d ≡ both n l r) ⊎ Memᴰ d (differences (n + 1) ls rs) → (Memᴰ d (differences (n + 1) ls rs) → Differs (n + 1) ls rs d) → Differs n (l ∷ ls) (r ∷ rs) d
    here off (inl is) rest =
        record {
          at = 0;
          number = ap place_of is ∙ omega arith;
          left_is = ap ours is;
          right_is = ap theirs is;
          other = λ e. let same : l ≡ r = cc in true≢false (sym (term-same l r same) ∙ off);
        }
    here off (inr m) rest = behind (rest m)

    by : (b : Bool) → same_term l r ≡ b → Memᴰ d (cond b (differences (n + 1) ls rs) (both n l r ∷ differences (n + 1) ls rs)) → (Memᴰ d (differences (n + 1) ls rs) → Differs (n + 1) ls rs d) → Differs n (l ∷ ls) (r ∷ rs) d
    by true on m rest = behind (rest m)
    by false off m rest = here off (Memᴰ.cases_cons m) rest

-- what is listed of a place
pub record Listed (n : ℕ) (ls rs : List Term) (i : ℕ) : Type 0 where
  pub position : Difference
  pub there : Memᴰ position (differences n ls rs)
  pub number : place_of position ≡ n + i

pub differing-listed : (n : ℕ) (ls rs : List Term) (i : ℕ) → (entry i ls ≡ entry i rs → ⊥) → Listed n ls rs i
unfolding differences
differing-listed n [] [] i other = absurd (other refl)
differing-listed n (l ∷ ls) [] zero other = record { position = left n l; there = Memᴰ.head refl; number = omega arith }
differing-listed n (l ∷ ls) [] (suc i) other = let x = differing-listed (n + 1) ls [] i other in record { position = x.position; there = Memᴰ.tail x.there; number = omega (arith, x.number) }
differing-listed n [] (r ∷ rs) zero other = record { position = right n r; there = Memᴰ.head refl; number = omega arith }
differing-listed n [] (r ∷ rs) (suc i) other = let x = differing-listed (n + 1) [] rs i other in record { position = x.position; there = Memᴰ.tail x.there; number = omega (arith, x.number) }
differing-listed n (l ∷ ls) (r ∷ rs) zero other =
    tested (same_term l r)
    (λ on. absurd (other (ap some (term-equal l r on))))
    (λ off. record { position = both n l r; there = rw off (Memᴰ.head refl); number = omega arith })
differing-listed n (l ∷ ls) (r ∷ rs) (suc i) other =
    let x = differing-listed (n + 1) ls rs i other in
    tested (same_term l r)
    (λ on. record { position = x.position; there = rw on x.there; number = omega (arith, x.number) })
    (λ off. record { position = x.position; there = rw off (Memᴰ.tail x.there); number = omega (arith, x.number) })

-- and each place at most once: the numbers ascend
abbrev pub Ascending : ℕ → List Difference → Type 0
Ascending n [] = Unit
Ascending n (d ∷ ds) = (n ≤ place_of d) × Ascending (place_of d + 1) ds

later : (n m : ℕ) (ds : List Difference) → n ≤ m → Ascending m ds → Ascending n ds
later n m [] less a = tt
later n m (d ∷ ds) less a = (omega (arith, a.0), a.1)

pub differences-ascend : (n : ℕ) (ls rs : List Term) → Ascending n (differences n ls rs)
unfolding differences
differences-ascend n [] [] = tt
differences-ascend n (l ∷ ls) [] = (omega arith, differences-ascend (n + 1) ls [])
differences-ascend n [] (r ∷ rs) = (omega arith, differences-ascend (n + 1) [] rs)
differences-ascend n (l ∷ ls) (r ∷ rs) =
    tested (same_term l r)
    (λ on. rw on (later n (n + 1) (differences (n + 1) ls rs) (omega arith) (differences-ascend (n + 1) ls rs)))
    (λ off. rw off (omega arith, differences-ascend (n + 1) ls rs))
