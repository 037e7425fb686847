-- What each call of measuring asks and gives, a law for each. The number that falls is the walk's.
use Prim.Native.Nat.{ℕ, ◌+◌, ◌*◌, ◌-◌, ◌/◌, ◌%◌, ◌^◌, ◌≤◌, ◌<◌}
use mathlib.Core.Path.{◌≡◌, refl, sym, ap, ap₂, subst, ◌∙◌}
use mathlib.Core.Bool.{Bool, true, false, cond}
use mathlib.Core.List.{List, [], ◌∷◌, append-nil}
use native.Mathlib.Omega.{arith}
use native.Mathlib.Nat.{mul-le-mul}
use borrow.Author.Tests.{eqb-true, eqb-false}
use lib.Dec.{eqb}
use lib.ListN.{length}
use Rattle.kind.specs.declared.Kind.{Kind}
use Rattle.term.specs.Terms.{Term}
use Rattle.number.specs.Numbers.{length_of}
use Rattle.steps.specs.declared.CentreName.{CentreName}
use Rattle.steps.specs.declared.Axis.{Axis}
use Rattle.steps.specs.declared.Move.{Move}
use Rattle.steps.specs.Steps.{branches}
use Rattle.laws.specs.Total.{total}
use Rattle.steps.specs.inner.Packed.{orders, move_in, multiplier_word}
use Rattle.histories.specs.History.{stage, depth}
use Rattle.roll.specs.Bytes.{term_bytes, terms_bytes}
use Rattle.expansion.specs.declared.Path.{Path}
use Rattle.expansion.specs.inner.Measuring.{Measured}
use Rattle.expansion.specs.inner.Measuring.{Fits}
use Rattle.expansion.specs.declared.Lowered.{Lowered}
use Rattle.expansion.specs.inner.View.{path_term}
use Rattle.expansion.specs.inner.Walking.{Good, TurnMay, lowering, terms_below, terms_from}
use Rattle.expansion.specs.inner.Measuring.{measured, plus, width_of, group_of, skip_of, SmallMeasure, MeasureMay, Measures, MeasuresFrom, MeasuresGroup, one_term, over_word, word_of, WordOf, Unpacked}
use Rattle.expansion.proofs.TermsBytes.{term-length}
use Rattle.expansion.proofs.WalkTurns.{from-none}
use Rattle.expansion.proofs.WalkChildren.{child-held}
use Rattle.expansion.proofs.WalkCycle.{Words, good-words, below-done, below_none, below-first, first-turn}
use Rattle.expansion.proofs.MeasureSizes.{measured-few, small-fits, small-none, small-over, none-plus, plus_none, plus-again}
use Rattle.expansion.proofs.MeasureWords.{word-most, group-small, group-words, group-over}
use Rattle.expansion.proofs.MeasureGroups.{next_path, next-scale, next-count, next_of, width_one, group-turn, group-none, group-split}
use Rattle.std.specs.Prelude.{Option, Some, None}

unfoldable pub inner_count : Kind → ℕ → ℕ
inner_count k left = 3 * (stage k + total (orders left)) + 2

unfoldable pub branches_count : Kind → ℕ → ℕ
branches_count k left = 3 * (stage k + total (orders left)) + 1

unfoldable pub branch_count : Kind → ℕ → ℕ
branch_count k left = 3 * (stage k + total (orders left))

pub first_count_lem : (k : Kind) (left t : ℕ) → inner_count k left ≡ t → branches_count k left < t
unfolding inner_count branches_count
first_count_lem k left t e = omega arith

pub one-count : (k : Kind) (left t : ℕ) → branches_count k left ≡ t → branch_count k left < t
unfolding branches_count branch_count
one-count k left t e = omega arith

measured-none : (ts : List Term) → ts ≡ [] → Fits 0 0 ≡ measured ts
unfolding terms_bytes
measured-none ts e = sym (ap measured e ∙ measured-few [] (omega arith))

none-word : 0 ≡ word_of (Fits 0 0)
unfolding word_of
none-word = refl

module _ (k : Kind) (left scale count : ℕ) (may : MeasureMay k left scale count) where
  words : Words may.path
  words = good-words k left may.path may.good

  pub leaf-scale : scale < 2 ^ 32
  leaf-scale = subst (λ (n : ℕ). n < 2 ^ 32) may.scale-is words.scale-fits

  pub leaf-count : count < 25
  leaf-count = subst (λ (n : ℕ). n < 25) may.count-is words.count_fits

  -- a state with no order left
  pub leaf-told : (b : ℕ) → left ≡ 0 → b ≡ length_of scale + 2 + count → b ≤ 32 → Measures k left scale count (Fits 1 b)
  unfolding terms_bytes
  leaf-told b e i s =
      record {
        is = λ (p : Path) (f : p.scale ≡ scale) (g : p.count ≡ count) (h : Good k left p).
            let w = good-words k left p h in
            ap (Fits 1) (i ∙ ap₂ (λ (a b : ℕ). length_of a + 2 + b) (sym f) (sym g) ∙ sym (ap length (append-nil (term_bytes (path_term p))) ∙ term-length p w.boys-fits w.count_fits))
            ∙ sym (ap measured (below-done k left p e) ∙ measured-few (path_term p ∷ []) (omega arith));
        small-enough = small-fits 1 b (omega arith) (omega arith);
      }

  pub node-told : (word : ℕ) (r : Measured) → WordOf (Measures k left scale count) word → Unpacked word r → Measures k left scale count r
  node-told word r w u = subst (Measures k left scale count) (sym (u.only w.size w.told.small-enough w.word)) w.told

  module _ (some : left ≡ 0 → ⊥) (l : Option Lowered) (is : l ≡ lowering k (orders left)) where
    pub none_told : l ≡ None → WordOf (Measures k left scale count) 0
    none_told e =
        record {
          size = Fits 0 0;
          word = none-word;
          told =
              record {
                is = λ (p : Path) (f : p.scale ≡ scale) (g : p.count ≡ count) (h : Good k left p). measured-none (terms_below k left p) (below_none k left p h.word some l is e);
                small-enough = small-none;
              };
        }

    module _ (c : CentreName) (x : Axis) (at-them : l ≡ Some (record { centre = c; axis = x })) where
      pub turn-first : (times : ℕ) → times ≡ multiplier_word c x (orders left) (branches k c x) → TurnMay k left c x times 0
      turn-first times e = first-turn k left may.path may.good.word some l is c x at-them times e

      pub first-told : (r : ℕ) → WordOf (MeasuresFrom k left scale count c x 0) r → WordOf (Measures k left scale count) r
      first-told r w =
          record {
            size = w.size;
            word = w.word;
            told =
                record {
                  is = λ (p : Path) (f : p.scale ≡ scale) (g : p.count ≡ count) (h : Good k left p). w.told.is p f g h ∙ ap measured (sym (below-first k left p h.word some l is c x at-them));
                  small-enough = w.told.small-enough;
                };
          }

  -- one branch
  module _ (c : CentreName) (x : Axis) (times number : ℕ) (turn : TurnMay k left c x times number) (some : times ≡ 0 → ⊥) where
    pub skip-told : times % 16 ≡ 0 → WordOf (MeasuresGroup k left scale count c x number) 0
    unfolding plus
    skip-told none =
        record {
          size = Fits 0 0;
          word = none-word;
          told =
              record {
                is = λ (p : Path) (f : p.scale ≡ scale) (g : p.count ≡ count) (h : Good k left p).
                    sym (ap₂ plus (nothing (eqb (width_of k number) 2)) (ap measured (group-none k left c x times number turn some none p)) ∙ none-plus (terms_from k left p c x number));
                small-enough = small-none;
              };
        }
      where
        nothing : (v : Bool) → cond v (plus (Fits 0 0) (Fits 0 0)) (Fits 0 0) ≡ Fits 0 0
        nothing true = refl
        nothing false = refl

    module _ (legal : times % 16 ≡ 0 → ⊥) (m : Move) (is : m ≡ move_in k c x (branches k c x) number) where
      pub fall-fits : m.falls ≤ left
      fall-fits = child-held k left may.path c x times number may.good turn legal m is

      pub scale-fits : scale * (times % 16) < 2 ^ 64
      scale-fits =
          let h = leaf-scale in
          let less : times % 16 ≤ 16 = omega arith in
          let most : scale ≤ 2 ^ 32 = omega arith in
          let product : scale * (times % 16) ≤ 2 ^ 32 * 16 = mul-le-mul most less in
          omega arith

      pub count_fits : count + 1 < 2 ^ 64
      count_fits = let h = leaf-count in omega arith

      pub child-count : (t : ℕ) → branch_count k left ≡ t → inner_count m.kind (left - m.falls) < t
      unfolding branch_count inner_count depth
      child-count t e =
          let d = (next_of k left may.path c x times number may.good turn legal).down in
          let same = ap (λ (n : Move). stage n.kind + total (orders (left - n.falls))) is in
          omega arith

      pub child-measured : MeasureMay m.kind (left - m.falls) (scale * (times % 16)) (count + 1)
      child-measured =
          subst (λ (n : Move). MeasureMay n.kind (left - n.falls) (scale * (times % 16)) (count + 1)) (sym is)
          (record {
            path = next_path may.path (times % 16) (move_in k c x (branches k c x) number).raises (move_in k c x (branches k c x) number).adds;
            scale-is = next-scale may.path (times % 16) _ _ ∙ ap (λ (n : ℕ). n * (times % 16)) may.scale-is;
            count-is = next-count may.path (times % 16) _ _ ∙ ap (λ (n : ℕ). n + 1) may.count-is;
            good = (next_of k left may.path c x times number may.good turn legal).good;
          })

      group-told : (first : Measured) → Measures m.kind (left - m.falls) (scale * (times % 16)) (count + 1) first → MeasuresGroup k left scale count c x number first
      group-told first told = record { is = group-split k left scale count c x times number turn some legal m is first told; small-enough = told.small-enough }

      pub child-told : (r : ℕ) → WordOf (Measures m.kind (left - m.falls) (scale * (times % 16)) (count + 1)) r → WordOf (MeasuresGroup k left scale count c x number) r
      child-told r w = record { size = w.size; word = w.word; told = group-told w.size w.told }

-- the one term of a branch
module _ (k : Kind) (left scale count : ℕ) (may : MeasureMay k left scale count) (c : CentreName) (x : Axis) (times number : ℕ) (turn : TurnMay k left c x times number) (some : times ≡ 0 → ⊥)
    (legal : times % 16 ≡ 0 → ⊥) (m : Move) (is : m ≡ move_in k c x (branches k c x) number) where
  abbrev below : MeasureMay m.kind (left - m.falls) (scale * (times % 16)) (count + 1)
  below = child-measured k left scale count may c x times number turn some legal m is

  pub term-scale : scale * (times % 16) < 2 ^ 32
  term-scale = leaf-scale m.kind (left - m.falls) (scale * (times % 16)) (count + 1) below

  pub term-count : count + 1 < 25
  term-count = leaf-count m.kind (left - m.falls) (scale * (times % 16)) (count + 1) below

  pub term_told : (b : ℕ) → left - m.falls ≡ 0 → b ≡ length_of (scale * (times % 16)) + 2 + (count + 1) → b ≤ 32 → WordOf (MeasuresGroup k left scale count c x number) (one_term + b)
  unfolding word_of
  term_told b e i s =
      child-told k left scale count may c x times number turn some legal m is (one_term + b)
      (record { size = Fits 1 b; word = omega arith; told = leaf-told m.kind (left - m.falls) (scale * (times % 16)) (count + 1) below b e i s })

-- some branches are measured, and those from a number on are left
pub record Added (k : Kind) (left scale count : ℕ) (c : CentreName) (x : Axis) (rest number sum : ℕ) : Type 0 where
  pub size : Measured
  pub word : sum ≡ word_of size
  pub small-enough : SmallMeasure size
  pub under : sum < over_word
  pub turn : TurnMay k left c x rest number
  pub adds-up : (p : Path) → p.scale ≡ scale → p.count ≡ count → Good k left p → measured (terms_from k left p c x 0) ≡ plus size (measured (terms_from k left p c x number))

pub added-first : (k : Kind) (left scale count : ℕ) (c : CentreName) (x : Axis) (times : ℕ) → TurnMay k left c x times 0 → Added k left scale count c x times 0 0
added-first k left scale count c x times turn =
    record {
      size = Fits 0 0;
      word = none-word;
      small-enough = small-none;
      under = omega arith;
      turn = turn;
      adds-up = λ (p : Path) (f : p.scale ≡ scale) (g : p.count ≡ count) (h : Good k left p). sym (none-plus (terms_from k left p c x 0));
    }

module _ (k : Kind) (left scale count : ℕ) (c : CentreName) (x : Axis) (rest number sum : ℕ) (a : Added k left scale count c x rest number sum) where
  pub added-done : rest ≤ 0 → WordOf (MeasuresFrom k left scale count c x 0) sum
  added-done none =
      record {
        size = a.size;
        word = a.word;
        told =
            record {
              is = λ (p : Path) (f : p.scale ≡ scale) (g : p.count ≡ count) (h : Good k left p).
                  plus_none a.size a.small-enough ∙ ap (plus a.size) (measured-none (terms_from k left p c x number) (from-none k left c x rest number a.turn p (omega arith))) ∙ sym (a.adds-up p f g h);
              small-enough = a.small-enough;
            };
      }

  module _ (more : 0 < rest) where
    pub added-turn : TurnMay k left c x rest number
    added-turn = a.turn

    pub added-some : rest ≡ 0 → ⊥
    added-some e = omega arith

    module _ (one : ℕ) (o : WordOf (MeasuresGroup k left scale count c x number) one) (w : ℕ) (width : w ≡ width_of k number) where
      wide : (w ≡ 2 → ⊥) → w ≡ 1
      wide n = width ∙ width_one k number (λ (e : width_of k number ≡ 2). n (width ∙ e))

      few : w ≤ 2
      few = at (eqb w 2) refl
        where
          at : (v : Bool) → eqb w 2 ≡ v → w ≤ 2
          at true e = let h = eqb-true w 2 e in omega arith
          at false e = let h = wide (eqb-false w 2 e) in omega arith

      product : w * one ≤ 2 * over_word
      product = let h = word-most o.size o.told.small-enough in let e = o.word in let most : one ≤ over_word = omega arith in mul-le-mul few most

      pub product-fits : w * one < 2 ^ 64
      product-fits = let h = product in omega arith

      pub sum_fits : sum + w * one < 2 ^ 64
      sum_fits = let h = product in let u = a.under in omega arith

      words-sum : sum + w * one ≡ word_of a.size + w * word_of o.size
      words-sum = ap₂ (λ (m n : ℕ). m + w * n) a.word o.word

      grouped : (p : Path) → p.scale ≡ scale → p.count ≡ count → Good k left p
          → measured (terms_from k left p c x 0) ≡ plus (plus a.size (group_of w o.size)) (measured (terms_from k left p c x (number + w)))
      grouped p f g h =
          a.adds-up p f g h ∙ ap (plus a.size) (o.told.is p f g h ∙ ap (λ (n : ℕ). plus (group_of n o.size) (measured (terms_from k left p c x (number + n)))) (sym width))
          ∙ plus-again a.size (group_of w o.size) (measured (terms_from k left p c x (number + w)))

      pub added-over : over_word ≤ sum + w * one → WordOf (MeasuresFrom k left scale count c x 0) over_word
      unfolding plus word_of
      added-over above =
          let over = group-over a.size o.size a.small-enough o.told.small-enough w wide (let e = words-sum in omega arith) in
          record {
            size = None;
            word = refl;
            told =
                record {
                  is = λ (p : Path) (f : p.scale ≡ scale) (g : p.count ≡ count) (h : Good k left p).
                      sym (grouped p f g h ∙ ap (λ (m : Measured). plus m (measured (terms_from k left p c x (number + w)))) over);
                  small-enough = small-over;
                };
          }

      module _ (s : ℕ) (skip : s ≡ skip_of w rest) where
        next-turn : TurnMay k left c x s (number + w)
        next-turn =
            subst (λ (n : ℕ). TurnMay k left c x s (number + n)) (sym width)
            (subst (λ (n : ℕ). TurnMay k left c x n (number + width_of k number)) (sym (skip ∙ ap (λ (n : ℕ). skip_of n rest) width)) (group-turn k left c x rest number a.turn added-some))

        pub next-number : number + w < 256
        next-number = let t = next-turn.few in omega arith

        pub next-less : s < rest
        next-less = at (eqb w 2) refl
          where
            at : (v : Bool) → eqb w 2 ≡ v → s < rest
            at true e = let h : s ≡ rest / 256 = skip ∙ ap (λ (v : Bool). cond v (rest / 256) (rest / 16)) e in omega arith
            at false e = let h : s ≡ rest / 16 = skip ∙ ap (λ (v : Bool). cond v (rest / 256) (rest / 16)) e in omega arith

        pub added_more : sum + w * one < over_word → Added k left scale count c x s (number + w) (sum + w * one)
        added_more below =
            record {
              size = plus a.size (group_of w o.size);
              word = words-sum ∙ sym (group-words a.size o.size a.small-enough o.told.small-enough w wide (let e = words-sum in omega arith));
              small-enough = group-small a.size o.size a.small-enough o.told.small-enough w wide;
              under = below;
              turn = next-turn;
              adds-up = grouped;
            }
