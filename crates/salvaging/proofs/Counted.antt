-- What is told of the stored count, and of what follows the last term, in other words.
use Prim.Native.Nat.{ℕ}
use mathlib.Core.Path.{◌≡◌, refl}
use mathlib.Core.Bool.{Bool, true, false, cond}
use mathlib.Core.List.{List}
use borrow.Author.Tests.{not-true, not-false, eqb-true, eqb-false}
use lib.Dec.{eqb}
use lib.ListN.{length}
use Rattle.laws.proofs.Cases.{clash}
use Rattle.roll.specs.Reading.{Header}
use Rattle.salvaging.specs.declared.forms.Form.{Form}
use Rattle.salvaging.specs.declared.After.TheVariants as after
use Rattle.salvaging.specs.Salvage.{fresh_terms, told_of, Leading, after_of}

module _ (f : Form) (s : List ℕ) (h : Header) (next : ℕ) where
  -- the stored count is told as wrong exactly where it is not the fresh one
  pub count-right : (told_of f s h next).miscounted ≡ false → h.terms ≡ length (fresh_terms h)
  unfolding told_of
  count-right e = eqb-true h.terms (length (fresh_terms h)) (not-false (eqb h.terms (length (fresh_terms h))) e)

  pub count-wrong : (told_of f s h next).miscounted ≡ true → h.terms ≡ length (fresh_terms h) → ⊥
  unfolding told_of
  count-wrong e same = eqb-false h.terms (length (fresh_terms h)) (not-true (eqb h.terms (length (fresh_terms h))) e) same

-- nothing follows exactly where every fresh term was read and equal and the roll ends behind the last, bytes where it goes on, and else nothing is said
module _ (s : List ℕ) (fresh : ℕ) (lead : Leading) where
  pub nothing-follows : after_of s fresh lead ≡ after.None → (lead.count ≡ fresh) × (lead.place ≡ length s)
  nothing-follows e = at (eqb lead.count fresh) (eqb lead.place (length s)) refl refl e
    where
      at : (all ends : Bool) → eqb lead.count fresh ≡ all → eqb lead.place (length s) ≡ ends → cond all (cond ends after.None after.Bytes) after.Unknown ≡ after.None → (lead.count ≡ fresh) × (lead.place ≡ length s)
      at true true a b g = (eqb-true lead.count fresh a, eqb-true lead.place (length s) b)
      at true false a b g = absurd (clash (cc))
      at false ends a b g = absurd (clash (cc))

  pub bytes-follow : after_of s fresh lead ≡ after.Bytes → (lead.count ≡ fresh) × (lead.place ≡ length s → ⊥)
  bytes-follow e = at (eqb lead.count fresh) (eqb lead.place (length s)) refl refl e
    where
      at : (all ends : Bool) → eqb lead.count fresh ≡ all → eqb lead.place (length s) ≡ ends → cond all (cond ends after.None after.Bytes) after.Unknown ≡ after.Bytes → (lead.count ≡ fresh) × (lead.place ≡ length s → ⊥)
      at true true a b g = absurd (clash (cc))
      at true false a b g = (eqb-true lead.count fresh a, eqb-false lead.place (length s) b)
      at false ends a b g = absurd (clash (cc))

  pub nobody-knows : after_of s fresh lead ≡ after.Unknown → lead.count ≡ fresh → ⊥
  nobody-knows e = at (eqb lead.count fresh) (eqb lead.place (length s)) refl refl e
    where
      at : (all ends : Bool) → eqb lead.count fresh ≡ all → eqb lead.place (length s) ≡ ends → cond all (cond ends after.None after.Bytes) after.Unknown ≡ after.Unknown → lead.count ≡ fresh → ⊥
      at true true a b g = absurd (clash (cc))
      at true false a b g = absurd (clash (cc))
      at false ends a b g = eqb-false lead.count fresh a
