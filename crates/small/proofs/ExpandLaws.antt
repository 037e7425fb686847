-- The answers of the small expansion, a law for each, in 02's order.
use Prim.Native.Nat.{ℕ}
use mathlib.Core.Path.{◌≡◌, sym, ap, ◌∙◌}
use mathlib.Core.Bool.{Bool, true, false}
use mathlib.Core.List.{List}
use lib.ListN.{length}
use Rattle.kind.specs.declared.Kind.{Kind}
use Rattle.kind.specs.Kinds.{kind_of}
use Rattle.kind.specs.Limits.{request_orders}
use Rattle.expansion.specs.Answer.{Answer, Refused}
use Rattle.expansion.specs.Expanding.{too_high, unused_set, kind_in, kind_told, named_told, named_out, ExpandTold}
use Rattle.small.specs.Profile.{small}
use Rattle.small.specs.Expand.{small_kind, small_named, SmallExpandTold}
use Rattle.small.proofs.Most.{not-too-many}
use Rattle.std.specs.Prelude.{Option, Some}
use Rattle.kind.specs.declared.refusals.Refusal.{Refusal}
use Rattle.kind.specs.declared.refusals.Refusal.TheVariants.{OrderSum, UnusedOrder, OutsideProfile}

module _ (kind : ℕ) (k : Kind) (os out : List ℕ) (begin : ℕ) (is : kind_of kind ≡ Some k) where
  -- a refusal changes no byte
  refused_as : (n : Refusal) → small_kind k os out begin ≡ Refused n → SmallExpandTold kind os out begin (Refused n) out
  refused_as n e = record { answer = sym answer; out = ap (λ (r : Answer). named_out r (kind_of kind) os out begin) (sym answer) }
    where
      answer : small_named (kind_of kind) os out begin ≡ Refused n
      answer = ap (λ (m : Option Kind). small_named m os out begin) is ∙ e

  pub told-high : (a : Bool) → a ≡ too_high k os → a ≡ true → SmallExpandTold kind os out begin (Refused OrderSum) out
  unfolding small_kind
  told-high a e t = refused_as OrderSum (simp (sym e ∙ t))

  module _ (a b : Bool) (high : a ≡ too_high k os) (low : a ≡ false) (unused : b ≡ unused_set k os) where
    pub told-unused : b ≡ true → SmallExpandTold kind os out begin (Refused UnusedOrder) out
    unfolding small_kind
    told-unused t = refused_as UnusedOrder (simp (sym high ∙ low, sym unused ∙ t))

    module _ (none : b ≡ false) (c : Bool) (profile : c ≡ small k os) where
      pub told-outside : c ≡ false → SmallExpandTold kind os out begin (Refused OutsideProfile) out
      unfolding small_kind
      told-outside f = refused_as OutsideProfile (simp (sym high ∙ low, sym unused ∙ none, sym profile ∙ f))

      module _ (within : c ≡ true) (in-full : length os ≡ request_orders) where
        same_kind : kind_told k os out begin ≡ small_kind k os out begin
        unfolding small_kind kind_in
        same_kind = simp (sym unused ∙ none, sym profile ∙ within, not-too-many k os (record { in-full = in-full; none-unused = sym unused ∙ none; within = sym profile ∙ within }))

        pub same-named : named_told (kind_of kind) os out begin ≡ small_named (kind_of kind) os out begin
        same-named = ap (λ (m : Option Kind). named_told m os out begin) is ∙ same_kind ∙ ap (λ (m : Option Kind). small_named m os out begin) (sym is)

        pub told-within : (r : Answer) (after : List ℕ) → ExpandTold kind os out begin r after → SmallExpandTold kind os out begin r after
        told-within r after told = record { answer = told.answer ∙ same-named; out = told.out ∙ ap (λ (x : Answer). named_out x (kind_of kind) os out begin) same-named }
