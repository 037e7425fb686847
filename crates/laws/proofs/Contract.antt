-- What a contract says, as the prover reads it: `Rattle.CRATE.proofs.FUNCTION.Reads.Post`, of the parameters at entry,
-- the answer and the parameters at exit. The laws of each crate's Only.antt speak of it.
use mathlib.Core.Path.{◌≡◌, sym, ◌∙◌}
use mathlib.Core.List.{List}
use denote.Ref.{Bor, MutBor, at_last}

-- the parameters in their order: `a ▸ b ▸ end`
infixr 5 ◌▸◌
abbrev pub ◌▸◌ : {A B : Type 0} → A → B → A × B
a ▸ b = (a, b)

abbrev pub end : Unit {0}
end = tt

-- a slice or an array that is lent and only read: `s.now` is what it holds
abbrev pub Shown : Type 0 → Type 0
Shown X = Bor (List X)

-- a slice or an array that is lent: `out.now` is what it holds at entry, `out then after` is the same slice at exit
abbrev pub Lent : Type 0 → Type 0
Lent X = MutBor (List X)

infixl 6 ◌then◌
abbrev pub ◌then◌ : {X : Type 0} → Lent X → List X → Lent X
out then after = at_last out after

-- what meets a contract is x, so no two answers do
pub record Alone {A : Type 0} (Meets : A → Type 0) (x : A) : Type 0 where
  pub told : (r : A) → Meets r → r ≡ x
  pub only : (r s : A) → Meets r → Meets s → r ≡ s

pub alone : {A : Type 0} {Meets : A → Type 0} {x : A} → ((r : A) → Meets r → r ≡ x) → Alone Meets x
alone told = record { told = told; only = λ r s p q. told r p ∙ sym (told s q) }
