-- What a refusal with its place says of each part.
use mathlib.Core.Path.{◌≡◌, ap}
use Prim.Native.Nat.{ℕ}
use Rattle.std.specs.Prelude.{Result, Err}
use Rattle.kind.specs.declared.refusals.Refusal.{Refusal}
use Rattle.kind.specs.declared.refusals.Refusal.TheVariants.{WrongKind, OrderSum, UnusedOrder, TooManyTerms, StartBeyondEnd, NoRoom, BadRoll, InputNotFinite, Exponent, BoysCount, ResultNotFinite, MatrixSize, ComponentNumber, CutRoll, PrimitiveCount, HostCount, Nuclei, BelowZero, OutsideProfile, NotTheExpansion, LineShape, LineNumbers}
use Rattle.kind.specs.declared.refusals.Fault.{Fault}
use Rattle.laws.proofs.Cases.{clash}
use mathlib.Core.Path.{refl}
use mathlib.Core.Logic.{◌⊎◌, inl, inr}

pub err-is : {A E : Type 0} (x y : E) → ◌≡◌ {A = Result A E} (Err x) (Err y) → x ≡ y
err-is x y e = cc

pub err-both : {A : Type 0} {q r : Refusal} {o p : ℕ} → ◌≡◌ {A = Result A Fault} (Err (record { refusal = q; place = o })) (Err (record { refusal = r; place = p })) → (q ≡ r) × (o ≡ p)
err-both {A} {q} {r} {o} {p} e =
    let fault : ◌≡◌ {A = Fault} (record { refusal = q; place = o }) (record { refusal = r; place = p }) = err-is {A = A} (record { refusal = q; place = o }) (record { refusal = r; place = p }) e in
    (ap (λ (f : Fault). f.refusal) fault, ap (λ (f : Fault). f.place) fault)

-- whether a refusal is the one of a roll that is cut
pub cut-or-not : (r : Refusal) → (r ≡ CutRoll) ⊎ (r ≡ CutRoll → ⊥)
cut-or-not WrongKind = inr (λ e. clash (cc))
cut-or-not OrderSum = inr (λ e. clash (cc))
cut-or-not UnusedOrder = inr (λ e. clash (cc))
cut-or-not TooManyTerms = inr (λ e. clash (cc))
cut-or-not StartBeyondEnd = inr (λ e. clash (cc))
cut-or-not NoRoom = inr (λ e. clash (cc))
cut-or-not BadRoll = inr (λ e. clash (cc))
cut-or-not InputNotFinite = inr (λ e. clash (cc))
cut-or-not Exponent = inr (λ e. clash (cc))
cut-or-not BoysCount = inr (λ e. clash (cc))
cut-or-not ResultNotFinite = inr (λ e. clash (cc))
cut-or-not MatrixSize = inr (λ e. clash (cc))
cut-or-not ComponentNumber = inr (λ e. clash (cc))
cut-or-not CutRoll = inl refl
cut-or-not PrimitiveCount = inr (λ e. clash (cc))
cut-or-not HostCount = inr (λ e. clash (cc))
cut-or-not Nuclei = inr (λ e. clash (cc))
cut-or-not BelowZero = inr (λ e. clash (cc))
cut-or-not OutsideProfile = inr (λ e. clash (cc))
cut-or-not NotTheExpansion = inr (λ e. clash (cc))
cut-or-not LineShape = inr (λ e. clash (cc))
cut-or-not LineNumbers = inr (λ e. clash (cc))
