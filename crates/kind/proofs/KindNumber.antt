-- A kind's number names it again, and no other byte does.
use Prim.Native.Nat.{ℕ, zero, suc, ◌+◌}
use mathlib.Core.Path.{◌≡◌, refl, ap, sym, ◌∙◌}
use Rattle.laws.proofs.Cases.{clash}
use Rattle.kind.specs.declared.Kind.{Kind}
use Rattle.kind.specs.declared.Kind.TheVariants.{Overlap, Kinetic, Nuclear, Moment, Coulomb}
use Rattle.std.specs.Prelude.{Some, None}
use Rattle.kind.specs.Kinds.{kind_of, number_of, most_prefactors}

pub kind-number : (k : Kind) → kind_of (number_of k) ≡ Some k
kind-number Overlap = refl
kind-number Kinetic = refl
kind-number Nuclear = refl
kind-number Moment = refl
kind-number Coulomb = refl

is_same : (j k : Kind) → Some j ≡ Some k → j ≡ k
is_same j k e = cc

unknown-not : (k : Kind) → None ≡ Some k → ⊥
unknown-not k e = clash (cc)

pub number-kind : (n : ℕ) (k : Kind) → kind_of n ≡ Some k → n ≡ number_of k
number-kind zero k e = ap number_of (is_same Overlap k e)
number-kind (suc zero) k e = ap number_of (is_same Kinetic k e)
number-kind (suc (suc zero)) k e = ap number_of (is_same Nuclear k e)
number-kind (suc (suc (suc zero))) k e = ap number_of (is_same Moment k e)
number-kind (suc (suc (suc (suc zero)))) k e = ap number_of (is_same Coulomb k e)
number-kind (suc (suc (suc (suc (suc n))))) k e = absurd (unknown-not k e)

pub of_number : (n : ℕ) (k : Kind) → n ≡ number_of k → Some k ≡ kind_of n
of_number n k e = sym (ap kind_of e ∙ kind-number k)

pub of_none : (n : ℕ) → (n ≡ 0 → ⊥) → (n ≡ 1 → ⊥) → (n ≡ 2 → ⊥) → (n ≡ 3 → ⊥) → (n ≡ 4 → ⊥) → None ≡ kind_of n
of_none zero a b c d e = absurd (a refl)
of_none (suc zero) a b c d e = absurd (b refl)
of_none (suc (suc zero)) a b c d e = absurd (c refl)
of_none (suc (suc (suc zero))) a b c d e = absurd (d refl)
of_none (suc (suc (suc (suc zero)))) a b c d e = absurd (e refl)
of_none (suc (suc (suc (suc (suc n))))) a b c d e = refl

-- the one kind that may have a prefactor more than L
pub most-kinetic : (k : Kind) (l : ℕ) → k ≡ Kinetic → l + 1 ≡ most_prefactors k l
most-kinetic k l e = rw e
