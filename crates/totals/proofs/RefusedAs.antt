-- What is refused a total is refused alike where the request is measured.
use mathlib.Core.Path.{◌≡◌, ap}
use mathlib.Core.Bool.{Bool, true, false, cond}
use Prim.Native.Nat.{ℕ}
use mathlib.Core.List.{List}
use Rattle.std.specs.Prelude.{Option, Some, None, Ok, Err}
use Rattle.laws.proofs.Cases.{clash}
use Rattle.kind.specs.declared.Kind.{Kind}
use Rattle.kind.specs.declared.refusals.Refusal.{Refusal}
use Rattle.kind.specs.declared.refusals.Refusal.TheVariants.{WrongKind, OrderSum, UnusedOrder}
use Rattle.kind.specs.Kinds.{kind_of}
use Rattle.kind.proofs.Faults.{err-is}
use Rattle.expansion.specs.Answer.{Answer, Refused}
use Rattle.expansion.specs.Expanding.{too_high, unused_set, kind_measured, named_measured}
use Rattle.totals.specs.Totals.{Total, kind_total, named_total}
use Rattle.totals.specs.ByHand.{RefusedAlike}

-- a refusal of the one is that of the other
refused-as : (r n : Refusal) → ◌≡◌ {A = Total} (Err r) (Err n) → Refused r ≡ Refused n
refused-as r n is = ap (λ (x : Refusal). Refused x) (err-is r n is)

-- two tests in front of a total and of a size
alike : (a b : Bool) (t : Option ℕ) (e : Answer) (n : Refusal) → cond {A = Total} a (Err OrderSum) (cond b (Err UnusedOrder) (Ok t)) ≡ Err n → cond a (Refused OrderSum) (cond b (Refused UnusedOrder) e) ≡ Refused n
alike true b t e n is = refused-as OrderSum n is
alike false true t e n is = refused-as UnusedOrder n is
alike false false t e n is = absurd (clash (cc))

named-alike : (k : Option Kind) (orders : List ℕ) (n : Refusal) → named_total k orders ≡ Err n → named_measured k orders ≡ Refused n
unfolding kind_total kind_measured
named-alike None orders n is = refused-as WrongKind n is
named-alike (Some k) orders n is = alike (too_high k orders) (unused_set k orders) _ _ n is

pub refused-alike : RefusedAlike
refused-alike kind orders n is = named-alike (kind_of kind) orders n is
