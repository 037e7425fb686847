-- One answer alone meets each public contract of this crate, and it is the definition's.
use Prim.Native.Nat.{ℕ}
use lib.Ieee.{Float}
use contract.Lifetimes.{Lfts}
use Rattle.laws.proofs.Contract.{Alone, alone, Shown, ◌▸◌, end}
use Rattle.geometry.specs.declared.Centre.{Centre}
use Rattle.kind.specs.declared.Kind.{Kind}
use Rattle.kind.specs.Kinds.{kind_of}
use Rattle.roll.specs.declared.again.Head.{Head}
use Rattle.roll.specs.declared.cursor.Cursor.{Cursor}
use Rattle.roll.specs.inner.Again.{head_term}
use Rattle.integrals.specs.Evaluation.{evaluate_of}
use Rattle.integrals.specs.Sums.{kinetic_start, factor_of, total_of}
use Rattle.integrals.specs.Values.{result_of}
use Rattle.integrals.specs.declared.sums.Terms.{Terms}
use Rattle.integrals.specs.inner.Barred.{bars_with}
use Rattle.integrals.specs.inner.Stored.{own_order_of, again_from, of_cursor}
use Rattle.integrals.proofs.evaluate.Reads.{Post as Evaluate}
use Rattle.integrals.proofs.from_cursor.Reads.{Post as FromCursor}
use Rattle.integrals.proofs.barred.Reads.{Post as Barred}
use Rattle.integrals.proofs.factor.Reads.{Post as Factor}
use Rattle.integrals.proofs.integral.Reads.{Post as Integral}
use Rattle.integrals.proofs.result.Reads.{Post as Judged}
use Rattle.integrals.proofs.sums.coulomb_term.Reads.{Post as CoulombTerm}

pub evaluate-only : (κs : Lfts 2) (roll : Shown ℕ) (a b c d : Centre) (aux : Float) (boys : Shown Float) →
    let g = roll ▸ a ▸ b ▸ c ▸ d ▸ aux ▸ boys ▸ end in Alone (λ r. Evaluate κs g r g) (evaluate_of roll.now a b c d aux boys.now)
evaluate-only κs roll a b c d aux boys = alone (λ r p. p)

pub from-cursor-only : (κs : Lfts 2) (cursor : Cursor) (a b c d : Centre) (aux : Float) (boys : Shown Float) (roll : Shown ℕ) →
    let g = cursor ▸ a ▸ b ▸ c ▸ d ▸ aux ▸ boys ▸ roll ▸ end in Alone (λ r. FromCursor κs g r g) (of_cursor (kind_of cursor.kind) cursor a b c d aux boys.now roll.now)
from-cursor-only κs cursor a b c d aux boys roll = alone (λ r p. p)

pub barred-only : (κs : Lfts 2) (terms : Terms) (a b c d : Centre) (aux : Float) (boys table : Shown Float) →
    let g = terms ▸ a ▸ b ▸ c ▸ d ▸ aux ▸ boys ▸ table ▸ end in Alone (λ r. Barred κs g r g) (bars_with terms.kind terms.cursor.l a b c d aux boys.now table.now)
barred-only κs terms a b c d aux boys table = alone (λ r p. p)

pub factor-only : (k : Kind) (a b c d : Centre) (aux : Float) → let g = k ▸ a ▸ b ▸ c ▸ d ▸ aux ▸ end in Alone (λ r. Factor tt g r g) (factor_of k a b c d aux)
factor-only k a b c d aux = alone (λ r p. p)

pub integral-only : (κs : Lfts 3) (terms : Terms) (a b : Centre) (table : Shown Float) (aux : Float) (boys : Shown Float) (roll : Shown ℕ) →
    let g = terms ▸ a ▸ b ▸ table ▸ aux ▸ boys ▸ roll ▸ end in Alone (λ r. Integral κs g r g) (total_of terms.kind terms.cursor.l (kinetic_start a b) table.now aux boys.now (again_from roll.now terms.cursor))
integral-only κs terms a b table aux boys roll = alone (λ r p. p)

pub result-only : (x : Float) → let g = x ▸ end in Alone (λ r. Judged tt g r g) (result_of x)
result-only x = alone (λ r p. p)

pub coulomb-term-only : (κs : Lfts 3) (table : Shown Float) (s : Float) (boys : Shown Float) (bytes : Shown ℕ) (h : Head) →
    let g = table ▸ s ▸ boys ▸ bytes ▸ h ▸ end in Alone (λ r. CoulombTerm κs g r g) (own_order_of table.now s boys.now (head_term bytes.now h))
coulomb-term-only κs table s boys bytes h = alone (λ r p. p)
