-- One answer alone, with what the buffer then holds, meets each public contract of this crate, and it is the definition's.
use Prim.Native.Nat.{ℕ}
use mathlib.Core.List.{List, ◌++◌}
use contract.Lifetimes.{Lfts}
use lib.ListN.{length}
use Rattle.laws.proofs.Contract.{Alone, alone, Lent, Shown, ◌then◌, ◌▸◌, end}
use Rattle.std.specs.Prelude.{Option}
use Rattle.text.specs.Digits.{decimal_of}
use Rattle.saying.specs.Said.{advanced, piece_out, named_out, each_after, each_out}
use Rattle.saying.proofs.say.Reads.{Post as Say}
use Rattle.saying.proofs.say_number.Reads.{Post as SayNumber}
use Rattle.saying.proofs.say_named.Reads.{Post as SayNamed}
use Rattle.saying.proofs.say_each.Reads.{Post as SayEach}

module _ (out : Lent ℕ) (room : ℕ) (w : Option ℕ) where
  pub say-only : (κs : Lfts 2) (bytes : Shown ℕ) →
      Alone {A = Option ℕ × List ℕ} (λ x. Say κs (out ▸ room ▸ w ▸ bytes ▸ end) x.0 (out then x.1 ▸ room ▸ w ▸ bytes ▸ end))
      (advanced room w (length bytes.now), piece_out out.now w bytes.now)
  say-only κs bytes = alone (λ x p i. (p.said.answer i, p.out i))

  pub say-number-only : (κs : Lfts 1) (n : ℕ) →
      Alone {A = Option ℕ × List ℕ} (λ x. SayNumber κs (out ▸ room ▸ w ▸ n ▸ end) x.0 (out then x.1 ▸ room ▸ w ▸ n ▸ end))
      (advanced room w (length (decimal_of n)), piece_out out.now w (decimal_of n))
  say-number-only κs n = alone (λ x p i. (p.said.answer i, p.out i))

  pub say-named-only : (κs : Lfts 2) (name : Shown ℕ) (n : ℕ) →
      Alone {A = Option ℕ × List ℕ} (λ x. SayNamed κs (out ▸ room ▸ w ▸ name ▸ n ▸ end) x.0 (out then x.1 ▸ room ▸ w ▸ name ▸ n ▸ end))
      (advanced room w (length (name.now ++ decimal_of n)), named_out room out.now w name.now n)
  say-named-only κs name n = alone (λ x p i. (p.said.answer i, p.out i))

  pub say-each-only : (κs : Lfts 3) (mark values : Shown ℕ) →
      Alone {A = Option ℕ × List ℕ} (λ x. SayEach κs (out ▸ room ▸ w ▸ mark ▸ values ▸ end) x.0 (out then x.1 ▸ room ▸ w ▸ mark ▸ values ▸ end))
      (advanced room w (length (each_after mark.now values.now)), each_out room out.now w mark.now values.now)
  say-each-only κs mark values = alone (λ x p i. (p.said.answer i, p.out i))
