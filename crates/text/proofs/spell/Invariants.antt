-- `text::spell` meets its contract: at each turn the digits of the rest, stored before those written, give the whole. Assumes nothing.
use mathlib.Core.Path.{◌≡◌}
use lib.ListN.{length}
use lib.Seq.{sets}
use Rattle.text.specs.Digits.{digits}
use Rattle.text.proofs.spell.Given as goal

abbrev pub invariant-loop-i : goal.invariant-loop-i
invariant-loop-i l = sets l.out 0 (digits l.base l.i l.rest) ≡ digits l.base (length l.initial.out) l.n
