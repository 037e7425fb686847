-- `outer` meets its contract: what is left of the right function gives the whole sum. Assumes nothing.
use lib.ListN.{length}
use mathlib.Core.Path.{refl, sym}
use native.Mathlib.Nat.{zero-mul}
use Rattle.contracting.specs.Elements.{element_of}
use Rattle.contracting.proofs.SumLaws.{outer-more, outer-done, next_row}
use Rattle.contracting.proofs.sums.outer.Goals as goal

pub loop-b-init : goal.loop-b-init
unfolding element_of
loop-b-init c = (sym (zero-mul (length c.args.lefts.now)), refl)

pub loop-b-preserved : goal.loop-b-preserved
loop-b-preserved c = (search next_row, search outer-more)

pub returns : goal.returns
returns c = search outer-done
