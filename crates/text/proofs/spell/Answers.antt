-- `text::spell` meets its contract: at each turn the digits of the rest, stored before those written, give the whole. Assumes nothing.
use Rattle.text.proofs.Writing.{spell-all, spell-more}
use Rattle.text.proofs.spell.Goals as goal

pub loop-i-init : goal.loop-i-init
loop-i-init c = search spell-all

pub loop-i-preserved : goal.loop-i-preserved
loop-i-preserved c = search spell-more
