-- `say_roll` meets its contract: the head line and the terms of a judged roll are its text. Assumes nothing.
use Rattle.saying.proofs.SaidLaws.{said-kept}
use Rattle.roll.proofs.Checked.{judged-readable}
use Rattle.exporting.proofs.Rolls.{roll-said, roll-unknown}
use Rattle.exporting.proofs.say_roll.Goals as goal

pub say_terms-requires : goal.say_terms-requires
say_terms-requires c = record { kept = search said-kept; readable = search judged-readable }

pub returns : goal.returns
returns c = roll-said _ _ _ _ _ _ _ _ _ _ _ c.requires c.of.ensures c.in_ok-kind.was c.orders.ensures c.say_head-headed.ensures c.say_terms.ensures

pub returns-in_err-kind : goal.returns-in_err-kind
returns-in_err-kind c = rw c.from_residual.ensures (roll-unknown _ _ _ _ _ c.requires c.of.ensures c.in_err-kind.was)
