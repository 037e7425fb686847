-- `terms_over` meets its contract. The loop's invariant is `Going`: the terms left say what all of them say. Assumes nothing.
use Rattle.roll.proofs.OverLaws.{Going}
use Rattle.roll.proofs.over.terms_over.Given as goal

abbrev pub invariant-loop-done : goal.invariant-loop-done
invariant-loop-done l = Going l.roll l.at l.terms l.boys l.most l.table l.place l.done
