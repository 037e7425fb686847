-- The definitions compute the examples, and what is not claimed.
use mathlib.Core.Path.{refl}
use Rattle.steps.specs.Choice.{chosen, first_axis}
use Rattle.steps.specs.Steps.{branches, times, lowered}
use Rattle.laws.specs.Total.{total}
use Rattle.steps.specs.States.{step, turns, nexts}
use Rattle.histories.specs.History.{depth, in_turn, walk, expand}
use Rattle.totals.specs.Totals.{plain_list, nuclear_list, scale_total, kind_total}
use Rattle.totals.specs.ByHand.{Each, Holds, AddsUp, examples, not_claimed}

pub examples-hold : Each Holds examples
unfolding chosen first_axis branches times lowered total step turns nexts depth in_turn walk expand plain_list nuclear_list scale_total kind_total
examples-hold = ((refl, refl, refl), ((refl, refl, refl), ((refl, refl, refl), tt)))

pub not-by-sums : Each AddsUp not_claimed
unfolding chosen first_axis branches times lowered total step turns nexts depth in_turn walk expand kind_total
not-by-sums = ((refl, refl), ((refl, refl), ((refl, refl), ((refl, refl), tt))))
