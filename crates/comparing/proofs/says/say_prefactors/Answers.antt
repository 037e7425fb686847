-- `say_prefactors` meets its contract: as many as there are places for. Assumes nothing.
use Rattle.comparing.proofs.SaysLaws.{shown-few, prefactors-said}
use Rattle.comparing.proofs.says.say_prefactors.Goals as goal

pub slice_bounds-say_each-end-2 : goal.slice_bounds-say_each-end-2
slice_bounds-say_each-end-2 c = search shown-few

pub returns : goal.returns
returns c = search prefactors-said
