-- `say_used` meets its contract: the orders that are used. Assumes nothing.
use Rattle.comparing.proofs.DifferLaws.{used-few}
use Rattle.comparing.proofs.SaysLaws.{used-said}
use Rattle.comparing.proofs.says.say_used.Goals as goal

pub slice_bounds-say_each-end-2 : goal.slice_bounds-say_each-end-2
slice_bounds-say_each-end-2 c = search used-few

pub returns : goal.returns
returns c = search used-said
