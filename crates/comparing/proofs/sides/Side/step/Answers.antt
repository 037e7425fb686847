-- `step` meets its contract: a refusal has its side. Assumes nothing.
use borrow.Author.Rules.{rules}
use Rattle.comparing.proofs.SidesLaws.{side-mapped}
use Rattle.comparing.proofs.sides.Side.step.Goals as goal

pub returns : goal.returns
returns c = side-mapped _ _ _ _ _ c.step_side.ensures (λ e d k. search rules) c.map_err.ensures.cases
