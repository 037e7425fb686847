-- `by_kind` meets its contract: another kind, or a nuclear roll. Assumes nothing.
use Rattle.nuclei.proofs.NucleiLaws.{kind-nuclear, kind-other}
use Rattle.nuclei.proofs.by_kind.Goals as goal

pub returns-then-cursor-number : goal.returns-then-cursor-number
returns-then-cursor-number c = search kind-other

pub returns : goal.returns
returns c = search kind-nuclear
