-- `element` meets its contract: a law for each way out. Assumes nothing.
use mathlib.Core.Path.{◌≡◌}
use native.Mathlib.Omega.{arith}
use lib.ListN.{length}
use Rattle.contracting.specs.Pairs.{most_primitives}
use Rattle.contracting.proofs.Answers.{few-primitives, pairs-may, refused-left, refused-right, refused-length, passed}
use Rattle.contracting.proofs.element.Goals as goal
use Rattle.contracting.proofs.element.Goals.{then-not-counted-via-then-not-counted, then-not-counted-via-else-not-counted+then-not-counted-2}

pub returns-then-not-counted : goal.returns-then-not-counted
returns-then-not-counted c =
    rw c.from.ensures (elim c.then-not-counted.branch [
      | then-not-counted-via-then-not-counted w ↦ search refused-left
      | then-not-counted-via-else-not-counted+then-not-counted-2 w ↦ search refused-right
    ])

pub returns-then-host-m : goal.returns-then-host-m
returns-then-host-m c = rw c.from-then-host-m.ensures (search refused-length)

pub shared_ref_as_front-over_roll : goal.shared_ref_as_front-over_roll
shared_ref_as_front-over_roll c = search few-primitives

pub shared_ref_as_front-over_roll-2 : goal.shared_ref_as_front-over_roll-2
shared_ref_as_front-over_roll-2 c = search few-primitives

pub over_roll-requires : goal.over_roll-requires
over_roll-requires c =
    let long : length c.args.left.primitives ≡ most_primitives = omega arith in
    let long' : length c.args.right.primitives ≡ most_primitives = omega arith in
    search pairs-may

pub returns : goal.returns
returns c = search passed
