-- `write` meets its contract: 5, 6, or the roll. Assumes nothing.
use native.Mathlib.Omega.{arith}
use mathlib.Core.Path.{sym, ◌∙◌}
use Rattle.form2.proofs.LongerLaws.{beyond1, full1, part-room1, moved1, sum-fits1}
use Rattle.form2.proofs.longer.write.Goals as goal

pub returns-then-out-start : goal.returns-then-out-start
returns-then-out-start c = rw c.start_beyond_end.ensures (beyond1 _ _ _ c.requires _ _ c.if-out-start.true)

pub put_roll-requires-clause-kind_value : goal.put_roll-requires-clause-kind_value
put_roll-requires-clause-kind_value c = (sym c.of.ensures ∙ c.in-Some.is, part-room1 _ _ _ c.requires c.args.out.now c.args.start _ c.if-out-start.false c.has_room.ensures c.if-has_room.true)

pub overflow_add-result : goal.overflow_add-result
overflow_add-result c = omega (arith, sum-fits1 _ _ _ c.requires c.args.out.now c.args.start _ c.if-out-start.false c.has_room.ensures c.if-has_room.true)

pub returns-then-has_room : goal.returns-then-has_room
returns-then-has_room c = moved1 _ _ _ c.requires _ _ _ c.if-out-start.false c.has_room.ensures _ c.if-has_room.true c.put_roll.ensures

pub returns : goal.returns
returns c = rw c.no_room.ensures (full1 _ _ _ c.requires _ _ _ c.if-out-start.false c.has_room.ensures c.if-has_room.false)
