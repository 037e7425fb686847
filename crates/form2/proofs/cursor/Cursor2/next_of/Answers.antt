-- `next_of` meets its contract: forged cursors, the end, or a term. Assumes nothing.
use mathlib.Core.Path.{◌≡◌}
use lib.ListN.{length}
use Rattle.kind.specs.Limits.{most_l·any}
use Rattle.form2.proofs.CursorLaws.{honest-may, honest-step-may, step-term2}
use Rattle.form2.proofs.cursor.Cursor2.next_of.Goals as goal

pub term_after-requires-clause-after_may : goal.term_after-requires-clause-after_may
term_after-requires-clause-after_may c = honest-may c.args.kind _ _ _ _ _ c.most_l.ensures c.if-most_l-l.false c.forged_earlier.ensures c.if-forged_earlier.false

pub term_step-requires : goal.term_step-requires
term_step-requires c =
    let long : length c.args.self.earlier ≡ most_l·any = search c.well_formed in
    honest-step-may c.args.kind c.args.self _ _ _ c.most_l.ensures c.if-most_l-l.false c.if-roll-place.false c.forged_earlier.ensures c.if-forged_earlier.false long c.if-cursor-eq0.false _ _ c.term_after.ensures _ c.in_ok-read.was

pub returns : goal.returns
returns c =
    let long : length c.args.self.earlier ≡ most_l·any = search c.well_formed in
    rw c.term_step.ensures (step-term2 c.args.kind c.args.self _ _ _ c.most_l.ensures c.if-most_l-l.false c.if-roll-place.false c.forged_earlier.ensures c.if-forged_earlier.false long c.if-cursor-eq0.false _ _ c.term_after.ensures _ c.in_ok-read.was)
