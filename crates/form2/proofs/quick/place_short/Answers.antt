-- `place_short` meets its contract: a law for each way out. Assumes nothing.
use borrow.Author.Rules.{rules}
use Rattle.form2.proofs.QuickLaws.{short_none, short-not, short-bytes, short-all}
use Rattle.form2.proofs.quick.place_short.Goals as goal

pub returns-then-roll-at : goal.returns-then-roll-at
returns-then-roll-at c = search short-not

pub returns-then-left-eq0 : goal.returns-then-left-eq0
returns-then-left-eq0 c = search short_none

pub returns-then-roll-at-2 : goal.returns-then-roll-at-2
returns-then-roll-at-2 c = search short-not

pub returns-then-goes_on : goal.returns-then-goes_on
returns-then-goes_on c = search short-not

pub place_bytes-requires : goal.place_bytes-requires
place_bytes-requires c = record { count_in_bounds = search rules; small_bytes = search short-bytes }

pub returns-then-all_small : goal.returns-then-all_small
returns-then-all_small c = search short-all

pub returns : goal.returns
returns c = search short-not
