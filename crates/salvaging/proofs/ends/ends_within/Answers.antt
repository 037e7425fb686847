-- `ends_within` meets its contract. The loop's invariant is `Ending`: so many end within, and of those that are left as many as further on. Assumes nothing.
use Rattle.salvaging.proofs.EndsLaws.{ending-first, ending-inside, ending-past, ending-more, ending-done}
use Rattle.salvaging.proofs.ends.ends_within.Goals as goal

pub loop-count-init : goal.loop-count-init
loop-count-init c = search ending-first

pub term_end-end-requires : goal.term_end-end-requires
term_end-end-requires c = search ending-inside

pub returns-then-most-end : goal.returns-then-most-end
returns-then-most-end c = search ending-past

pub loop-count-preserved : goal.loop-count-preserved
loop-count-preserved c = search ending-more

pub returns : goal.returns
returns c = search ending-done
