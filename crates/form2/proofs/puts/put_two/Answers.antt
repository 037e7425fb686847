-- `put_two` meets its contract: one number after the other. Assumes nothing.
use Rattle.form2.proofs.PutsLaws.{two-first, two_then, two-put}
use Rattle.form2.proofs.puts.put_two.Goals as goal

pub put_number-next-requires : goal.put_number-next-requires
put_number-next-requires c = search two-first

pub put_number-requires : goal.put_number-requires
put_number-requires c = search two_then

pub returns : goal.returns
returns c = search two-put
