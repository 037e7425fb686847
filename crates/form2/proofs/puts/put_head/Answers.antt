-- `put_head` meets its contract: a byte, then the others. Assumes nothing.
use Rattle.form2.proofs.PutsLaws.{head-room, kept-one, head-put}
use Rattle.form2.proofs.puts.put_head.Goals as goal

pub copy-requires : goal.copy-requires
copy-requires c = search head-room

pub shape_of-out : goal.shape_of-out
shape_of-out c = search kept-one

pub returns : goal.returns
returns c = search head-put
