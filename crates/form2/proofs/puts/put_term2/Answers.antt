-- `put_term2` meets its contract: three parts. Assumes nothing.
use Rattle.form2.proofs.PutsLaws.{term2-first, term2-then, term2-last, term2-put}
use Rattle.form2.proofs.puts.put_term2.Goals as goal

pub put_two-counted-requires : goal.put_two-counted-requires
put_two-counted-requires c = search term2-first

pub put_two-listed-requires : goal.put_two-listed-requires
put_two-listed-requires c = search term2-then

pub copy-requires : goal.copy-requires
copy-requires c = term2-last _ _ _ _ _ _ _ _ c.put_two-counted.ensures _ _ c.put_two-listed.ensures c.requires.1

pub returns : goal.returns
returns c = search term2-put
