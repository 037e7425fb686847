-- `put_term1` meets its contract: two numbers, the count, what is shared, and the others. Assumes nothing.
use Rattle.form2.proofs.PutsLaws.{term1-first, term1-then, term1-apart, term1-within, term1-last, term1-put}
use Rattle.form2.proofs.puts.put_term1.Goals as goal

pub put_two-counted-requires : goal.put_two-counted-requires
put_two-counted-requires c = search term1-first

pub put_number-listed-requires : goal.put_number-listed-requires
put_number-listed-requires c = search term1-then

pub copy_within-further-requires : goal.copy_within-further-requires
copy_within-further-requires c = (term1-apart _ _ _ _ _ _ _ c.requires _ _ c.put_two-counted.ensures _ _ c.put_number-listed.ensures, term1-within _ _ _ _ _ _ _ c.requires _ _ c.put_two-counted.ensures _ _ c.put_number-listed.ensures)

pub copy-requires : goal.copy-requires
copy-requires c = term1-last _ _ _ _ _ _ _ c.requires _ _ c.put_two-counted.ensures _ _ c.put_number-listed.ensures _ _ c.copy_within-further.ensures

pub returns : goal.returns
returns c = search term1-put
