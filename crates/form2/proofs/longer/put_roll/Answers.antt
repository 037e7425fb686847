-- `put_roll` meets its contract: the header, then the terms. Assumes nothing.
use Rattle.form2.proofs.LongerLaws.{head-fits1, put-terms-may1, roll-put1}
use Rattle.form2.proofs.longer.put_roll.Goals as goal

pub put_head-to-requires : goal.put_head-to-requires
put_head-to-requires c = (c.requires.may1.some, c.requires.may1.inside, head-fits1 _ _ _ c.requires.may1 c.args.out.now c.requires.kind_value.1)

pub put_terms-requires : goal.put_terms-requires
put_terms-requires c = put-terms-may1 _ _ _ c.requires.may1 c.args.kind _ _ _ c.requires.kind_value.0 c.requires.kind_value.1 c.put_head-to.ensures

pub returns : goal.returns
returns c = roll-put1 _ _ _ c.requires.may1 c.args.kind _ _ _ _ c.requires.kind_value.0 c.put_head-to.ensures c.put_terms.ensures
