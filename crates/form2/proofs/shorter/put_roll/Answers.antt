-- `put_roll` meets its contract: the header, then the terms. Assumes nothing.
use Rattle.form2.proofs.MovedLaws.{head-fits2, terms-fit2, roll-put2}
use Rattle.form2.proofs.shorter.put_roll.Goals as goal

pub put_head-to-requires : goal.put_head-to-requires
put_head-to-requires c = (c.requires.may2.some, c.requires.may2.inside, head-fits2 _ _ c.requires.may2 c.args.out.now c.requires.roll_in_bounds)

pub put_terms-requires : goal.put_terms-requires
put_terms-requires c =
    record {
      again_may = c.requires.may2.again;
      terms_in_bounds = terms-fit2 _ _ c.requires.may2 _ _ _ c.requires.roll_in_bounds c.put_head-to.ensures;
    }

pub returns : goal.returns
returns c = search roll-put2
