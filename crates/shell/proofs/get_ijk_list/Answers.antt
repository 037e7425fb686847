-- `get_ijk_list` meets its contract: a law for each answer. Assumes nothing.
use Rattle.shell.proofs.Listing.{told-high, told-beyond, told-full, told-list, part_room}
use Rattle.shell.proofs.get_ijk_list.Goals as goal

pub returns-then-m-gt-MOST_ORDER : goal.returns-then-m-gt-MOST_ORDER
returns-then-m-gt-MOST_ORDER c = search told-high

pub returns-then-out-start : goal.returns-then-out-start
returns-then-out-start c = search told-beyond

pub returns-then-out-start-2 : goal.returns-then-out-start-2
returns-then-out-start-2 c = search told-full

pub put_list-requires : goal.put_list-requires
put_list-requires c =
    let a = c.args in
    part_room a.m a.start _ a.out.now c.count-triples.ensures.is c.if-out-start-2.false

pub returns : goal.returns
returns c = search told-list
