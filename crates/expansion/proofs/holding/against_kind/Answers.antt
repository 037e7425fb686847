-- `against_kind` meets its contract: 2, 3, 4, then the roll.
use Rattle.std.proofs.lemmas.Result.{err_from_is_err_and}
use Rattle.expansion.proofs.Answers.{kept-nibbles, kept_word}
use Rattle.expansion.proofs.AgainstLaws.{counted, against-high, against-unused, against-many, against-held}
use Rattle.expansion.proofs.holding.against_kind.Goals as goal

pub returns-then-too_high : goal.returns-then-too_high
returns-then-too_high c = search against-high

pub returns-then-unused_set : goal.returns-then-unused_set
returns-then-unused_set c = search against-unused

pub packed-left-requires : goal.packed-left-requires
packed-left-requires c = search kept-nibbles

pub sized-requires : goal.sized-requires
sized-requires c = search kept_word

pub returns-in_err-size : goal.returns-in_err-size
returns-in_err-size c =
    let p = err_from_is_err_and c.from_residual.result c.from_residual.ensures.1 in
    rw (p.1, p.2) (against-many _ _ _ _ _ _ c.too_high.ensures c.if-too_high.false c.unused_set.ensures c.if-unused_set.false _ c.sized.ensures _ c.in_err-size.was)

pub held-requires : goal.held-requires
held-requires c = search (counted, c.in_ok-size.was)

pub returns : goal.returns
returns c = search (against-held, c.in_ok-size.was)
