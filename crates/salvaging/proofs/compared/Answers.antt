-- `compared` meets its contract: the terms behind both headers, held against each other. Assumes nothing.
use Rattle.salvaging.proofs.EndsLaws.{kept-few}
use Rattle.salvaging.proofs.RenewLaws.{compared_whole, compared-told}
use Rattle.salvaging.proofs.compared.Goals as goal

pub leading-kept-requires : goal.leading-kept-requires
leading-kept-requires c = search compared_whole

pub overflow_sub-anew : goal.overflow_sub-anew
overflow_sub-anew c = kept-few _ _ _ _ _ c.leading-kept.ensures

pub returns : goal.returns
returns c = compared-told _ _ _ _ _ c.requires _ _ _ _ c.length.ensures c.length-2.ensures c.leading-kept.ensures c.followed.ensures
