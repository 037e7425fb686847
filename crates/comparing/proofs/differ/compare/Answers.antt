-- `compare` meets its contract: by what the judge says of each side. Assumes nothing.
use borrow.Author.Rules.{rules}
use Rattle.std.proofs.lemmas.Result.{err_from_is_err_and}
use Rattle.comparing.proofs.Answered.{judged-side, refused-left, refused-right}
use Rattle.comparing.proofs.differ.compare.Goals as goal

pub returns-in_err-l : goal.returns-in_err-l
returns-in_err-l c = search (rules, refused-left)

pub returns-in_err-r : goal.returns-in_err-r
returns-in_err-r c =
    let p = err_from_is_err_and c.from_residual-in_err-r.result c.from_residual-in_err-r.ensures.1 in
    rw (p.1, p.2) (refused-right _ _ _ _ _ _ c.check.ensures c.in_ok-l.was c.check-2.ensures c.in_err-r.was)

pub what_differs-requires : goal.what_differs-requires
what_differs-requires c = record { judged = judged-side _ _ _ _ c.check.ensures c.in_ok-l.was; judged_2 = judged-side _ _ _ _ c.check-2.ensures c.in_ok-r.was }
