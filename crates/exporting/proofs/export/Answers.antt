-- `export` meets its contract: a roll that the check takes is one that reads. Assumes nothing.
use borrow.Author.Rules.{rules}
use Rattle.std.proofs.lemmas.Result.{err_from_is_err_and}
use Rattle.roll.proofs.Checked.{checked-judged}
use Rattle.exporting.proofs.Rolls.{export-told, export-refused}
use Rattle.exporting.proofs.export.Goals as goal

pub written-requires : goal.written-requires
written-requires c = search (rules, checked-judged)

pub returns : goal.returns
returns c = export-told _ _ _ _ _ _ _ c.check.ensures c.in_ok-opened.was c.written.ensures

pub returns-in_err-opened : goal.returns-in_err-opened
returns-in_err-opened c =
    let p = err_from_is_err_and c.from_residual.result c.from_residual.ensures.1 in
    rw (p.1, p.2) (export-refused _ _ _ _ _ c.check.ensures c.in_err-opened.was)
