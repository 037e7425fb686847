-- `import` meets its contract: the judge's answer, laid where it is a roll. Assumes nothing.
use Rattle.std.proofs.lemmas.Result.{err_from_is_err_and}
use Rattle.importing.proofs.Laying.{import-refused, import-laid}
use Rattle.importing.proofs.import.Goals as goal

pub lay-requires : goal.lay-requires
lay-requires c = import-laid _ _ _ c.judge_text.ensures c.in_ok-roll.was

pub returns-in_err-roll : goal.returns-in_err-roll
returns-in_err-roll c =
    let p = err_from_is_err_and c.from_residual.result c.from_residual.ensures.1 in
    rw (p.1, p.2) (import-refused _ _ _ _ _ c.judge_text.ensures c.in_err-roll.was)
