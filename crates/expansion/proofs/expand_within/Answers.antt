-- `expand_within` meets its contract.
use Rattle.std.proofs.lemmas.Result.{err_from_is_err_and}
use Rattle.expansion.proofs.Answers.{may-nibbles, may-word, told-measured, sized-may}
use Rattle.expansion.proofs.expand_within.Goals as goal

pub packed-left-requires : goal.packed-left-requires
packed-left-requires c = search may-nibbles

pub sized-requires : goal.sized-requires
sized-requires c = search may-word

pub returns-in_err-size : goal.returns-in_err-size
returns-in_err-size c =
    let p = err_from_is_err_and c.from_residual.result c.from_residual.ensures.1 in
    rw (p.1, p.2) (told-measured _ _ _ _ c.requires.request_may _ _ c.sized.ensures _ c.in_err-size.was)

pub write_sized-requires : goal.write_sized-requires
write_sized-requires c = search (sized-may, c.in_ok-size.was)
