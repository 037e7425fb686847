-- A listing always has room, and a refusal has its line.
use Rattle.std.proofs.Common.{arith}
use Rattle.number.specs.Numbers.{Bytes}
use Rattle.list.proofs.Output.{told_text, told-refusal}
use Rattle.list.proofs.told.Goals as goal

pub returns-in-Ok : goal.returns-in-Ok
returns-in-Ok c =
    let bytes : Bytes c.args.roll.now = λ i. omega (arith, c.type_inv.roll i) in
    told_text _ _ _ _ _ bytes c.requires c.listing.ensures c.in-Ok.is

pub returns-in-Err : goal.returns-in-Err
returns-in-Err c =
    let bytes : Bytes c.args.roll.now = λ i. omega (arith, c.type_inv.roll i) in
    told-refusal _ _ _ _ _ _ _ bytes c.requires c.listing.ensures c.in-Err.is c.refused.ensures
