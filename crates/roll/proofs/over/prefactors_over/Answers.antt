-- `prefactors_over` meets its contract: a law for each way out. Assumes nothing.
use borrow.Author.Rules.{rules}
use Rattle.roll.proofs.OverLaws.{bytes-went}
use Rattle.roll.proofs.over.prefactors_over.Goals as goal

pub returns-then-one_byte_each : goal.returns-then-one_byte_each
returns-then-one_byte_each c = search (rules, bytes-went)
