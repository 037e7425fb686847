-- `of_header` meets its contract.
use borrow.Author.Rules.{rules}
use Rattle.small.proofs.CheckLaws.{small-may, header-outside}
use Rattle.small.proofs.check.of_header.Goals as goal

pub returns-then-not-is_small_number : goal.returns-then-not-is_small_number
returns-then-not-is_small_number c = search (rules, header-outside)

pub with_terms-requires : goal.with_terms-requires
with_terms-requires c = search small-may
