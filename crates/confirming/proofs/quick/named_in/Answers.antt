-- `named_in` meets its contract: by the first byte.
use Rattle.confirming.proofs.QuickLaws.{first-none, first_two, first_one}
use Rattle.confirming.proofs.quick.named_in.Goals as goal

pub returns-then-is_empty : goal.returns-then-is_empty
returns-then-is_empty c = search first-none

pub returns-in-One : goal.returns-in-One
returns-in-One c = search first_one

pub returns-in-Two : goal.returns-in-Two
returns-in-Two c = search first_two
