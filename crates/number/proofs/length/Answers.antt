-- `length` meets its contract: each test tells how often a group can be taken off. Assumes nothing.
use Rattle.number.proofs.Writing.{length-one, length-not-one, length_three, length-four, length-five}
use Rattle.number.proofs.length.Goals as goal

pub returns-then-one_byte : goal.returns-then-one_byte
returns-then-one_byte c = search length-one

pub returns-then-n-lt16384 : goal.returns-then-n-lt16384
returns-then-n-lt16384 c = search length-not-one

pub returns-then-n-lt2097152 : goal.returns-then-n-lt2097152
returns-then-n-lt2097152 c = search length_three

pub returns-then-n-lt268435456 : goal.returns-then-n-lt268435456
returns-then-n-lt268435456 c = search length-four

pub returns : goal.returns
returns c = search length-five
