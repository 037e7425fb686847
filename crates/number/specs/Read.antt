-- What stands at a place of a roll, as the code answers it: a number and the place after it, or why there is none.
use Rattle.std.specs.Prelude.{ℕ, Result, Ok, Err}
use Rattle.number.specs.declared.Unread.{Unread}
use Rattle.number.specs.declared.Unread.TheVariants as unread

abbrev pub Number : Type 0
Number = Result (ℕ × ℕ) Unread

pattern abbrev pub Is : ℕ → ℕ → Number
Is n next = Ok (n, next)

pattern abbrev pub Ended : Number
Ended = Err unread.Ended

pattern abbrev pub NotShortest : Number
NotShortest = Err unread.NotShortest

pattern abbrev pub TooLarge : Number
TooLarge = Err unread.TooLarge
