-- Steps on a word: the orders of a term packed four bits each, the first lowest (D-33).
use Rattle.std.specs.Prelude.{cond, ℕ, zero, suc, ◌+◌, ◌*◌, ◌/◌, ◌%◌, ◌^◌, List, [], ◌∷◌, get_or}
use Rattle.kind.specs.declared.Kind.{Kind}
use Rattle.kind.specs.declared.Kind.TheVariants.{Overlap}
use Rattle.kind.specs.Limits.{request_orders}
use Rattle.steps.specs.declared.CentreName.{CentreName}
use Rattle.steps.specs.declared.Axis.{Axis}
use Rattle.steps.specs.declared.Move.{Move}
use Rattle.steps.specs.Choice.{order_place, operator}
use Rattle.steps.specs.Steps.{Falls, a, a-twice, a-and-b, a-and-c, a-and-d, a-and-o, nothing, Branch, ◌adds◌, times, partner, other-c, other-d}

unfoldable pub nibbles : ℕ → ℕ → List ℕ
nibbles zero w = []
nibbles (suc n) w = (w % 16) ∷ nibbles n (w / 16)

-- the twelve orders of a word
abbrev pub orders : ℕ → List ℕ
orders w = nibbles request_orders w

-- one order at a place of the word
abbrev pub unit : CentreName → Axis → ℕ
unit c x = 16 ^ order_place c x

-- what falls, as a word
unfoldable pub fall_word : Falls → CentreName → Axis → ℕ
fall_word a c x = unit c x
fall_word a-twice c x = 2 * unit c x
fall_word a-and-b c x = unit c x + unit (partner c) x
fall_word a-and-c c x = unit c x + unit (other-c c) x
fall_word a-and-d c x = unit c x + unit (other-d c) x
fall_word a-and-o c x = unit c x + unit operator x
fall_word nothing c x = 0

-- a branch for a word
abbrev pub moved : Kind → CentreName → Axis → Branch → Move
moved k c x b = record { falls = fall_word b.falls c x; adds = b.adds; raises = b.raises; kind = cond b.as-overlap Overlap k }

-- no branch has such a number (D-34)
abbrev pub no_branch : Branch
no_branch = nothing adds 0

-- the branch of a number
unfoldable pub move_in : Kind → CentreName → Axis → List Branch → ℕ → Move
move_in k c x bs n = moved k c x (get_or bs n no_branch)

-- the multipliers of branches, four bits each, the first lowest
unfoldable pub multiplier_word : CentreName → Axis → List ℕ → List Branch → ℕ
multiplier_word c x left [] = 0
multiplier_word c x left (b ∷ bs) = times b.falls c x left + 16 * multiplier_word c x left bs
