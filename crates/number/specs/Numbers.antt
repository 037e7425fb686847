-- 01, "The roll": numbers stand in groups of seven bits, lowest first, the high bit set on all but the last byte, shortest form, below 2^32.
use Rattle.std.specs.Prelude.{ℕ, zero, suc, ◌+◌, ◌*◌, ◌/◌, ◌%◌, ◌<◌, ◌≡◌, Bool, cond, List, [], ◌∷◌, ltb, eqb, length, get_or, drop, Option, Some, None}
use Rattle.laws.specs.Placed.{room_for, placed_where_fits}
use Rattle.kind.specs.declared.refusals.Refusal.{Refusal}
use Rattle.kind.specs.declared.refusals.Refusal.TheVariants.{BadRoll, CutRoll}
use Rattle.number.specs.declared.Unread.{Unread}
use Rattle.number.specs.declared.Unread.TheVariants as unread
use Rattle.number.specs.Read.{Number}
use Rattle.number.specs.Read.{Is, Ended, NotShortest, TooLarge}

-- a group of seven bits is below this, and this is what the high bit adds
abbrev pub group : ℕ
group = 128

-- whether a number is one byte; as a byte, whether it ends a number
abbrev pub one_byte : ℕ → Bool
one_byte n = ltb n group

-- the groups of n, lowest first, with at most `more` bytes after the first
unfoldable pub groups : ℕ → ℕ → List ℕ
groups zero n = n ∷ []
groups (suc more) n = cond (one_byte n) (n ∷ []) ((group + n % group) ∷ groups more (n / group))

-- a number below 2^32 has one to five bytes
unfoldable pub bytes_of : ℕ → List ℕ
bytes_of n = groups 4 n

unfoldable pub length_of : ℕ → ℕ
length_of n = length (bytes_of n)

-- a group, and what the bytes after it say: each of theirs counts as many times more
abbrev pub above : ℕ → Number → Number
above low (Is high next) = Is (low + group * high) next
above low Ended = Ended
above low NotShortest = NotShortest
above low TooLarge = TooLarge

-- a last byte after another one: were it 0, the form would not be the shortest
abbrev pub last : ℕ → ℕ → Number
last b at = cond (eqb b 0) NotShortest (Is b (at + 1))

-- a number's second byte and those after it, at `at`; `more` may still follow it. A fifth byte above 15 means 2^32 and above, whatever follows
unfoldable pub higher : List ℕ → ℕ → ℕ → Number
higher [] at more = Ended
higher (b ∷ s) at zero = cond (ltb 15 b) TooLarge (last b at)
higher (b ∷ s) at (suc more) = cond (one_byte b) (last b at) (above (b % group) (higher s (at + 1) more))

-- the number that a list begins with, whose first byte is at `at`
unfoldable pub read_from : List ℕ → ℕ → Number
read_from [] at = Ended
read_from (b ∷ s) at = cond (one_byte b) (Is b (at + 1)) (above (b % group) (higher s (at + 1) 3))

-- what a slice of bytes holds (D-56)
abbrev pub Bytes : List ℕ → Type 0
Bytes s = (i : ℕ) → get_or s i 0 < 256

-- the number at a place of a roll, with the place after it (D-14)
unfoldable pub read_at : List ℕ → ℕ → Number
read_at s at = read_from (drop at s) at

-- the refusal of each reason: 02, Q-5: 14 where the input ends before the number does, 7 for all else (D-13, D-37)
abbrev pub refusal_of : Unread → Refusal
refusal_of unread.Ended = CutRoll
refusal_of unread.NotShortest = BadRoll
refusal_of unread.TooLarge = BadRoll

-- bytes fit into a lent list from `at` on, or not
unfoldable pub written_at : List ℕ → ℕ → List ℕ → Option ℕ
written_at out at bytes = cond (room_for out at (length bytes)) (Some (at + length bytes)) None

-- where they fit they stand from `at` on; otherwise nothing changes (D-14)
pub record WriteTold (before : List ℕ) (at : ℕ) (bytes : List ℕ) (r : Option ℕ) (after : List ℕ) : Type 0 where
  pub answer : r ≡ written_at before at bytes
  pub out : after ≡ placed_where_fits before at bytes
