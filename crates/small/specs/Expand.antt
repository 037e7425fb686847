-- 02, Q-13: what the expansion of a request of the profile answers and writes.
use Rattle.std.specs.Prelude.{ℕ, ◌+◌, ◌≡◌, cond, not, List, length, Option, Some, None}
use Rattle.kind.specs.declared.Kind.{Kind}
use Rattle.kind.specs.declared.refusals.Refusal.TheVariants.{WrongKind, OrderSum, UnusedOrder, StartBeyondEnd, NoRoom, OutsideProfile}
use Rattle.kind.specs.Kinds.{kind_of}
use Rattle.expansion.specs.Answer.{Answer, Roll, Refused}
use Rattle.expansion.specs.Expanding.{◌exceeds◌, too_high, unused_set, terms_of, roll_of, named_out}
use Rattle.small.specs.Profile.{small}

-- of a kind: 2, 3, "19 for a kind .. or order outside the profile", 5, 6 in this order, or the roll's length and its term count. There is no line for 4: it is never given (`NeverFour` in Shown.antt)
unfoldable pub small_kind : Kind → List ℕ → List ℕ → ℕ → Answer
small_kind k orders out begin =
    cond (too_high k orders) (Refused OrderSum)
    (cond (unused_set k orders) (Refused UnusedOrder)
    (cond (not (small k orders)) (Refused OutsideProfile)
    (cond (begin exceeds length out) (Refused StartBeyondEnd)
    (cond (begin + length (roll_of k orders) exceeds length out) (Refused NoRoom)
    (Roll (length (roll_of k orders)) (length (terms_of k orders)))))))

-- before them 1, for a kind above 4
abbrev pub small_named : Option Kind → List ℕ → List ℕ → ℕ → Answer
small_named None orders out begin = Refused WrongKind
small_named (Some k) orders out begin = small_kind k orders out begin

-- a refusal changes no byte; a success only those of the roll
pub record SmallExpandTold (kind : ℕ) (orders before : List ℕ) (begin : ℕ) (r : Answer) (after : List ℕ) : Type 0 where
  pub answer : r ≡ small_named (kind_of kind) orders before begin
  pub out : after ≡ named_out (small_named (kind_of kind) orders before begin) (kind_of kind) orders before begin
