-- Inside the crate: where a step goes over a position.
use Rattle.std.specs.Prelude.{ℕ, cond, Option, Some, None}
use Rattle.form2.specs.declared.cursor.Step2.{Step2}
use Rattle.comparing.specs.declared.pair.Pair.{Pair}
use Rattle.comparing.specs.Pairs.{number_after, same_held}

-- the pair behind a term of each side
abbrev pub behind_both : ℕ → Step2 → Step2 → Pair
behind_both number l r = record { left = l.next; right = r.next; number = number_after number }

-- the pair behind a position that has the same term on both sides; none where it has not
abbrev pub behind_as : ℕ → Option Step2 → Option Step2 → Option Pair
behind_as number (Some l) (Some r) = cond (same_held l.term r.term) (Some (behind_both number l r)) None
behind_as number (Some l) None = None
behind_as number None r = None
