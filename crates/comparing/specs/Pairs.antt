-- 02, Q-4: both rolls gone through beside each other, position by position; a step goes on to the next that differs.
use Rattle.std.specs.Prelude.{ℕ, zero, suc, ◌+◌, Bool, true, false, cond, ◌&&◌, List, [], ◌∷◌, ltb, eqb, Option, Some, None, Result, Ok, Err}
use Rattle.kind.specs.Limits.{most_terms}
use Rattle.term.specs.declared.Term.{Term as Held}
use Rattle.form2.specs.declared.cursor.Cursor2.{Cursor2}
use Rattle.form2.specs.declared.cursor.Step2.{Step2}
use Rattle.form2.specs.Cursor.{Stepped2}
use Rattle.comparing.specs.declared.pair.Line.{Line}
use Rattle.comparing.specs.declared.pair.Line.TheVariants as line
use Rattle.comparing.specs.declared.pair.Pair.{Pair}
use Rattle.comparing.specs.declared.pair.Met.{Met}
use Rattle.comparing.specs.declared.sides.Side.TheVariants as side
use Rattle.comparing.specs.declared.sides.Sided.{Sided}
use Rattle.comparing.specs.Sides.{step_side, refused_on}
use Rattle.laws.specs.Same.{same_numbers}

-- the number of the next position; a forged one beyond the most terms stays
abbrev pub number_after : ℕ → ℕ
number_after n = cond (ltb most_terms n) n (n + 1)

-- two terms as they are held, zeros behind their prefactors
unfoldable pub same_held : Held → Held → Bool
same_held l r = eqb l.scale r.scale && (eqb l.boys r.boys && (eqb l.count r.count && same_numbers l.prefactors r.prefactors))

-- whether both sides have the same term
abbrev pub same_line : Line → Bool
same_line (line.Both l r) = same_held l r
same_line (line.Left l) = false
same_line (line.Right r) = false

-- a position, none at the end, or a refusal
abbrev pub Answered : Type 0
Answered = Result (Option Met) Sided

-- ---- one position: what a step of each side finds there

abbrev pub met_by : ℕ → Line → Cursor2 → Cursor2 → Met
met_by number line l r = record { number = number; line = line; next = record { left = l; right = r; number = number_after number } }

-- a term on both sides, or on one; a side that has ended stays where it is
abbrev pub position : Option Step2 → Option Step2 → Pair → Option Met
position (Some l) (Some r) p = Some (met_by p.number (line.Both l.term r.term) l.next r.next)
position (Some l) None p = Some (met_by p.number (line.Left l.term) l.next p.right)
position None (Some r) p = Some (met_by p.number (line.Right r.term) p.left r.next)
position None None p = None

-- the left side's refusal comes first
abbrev pub turn_as : Stepped2 → Stepped2 → Pair → Answered
turn_as (Err e) other p = Err (refused_on side.Left e)
turn_as (Ok l) (Err e) p = Err (refused_on side.Right e)
turn_as (Ok l) (Ok r) p = Ok (position l r p)

unfoldable pub turn_of : Pair → List ℕ → List ℕ → Answered
turn_of p s t = turn_as (step_side p.left s) (step_side p.right t) p

-- ---- a step: the same terms are gone over; no more of them are left than the left side has

abbrev pub over_same : Answered → (Pair → Answered) → Answered
over_same (Ok (Some m)) rest = cond (same_line m.line) (rest m.next) (Ok (Some m))
over_same (Ok None) rest = Ok None
over_same (Err e) rest = Err e

unfoldable pub met_from : ℕ → Pair → List ℕ → List ℕ → Answered
met_from zero p s t = turn_of p s t
met_from (suc more) p s t = over_same (turn_of p s t) (λ q. met_from more q s t)

unfoldable pub next_of : Pair → List ℕ → List ℕ → Answered
next_of p s t = met_from p.left.cursor.left p s t

-- ---- stepping from a pair on

-- what has a line of its own: a position that differs
abbrev pub is_line : Answered → Bool
is_line (Ok (Some m)) = true
is_line (Ok None) = false
is_line (Err e) = false

-- a position that differs, and those behind it
abbrev pub lines_with : Answered → (Pair → List Met) → List Met
lines_with (Ok (Some m)) rest = m ∷ rest m.next
lines_with (Ok None) rest = []
lines_with (Err e) rest = []

-- the positions that so many steps give, to the end or to a refusal
unfoldable pub lines_from : ℕ → Pair → List ℕ → List ℕ → List Met
lines_from zero p s t = []
lines_from (suc steps) p s t = lines_with (next_of p s t) (λ q. lines_from steps q s t)

-- each of them leaves a term less on one side
abbrev pub terms_left : Pair → ℕ
terms_left p = p.left.cursor.left + p.right.cursor.left

-- all that the steps give
unfoldable pub lines_of : Pair → List ℕ → List ℕ → List Met
lines_of p s t = lines_from (terms_left p) p s t
