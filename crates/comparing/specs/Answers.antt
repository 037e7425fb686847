-- 02, Q-4: what a comparison answers, and the text of each of its pieces: the head, then one line after the other.
use Rattle.std.specs.Prelude.{ℕ, List, [], ◌∷◌, ◌++◌, length, take, Option, Some, None, Result, Ok, Err}
use Rattle.kind.specs.Limits.{request_orders}
use Rattle.kind.specs.Kinds.{kind_of, orders_of}
use Rattle.kind.specs.declared.Kind.{Kind}
use Rattle.kind.specs.declared.refusals.Fault.{Fault}
use Rattle.roll.specs.Field.{fault}
use Rattle.roll.specs.Reading.{Reading, got, refused, Roll}
use Rattle.roll.specs.inner.Held.{from_held}
use Rattle.form2.specs.declared.header.Opened2.{Opened2}
use Rattle.listing.specs.Text.{kind_word}
use Rattle.comparing.specs.declared.differ.Compared.{Compared}
use Rattle.comparing.specs.declared.pair.Line.{Line}
use Rattle.comparing.specs.declared.pair.Line.TheVariants as line
use Rattle.comparing.specs.declared.pair.Pair.{Pair}
use Rattle.comparing.specs.declared.pair.Met.{Met}
use Rattle.comparing.specs.declared.sides.Side.TheVariants as side
use Rattle.comparing.specs.declared.sides.Sided.{Sided}
use Rattle.comparing.specs.Sides.{side_at, open_side, refused_on}
use Rattle.comparing.specs.Pairs.{Answered, lines_of}
use Rattle.comparing.specs.Text.{Difference, both, left, right, differences, kinds_differ, orders_differ, terms_differ, count_line, pair_line, orders_line, line_text, refused_text, terms_word}

-- ---- the comparison

-- at the first terms, which have number 1
abbrev pub first_pair : Opened2 → Opened2 → Pair
first_pair l r = record { left = l.cursor; right = r.cursor; number = 1 }

-- how many positions differ, and whether kind, orders and term count do
abbrev pub compared_with : Roll → Roll → Opened2 → Opened2 → Compared
compared_with l r a b =
    record {
      differ = length (differences 1 l.terms r.terms);
      kinds = kinds_differ l r;
      orders = orders_differ l r;
      terms = terms_differ l r;
      left = a.orders;
      right = b.orders;
      cursor = first_pair a b;
    }

-- of rolls that read, whose headers then read too
abbrev pub opened_as : Roll → Roll → Result Opened2 Fault → Result Opened2 Fault → Result Compared Sided
opened_as l r (Err e) other = Err (refused_on side.Left e)
opened_as l r (Ok a) (Err e) = Err (refused_on side.Right e)
opened_as l r (Ok a) (Ok b) = Ok (compared_with l r a b)

-- the left side's refusal comes first
abbrev pub compared_as : Reading Roll → Reading Roll → List ℕ → List ℕ → Result Compared Sided
compared_as (refused r place) other s t = Err (refused_on side.Left (fault r place))
compared_as (got l end) (refused r place) s t = Err (refused_on side.Right (fault r place))
compared_as (got l end) (got r last) s t = opened_as l r (open_side s) (open_side t)

unfoldable pub compared_of : List ℕ → List ℕ → Result Compared Sided
compared_of s t = compared_as (side_at s) (side_at t) s t

-- ---- the head

-- how many orders a kind uses; all that are held, of a forged one
abbrev pub used_as : Option Kind → ℕ
used_as (Some k) = orders_of k
used_as None = request_orders

unfoldable pub used_of : ℕ → ℕ
used_of kind = used_as (kind_of kind)

unfoldable pub head_of : Compared → List ℕ
head_of c =
    let l = c.cursor.left.cursor in
    let r = c.cursor.right.cursor in
    (count_line c.differ ++ pair_line c.kinds kind_word l.kind r.kind)
    ++ (orders_line c.orders (take (used_of l.kind) c.left) (take (used_of r.kind) c.right)
    ++ pair_line c.terms terms_word l.left r.left)

-- the line of a refusal
unfoldable pub sided_text : Sided → List ℕ
sided_text e = refused_text e.fault.refusal e.fault.place e.side

-- the head lines, or the line of a refusal
abbrev pub compared_text : Result Compared Sided → List ℕ
compared_text (Ok c) = head_of c
compared_text (Err e) = sided_text e

-- ---- a line

-- the position that it is of
abbrev pub position_as : Line → ℕ → Difference
position_as (line.Both l r) number = both number (from_held l) (from_held r)
position_as (line.Left l) number = left number (from_held l)
position_as (line.Right r) number = right number (from_held r)

abbrev pub position_of : Met → Difference
position_of m = position_as m.line m.number

unfoldable pub met_text : Met → List ℕ
met_text m = line_text (position_of m)

-- the line of what a step answers: of its position, no bytes at the end, or of a refusal
abbrev pub answered_text : Answered → List ℕ
answered_text (Ok (Some m)) = met_text m
answered_text (Ok None) = []
answered_text (Err e) = sided_text e

-- one line after the other
unfoldable pub pieces_text : List Met → List ℕ
pieces_text [] = []
pieces_text (m ∷ ms) = met_text m ++ pieces_text ms

-- the positions that the steps from the first pair on give; none beside a refusal
abbrev pub compared_lines : Result Compared Sided → List ℕ → List ℕ → List Met
compared_lines (Ok c) s t = lines_of c.cursor s t
compared_lines (Err e) s t = []

-- the bytes that a head or a line has at most
abbrev pub piece_room : ℕ
piece_room = 256
