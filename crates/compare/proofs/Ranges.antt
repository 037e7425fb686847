-- What a comparison's answer and a step's hold is within the limits of their types, so a piece has room in the buffer.
use Prim.Native.Nat.{◌≤◌}
use mathlib.Core.List.{List}
use lib.ListN.{length}
use mir.Syntax.{w8}
use mir.Val.{Val}
use borrow.Author.Rules.{elem_Fits}
use denote.Laws.{Is}
use denote.Struct.Declared.{row}
use denote.Enum.Declared.{row as variants}
use Rattle.term.specs.declared.Term.{Term as Held}
use Rattle.term.specs.contracts.Term as term
use Rattle.comparing.specs.declared.pair.Line.{Line}
use Rattle.comparing.specs.declared.pair.Line.TheVariants as line
use Rattle.comparing.specs.declared.pair.Met.{Met}
use Rattle.comparing.specs.declared.sides.Sided.{Sided}
use Rattle.comparing.specs.declared.differ.Compared.{Compared}
use Rattle.comparing.specs.contracts.pair.Line as line-type
use Rattle.comparing.specs.contracts.pair.Met as met-type
use Rattle.comparing.specs.contracts.sides.Sided as sided-type
use Rattle.comparing.specs.contracts.differ.Compared as compared-type
use Rattle.comparing.specs.Answers.{piece_room, head_of, met_text, sided_text}
use Rattle.comparing.proofs.Room.{Small, SmallLine, SmallHead, met-short, rolls-short, refusal-short}

small-term : (t : Held) (vs : List Val) → Is (row term.the_type) t vs → Small t
small-term t vs p =
    let f = p.1.1 in
    let ps = f.1.1.1.0 in
    record {
      scale = f.0.1;
      boys = f.1.0.1;
      long = ps.1.0.1;
      bytes = λ i. (elem_Fits w8 w8 t.prefactors ps.0 i ps.1.1 tt).fits;
    }

small_line : (f : Line) (vs : List Val) → Is (variants line-type.the_type) f vs → SmallLine f
small_line (line.Both l r) vs p = let f = p.1.1.1.1 in (small-term l _ f.0, small-term r _ f.1.0)
small_line (line.Left l) vs p = small-term l _ p.1.1.1.1.0
small_line (line.Right r) vs p = small-term r _ p.1.1.1.1.0

small-head : (c : Compared) (vs : List Val) → Is (row compared-type.the_type) c vs → SmallHead c
small-head c vs p =
    let f = p.1.1 in
    let left = f.1.1.1.1.0 in
    let right = f.1.1.1.1.1.0 in
    let pair = f.1.1.1.1.1.1.0.1.1 in
    let ours = pair.0.1.1.0.1.1 in
    let theirs = pair.1.0.1.1.0.1.1 in
    record {
      differ = f.0.1;
      left-kind = ours.1.1.0.1;
      right-kind = theirs.1.1.0.1;
      left-terms = ours.1.0.1;
      right-terms = theirs.1.0.1;
      left-bytes = λ i. (elem_Fits w8 w8 c.left left.0 i left.1.1 tt).fits;
      right-bytes = λ i. (elem_Fits w8 w8 c.right right.0 i right.1.1 tt).fits;
      left-long = left.1.0.1;
      right-long = right.1.0.1;
    }

pub met-room : (m : Met) (vs : List Val) → Is (row met-type.the_type) m vs → length (met_text m) ≤ piece_room
met-room m vs p = let f = p.1.1 in met-short m f.0.1 (small_line m.line _ f.1.0)

pub head-room : (c : Compared) (vs : List Val) → Is (row compared-type.the_type) c vs → length (head_of c) ≤ piece_room
head-room c vs p = rolls-short c (small-head c vs p)

pub refusal-room : (e : Sided) (vs : List Val) → Is (row sided-type.the_type) e vs → length (sided_text e) ≤ piece_room
refusal-room e vs p = let fault = p.1.1.1.0.1.1 in refusal-short e fault.1.0.1
