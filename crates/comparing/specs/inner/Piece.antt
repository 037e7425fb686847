-- Inside the crate: the text of a piece.
use Rattle.std.specs.Prelude.{ℕ, List, []}
use Rattle.comparing.specs.declared.pieces.Piece.{Piece}
use Rattle.comparing.specs.declared.pieces.Piece.TheVariants as piece
use Rattle.comparing.specs.Answers.{head_of, met_text, sided_text}

abbrev pub piece_text : Piece → List ℕ
piece_text (piece.Head c) = head_of c
piece_text (piece.Position m) = met_text m
piece_text piece.End = []
piece_text (piece.Refusal e) = sided_text e
