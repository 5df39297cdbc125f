-- The pieces of a line.
use Rattle.std.specs.Prelude.{ℕ, List, ◌++◌, codes}
use Rattle.std.specs.Fmt.{decimal}
use Rattle.std.specs.Str.{encode_utf8_all}
use Rattle.bye_words.specs.Lines.{node_text}
use Rattle.bye_words.specs.declared.more.More.{More}
use Rattle.bye_words.specs.declared.more.More.TheVariants as more
use Rattle.bye_words.specs.declared.told.Told.{Told}
use Rattle.bye_words.specs.declared.line.Line.{Line}
use Rattle.bye_words.specs.declared.piece.Piece.{Piece}
use Rattle.bye_words.specs.declared.piece.Piece.TheVariants as pieces

-- a text and what follows it
abbrev pub with_more : List ℕ → More → List ℕ
with_more text more.Nothing = text
with_more text (more.Number n) = text ++ decimal n
with_more text (more.Numbers n link m) = text ++ (decimal n ++ (link.now ++ decimal m))
with_more text (more.Word n word) = text ++ (decimal n ++ (codes ": " ++ encode_utf8_all word.now))
with_more text (more.Node path) = text ++ (codes " at node " ++ node_text path.now)

-- what a line says of what is wrong
abbrev pub told_text : Told → List ℕ
told_text told = with_more told.text.now told.more

-- what a line says, but for its frame
abbrev pub line_text : Line → List ℕ
line_text line = line.head.now ++ told_text line.told

-- the bytes of a piece
abbrev pub piece_text : Piece → List ℕ
piece_text (pieces.Text text) = text.now
piece_text (pieces.Number n) = decimal n
piece_text (pieces.Word word) = encode_utf8_all word.now
piece_text (pieces.Node path) = node_text path.now
