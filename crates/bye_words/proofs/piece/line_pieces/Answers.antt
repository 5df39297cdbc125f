use Rattle.std.proofs.Common.{◌≡◌, List, ℕ, ◌++◌, codes, append_assoc, ◌∙◌, ap, sym}
use Rattle.std.specs.Fmt.{decimal}
use Rattle.std.specs.Str.{encode_utf8_all}
use Rattle.bye_words.specs.Lines.{node_text}
use Rattle.bye_words.specs.Told.{with_more}
use Rattle.bye_words.proofs.piece.line_pieces.Goals as goal

grouped : (h t a b d e : List ℕ) → h ++ (t ++ (a ++ (b ++ (d ++ e)))) ≡ (h ++ (t ++ (a ++ (b ++ d)))) ++ e
grouped h t a b d e = simp append_assoc

pair : (h t a b e : List ℕ) → h ++ (t ++ (a ++ (b ++ e))) ≡ (h ++ (t ++ (a ++ b))) ++ e
pair h t a b e = simp append_assoc

pub returns-in-Word : goal.returns-in-Word
returns-in-Word c =
    let line = c.args.line.now in
    c.pieces-in-Word.ensures
    ∙ ap (λ bytes. codes "sparqlbye: " ++ bytes)
    (grouped line.head.now line.told.text.now (decimal c.in-Word.number) (codes ": ") (encode_utf8_all c.in-Word.word.now) (codes "\n")
    ∙ ap (λ more. (line.head.now ++ with_more line.told.text.now more) ++ codes "\n") (sym c.in-Word.is))

pub returns-in-Node : goal.returns-in-Node
returns-in-Node c =
    let line = c.args.line.now in
    c.pieces-in-Node.ensures
    ∙ ap (λ bytes. codes "sparqlbye: " ++ bytes)
    (pair line.head.now line.told.text.now (codes " at node ") (node_text c.in-Node.path.now) (codes "\n")
    ∙ ap (λ more. (line.head.now ++ with_more line.told.text.now more) ++ codes "\n") (sym c.in-Node.is))
