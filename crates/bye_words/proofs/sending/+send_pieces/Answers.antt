use Rattle.std.proofs.Common.{ap}
use Rattle.std.specs.List.{flat_map}
use Rattle.bye_words.specs.Told.{piece_text}
use Rattle.bye_words.proofs.Sent.{then_part}
use Rattle.bye_words.proofs.sending.+send_pieces.Goals as goal

pub returns-in_ok-send_piece-in-Some-clause-part : goal.returns-in_ok-send_piece-in-Some-clause-part
returns-in_ok-send_piece-in-Some-clause-part g t c =
    then_part c.send_pieces.result _ _ _ _ _ _ (ap (λ pieces. flat_map piece_text pieces) c.in-Some.ensures.cases.0) c.in_ok-send_piece-in-Some.ensures.whole c.send_pieces.ensures.part
