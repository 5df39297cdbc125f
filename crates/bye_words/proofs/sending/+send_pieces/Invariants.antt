use Rattle.std.proofs.Common.{length}
use Rattle.bye_words.proofs.sending.+send_pieces.Given as goal

abbrev pub decreases-send_pieces : goal.decreases-send_pieces
decreases-send_pieces g l = length l.pieces.now
