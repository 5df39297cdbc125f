use Rattle.std.proofs.Common.{length}
use Rattle.bye_words.proofs.sending.+send_numbers.Given as goal

abbrev pub decreases-send_numbers : goal.decreases-send_numbers
decreases-send_numbers g l = length l.numbers.now
