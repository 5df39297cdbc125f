use Rattle.bye_words.proofs.sending.+send_number.Given as goal

abbrev pub decreases-send_number : goal.decreases-send_number
decreases-send_number g l = l.number
