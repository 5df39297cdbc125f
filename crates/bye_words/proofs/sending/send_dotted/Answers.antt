use Rattle.std.proofs.Common.{refl}
use Rattle.bye_words.proofs.Sent.{then_part}
use Rattle.bye_words.proofs.sending.send_dotted.Goals as goal

pub returns-clause-part : goal.returns-clause-part
returns-clause-part g c = then_part c.send_number.result _ _ _ _ _ _ refl c.in_ok-write_all.ensures.whole c.send_number.ensures.part
