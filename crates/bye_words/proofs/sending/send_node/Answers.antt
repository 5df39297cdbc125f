use Rattle.std.proofs.Common.{ap}
use Rattle.bye_words.specs.Lines.{node_text}
use Rattle.bye_words.proofs.Sent.{then_part}
use Rattle.bye_words.proofs.sending.send_node.Goals as goal

pub returns-in_ok-send_number-in-Some-clause-part : goal.returns-in_ok-send_number-in-Some-clause-part
returns-in_ok-send_number-in-Some-clause-part g c =
    then_part c.send_numbers.result _ _ _ _ _ _ (ap node_text c.in-Some.ensures.cases.0) c.in_ok-send_number-in-Some.ensures.whole c.send_numbers.ensures.part
