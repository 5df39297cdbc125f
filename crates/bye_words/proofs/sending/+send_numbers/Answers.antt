use Rattle.std.proofs.Common.{◌++◌, codes, ap}
use Rattle.std.specs.List.{flat_map}
use Rattle.std.specs.Fmt.{decimal}
use Rattle.bye_words.proofs.Sent.{then_part, front_part}
use Rattle.bye_words.proofs.sending.+send_numbers.Goals as goal

pub returns-in_ok-send_dotted-in-Some-clause-part : goal.returns-in_ok-send_dotted-in-Some-clause-part
returns-in_ok-send_dotted-in-Some-clause-part g t c =
    then_part c.send_numbers.result _ _ _ _ _ _ (ap (λ numbers. flat_map (λ n. codes "." ++ decimal n) numbers) c.in-Some.ensures.cases.0)
    c.in_ok-send_dotted-in-Some.ensures.whole c.send_numbers.ensures.part

pub returns-in_err-send_dotted-in-Some-clause-part : goal.returns-in_err-send_dotted-in-Some-clause-part
returns-in_err-send_dotted-in-Some-clause-part g t c =
    front_part c.from_residual.result _ _ _ _ _ (ap (λ numbers. flat_map (λ n. codes "." ++ decimal n) numbers) c.in-Some.ensures.cases.0) c.in_err-send_dotted-in-Some.ensures.part
