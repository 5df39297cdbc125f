use Rattle.std.proofs.Common.{subst, sym, arith, OnOk, OnErr}
use Rattle.std.specs.Io.KnownBytes.{Appends}
use Rattle.bye_io.specs.Bytes.{AppendsPart}
use Rattle.std.proofs.lemmas.Fmt.{decimal_step, decimal_digit}
use Rattle.bye_words.proofs.Sent.{then_part, then_whole, front_part}
use Rattle.bye_words.proofs.sending.+send_number.Goals as goal

pub returns-then-number-lt10-clause-whole : goal.returns-then-number-lt10-clause-whole
returns-then-number-lt10-clause-whole g t c =
    subst (λ bytes. OnOk c.send_digit.result (Appends (g.S.Sink.sent c.args.sink.now) (g.S.Sink.sent c.send_digit.new.sink) bytes)) (sym (decimal_digit c.args.number c.if-number-lt10.true)) c.send_digit.ensures.whole

pub returns-then-number-lt10-clause-part : goal.returns-then-number-lt10-clause-part
returns-then-number-lt10-clause-part g t c =
    subst (λ bytes. OnErr c.send_digit.result (AppendsPart (g.S.Sink.sent c.args.sink.now) (g.S.Sink.sent c.send_digit.new.sink) bytes)) (sym (decimal_digit c.args.number c.if-number-lt10.true)) c.send_digit.ensures.part

pub returns-in_err-send_number-clause-part : goal.returns-in_err-send_number-clause-part
returns-in_err-send_number-clause-part g t c =
    front_part c.from_residual.result _ _ _ _ _ (decimal_step c.args.number c.if-number-lt10.false (omega arith)) c.in_err-send_number.ensures.part

pub returns-clause-whole : goal.returns-clause-whole
returns-clause-whole g t c =
    then_whole c.send_digit-2.result _ _ _ _ _ _ (decimal_step c.args.number c.if-number-lt10.false (omega arith)) c.in_ok-send_number.ensures.whole c.send_digit-2.ensures.whole

pub returns-clause-part : goal.returns-clause-part
returns-clause-part g t c =
    then_part c.send_digit-2.result _ _ _ _ _ _ (decimal_step c.args.number c.if-number-lt10.false (omega arith)) c.in_ok-send_number.ensures.whole c.send_digit-2.ensures.part
