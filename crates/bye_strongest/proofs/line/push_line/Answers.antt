use Rattle.std.proofs.Common.{◌++◌, ◌∙◌, ap}
use Rattle.std.specs.Str.{encode_utf8_all}
use Rattle.bye_pattern.specs.Printed.{slot_text}
use Rattle.bye_strongest.proofs.Lines.{line_put}
use Rattle.bye_strongest.proofs.line.push_line.Goals as goal

pub returns : goal.returns
returns c =
    line_put c.args.pattern.now c.args.out.now.items _ _ _ _ _ _ _ c.in_ok-push_bytes.ensures
    (c.in_ok-push_slot.ensures ∙ ap (λ s. c.push_bytes.new.out.items ++ encode_utf8_all (slot_text s)) c.s.ensures.value) c.in_ok-push_bytes-2.ensures
    (c.in_ok-push_slot-2.ensures ∙ ap (λ s. c.push_bytes-2.new.out.items ++ encode_utf8_all (slot_text s)) c.p.ensures.value) c.in_ok-push_bytes-3.ensures
    (c.in_ok-push_slot-3.ensures ∙ ap (λ s. c.push_bytes-3.new.out.items ++ encode_utf8_all (slot_text s)) c.o.ensures) c.in_ok-push_bytes-4.ensures
