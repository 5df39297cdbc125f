use Rattle.std.proofs.Common.{take}
use Rattle.bye_json.specs.ReadingBack.{HasTerms}
use Rattle.bye_json.proofs.writer.tell_terms.Given as goal

abbrev pub invariant-loop-pair : goal.invariant-loop-pair
invariant-loop-pair l = HasTerms (take l.pair-index l.pair-items)
