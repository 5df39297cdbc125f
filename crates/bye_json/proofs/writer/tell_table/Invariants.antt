use Rattle.std.proofs.Common.{take}
use Rattle.std.specs.List.{AllByRecursion}
use Rattle.bye_json.specs.ReadingBack.{HasTerms}
use Rattle.bye_json.proofs.writer.tell_table.Given as goal

abbrev pub invariant-loop-row : goal.invariant-loop-row
invariant-loop-row l = AllByRecursion HasTerms (take l.row-index l.row-items)
