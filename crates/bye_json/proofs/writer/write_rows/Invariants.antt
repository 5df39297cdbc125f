use Rattle.std.proofs.Common.{◌≡◌, ◌++◌, drop, map}
use Rattle.json.specs.Tree.{items_tokens}
use Rattle.serde_json.specs.View.{items_of}
use Rattle.serde_json.specs.Written.{items_outline}
use Rattle.bye_json.specs.Written.{row_object}
use Rattle.bye_json.proofs.writer.write_rows.Given as goal

abbrev pub invariant-loop-row : goal.invariant-loop-row
invariant-loop-row l =
    (l.out.before ≡ l.initial.out.before)
    × (l.out.tokens ++ items_tokens (items_outline (items_of (map (row_object l.sorted) (drop l.row-index l.rows)))) ≡ l.initial.out.tokens ++ items_tokens (items_outline (items_of (map (row_object l.sorted) l.rows))))
