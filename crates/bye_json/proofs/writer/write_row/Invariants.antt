use Rattle.std.proofs.Common.{◌≡◌, ◌++◌, drop}
use Rattle.json.specs.Tree.{members_tokens}
use Rattle.serde_json.specs.Written.{members_outline}
use Rattle.bye_json.specs.Written.{cells}
use Rattle.bye_json.proofs.writer.write_row.Given as goal

abbrev pub invariant-loop-var : goal.invariant-loop-var
invariant-loop-var l =
    (l.out.before ≡ l.initial.out.before)
    × (l.out.tokens ++ members_tokens (members_outline (cells l.row (drop l.var-index l.sorted))) ≡ l.initial.out.tokens ++ members_tokens (members_outline (cells l.row l.sorted)))
