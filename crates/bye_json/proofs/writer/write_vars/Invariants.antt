use Rattle.std.proofs.Common.{◌≡◌, ◌++◌, drop, map}
use Rattle.json.specs.Tree.{items_tokens}
use Rattle.serde_json.specs.View.{items_of}
use Rattle.serde_json.specs.Written.{items_outline}
use Rattle.bye_json.specs.Written.{text}
use Rattle.bye_json.proofs.writer.write_vars.Given as goal

abbrev pub invariant-loop-var : goal.invariant-loop-var
invariant-loop-var l =
    (l.out.before ≡ l.initial.out.before)
    × (l.out.tokens ++ items_tokens (items_outline (items_of (map text (drop l.var-index l.vars)))) ≡ l.initial.out.tokens ++ items_tokens (items_outline (items_of (map text l.vars))))
