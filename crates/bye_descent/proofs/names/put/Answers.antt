use Rattle.std.proofs.Common.{not, ◌∙◌, ap}
use Rattle.std.specs.List.{list_any}
use Rattle.std.specs.Str.{bytes_eq}
use Rattle.bye_table.specs.Mappings.{Name}
use Rattle.bye_descent.proofs.Looking.{among}
use Rattle.bye_descent.proofs.names.put.Goals as goal

pub returns-clause-new : goal.returns-clause-new
returns-clause-new c =
    let keys = c.args.seen.now.keys in
    c.in_ok-new.ensures.added ∙ ap (λ (v : Name). not (list_any (bytes_eq v) keys)) (c.in_ok-name.ensures ∙ c.name.ensures.text) ∙ ap (λ b. not b) (among keys c.args.one.now)
