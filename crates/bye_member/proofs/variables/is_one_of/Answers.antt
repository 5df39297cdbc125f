use Rattle.std.proofs.Common.{sym, ◌∙◌}
use Rattle.bye_table.proofs.Merging.{in_is, is_in_in}
use Rattle.bye_member.proofs.variables.is_one_of.Goals as goal

pub returns : goal.returns
returns c = (λ h. is_in_in c.args.names.now c.args.var.now (sym c.contains.ensures ∙ h), λ h. c.contains.ensures ∙ in_is c.args.names.now c.args.var.now h)
