use Rattle.std.proofs.Common.{◌≡◌, true, sym, ◌∙◌, ap, subst, ◌↔◌}
use Rattle.std.specs.List.{list_all}
use Rattle.bye_table.specs.Tables.{IsOverVars, is_pair_over}
use Rattle.bye_table.proofs.RowNames.{all_over}
use Rattle.bye_member.proofs.variables.is_over.Goals as goal

pub returns : goal.returns
returns c =
    subst (λ b. (b ≡ true) ↔ IsOverVars c.args.names.now c.args.row.now)
    (sym (c.are_among.ensures ∙ ap (list_all (is_pair_over c.args.names.now)) c.listed.ensures.pairs))
    (all_over c.args.names.now c.args.row.now)
