use Rattle.std.proofs.Common.{Some, drop, sym, ◌∙◌, ap, subst}
use Rattle.bye_lex.proofs.Branches.{same_eqb}
use Rattle.bye_table.specs.Mappings.{NoRepeat}
use Rattle.bye_tsv.specs.DocSteps.{DocAt, IsSound, cell_ends}
use Rattle.bye_tsv.specs.declared.field.FieldAt.TheVariants.{Empty}
use Rattle.bye_tsv.specs.declared.place.Place.TheVariants.{Field}
use Rattle.bye_tsv.proofs.Sound.{fits}
use Rattle.bye_tsv.proofs.Steps.{drop_next, tab_ends}
use Rattle.bye_tsv.proofs.document.Document.end_cell.Goals as goal

pub end_row-requires-clause-row : goal.end_row-requires-clause-row
end_row-requires-clause-row c =
    let columns = ap (drop c.self.inside.column) (sym c.as_slice.ensures.value) ∙ sym c.split_at.ensures.back ∙ c.in-Some.ensures.cases.0 in
    let sound = subst IsSound (sym c.self.view_is) c.requires in
    subst NoRepeat (sym c.in_ok-bind.ensures) (fits _ c.in-Some.var.now c.in-Some.after.now c.args.cell sound columns)

pub returns-then-c-eq9 : goal.returns-then-c-eq9
returns-then-c-eq9 c =
    let columns = ap (drop c.self.inside.column) (sym c.as_slice.ensures.value) ∙ sym c.split_at.ensures.back ∙ c.in-Some.ensures.cases.0 in
    let next = drop_next c.self.inside.column c.self.inside.vars.items c.in-Some.var.now c.in-Some.after.now columns in
    let d : DocAt = record { vars = c.self.inside.vars.items; rows = c.self.inside.rows.items; row = c.self.inside.pairs.items; later = drop c.self.inside.column c.self.inside.vars.items; at = c.self.inside.at } in
    ap (λ (d : DocAt). cell_ends d c.args.c d.later (Some c.args.cell)) (sym c.self.view_is)
    ∙ ap (λ later. cell_ends d c.args.c later (Some c.args.cell)) columns
    ∙ tab_ends d c.args.c c.in-Some.var.now c.in-Some.after.now c.args.cell c.is_empty-is_last.result c.is_empty-is_last.ensures c.if-is_last.false (same_eqb c.args.c 9 c.if-c-eq9.true)
    ∙ ap Some ((λ i. record { vars = d.vars; rows = d.rows; row = sym c.in_ok-bind.ensures i; later = sym next i; at = Field Empty }) ∙ sym c.put.ensures)
