use Rattle.std.proofs.Common.{◌≡◌, refl, ℕ, List, map, length, Result, Err, sym, ◌∙◌, ap, subst}
use Rattle.std.proofs.lemmas.Result.{err_from_is_err_and}
use Rattle.bye_terms.specs.Members.{In}
use Rattle.bye_table.specs.Mappings.{Name}
use Rattle.bye_table.specs.Tables.{TableValue}
use Rattle.bye_pattern.specs.Designed.{IsWellDesigned}
use Rattle.bye_pattern.specs.Nodes.{tree_of}
use Rattle.bye_pattern.specs.declared.node.Node.{Node}
use Rattle.bye_graph.specs.Graphs.{statements}
use Rattle.bye_tree.specs.Exprs.{expr_of}
use Rattle.bye_tree.specs.Selects.{select_of}
use Rattle.bye_node.specs.Envs.{Cells}
use Rattle.bye_node.specs.Steps.{decode}
use Rattle.bye_member.specs.Answers.{AreAnswers, AreOf, ArePlaces, HasMore, HasOver, IsWay, most_rows}
use Rattle.bye_member.specs.Lines.{project}
use Rattle.bye_member.specs.Listing.{row_of}
use Rattle.bye_member.specs.Searches.{Task}
use Rattle.bye_member.specs.declared.answering.AnsErr.{AnsErr}
use Rattle.bye_member.specs.declared.answering.AnsErr.TheVariants as errors
use Rattle.bye_member.proofs.Ends.{all_found, mapped, more_found, of_parts, stopped_full, tree_listed}
use Rattle.bye_member.proofs.answering.answers.Goals as goal

same_error : (a b : AnsErr) → ◌≡◌ {A = Result TableValue AnsErr} (Err a) (Err b) → a ≡ b
same_error a b e = cc

pub returns-in_err-lines-clause-more : goal.returns-in_err-lines-clause-more
returns-in_err-lines-clause-more c e =
    let p = err_from_is_err_and c.from_residual-in_err-lines.result c.from_residual-in_err-lines.ensures.1 in
    let same = sym p.1 ∙ e in
    let full = stopped_full c.in_err-lines.field-0.0 p.0 p.2 (same_error p.0 errors.TooManyRows same) in
    let q = select_of c.args.select.now in
    let t = tree_of c.root-root.result.now in
    let tree_is = ap tree_of c.root-root.ensures.root ∙ c.tree-tree.ensures in
    let over = subst (λ (task : Task). HasOver task t most_rows) c.new-task.ensures (c.in_err-lines.ensures.over (ap Err full)) in
    let places = subst (λ (sel : List Name). ArePlaces c.in_ok-names.names sel c.as_slice.result.now) c.vars.ensures
    (subst (λ (places : List ℕ). ArePlaces c.in_ok-names.names c.vars.result.now places) (sym c.as_slice.ensures.value) c.in_ok-places.ensures) in
    subst (HasMore (statements c.args.graph.now)) (of_parts q q.vars t (map expr_of c.outer.result.now) refl tree_is c.outer.ensures)
    (more_found c.in_ok-names.names c.args.graph.now t c.outer.result.now c.terms-terms.ensures.numbered (subst (λ (n : Node). IsWellDesigned (tree_of n)) (sym c.root-root.ensures.root) c.root-root.ensures.designed) (tree_listed c.in_ok-names.names t c.in_ok-names.ensures.once c.in_ok-names.ensures.vars)
    q.distinct q.vars c.as_slice.result.now c.is_distinct-distinct.ensures.kept.once places over)

pub returns-clause-answers : goal.returns-clause-answers
returns-clause-answers c =
    let q = select_of c.args.select.now in
    let g = c.args.graph.now in
    let t = tree_of c.root-root.result.now in
    let found = c.in_ok-lines.lines.rows in
    let table = c.in_ok-table_of.field-0 in
    let tree_is = ap tree_of c.root-root.ensures.root ∙ c.tree-tree.ensures in
    let of = subst (λ (task : Task). AreOf task.selected (IsWay task t) found) c.new-task.ensures c.in_ok-lines.ensures.only in
    let whole = subst (λ (task : Task). (y : Cells) → IsWay task t y → In found (project task.selected y)) c.new-task.ensures c.in_ok-lines.ensures.whole in
    let places = subst (λ (sel : List Name). ArePlaces c.in_ok-names.names sel c.as_slice.result.now) c.vars.ensures
    (subst (λ (places : List ℕ). ArePlaces c.in_ok-names.names c.vars.result.now places) (sym c.as_slice.ensures.value) c.in_ok-places.ensures) in
    subst (λ q. AreAnswers (statements g) q table) (of_parts q q.vars t (map expr_of c.outer.result.now) refl tree_is c.outer.ensures)
    (all_found c.in_ok-names.names g t c.outer.result.now c.terms-terms.ensures.numbered (subst (λ (n : Node). IsWellDesigned (tree_of n)) (sym c.root-root.ensures.root) c.root-root.ensures.designed) (tree_listed c.in_ok-names.names t c.in_ok-names.ensures.once c.in_ok-names.ensures.vars)
    q.distinct q.vars c.as_slice.result.now found table c.is_distinct-distinct.ensures.kept.once places of whole c.in_ok-lines.ensures.once c.in_ok-lines.ensures.few
    (c.in_ok-table_of.ensures.vars ∙ c.vars-2.ensures)
    (ap length c.in_ok-table_of.ensures.rows ∙ mapped (row_of c.vars-2.result.now g.terms) found)
    (c.in_ok-table_of.ensures.mappings ∙ ap (λ (sel : List Name). map (decode sel g.terms) found) c.vars-2.ensures))
