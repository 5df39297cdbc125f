use Rattle.std.proofs.Common.{◌+◌, [], ◌∷◌, ◌++◌, take, map, sym, ap, ◌∙◌, subst}
use Rattle.serde_json.specs.View.{view}
use Rattle.bye_table.specs.Mappings.{is_in}
use Rattle.bye_json.specs.Answers.{IsNoName}
use Rattle.bye_json.specs.Documents.{AreNames}
use Rattle.bye_json.proofs.Names.{names_more, no_name, repeat}
use Rattle.bye_json.proofs.Steps.{first_of, one_more_of}
use Rattle.bye_json.proofs.variables.read_vars.Goals as goal

pub returns-in_default-clause-err : goal.returns-in_default-clause-err
returns-in_default-clause-err c =
    first_of view IsNoName c.args.values.now c.loop-i.i c.index-values-i.result c.loop-i-test.true c.index-values-i.is
    (no_name _ (view c.index-values-i.result) _ c.loop-i.invariant (sym c.in_ok-var.ensures ∙ c.in_default.is))

pub returns-then-stands_in-clause-err : goal.returns-then-stands_in-clause-err
returns-then-stands_in-clause-err c =
    first_of view IsNoName c.args.values.now c.loop-i.i c.index-values-i.result c.loop-i-test.true c.index-values-i.is
    (repeat _ (view c.index-values-i.result) _ c.in-Some.var c.loop-i.invariant (sym c.in_ok-var.ensures ∙ c.in-Some.is)
    (sym (c.if-stands_in.ensures ∙ ap (λ vars. is_in vars c.in-Some.var) c.as_slice.ensures.value)))

pub loop-i-preserved : goal.loop-i-preserved
loop-i-preserved c =
    let new = sym (c.if-stands_in.ensures ∙ ap (λ vars. is_in vars c.in-Some.var) c.as_slice.ensures.value) in
    let more = names_more _ (view c.index-values-i.result) _ c.in-Some.var c.loop-i.invariant (sym c.in_ok-var.ensures ∙ c.in-Some.is) new in
    subst (λ vars. AreNames (map view (take (c.loop-i.i + 1) c.args.values.now)) vars) (sym c.in_ok-push_item.ensures.ok)
    (subst (λ ds. AreNames ds (c.loop-i.vars.items ++ c.in-Some.var ∷ [])) (sym (one_more_of view c.args.values.now c.loop-i.i c.index-values-i.result c.loop-i-test.true c.index-values-i.is)) more)
