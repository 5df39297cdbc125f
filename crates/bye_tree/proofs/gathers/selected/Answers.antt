use Rattle.std.proofs.Common.{refl, sym, ◌∙◌, ap, subst}
use Rattle.std.specs.Option.{option_map}
use Rattle.bye_tree.specs.Gathering.{IsCause, written}
use Rattle.bye_tree.specs.Written.{elements_of}
use Rattle.bye_tree.specs.declared.gather_err.GatherErr.{GatherErr}
use Rattle.bye_tree.proofs.Chosen.{all_at, broken_at, distinct_at, named_at, projected_at}
use Rattle.bye_tree.proofs.gathers.selected.Goals as goal

pub returns-in-Err-clause-cause : goal.returns-in-Err-clause-cause
returns-in-Err-clause-cause c =
    subst (λ (e : GatherErr). IsCause (written c.args.distinct (option_map (λ vs. vs.items) c.args.vars) (elements_of c.args.elements.now)) e) (sym c.of_shape.ensures)
    (broken_at c.in-Err.error (written c.args.distinct (option_map (λ vs. vs.items) c.args.vars) (elements_of c.args.elements.now)) (elements_of c.args.elements.now) refl c.in-Err.ensures.broken)

pub returns-in_default-clause-ok : goal.returns-in_default-clause-ok
returns-in_default-clause-ok c =
    all_at c.args.distinct (option_map (λ vs. vs.items) c.args.vars) (elements_of c.args.elements.now) c.in_ok-to_vars.field-0.items (ap (option_map (λ vs. vs.items)) c.in_default.is) c.in-Ok.ensures.designed (c.in_ok-to_vars.ensures ∙ c.in-Ok.ensures.names)

pub returns-then-distinct-clause-ok : goal.returns-then-distinct-clause-ok
returns-then-distinct-clause-ok c = distinct_at c.args.distinct (option_map (λ vs. vs.items) c.args.vars) (elements_of c.args.elements.now) c.in-Some.vars.items c.if-distinct.true (ap (option_map (λ vs. vs.items)) c.in-Some.is) c.in-Ok.ensures.designed

pub returns-then-branch-clause-cause : goal.returns-then-branch-clause-cause
returns-then-branch-clause-cause c =
    projected_at c.args.distinct (option_map (λ vs. vs.items) c.args.vars) (elements_of c.args.elements.now) c.in-Some.vars.items c.as_slice.result.now c.in-Ok.names c.in_ok-lacks_some.field-0 c.if-distinct.false (ap (option_map (λ vs. vs.items)) c.in-Some.is)
    c.in-Ok.ensures.designed c.in-Ok.ensures.names c.as_slice.ensures.value c.in_ok-lacks_some.ensures c.if-branch.true

pub returns-clause-ok : goal.returns-clause-ok
returns-clause-ok c =
    named_at c.args.distinct (option_map (λ vs. vs.items) c.args.vars) (elements_of c.args.elements.now) c.in-Some.vars.items c.as_slice.result.now c.in-Ok.names c.in_ok-lacks_some.field-0 c.if-distinct.false (ap (option_map (λ vs. vs.items)) c.in-Some.is)
    c.in-Ok.ensures.designed c.in-Ok.ensures.names c.as_slice.ensures.value c.in_ok-lacks_some.ensures c.if-branch.false
