use Rattle.std.proofs.Common.{Result, Ok, Err}
use Rattle.std.specs.Result.{IfOk}
use Rattle.bye_pattern.proofs.Covered.{strongest}
use Rattle.bye_pattern.proofs.learner.strongest.Goals as goal

joined : {T E : Type 0} (r : Result T E) (P Q R S : T → Type 0) → ((x : T) → P x → Q x → R x → S x) → IfOk r P → IfOk r Q → IfOk r R → IfOk r S
joined (Ok x) P Q R S f p q r = f x p q r
joined (Err e) P Q R S f p q r = tt

pub returns : goal.returns
returns c =
    joined c.in_trial_order.result _ _ _ _
    (λ v same once sorted vars triples bound here. strongest c.args.graph.now vars c.args.rows.now c.args.first.now c.in_ok-kept.kept.items v.items triples bound here c.in_ok-kept.ensures.no_repeat
    c.in_ok-kept.ensures.common same once sorted)
    c.in_trial_order.ensures.same c.in_trial_order.ensures.once c.in_trial_order.ensures.sorted
