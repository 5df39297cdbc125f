use Rattle.std.proofs.Common.{rules, ◌≡◌, Some, sym, ◌∙◌}
use Rattle.bye_tokens.specs.Left.{first_in}
use Rattle.bye_descent.specs.KindViews.{seen}
use Rattle.bye_descent.proofs.Numbers.{kind_number, not_taken}
use Rattle.bye_descent.proofs.left.Left.take.Goals as goal

pub returns : goal.returns
returns c =
    let next : first_in c.args.self.now ≡ Some c.in-Some.token.now = search rules in
    not_taken (seen c.args.kind) c.args.self.now c.in-Some.token.now next (λ e. c.if-kind-number.false (c.kind.ensures ∙ kind_number c.in-Some.token.now ∙ e ∙ sym c.number.ensures))
