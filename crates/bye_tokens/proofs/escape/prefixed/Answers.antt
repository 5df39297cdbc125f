use Rattle.std.proofs.Common.{◌≡◌, ℕ, List, None, sym, ◌∙◌, ap}
use Rattle.std.specs.Str.{chars}
use Rattle.bye_terms.specs.Reading.{until_at}
use Rattle.bye_tokens.specs.Names as spec
use Rattle.bye_tokens.specs.declared.token.Token.TheVariants.{Prefixed}
use Rattle.bye_tokens.proofs.Runs.{until_uncut}
use Rattle.bye_tokens.proofs.escape.prefixed.Goals as goal

pub returns-in_default : goal.returns-in_default
returns-in_default c =
    let none : until_at 58 (chars c.args.text.now) ≡ None = ap (until_at 58) (sym c.new-rest.ensures) ∙ sym c.in_default.ensures.parts in
    let cut = until_uncut 58 (chars c.args.text.now) none in
    (λ i. Prefixed (c.in_ok-copy_of.ensures i) (c.new.ensures i)) ∙ sym (ap (λ (r : List ℕ × List ℕ). Prefixed r.0 (spec.unescaped r.1)) cut)
