use Rattle.std.proofs.Common.{◌++◌, sym, ◌∙◌, ap, append_assoc}
use Rattle.std.specs.Str.{chars}
use Rattle.bye_tokens.specs.Names as spec
use Rattle.bye_tokens.proofs.Escapes.{unescaped_at, until_shorter}
use Rattle.bye_tokens.proofs.escape.unescaped.Goals as goal

pub loop-piece-smaller : goal.loop-piece-smaller
loop-piece-smaller c = until_shorter _ _ (sym c.in-Some.ensures.parts)

pub loop-piece-preserved : goal.loop-piece-preserved
loop-piece-preserved c =
    ap (λ t. t ++ spec.unescaped c.until.new.self) c.in_ok-push_str.ensures.ok
    ∙ append_assoc c.loop-piece.text (chars c.in-Some.piece.now) (spec.unescaped c.until.new.self)
    ∙ ap (λ t. c.loop-piece.text ++ t) (sym (unescaped_at c.loop-piece.rest _ (sym c.in-Some.ensures.parts)))
    ∙ c.loop-piece.invariant
