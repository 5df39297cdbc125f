use Rattle.std.proofs.Common.{◌∙◌, ap}
use Rattle.std.specs.Str.{chars}
use Rattle.std.proofs.lemmas.Str.{chars-encodes}
use Rattle.bye_words.proofs.Loops.{twice, not_twice}
use Rattle.bye_words.proofs.settings.Settings.is_each_once.Goals as goal

pub returns-then-has : goal.returns-then-has
returns-then-has c =
    let same = ap chars c.as_str.ensures.text ∙ chars-encodes c.in-Some.name.now c.as_str.ensures.scalars in
    (λ h. cc, λ once. absurd (twice _ _ _ _ _ _ c.loop-name.invariant c.in-Some.ensures same (c.has.ensures.0 c.if-has.true) once))

pub loop-name-preserved : goal.loop-name-preserved
loop-name-preserved c =
    let same = ap chars c.as_str.ensures.text ∙ chars-encodes c.in-Some.name.now c.as_str.ensures.scalars in
    not_twice _ _ _ _ _ _ c.loop-name.invariant c.in-Some.ensures same (λ k. let t = c.has.ensures.1 k in cc)
