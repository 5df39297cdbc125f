use Rattle.bye_words.proofs.Loops.{tells}
use Rattle.bye_words.proofs.settings.Settings.has.Goals as goal

pub returns : goal.returns
returns c = tells c.value.result (λ v. v.now) c.args.self.now _ c.is_some.result c.value.ensures c.is_some.ensures
