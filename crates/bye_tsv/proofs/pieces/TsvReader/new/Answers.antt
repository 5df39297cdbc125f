use Rattle.std.proofs.Common.{[], sym, subst}
use Rattle.bye_tsv.specs.Feeding.{HasCome, IsLed}
use Rattle.bye_tsv.specs.Reading.{ReadingAt}
use Rattle.bye_tsv.proofs.Feeds.{begins}
use Rattle.bye_tsv.proofs.Kept.{led_first}
use Rattle.bye_tsv.proofs.pieces.TsvReader.new.Goals as goal

pub returns-clause-came : goal.returns-clause-came
returns-clause-came c = subst (λ (r : ReadingAt). HasCome c.args.bounds [] r) (sym c.new.ensures) (begins c.args.bounds)

pub invariant_of-result : goal.invariant_of-result
invariant_of-result c = subst (λ (r : ReadingAt). IsLed c.args.bounds r) (sym c.new.ensures) (led_first c.args.bounds)
