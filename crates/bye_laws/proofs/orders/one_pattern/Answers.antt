use Rattle.bye_laws.proofs.PatternLines.{pattern_one}
use Rattle.bye_laws.proofs.orders.one_pattern.Goals as goal

pub returns : goal.returns
returns c = pattern_one
