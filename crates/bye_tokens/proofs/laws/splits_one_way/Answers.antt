use Rattle.bye_tokens.proofs.SplitExact.{one_way}
use Rattle.bye_tokens.proofs.laws.splits_one_way.Goals as goal

pub returns : goal.returns
returns c = one_way
