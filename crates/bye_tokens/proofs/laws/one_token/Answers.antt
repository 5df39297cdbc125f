use Rattle.bye_tokens.proofs.FoundExact.{one_lexeme}
use Rattle.bye_tokens.proofs.laws.one_token.Goals as goal

pub returns : goal.returns
returns c = one_lexeme
