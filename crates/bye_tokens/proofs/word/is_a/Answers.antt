use Rattle.std.proofs.Common.{refl}
use Rattle.bye_tokens.proofs.Letters.{is_text}
use Rattle.bye_tokens.proofs.word.is_a.Goals as goal

pub returns : goal.returns
returns c = is_text _ _ _ c.utf8.text refl c.eq.ensures
