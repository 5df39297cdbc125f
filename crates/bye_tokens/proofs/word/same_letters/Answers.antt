use Rattle.bye_tokens.proofs.Letters.{same_text}
use Rattle.bye_tokens.proofs.word.same_letters.Goals as goal

pub returns : goal.returns
returns c = same_text _ _ _ c.utf8.text c.requires c.eq_ignore_ascii_case.ensures.test
