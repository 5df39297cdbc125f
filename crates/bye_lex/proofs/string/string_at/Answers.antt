use Rattle.std.proofs.Common.{subst}
use Rattle.bye_lex.specs.Answers.{Reads}
use Rattle.bye_lex.specs.Strings.{StringToken}
use Rattle.bye_lex.proofs.StringReads.{string_reads}
use Rattle.bye_lex.proofs.string.string_at.Goals as goal

pub returns : goal.returns
returns c = subst (λ t. Reads (StringToken c.args.style) t c.args.from c.read_token.result) c.cursor_at.ensures.text (string_reads _ _ _ _ _ c.cursor_at.ensures.within c.read_token.ensures)
