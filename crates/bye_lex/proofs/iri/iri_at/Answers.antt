use Rattle.std.proofs.Common.{subst}
use Rattle.bye_lex.specs.Answers.{Reads}
use Rattle.bye_lex.specs.Iris.{IriToken}
use Rattle.bye_lex.proofs.IriReads.{iri_reads}
use Rattle.bye_lex.proofs.iri.iri_at.Goals as goal

pub returns : goal.returns
returns c = subst (λ t. Reads (IriToken c.args.style) t c.args.from c.read_token.result) c.cursor_at.ensures.text (iri_reads _ _ _ _ _ c.cursor_at.ensures.within c.read_token.ensures)
