use Rattle.std.proofs.Common.{refl, sym, ◌∙◌, ap, codes}
use Rattle.bye_terms.specs.Spellings.{term_bytes}
use Rattle.bye_terms.specs.declared.term.Term.TheVariants.{Iri}
use Rattle.bye_terms.proofs.Escapes.{between}
use Rattle.bye_terms.proofs.term.Term.spelling.Goals as goal

pub returns-in-Iri : goal.returns-in-Iri
returns-in-Iri c =
    c.unescaped.ensures ∙ sym (between (codes "<") c.text.result.now (codes ">") refl refl) ∙ ap term_bytes (ap Iri c.text.ensures.text ∙ sym c.in-Iri.is)
