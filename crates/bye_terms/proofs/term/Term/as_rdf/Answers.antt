use Rattle.std.proofs.Common.{subst, sym}
use Rattle.bye_terms.specs.Valid.{IsRdfTerm}
use Rattle.bye_terms.proofs.RdfTerms.{iri}
use Rattle.bye_terms.proofs.term.Term.as_rdf.Goals as goal

pub returns-in-Iri-clause-valid : goal.returns-in-Iri-clause-valid
returns-in-Iri-clause-valid c = subst IsRdfTerm (sym c.in-Iri.is) (iri _ c.text-text.ensures.scalars c.text-text.ensures.valid)
