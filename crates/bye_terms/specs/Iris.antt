-- Terms that are IRIs.
use Rattle.std.specs.Prelude.{◌≡◌, true}
use Rattle.bye_terms.specs.Names.{is_iri}
use Rattle.bye_terms.specs.declared.term.Term.{Term}
use Rattle.bye_terms.specs.declared.term.Term.TheVariants.{Iri, Blank, Lit}

-- the term is an absolute IRI
abbrev pub IsIri : Term → Type 0
IsIri (Iri text) = is_iri text ≡ true
IsIri (Blank label) = ⊥
IsIri (Lit literal) = ⊥
