-- Terms and triples (RDF 1.1 Concepts, section 3) as plain data. A text is the list of its characters.
-- Two terms are the same where all their parts are equal character by character, that is, where they are equal here.
use Rattle.std.specs.Prelude.{◌≡◌, Bool, true, false}
use Rattle.bye_terms.specs.declared.term.Term.{Term}
use Rattle.bye_terms.specs.declared.term.Term.TheVariants.{Iri, Blank, Lit}

-- a triple
pub record Statement : Type 0 where
  pub s : Term
  pub p : Term
  pub o : Term

-- whether the term is an IRI
abbrev pub is_iri_term : Term → Bool
is_iri_term (Iri text) = true
is_iri_term (Blank label) = false
is_iri_term (Lit literal) = false

-- whether the term is a blank node
abbrev pub is_blank : Term → Bool
is_blank (Iri text) = false
is_blank (Blank label) = true
is_blank (Lit literal) = false

-- an IRI or a blank node may be a subject
abbrev pub is_subject : Term → Bool
is_subject (Iri text) = true
is_subject (Blank label) = true
is_subject (Lit literal) = false

-- its subject is no literal, and its predicate is an IRI
abbrev pub IsTriple : Statement → Type 0
IsTriple f = (is_subject f.s ≡ true) × (is_iri_term f.p ≡ true)
