-- The terms of RDF (RDF 1.1 Concepts, section 3).
use Rattle.std.specs.Prelude.{◌≡◌, true, ℕ, List, Option, Some, None}
use Rattle.std.specs.Str.{all_scalars}
use Rattle.bye_terms.specs.Literals.{lang_string}
use Rattle.bye_terms.specs.Names.{is_iri, is_label, is_tag}
use Rattle.bye_terms.specs.Spellings.{term_text}
use Rattle.bye_terms.specs.declared.term.Term.{Term}
use Rattle.bye_terms.specs.declared.term.Term.TheVariants.{Iri, Blank, Lit}

-- a literal has a language tag exactly where its datatype is rdf:langString (section 3.3)
abbrev pub IsTagged : Option (List ℕ) → List ℕ → Type 0
IsTagged (Some tag) datatype = (is_tag tag ≡ true) × (datatype ≡ lang_string)
IsTagged None datatype = (is_iri datatype ≡ true) × (datatype ≡ lang_string → ⊥)

-- an absolute IRI, the label of a blank node, or a literal
abbrev pub IsTerm : Term → Type 0
IsTerm (Iri iri) = is_iri iri ≡ true
IsTerm (Blank label) = is_label label ≡ true
IsTerm (Lit literal) = IsTagged literal.tag literal.datatype

-- a term of RDF, whose texts are Unicode strings: each of their characters is a scalar value
pub record IsRdfTerm (term : Term) : Type 0 where
  pub is : IsTerm term
  pub scalars : all_scalars (term_text term) ≡ true
