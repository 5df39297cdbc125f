-- The written spelling of a term (RDF 1.1 N-Triples, section 4, whose short form of xsd:string SPARQL 1.1 Query takes too;
-- SPARQL 1.1 Query Results CSV and TSV Formats, section 4, where a tab is escaped as well).
use Rattle.std.specs.Prelude.{◌≡◌, ℕ, cond, ◌==◌, List, ◌++◌, codes}
use Rattle.std.specs.List.{flat_map}
use Rattle.bye_terms.specs.Literals.{LiteralValue}
use Rattle.bye_terms.specs.Spellings.{escaped_char, suffix_text, term_text}
use Rattle.bye_terms.specs.declared.term.Term.{Term}
use Rattle.bye_terms.specs.declared.term.Term.TheVariants.{Iri, Blank, Lit}
use Rattle.bye_lex.specs.declared.style.Style.{Style}
use Rattle.bye_lex.specs.declared.style.Style.TheVariants.{Triples, Tsv, Query}

-- a character within quotes: as N-Triples writes it, but for the tab, which TSV escapes
abbrev pub escaped_in : Style → ℕ → List ℕ
escaped_in Triples c = escaped_char c
escaped_in Tsv c = cond (c == 9) (codes "\\t") (escaped_char c)
escaped_in Query c = escaped_char c

-- a literal: its lexical form in quotes, and then its tag, or its datatype but for xsd:string
abbrev pub written_literal : Style → LiteralValue → List ℕ
written_literal style literal = codes "\"" ++ flat_map (escaped_in style) literal.lexical ++ codes "\"" ++ suffix_text literal.tag literal.datatype

-- an IRI in its brackets, a blank node's label after `_:`, or a literal
abbrev pub written : Style → Term → List ℕ
written style (Iri text) = codes "<" ++ text ++ codes ">"
written style (Blank label) = codes "_:" ++ label
written style (Lit literal) = written_literal style literal

-- N-Triples and queries write a term as the order of terms has it
abbrev pub WrittenAsOrdered : Type 0
WrittenAsOrdered = (t : Term) → (written Triples t ≡ term_text t) × (written Query t ≡ term_text t)
