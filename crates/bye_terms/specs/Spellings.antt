-- The written spelling of terms in N-Triples (RDF 1.1 N-Triples, section 4, "Canonical Form", with the short form of xsd:string).
use Rattle.std.specs.Prelude.{ℕ, cond, ◌==◌, List, [], ◌∷◌, ◌++◌, Option, Some, None, codes}
use Rattle.std.specs.List.{flat_map}
use Rattle.std.specs.Str.{encode_utf8_all}
use Rattle.bye_terms.specs.Literals.{LiteralValue, is_xsd_string}
use Rattle.bye_terms.specs.declared.term.Term.{Term}
use Rattle.bye_terms.specs.declared.term.Term.TheVariants.{Iri, Blank, Lit}

-- a character within quotes: the quote, the backslash, LF and CR are escaped, all else stands raw
abbrev pub escaped_char : ℕ → List ℕ
escaped_char c = cond (c == 34) (codes "\\\"") (cond (c == 92) (codes "\\\\") (cond (c == 10) (codes "\\n") (cond (c == 13) (codes "\\r") (c ∷ []))))

-- a text within quotes
abbrev pub escaped : List ℕ → List ℕ
escaped text = flat_map escaped_char text

-- what follows a string's closing quote: its tag, or its datatype but for xsd:string
abbrev pub suffix_text : Option (List ℕ) → List ℕ → List ℕ
suffix_text (Some tag) datatype = codes "@" ++ tag
suffix_text None datatype = cond (is_xsd_string datatype) [] (codes "^^<" ++ datatype ++ codes ">")

-- a string in its quotes, with what follows them
abbrev pub literal_text : LiteralValue → List ℕ
literal_text literal = codes "\"" ++ escaped literal.lexical ++ codes "\"" ++ suffix_text literal.tag literal.datatype

-- an IRI in its brackets, a blank node's label after `_:`, or a literal
abbrev pub term_text : Term → List ℕ
term_text (Iri text) = codes "<" ++ text ++ codes ">"
term_text (Blank label) = codes "_:" ++ label
term_text (Lit literal) = literal_text literal

-- the spelling of a literal, in UTF-8
abbrev pub literal_bytes : LiteralValue → List ℕ
literal_bytes literal = encode_utf8_all (literal_text literal)

-- the spelling as it stands in a document, in UTF-8
abbrev pub term_bytes : Term → List ℕ
term_bytes term = encode_utf8_all (term_text term)
