-- The literals that numbers are short for (SPARQL 1.1 Query Results CSV and TSV Formats, section 4; SPARQL 1.1 Query, section
-- 4.1.2).
use Rattle.std.specs.Prelude.{List, ℕ, None, codes}
use Rattle.bye_terms.specs.declared.term.Term.{Term}
use Rattle.bye_terms.specs.declared.term.Term.TheVariants.{Lit}
use Rattle.bye_lex.specs.declared.number.Number.{Number}
use Rattle.bye_lex.specs.declared.number.Number.TheVariants.{Integer, Decimal, Double}

-- xsd:integer, xsd:decimal and xsd:double
abbrev pub datatype_of : Number → List ℕ
datatype_of Integer = codes "http://www.w3.org/2001/XMLSchema#integer"
datatype_of Decimal = codes "http://www.w3.org/2001/XMLSchema#decimal"
datatype_of Double = codes "http://www.w3.org/2001/XMLSchema#double"

-- the literal of a number, which keeps its spelling
abbrev pub number_of : Number → List ℕ → Term
number_of kind text = Lit (record { lexical = text; datatype = datatype_of kind; tag = None })
