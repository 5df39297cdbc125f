-- Literals (RDF 1.1 Concepts, section 3.3).
use Rattle.std.specs.Prelude.{ℕ, Bool, List, Option, codes}
use Rattle.std.specs.Str.{bytes_eq}

-- a literal: its lexical form, the IRI of its datatype, and its language tag
pub record LiteralValue : Type 0 where
  pub lexical : List ℕ
  pub datatype : List ℕ
  pub tag : Option (List ℕ)

-- rdf:langString
abbrev pub lang_string : List ℕ
lang_string = codes "http://www.w3.org/1999/02/22-rdf-syntax-ns#langString"

-- xsd:string
abbrev pub xsd_string : List ℕ
xsd_string = codes "http://www.w3.org/2001/XMLSchema#string"

-- whether the datatype is rdf:langString
abbrev pub is_lang_string : List ℕ → Bool
is_lang_string datatype = bytes_eq datatype lang_string

-- whether the datatype is xsd:string
abbrev pub is_xsd_string : List ℕ → Bool
is_xsd_string datatype = bytes_eq datatype xsd_string
