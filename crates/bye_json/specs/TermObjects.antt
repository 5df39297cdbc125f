-- Objects that stand for terms (SPARQL 1.1 Query Results JSON Format, section 3.2.2, "Encoding RDF terms").
use Rattle.std.specs.Prelude.{ℕ, ◌+◌, ◌==◌, cond, List, codes, Option, Some, None, option_map}
use Rattle.std.specs.Str.{bytes_eq, chars}
use Rattle.serde_json.specs.Data.{Data}
use Rattle.serde_json.specs.Find.{as_object, as_str, get}
use Rattle.bye_terms.specs.Literals.{is_lang_string, lang_string, xsd_string}
use Rattle.bye_terms.specs.Names.{is_iri, is_label, is_tag}
use Rattle.bye_terms.specs.Reading.{◌>>=◌}
use Rattle.bye_terms.specs.declared.term.Term.{Term}
use Rattle.bye_terms.specs.declared.term.Term.TheVariants.{Iri, Blank, Lit}
use Rattle.bye_json.specs.Trees.{count}

-- the strings of a term object
pub record Strings : Type 0 where
  pub kind : List ℕ
  pub value : List ℕ
  pub datatype : Option (List ℕ)
  pub language : Option (List ℕ)

-- the string of a member
abbrev pub text_at : List ℕ → Data → Option (List ℕ)
text_at name d = get name d >>= as_str

-- a member that may be missing; nothing where it is there and no string
abbrev pub if_there : Option Data → Option (Option (List ℕ))
if_there None = Some None
if_there (Some d) = option_map (λ s. Some s) (as_str d)

-- one member, where it is there
abbrev pub one_if : Option (List ℕ) → ℕ
one_if None = 0
one_if (Some s) = 1

-- the strings, where the object has as many members and no more
abbrev pub none_besides : Data → Strings → Option Strings
none_besides d s = as_object d >>= (λ ms. cond (count ms == 2 + one_if s.datatype + one_if s.language) (Some s) None)

-- the members of a term object: `type` and `value`, and maybe `datatype` and `xml:lang`, all strings, and no others
unfoldable pub strings_of : Data → Option Strings
strings_of d = do
  kind ← text_at (codes "type") d
  value ← text_at (codes "value") d
  datatype ← if_there (get (codes "datatype") d)
  language ← if_there (get (codes "xml:lang") d)
  none_besides d (record { kind = kind; value = value; datatype = datatype; language = language })

-- a string of this datatype, which is an IRI and not rdf:langString
abbrev pub typed : List ℕ → List ℕ → Option Term
typed value datatype =
    cond (is_iri datatype) (cond (is_lang_string datatype) None (Some (Lit (record { lexical = value; datatype = datatype; tag = None })))) None

-- a string with this language tag
abbrev pub tagged : List ℕ → List ℕ → Option Term
tagged value language = cond (is_tag language) (Some (Lit (record { lexical = value; datatype = lang_string; tag = Some language }))) None

-- a string without either
abbrev pub string : List ℕ → Term
string value = Lit (record { lexical = value; datatype = xsd_string; tag = None })

-- the text, where it is a term of the kind
abbrev pub as_uri : List ℕ → Option Term
as_uri text = cond (is_iri text) (Some (Iri text)) None

abbrev pub as_bnode : List ℕ → Option Term
as_bnode text = cond (is_label text) (Some (Blank text)) None

-- the other members, by the type: with uri and bnode there are none
abbrev pub if_alone : Option (List ℕ) → Option (List ℕ) → Option Term → Option Term
if_alone None None term = term
if_alone None (Some language) term = None
if_alone (Some datatype) language term = None

-- with literal one of them may be there, and both only with rdf:langString
abbrev pub by_both : List ℕ → Option (List ℕ) → Option (List ℕ) → Option Term
by_both value None None = Some (string value)
by_both value None (Some language) = tagged value (chars language)
by_both value (Some datatype) None = typed value (chars datatype)
by_both value (Some datatype) (Some language) = cond (is_lang_string (chars datatype)) (tagged value (chars language)) None

-- with typed-literal there is a datatype
abbrev pub by_datatype : List ℕ → Option (List ℕ) → Option (List ℕ) → Option Term
by_datatype value (Some datatype) None = typed value (chars datatype)
by_datatype value (Some datatype) (Some language) = None
by_datatype value None language = None

-- type uri: an IRI
abbrev pub of_uri : Strings → Option Term
of_uri s = if_alone s.datatype s.language (as_uri (chars s.value))

-- type bnode: a label without its `_:`
abbrev pub of_bnode : Strings → Option Term
of_bnode s = if_alone s.datatype s.language (as_bnode (chars s.value))

-- type literal: any text
abbrev pub of_literal : Strings → Option Term
of_literal s = by_both (chars s.value) s.datatype s.language

-- type typed-literal: any text
abbrev pub of_typed : Strings → Option Term
of_typed s = by_datatype (chars s.value) s.datatype s.language

-- the term of these strings, by their type
abbrev pub term_of : Strings → Option Term
term_of s =
    cond (bytes_eq s.kind (codes "uri")) (of_uri s) (cond (bytes_eq s.kind (codes "bnode")) (of_bnode s)
    (cond (bytes_eq s.kind (codes "literal")) (of_literal s) (cond (bytes_eq s.kind (codes "typed-literal")) (of_typed s) None)))

-- the term that a value stands for, where it is a term object
unfoldable pub term_at : Data → Option Term
term_at d = strings_of d >>= term_of
