-- Fields of a table document (SPARQL 1.1 Query Results CSV and TSV Formats, section 4): a term in the syntax of SPARQL and Turtle,
-- without prefixed names and long strings, or nothing.
use Rattle.std.specs.Prelude.{◌≡◌, ℕ, Bool, true, false, List, [], ◌∷◌, ◌++◌, Option, Some, None, ◌⊎◌, codes}
use Rattle.bye_terms.specs.Literals.{is_lang_string, lang_string, xsd_string}
use Rattle.bye_terms.specs.declared.term.Term.{Term}
use Rattle.bye_terms.specs.declared.term.Term.TheVariants.{Iri, Blank, Lit}
use Rattle.bye_lex.specs.Iris.{IriToken}
use Rattle.bye_lex.specs.Marks.{LabelToken, TagToken}
use Rattle.bye_lex.specs.Numbers.{is_number}
use Rattle.bye_lex.specs.Strings.{StringToken}
use Rattle.bye_lex.specs.declared.number.Number.{Number}
use Rattle.bye_lex.specs.declared.style.Style.TheVariants.{Tsv}
use Rattle.bye_tsv.specs.Numbers.{number_of}

-- a string without tag and datatype is an xsd:string
abbrev pub string_of : List ℕ → Term
string_of lexical = Lit (record { lexical = lexical; datatype = xsd_string; tag = None })

-- one with a tag is a rdf:langString
abbrev pub tagged_of : List ℕ → List ℕ → Term
tagged_of lexical tag = Lit (record { lexical = lexical; datatype = lang_string; tag = Some tag })

abbrev pub typed_of : List ℕ → List ℕ → Term
typed_of lexical datatype = Lit (record { lexical = lexical; datatype = datatype; tag = None })

-- the two words, and the xsd:boolean of each
abbrev pub word_of : Bool → List ℕ
word_of true = codes "true"
word_of false = codes "false"

abbrev pub xsd_boolean : List ℕ
xsd_boolean = codes "http://www.w3.org/2001/XMLSchema#boolean"

abbrev pub boolean_of : Bool → Term
boolean_of value = typed_of (word_of value) xsd_boolean

-- the tag of a string
pub record Tagged (lexical text : List ℕ) (term : Term) : Type 0 where
  pub tag : List ℕ
  pub token : TagToken text tag
  pub is : term ≡ tagged_of lexical tag

-- the datatype of a string, after its marks `^^`; it is rdf:langString nowhere, since such a literal has a tag
pub record Typed (lexical text : List ℕ) (term : Term) : Type 0 where
  pub own : List ℕ
  pub datatype : List ℕ
  pub token : IriToken Tsv own datatype
  pub untagged : is_lang_string datatype ≡ false
  pub spelled : text ≡ 94 ∷ 94 ∷ own
  pub is : term ≡ typed_of lexical datatype

-- what may stand after a string: nothing, a tag, or a datatype
abbrev pub Suffix : List ℕ → List ℕ → Term → Type 0
Suffix lexical text term = ((text ≡ []) × (term ≡ string_of lexical)) ⊎ (Tagged lexical text term ⊎ Typed lexical text term)

pub record IriTerm (text : List ℕ) (term : Term) : Type 0 where
  pub value : List ℕ
  pub token : IriToken Tsv text value
  pub is : term ≡ Iri value

pub record LabelTerm (text : List ℕ) (term : Term) : Type 0 where
  pub value : List ℕ
  pub token : LabelToken text value
  pub is : term ≡ Blank value

-- a string in either quote, and what stands after it
pub record StringTerm (text : List ℕ) (term : Term) : Type 0 where
  pub own : List ℕ
  pub lexical : List ℕ
  pub rest : List ℕ
  pub token : StringToken Tsv own lexical
  pub suffix : Suffix lexical rest term
  pub spelled : text ≡ own ++ rest

pub record NumberTerm (text : List ℕ) (term : Term) : Type 0 where
  pub kind : Number
  pub token : is_number kind text ≡ true
  pub is : term ≡ number_of kind text

pub record WordTerm (text : List ℕ) (term : Term) : Type 0 where
  pub value : Bool
  pub token : text ≡ word_of value
  pub is : term ≡ boolean_of value

-- the text is one term: an IRI, a label, a string, a number or a boolean
abbrev pub TermText : List ℕ → Term → Type 0
TermText text term = IriTerm text term ⊎ (LabelTerm text term ⊎ (StringTerm text term ⊎ (NumberTerm text term ⊎ WordTerm text term)))

pub record Filled (text : List ℕ) (cell : Option Term) : Type 0 where
  pub term : Term
  pub spells : TermText text term
  pub is : cell ≡ Some term

-- a field, and what stands in its cell: nothing where it is empty, and else its term
abbrev pub Field : List ℕ → Option Term → Type 0
Field text cell = ((text ≡ []) × (cell ≡ None)) ⊎ Filled text cell
