-- What single tokens stand for, where they fit (SPARQL 1.1 Query, sections 4.1, 4.2 and 19.8). A test gives None where the token fits
-- nowhere in this place: an IRI reference without a scheme, a prefixed name whose prefix is not declared or that makes no such IRI.
use Rattle.std.specs.Prelude.{◌≡◌, ℕ, Bool, true, false, cond, ◌==◌, List, [], ◌∷◌, ◌++◌, Option, Some, None, codes}
use Rattle.std.specs.Str.{bytes_eq}
use Rattle.bye_terms.specs.Names.{is_iri}
use Rattle.bye_terms.specs.Literals.{lang_string, is_lang_string}
use Rattle.bye_terms.specs.declared.term.Term.TheVariants.{Iri, Lit}
use Rattle.bye_lex.specs.declared.number.Number.{Number}
use Rattle.bye_lex.specs.declared.number.Number.TheVariants as numbers
use Rattle.bye_pattern.specs.declared.slot.Slot.{Slot}
use Rattle.bye_pattern.specs.declared.slot.Slot.TheVariants.{Var, Const}
use Rattle.bye_pattern.specs.declared.kind.Kind.{Kind}
use Rattle.bye_pattern.specs.declared.kind.Kind.TheVariants as kinds
use Rattle.bye_table.specs.Mappings.{Name, is_in}
use Rattle.bye_tokens.specs.declared.token.Token.{Token}
use Rattle.bye_tokens.specs.declared.token.Token.TheVariants.{IriRef, Prefixed, Variable, Quoted, Tagged, Numeral, Keyword}
use Rattle.bye_tokens.specs.declared.word.Word.{Word}
use Rattle.bye_tokens.specs.declared.word.Word.TheVariants as words
use Rattle.bye_tokens.specs.declared.sign.Sign.{Sign}
use Rattle.bye_grammar.specs.declared.place.Place.{Place}
use Rattle.bye_grammar.specs.declared.place.Place.TheVariants.{Outer, Inner}
use Rattle.bye_grammar.specs.TokenKinds.{TokenKind, number, kind_of}
use Rattle.bye_grammar.specs.TokenKinds as kind_names

-- the characters of a text
abbrev pub Chars : Type 0
Chars = List ℕ

-- the prefixes declared so far with their IRIs, the last first
abbrev pub Prefixes : Type 0
Prefixes = List (Chars × Chars)

-- a token of this kind
abbrev pub fixed : TokenKind → Token → Option (Unit {0})
fixed k t = cond (number (kind_of t) == number k) (Some tt) None

-- this sign
abbrev pub is_sign : Sign → Token → Option (Unit {0})
is_sign sign = fixed (kind_names.Mark sign)

-- this word
abbrev pub is_word : Word → Token → Option (Unit {0})
is_word word = fixed (kind_names.Keyword word)

-- a sign that filters of the outermost group have, and those of an OPTIONAL's group have not
abbrev pub outer_sign : Place → Sign → Token → Option (Unit {0})
outer_sign Outer sign t = is_sign sign t
outer_sign Inner sign t = None

-- an IRI with a scheme
abbrev pub only_iri : Chars → Option Chars
only_iri text = cond (is_iri text) (Some text) None

-- this IRI, or the other
abbrev pub found : Bool → Chars → Option Chars → Option Chars
found true iri other = Some iri
found false iri other = other

-- the IRI of a prefix: the last that was declared
abbrev pub look : Prefixes → Chars → Option Chars
look [] prefix = None
look (e ∷ es) prefix = found (bytes_eq e.0 prefix) e.1 (look es prefix)

-- the IRI of a prefix followed by a local part
abbrev pub joined_iri : Option Chars → Chars → Option Chars
joined_iri None local = None
joined_iri (Some iri) local = only_iri (iri ++ local)

-- Iri = IriRef | prefixed name
abbrev pub iri : Prefixes → Token → Option Chars
iri prefixes (IriRef text) = only_iri text
iri prefixes (Prefixed prefix local) = joined_iri (look prefixes prefix) local
iri prefixes _ = None

-- IriRef
abbrev pub iri_reference : Token → Option Chars
iri_reference (IriRef text) = only_iri text
iri_reference _ = None

-- Prefix: a prefixed name without local part
abbrev pub prefix : Token → Option Chars
prefix (Prefixed name []) = Some name
prefix _ = None

-- Var
abbrev pub variable : Token → Option Name
variable (Variable v) = Some v
variable _ = None

-- Var, where none of these was it
abbrev pub new_variable : List Name → Token → Option Name
new_variable seen (Variable v) = cond (is_in seen v) None (Some v)
new_variable seen _ = None

-- String
abbrev pub string : Token → Option Chars
string (Quoted text) = Some text
string _ = None

-- Tag
abbrev pub tag : Token → Option Chars
tag (Tagged name) = Some name
tag _ = None

-- a place that is this IRI
abbrev pub iri_slot : Option Chars → Option Slot
iri_slot None = None
iri_slot (Some iri) = Some (Const (Iri iri))

-- a literal of a datatype (RDF 1.1 Concepts, section 3.3)
abbrev pub typed : Chars → Chars → Slot
typed lexical datatype = Const (Lit (record { lexical = lexical; datatype = datatype; tag = None }))

-- a literal with a language tag: its datatype is rdf:langString
abbrev pub tagged : Chars → Chars → Slot
tagged lexical tag = Const (Lit (record { lexical = lexical; datatype = lang_string; tag = Some tag }))

-- the datatype of a number
abbrev pub number_datatype : Number → Chars
number_datatype numbers.Integer = codes "http://www.w3.org/2001/XMLSchema#integer"
number_datatype numbers.Decimal = codes "http://www.w3.org/2001/XMLSchema#decimal"
number_datatype numbers.Double = codes "http://www.w3.org/2001/XMLSchema#double"

-- xsd:boolean
abbrev pub xsd_boolean : Chars
xsd_boolean = codes "http://www.w3.org/2001/XMLSchema#boolean"

-- rdf:type
abbrev pub rdf_type : Chars
rdf_type = codes "http://www.w3.org/1999/02/22-rdf-syntax-ns#type"

-- Var | Iri
abbrev pub subject : Prefixes → Token → Option Slot
subject prefixes (Variable v) = Some (Var v)
subject prefixes (IriRef text) = iri_slot (only_iri text)
subject prefixes (Prefixed prefix local) = iri_slot (joined_iri (look prefixes prefix) local)
subject prefixes _ = None

-- 'a' stands for rdf:type
abbrev pub type_word : Word → Option Slot
type_word words.A = Some (Const (Iri rdf_type))
type_word _ = None

-- Verb = Var | Iri | 'a'
abbrev pub verb : Prefixes → Token → Option Slot
verb prefixes (Keyword word) = type_word word
verb prefixes t = subject prefixes t

-- TRUE | FALSE, in lower case whatever case they are written in
abbrev pub boolean : Word → Option Slot
boolean words.True = Some (typed (codes "true") xsd_boolean)
boolean words.False = Some (typed (codes "false") xsd_boolean)
boolean _ = None

-- Var | Iri | Number | TRUE | FALSE; a number is its spelling
abbrev pub short_object : Prefixes → Token → Option Slot
short_object prefixes (Keyword word) = boolean word
short_object prefixes (Numeral number text) = Some (typed text (number_datatype number))
short_object prefixes t = subject prefixes t

-- Iri | Number | TRUE | FALSE
abbrev pub short_constant : Prefixes → Token → Option Slot
short_constant prefixes (Variable v) = None
short_constant prefixes t = short_object prefixes t

-- not rdf:langString, which no literal without a tag has
abbrev pub only_datatype : Option Chars → Option Chars
only_datatype None = None
only_datatype (Some iri) = cond (is_lang_string iri) None (Some iri)

-- an Iri that may be the datatype of a string
abbrev pub datatype : Prefixes → Token → Option Chars
datatype prefixes t = only_datatype (iri prefixes t)

-- what a word asks of a term
abbrev pub kind_word : Word → Option Kind
kind_word words.IsIri = Some kinds.Iri
kind_word words.IsUri = Some kinds.Iri
kind_word words.IsBlank = Some kinds.Blank
kind_word words.IsLiteral = Some kinds.Literal
kind_word _ = None

-- ISIRI | ISURI | ISBLANK | ISLITERAL
abbrev pub kind_test : Token → Option Kind
kind_test (Keyword word) = kind_word word
kind_test _ = None

-- an IRI reference with a scheme
abbrev pub IsIriReference : Token → Type 0
IsIriReference (IriRef text) = is_iri text ≡ true
IsIriReference _ = ⊥

-- an IRI reference with a scheme, and not of rdf:langString: it fits wherever any IRI reference does
abbrev pub IsPlainReference : Token → Type 0
IsPlainReference (IriRef text) = (is_iri text ≡ true) × (is_lang_string text ≡ false)
IsPlainReference _ = ⊥
