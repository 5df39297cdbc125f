-- That what is written of a term reads back as the term.
use Rattle.std.specs.Prelude.{◌≡◌, ◌<◌, ℕ, List, [], ◌∷◌, ◌++◌, Option, Some, None, ◌⊎◌, length, codes}
use Rattle.std.specs.List.{flat_map}
use Rattle.bye_terms.specs.Literals.{LiteralValue, lang_string, xsd_string}
use Rattle.bye_terms.specs.Valid.{IsTerm}
use Rattle.bye_terms.specs.declared.term.Term.{Term}
use Rattle.bye_terms.specs.declared.term.Term.TheVariants.{Iri, Blank, Lit}
use Rattle.bye_lex.specs.Languages.{Token}
use Rattle.bye_lex.specs.Iris.{IriToken}
use Rattle.bye_lex.specs.Marks.{LabelToken, TagToken}
use Rattle.bye_lex.specs.Strings.{StringToken}
use Rattle.bye_lex.specs.Written.{escaped_in, written}
use Rattle.bye_lex.specs.declared.style.Style.{Style}

-- what follows makes no longer text of the rule
abbrev pub NotLonger : {V : Type 0} → (List ℕ → V → Type 0) → List ℕ → List ℕ → Type 0
NotLonger {V} L text rest = (more after : List ℕ) (other : V) → rest ≡ more ++ after → 0 < length more → L (text ++ more) other → ⊥

-- what follows the string of a literal: the tag of a rdf:langString, or a datatype, which xsd:string leaves out
pub record DatatypeText (style : Style) (suffix rest datatype : List ℕ) : Type 0 where
  pub iri : List ℕ
  pub parts : suffix ≡ 94 ∷ 94 ∷ iri
  pub is : Token (IriToken style) iri rest datatype

abbrev pub SuffixText : Style → List ℕ → List ℕ → Option (List ℕ) → List ℕ → Type 0
SuffixText style suffix rest (Some tag) datatype = Token TagToken suffix rest tag × (datatype ≡ lang_string)
SuffixText style suffix rest None datatype = ((suffix ≡ []) × (datatype ≡ xsd_string)) ⊎ DatatypeText style suffix rest datatype

-- the text is the tokens of the literal, where the rest follows
pub record LiteralText (style : Style) (text rest : List ℕ) (literal : LiteralValue) : Type 0 where
  pub string : List ℕ
  pub suffix : List ℕ
  pub parts : text ≡ string ++ suffix
  pub is : Token (StringToken style) string (suffix ++ rest) literal.lexical
  pub after : SuffixText style suffix rest literal.tag literal.datatype

-- the text is the tokens of the term, where the rest follows
abbrev pub TermText : Style → List ℕ → List ℕ → Term → Type 0
TermText style text rest (Iri iri) = Token (IriToken style) text rest iri
TermText style text rest (Blank label) = Token LabelToken text rest label
TermText style text rest (Lit literal) = LiteralText style text rest literal

-- what is written of a string, in its quotes
abbrev pub quoted : Style → List ℕ → List ℕ
quoted style text = codes "\"" ++ flat_map (escaped_in style) text ++ codes "\""

-- what follows does not make the last token of the written term longer; an IRI it never does
abbrev pub EndsLiteral : Style → List ℕ → Option (List ℕ) → List ℕ → List ℕ → Type 0
EndsLiteral style lexical (Some tag) datatype rest = NotLonger TagToken (codes "@" ++ tag) rest
EndsLiteral style lexical None datatype rest = datatype ≡ xsd_string → NotLonger (StringToken style) (quoted style lexical) rest

abbrev pub EndsThere : Style → Term → List ℕ → Type 0
EndsThere style (Iri iri) rest = Unit {0}
EndsThere style (Blank label) rest = NotLonger LabelToken (codes "_:" ++ label) rest
EndsThere style (Lit literal) rest = EndsLiteral style literal.lexical literal.tag literal.datatype rest

-- what is written of a term is its tokens
abbrev pub ReadsBack : Type 0
ReadsBack = (style : Style) (t : Term) (rest : List ℕ) → IsTerm t → EndsThere style t rest → TermText style (written style t) rest t

-- and the tokens of one term alone
abbrev pub OneTerm : Type 0
OneTerm = (style : Style) (text rest : List ℕ) (t other : Term) → TermText style text rest t → TermText style text rest other → t ≡ other
