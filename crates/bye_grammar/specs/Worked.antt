-- Documents worked out token by token: what they are read as, and where they go wrong.
use Rattle.std.specs.Prelude.{◌≡◌, ℕ, false, List, [], ◌∷◌, ◌++◌, Some, map, codes}
use Rattle.bye_terms.specs.declared.term.Term.TheVariants.{Iri}
use Rattle.bye_lex.specs.declared.number.Number.TheVariants as numbers
use Rattle.bye_pattern.specs.declared.slot.Slot.{Slot}
use Rattle.bye_pattern.specs.declared.slot.Slot.TheVariants.{Var, Const}
use Rattle.bye_pattern.specs.declared.kind.Kind.TheVariants as kinds
use Rattle.bye_pattern.specs.Conditions.{IsBound, KindOf, Same, Not, And, Or}
use Rattle.bye_pattern.specs.Written.{Block, Optional, Filter, group_of, Written}
use Rattle.bye_tokens.specs.declared.token.Placed.{Placed}
use Rattle.bye_tokens.specs.declared.token.Token.{Token}
use Rattle.bye_tokens.specs.declared.token.Token.TheVariants.{IriRef, Prefixed, Variable, Quoted, Tagged, Numeral, Keyword, Mark}
use Rattle.bye_tokens.specs.declared.word.Word.TheVariants as words
use Rattle.bye_tokens.specs.declared.sign.Sign.TheVariants as signs
use Rattle.bye_parts.specs.Readers.{Outcome, Got, Wrong, Deep, to_end}
use Rattle.bye_grammar.specs.Fits.{Chars, rdf_type, typed, tagged, number_datatype}
use Rattle.bye_grammar.specs.Values.{pattern}
use Rattle.bye_grammar.specs.Reading.{read_document}

-- the tokens, wherever they stand
abbrev pub placed : List Token → List Placed
placed ts = map (λ t. record { place = 0; token = t }) ts

-- what n brackets in one another leave of the tokens, read to their end
abbrev pub read_all : ℕ → List Token → Outcome Placed Written
read_all n ts = to_end (read_document n (placed ts))

-- http://a/
abbrev space : Chars
space = codes "http://a/"

-- an IRI of that space
abbrev named : Chars → Slot
named local = Const (Iri (space ++ local))

-- PREFIX p: <http://a/> SELECT ?s
abbrev head : List Token
head = Keyword words.Prefix ∷ Prefixed (codes "p") [] ∷ IriRef space ∷ Keyword words.Select ∷ Variable (codes "s") ∷ []

-- { ?s a p:C ; p:n 1 , 'v'@en . OPTIONAL { ?s p:m ?o FILTER ( bound(?o) && isIRI(?o) ) } FILTER ( ! bound(?o) || sameTerm(?s, ?o) ) }
abbrev braces : List Token
braces =
    Mark signs.OpenGroup ∷ Variable (codes "s") ∷ Keyword words.A ∷ Prefixed (codes "p") (codes "C") ∷ Mark signs.Semicolon ∷ Prefixed (codes "p") (codes "n")
    ∷ Numeral numbers.Integer (codes "1") ∷ Mark signs.Comma ∷ Quoted (codes "v") ∷ Tagged (codes "en") ∷ Mark signs.Dot
    ∷ Keyword words.Optional ∷ Mark signs.OpenGroup ∷ Variable (codes "s") ∷ Prefixed (codes "p") (codes "m") ∷ Variable (codes "o")
    ∷ Keyword words.Filter ∷ Mark signs.Open ∷ Keyword words.Bound ∷ Mark signs.Open ∷ Variable (codes "o") ∷ Mark signs.Close ∷ Mark signs.And
    ∷ Keyword words.IsIri ∷ Mark signs.Open ∷ Variable (codes "o") ∷ Mark signs.Close ∷ Mark signs.Close ∷ Mark signs.CloseGroup
    ∷ Keyword words.Filter ∷ Mark signs.Open ∷ Mark signs.Bang ∷ Keyword words.Bound ∷ Mark signs.Open ∷ Variable (codes "o") ∷ Mark signs.Close ∷ Mark signs.Or
    ∷ Keyword words.SameTerm ∷ Mark signs.Open ∷ Variable (codes "s") ∷ Mark signs.Comma ∷ Variable (codes "o") ∷ Mark signs.Close ∷ Mark signs.Close ∷ Mark signs.CloseGroup ∷ []

-- what both together stand for
abbrev query : Written
query = record {
  distinct = false;
  vars = Some (codes "s" ∷ []);
  group = group_of (
      Block (
      pattern (Var (codes "s")) (Const (Iri rdf_type)) (named (codes "C"))
      ∷ pattern (Var (codes "s")) (named (codes "n")) (typed (codes "1") (number_datatype numbers.Integer))
      ∷ pattern (Var (codes "s")) (named (codes "n")) (tagged (codes "v") (codes "en")) ∷ [])
      ∷ Optional (group_of (
      Block (pattern (Var (codes "s")) (named (codes "m")) (Var (codes "o")) ∷ [])
      ∷ Filter (And (IsBound (codes "o")) (KindOf kinds.Iri (Var (codes "o")))) ∷ []))
      ∷ Filter (Or (Not (IsBound (codes "o"))) (Same (Var (codes "s")) (Var (codes "o")))) ∷ []);
}

-- the document is read as that query, where four brackets may be open, as they are in the OPTIONAL's filter
abbrev pub AWholeDocument : Type 0
AWholeDocument = read_all 4 (head ++ braces) ≡ Got query []

-- where three may be open, the bracket after that `bound` is too deep
abbrev pub ADeepBracket : Type 0
ADeepBracket = read_all 3 (head ++ Mark signs.OpenGroup ∷ Keyword words.Optional ∷ Mark signs.OpenGroup ∷ Keyword words.Filter ∷ Mark signs.Open ∷ Keyword words.Bound ∷ Mark signs.Open ∷ []) ≡ Deep (placed (Mark signs.Open ∷ []))

-- a name that repeats after SELECT is the wrong token
abbrev pub ARepeatedName : Type 0
ARepeatedName = read_all 4 (Keyword words.Select ∷ Variable (codes "s") ∷ Variable (codes "s") ∷ []) ≡ Wrong (placed (Variable (codes "s") ∷ []))

-- a prefix that is not declared is the wrong token
abbrev pub AnUnknownPrefix : Type 0
AnUnknownPrefix = read_all 4 (Keyword words.Select ∷ Mark signs.Star ∷ Mark signs.OpenGroup ∷ Prefixed (codes "p") (codes "C") ∷ Mark signs.CloseGroup ∷ []) ≡ Wrong (placed (Prefixed (codes "p") (codes "C") ∷ Mark signs.CloseGroup ∷ []))

-- `!` fits in no FILTER of an OPTIONAL group
abbrev pub ANarrowFilter : Type 0
ANarrowFilter = read_all 4 (head ++ Mark signs.OpenGroup ∷ Keyword words.Optional ∷ Mark signs.OpenGroup ∷ Keyword words.Filter ∷ Mark signs.Open ∷ Mark signs.Bang ∷ []) ≡ Wrong (placed (Mark signs.Bang ∷ []))

-- a document that ends too early is a front, and its end stands for the wrong token
abbrev pub AnEarlyEnd : Type 0
AnEarlyEnd = read_all 4 (head ++ Mark signs.OpenGroup ∷ Variable (codes "s") ∷ []) ≡ Wrong []
