-- The tokens of a written text, one after another (SPARQL 1.1 Query, section 19.8).
use Rattle.std.specs.Prelude.{ℕ, Bool, true, false, cond, List, [], ◌∷◌, ◌++◌, Option, Some, None, map}
use Rattle.std.specs.List.{flat_map}
use Rattle.bye_terms.specs.Literals.{is_xsd_string}
use Rattle.bye_terms.specs.declared.term.Term.{Term}
use Rattle.bye_terms.specs.declared.term.Term.TheVariants.{Iri, Blank, Lit}
use Rattle.bye_table.specs.Mappings.{Name}
use Rattle.bye_pattern.specs.declared.slot.Slot.{Slot}
use Rattle.bye_pattern.specs.declared.slot.Slot.TheVariants.{Var, Const}
use Rattle.bye_pattern.specs.declared.kind.Kind.{Kind}
use Rattle.bye_pattern.specs.declared.kind.Kind.TheVariants as kinds
use Rattle.bye_pattern.specs.Patterns.{Pattern}
use Rattle.bye_pattern.specs.Conditions.{Expr, IsBound, Same, KindOf, Not, And, Or, cond_expr}
use Rattle.bye_pattern.specs.Printed.{is_call}
use Rattle.bye_pattern.specs.Trees.{Tree, node, Forest, leaf, more, Select}
use Rattle.bye_tokens.specs.declared.token.Token.{Token}
use Rattle.bye_tokens.specs.declared.token.Token.TheVariants.{IriRef, Variable, Quoted, Tagged, Keyword, Mark}
use Rattle.bye_tokens.specs.declared.word.Word.{Word}
use Rattle.bye_tokens.specs.declared.word.Word.TheVariants as words
use Rattle.bye_tokens.specs.declared.sign.Sign.TheVariants as signs

-- a tag, or `^^` and a datatype but for xsd:string
abbrev pub suffix_tokens : Option (List ℕ) → List ℕ → List Token
suffix_tokens (Some tag) datatype = Tagged tag ∷ []
suffix_tokens None datatype = cond (is_xsd_string datatype) [] (Mark signs.Carets ∷ IriRef datatype ∷ [])

-- an IRI, or a string and what follows it; no blank node stands in a query
abbrev pub term_tokens : Term → List Token
term_tokens (Iri iri) = IriRef iri ∷ []
term_tokens (Blank label) = []
term_tokens (Lit literal) = Quoted literal.lexical ∷ suffix_tokens literal.tag literal.datatype

-- a variable or a constant
abbrev pub slot_tokens : Slot → List Token
slot_tokens (Var v) = Variable v ∷ []
slot_tokens (Const c) = term_tokens c

-- subject, predicate, object, and a dot
abbrev pub pattern_tokens : Pattern → List Token
pattern_tokens p = slot_tokens p.s ++ slot_tokens p.p ++ slot_tokens p.o ++ Mark signs.Dot ∷ []

-- the word of a kind test
abbrev pub kind_word : Kind → Word
kind_word kinds.Iri = words.IsIri
kind_word kinds.Blank = words.IsBlank
kind_word kinds.Literal = words.IsLiteral

-- between `(` and `)`
abbrev pub in_brackets : List Token → List Token
in_brackets ts = Mark signs.Open ∷ (ts ++ Mark signs.Close ∷ [])

-- a word, and its arguments between brackets
abbrev pub call_tokens : Word → List Token → List Token
call_tokens word ts = Keyword word ∷ in_brackets ts

-- an inner expression that is no call stands in brackets
abbrev pub inner_tokens : Bool → List Token → List Token
inner_tokens true ts = ts
inner_tokens false ts = in_brackets ts

-- an expression
abbrev pub expr_tokens : Expr → List Token
expr_tokens (IsBound v) = call_tokens words.Bound (Variable v ∷ [])
expr_tokens (Same s t) = call_tokens words.SameTerm (slot_tokens s ++ Mark signs.Comma ∷ slot_tokens t)
expr_tokens (KindOf kind s) = call_tokens (kind_word kind) (slot_tokens s)
expr_tokens (Not e) = Mark signs.Bang ∷ inner_tokens (is_call e) (expr_tokens e)
expr_tokens (And d e) = inner_tokens (is_call d) (expr_tokens d) ++ Mark signs.And ∷ inner_tokens (is_call e) (expr_tokens e)
expr_tokens (Or d e) = inner_tokens (is_call d) (expr_tokens d) ++ Mark signs.Or ∷ inner_tokens (is_call e) (expr_tokens e)

-- FILTER and an expression in brackets
abbrev pub filter_tokens : Expr → List Token
filter_tokens e = Keyword words.Filter ∷ in_brackets (expr_tokens e)

-- what stands within a group: its triples, its FILTERs, and its children as OPTIONAL groups
abbrev mutual
  pub tree_tokens : List Expr → Tree → List Token
  tree_tokens outer (node ps cs f) = flat_map pattern_tokens ps ++ flat_map (λ c. filter_tokens (cond_expr c)) cs ++ flat_map filter_tokens outer ++ forest_tokens f

  pub forest_tokens : Forest → List Token
  forest_tokens leaf = []
  forest_tokens (more t f) = Keyword words.Optional ∷ Mark signs.OpenGroup ∷ (tree_tokens [] t ++ Mark signs.CloseGroup ∷ forest_tokens f)

-- DISTINCT, where it is asked for
abbrev pub distinct_tokens : Bool → List Token
distinct_tokens true = Keyword words.Distinct ∷ []
distinct_tokens false = []

-- the selected variables
abbrev pub names_tokens : List Name → List Token
names_tokens vs = map (λ v. Variable v) vs

-- the query
abbrev pub query_tokens : Select → List Token
query_tokens q =
    Keyword words.Select ∷ (distinct_tokens q.distinct ++ names_tokens q.vars ++ Keyword words.Where ∷ Mark signs.OpenGroup
    ∷ (tree_tokens q.outer q.tree ++ Mark signs.CloseGroup ∷ []))
