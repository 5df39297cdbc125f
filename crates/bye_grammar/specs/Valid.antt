-- What holds of each query that a document stands for, so that its parts are values of the program's types.
use Rattle.std.specs.Prelude.{◌≡◌, true, false, List, [], Option, Some, None, IsSome}
use Rattle.std.specs.List.{AllByRecursion}
use Rattle.bye_terms.specs.Names.{is_name, is_tag}
use Rattle.bye_terms.specs.Terms.{is_blank}
use Rattle.bye_terms.specs.Valid.{IsTerm}
use Rattle.bye_terms.specs.Members.{EachOnce}
use Rattle.bye_pattern.specs.declared.slot.Slot.{Slot}
use Rattle.bye_pattern.specs.declared.slot.Slot.TheVariants.{Var, Const}
use Rattle.bye_pattern.specs.Patterns.{Pattern, is_place}
use Rattle.bye_pattern.specs.Conditions.{Expr, IsBound, Same, KindOf, Not, And, Or}
use Rattle.bye_pattern.specs.Written.{Group, Block, Optional, Filter, done, also, Written}
use Rattle.bye_pattern.specs.Gathered.{plain, conjuncts, HasPlainOptionals}
use Rattle.bye_table.specs.Mappings.{Name}
use Rattle.bye_tokens.specs.declared.token.Token.{Token}
use Rattle.bye_tokens.specs.declared.token.Token.TheVariants.{Variable, Tagged}
use Rattle.bye_grammar.specs.declared.place.Place.{Place}
use Rattle.bye_grammar.specs.declared.place.Place.TheVariants.{Outer, Inner}

-- a token that the program can hold: its variable has a name, and its language tag is one
abbrev pub IsToken : Token → Type 0
IsToken (Variable v) = is_name v ≡ true
IsToken (Tagged tag) = is_tag tag ≡ true
IsToken _ = Unit {0}

-- a variable with a name, or an RDF term that is no blank node: an IRI with a scheme, or a literal that has a tag or a datatype but rdf:langString
abbrev pub IsSlot : Slot → Type 0
IsSlot (Var v) = is_name v ≡ true
IsSlot (Const c) = IsTerm c × (is_blank c ≡ false)

-- such a place that is a variable or an IRI
abbrev pub IsSubject : Slot → Type 0
IsSubject s = IsSlot s × (is_place s ≡ true)

-- a triple pattern of a query (SPARQL 1.1 Query, section 4.2): no literal is its subject or its predicate, and no blank node is in it
pub record IsPattern (pattern : Pattern) : Type 0 where
  pub s : IsSubject pattern.s
  pub p : IsSubject pattern.p
  pub o : IsSlot pattern.o

-- an expression of such places
abbrev pub IsExpr : Expr → Type 0
IsExpr (IsBound v) = is_name v ≡ true
IsExpr (Same s t) = IsSlot s × IsSlot t
IsExpr (KindOf kind s) = IsSlot s
IsExpr (Not e) = IsExpr e
IsExpr (And d e) = IsExpr d × IsExpr e
IsExpr (Or d e) = IsExpr d × IsExpr e

-- each conjunct of the expression is a plain condition
abbrev pub IsPlain : Expr → Type 0
IsPlain e = AllByRecursion (λ d. IsSome (plain d)) (conjuncts e)

-- an expression of a FILTER; in an OPTIONAL group each of its conjuncts is a plain condition
abbrev pub IsFilter : Place → Expr → Type 0
IsFilter Outer e = IsExpr e
IsFilter Inner e = IsExpr e × IsPlain e

-- a group of such patterns and expressions
abbrev pub IsGroup : Place → Group → Type 0
IsGroup place done = Unit {0}
IsGroup place (also (Block ps) g) = AllByRecursion IsPattern ps × IsGroup place g
IsGroup place (also (Optional h) g) = IsGroup Inner h × IsGroup place g
IsGroup place (also (Filter e) g) = IsFilter place e × IsGroup place g

-- selected variables have names, each once, and there is one
pub record AreNames (vs : List Name) : Type 0 where
  pub named : AllByRecursion (λ v. is_name v ≡ true) vs
  pub once : EachOnce vs
  pub some : vs ≡ [] → ⊥

-- the selected variables, where they are named
abbrev pub IsSelection : Option (List Name) → Type 0
IsSelection None = Unit {0}
IsSelection (Some vs) = AreNames vs

-- a query that the program can hold
pub record IsQuery (w : Written) : Type 0 where
  pub vars : IsSelection w.vars
  pub group : IsGroup Outer w.group
  pub optionals : HasPlainOptionals w.group
