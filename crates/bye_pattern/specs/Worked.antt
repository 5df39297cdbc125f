-- Worked examples of the definitions: small graphs, trees and tables, with what holds of them and what does not.
use Rattle.bye_pattern.specs.declared.level.Level.TheVariants.{One}
use Rattle.std.specs.Prelude.{◌≡◌, ℕ, List, [], ◌∷◌, None, codes}
use Rattle.bye_terms.specs.declared.term.Term.{Term}
use Rattle.bye_terms.specs.declared.term.Term.TheVariants.{Iri, Blank, Lit}
use Rattle.bye_terms.specs.Terms.{Statement}
use Rattle.bye_pattern.specs.declared.slot.Slot.{Slot}
use Rattle.bye_pattern.specs.declared.slot.Slot.TheVariants.{Var, Const}
use Rattle.bye_pattern.specs.declared.cond.Cond.TheVariants as conds
use Rattle.bye_pattern.specs.declared.class.Class.TheVariants.{And, Optional}
use Rattle.bye_pattern.specs.declared.rule.Rule.TheVariants.{NoNewVariable, NotWellDesigned, UnsafeCondition}
use Rattle.bye_table.specs.Mappings.{Name, Mapping, row_mapping}
use Rattle.bye_pattern.specs.Patterns.{Pattern}
use Rattle.bye_pattern.specs.Conditions.{Same}
use Rattle.bye_pattern.specs.Algebra.{IsAnswer}
use Rattle.bye_pattern.specs.Trees.{Tree, node, leaf, more, Select, plain_select, alg}
use Rattle.bye_pattern.specs.Designed.{IsWellDesigned, IsBroken}
use Rattle.bye_pattern.specs.Printed.{query_text}
use Rattle.bye_pattern.specs.Keeping.{IsOfClass, IsRight, IsKept}
use Rattle.bye_pattern.specs.Certificates.{Domains, NoRoot, Fork, Uncovered, Admitted, Extension, Shows}

-- names, terms, triples and rows
abbrev pub x : Name
x = codes "x"

abbrev pub y : Name
y = codes "y"

abbrev pub z : Name
z = codes "z"

abbrev pub w : Name
w = codes "w"

abbrev pub m : Name
m = codes "m"

abbrev pub a : Term
a = Iri (codes "e:a")

abbrev pub b : Term
b = Iri (codes "e:b")

abbrev pub c : Term
c = Iri (codes "e:c")

abbrev pub person : Term
person = Iri (codes "e:Person")

abbrev pub kind : Term
kind = Iri (codes "e:type")

abbrev pub mail : Term
mail = Iri (codes "e:mail")

abbrev pub knows : Term
knows = Iri (codes "e:knows")

abbrev pub text : List ℕ → Term
text t = Lit (record { lexical = t; datatype = codes "http://www.w3.org/2001/XMLSchema#string"; tag = None })

abbrev pub triple : Term → Term → Term → Statement
triple s p o = record { s = s; p = p; o = o }

abbrev pub pattern : Slot → Slot → Slot → Pattern
pattern s p o = record { s = s; p = p; o = o }

-- a group with triples alone, and one with an OPTIONAL group
abbrev pub group : List Pattern → Tree
group ps = node ps [] leaf

abbrev pub with_optional : List Pattern → Tree → Tree
with_optional ps t = node ps [] (more t leaf)

-- Two people, of whom one has a mail address.
abbrev pub people : List Statement
people = triple a kind person ∷ triple b kind person ∷ triple a mail (text (codes "m1")) ∷ []

abbrev pub is_person : Slot → Pattern
is_person s = pattern s (Const kind) (Const person)

abbrev pub has_mail : Pattern
has_mail = pattern (Var x) (Const mail) (Var m)

-- SELECT DISTINCT ?x ?m WHERE { ?x e:type e:Person OPTIONAL { ?x e:mail ?m } }
abbrev pub mails : Select
mails = plain_select (x ∷ m ∷ []) (with_optional (is_person (Var x) ∷ []) (group (has_mail ∷ [])))

-- the one with mail is an answer with it and not without it; the other is one without
pub record OptionalAnswers : Type 0 where
  pub with_mail : IsAnswer people mails.vars (alg mails) (row_mapping ((x, a) ∷ (m, text (codes "m1")) ∷ []))
  pub without_mail : IsAnswer people mails.vars (alg mails) (row_mapping ((x, b) ∷ []))
  pub cut_short : IsAnswer people mails.vars (alg mails) (row_mapping ((x, a) ∷ [])) → ⊥

-- the same with FILTER (sameTerm(?m, "m1")) at the end
abbrev pub one_mail : Select
one_mail = record { distinct = mails.distinct; vars = mails.vars; tree = mails.tree; outer = Same (Var m) (Const (text (codes "m1"))) ∷ [] }

-- for the other the filter is an error, and the row is dropped
pub record ErrorsDropRows : Type 0 where
  pub true_of : IsAnswer people one_mail.vars (alg one_mail) (row_mapping ((x, a) ∷ (m, text (codes "m1")) ∷ []))
  pub error_of : IsAnswer people one_mail.vars (alg one_mail) (row_mapping ((x, b) ∷ [])) → ⊥

-- what is written of the two
pub record WrittenTexts : Type 0 where
  pub optional : query_text mails ≡ codes "SELECT DISTINCT ?x ?m\nWHERE {\n  ?x <e:type> <e:Person> .\n  OPTIONAL {\n    ?x <e:mail> ?m .\n  }\n}\n"
  pub filtered : query_text one_mail
      ≡ codes "SELECT DISTINCT ?x ?m\nWHERE {\n  ?x <e:type> <e:Person> .\n  FILTER (sameTerm(?m, \"m1\"))\n  OPTIONAL {\n    ?x <e:mail> ?m .\n  }\n}\n"

abbrev pub mail_row : Mapping
mail_row = row_mapping ((x, a) ∷ (m, text (codes "m1")) ∷ [])

-- over a row with mail and one without, that query is of the class with OPTIONAL groups, and fits; where every wanted row has
-- mail, both variables are of one domain class, and it is not of the class
pub record OptionalClasses : Type 0 where
  pub right : IsRight Optional One people (mail_row ∷ row_mapping ((x, b) ∷ []) ∷ []) [] mails
  pub one_domain : IsOfClass Optional One (mail_row ∷ []) mails → ⊥

-- an OPTIONAL group that brings no variable
abbrev pub nothing_new : Tree
nothing_new = with_optional (is_person (Var x) ∷ []) (group (pattern (Var x) (Const mail) (Const (text (codes "m1"))) ∷ []))

-- a variable of the outermost group comes again in the innermost, and not between
abbrev pub jumps : Tree
jumps = with_optional (pattern (Var x) (Const knows) (Var y) ∷ []) (with_optional (pattern (Var z) (Const knows) (Var w) ∷ []) (group (has_mail ∷ [])))

-- a condition of the innermost group looks at a variable of the outermost that does not stand between
abbrev pub looks_far : Tree
looks_far = with_optional (pattern (Var x) (Const knows) (Var y) ∷ [])
    (with_optional (pattern (Var y) (Const knows) (Var z) ∷ []) (node (pattern (Var z) (Const mail) (Var m) ∷ []) (conds.Bound x ∷ []) leaf))

pub record DesignedTrees : Type 0 where
  pub designed : IsWellDesigned mails.tree
  pub no_new : IsBroken nothing_new (1 ∷ []) NoNewVariable
  pub not_designed : IsBroken jumps (1 ∷ 1 ∷ []) NotWellDesigned
  pub unsafe : IsBroken looks_far (1 ∷ 1 ∷ []) UnsafeCondition

-- Ada and Eve know Bob, and Ada was born in London.
abbrev pub ada : Term
ada = Iri (codes "e:ada")

abbrev pub eve : Term
eve = Iri (codes "e:eve")

abbrev pub bob : Term
bob = Iri (codes "e:bob")

abbrev pub born : Term
born = Iri (codes "e:born")

abbrev pub london : Term
london = Iri (codes "e:london")

abbrev pub known : List Statement
known = triple ada born london ∷ triple ada knows bob ∷ triple eve knows bob ∷ []

-- Ada is wanted and Eve is not. The condition sameTerm(?x, e:ada) is tried before the triples, and is left out, since either
-- pattern of the two is met by Ada and the first is not met by Eve. Were the triples tried first, the condition would stay.
abbrev pub ConditionsAreTriedFirst : Type 0
ConditionsAreTriedFirst =
    IsKept And One known (record { vars = x ∷ []; rows = row_mapping ((x, ada) ∷ []) ∷ [] }) (row_mapping ((x, eve) ∷ []) ∷ [])
    (plain_select (x ∷ []) (group (pattern (Var x) (Const born) (Const london) ∷ [])))

-- one row binds x, the other does not; the numbers stand in rising order
pub record ClaimsOfDomains : Type 0 where
  pub shows : Shows [] (row_mapping ((x, a) ∷ []) ∷ row_mapping [] ∷ []) [] (record { level = One; class = And; claim = Domains 1 2 x })
  pub turned : Shows [] (row_mapping ((x, a) ∷ []) ∷ row_mapping [] ∷ []) [] (record { level = One; class = And; claim = Domains 2 1 x }) → ⊥

-- of two rows each binds another variable; where one variable is bound in both, it may stand at the root
pub record ClaimsOfNoRoot : Type 0 where
  pub shows : Shows [] (row_mapping ((x, a) ∷ []) ∷ row_mapping ((y, a) ∷ []) ∷ []) [] (record { level = One; class = Optional; claim = NoRoot })
  pub rooted : Shows [] (row_mapping ((x, a) ∷ []) ∷ row_mapping ((x, a) ∷ (y, a) ∷ []) ∷ []) [] (record { level = One; class = Optional; claim = NoRoot }) → ⊥

-- w is bound within y and within z, of which neither is within the other; x is around y, so w within x and y is no fork
abbrev pub forked : List Mapping
forked = row_mapping ((x, a) ∷ (y, a) ∷ []) ∷ row_mapping ((x, a) ∷ (z, a) ∷ []) ∷ row_mapping ((x, a) ∷ (y, a) ∷ (z, a) ∷ (w, a) ∷ []) ∷ []

pub record ClaimsOfFork : Type 0 where
  pub shows : Shows [] forked [] (record { level = One; class = Optional; claim = Fork w y z })
  pub nested : Shows [] forked [] (record { level = One; class = Optional; claim = Fork w x y }) → ⊥

-- the only triple in common has a blank node, which is no constant of a query; with an IRI in its place there is a pattern
abbrev pub linked : Term → List Statement
linked o = triple a knows o ∷ triple b knows o ∷ []

abbrev pub both_rows : List Mapping
both_rows = row_mapping ((x, a) ∷ []) ∷ row_mapping ((x, b) ∷ []) ∷ []

pub record ClaimsOfUncovered : Type 0 where
  pub shows : Shows (linked (Blank (codes "k"))) both_rows [] (record { level = One; class = And; claim = Uncovered x })
  pub covered : Shows (linked c) both_rows [] (record { level = One; class = And; claim = Uncovered x }) → ⊥

-- the unwanted row is a person too, as all wanted rows are; where it is not, it is kept away
abbrev pub persons : List Statement
persons = triple a kind person ∷ triple b kind person ∷ []

pub record ClaimsOfAdmitted : Type 0 where
  pub shows : Shows (triple c kind person ∷ persons) both_rows (row_mapping ((x, c) ∷ []) ∷ []) (record { level = One; class = And; claim = Admitted 1 })
  pub kept_away : Shows persons both_rows (row_mapping ((x, c) ∷ []) ∷ []) (record { level = One; class = And; claim = Admitted 1 }) → ⊥

-- b is wanted without mail, but has one; the values are that mail and no other, and name it once
abbrev pub mailed : List Statement
mailed = triple a kind person ∷ triple b kind person ∷ triple c kind person
    ∷ triple a mail (text (codes "m1")) ∷ triple b mail (text (codes "m2")) ∷ triple c mail (text (codes "m3")) ∷ []

abbrev pub some_mails : List Mapping
some_mails = row_mapping ((x, a) ∷ (m, text (codes "m1")) ∷ []) ∷ row_mapping ((x, c) ∷ (m, text (codes "m3")) ∷ []) ∷ row_mapping ((x, b) ∷ []) ∷ []

pub record ClaimsOfExtension : Type 0 where
  pub shows : Shows mailed some_mails [] (record { level = One; class = Optional; claim = Extension 3 m ((m, text (codes "m2")) ∷ []) })
  pub other_value : Shows mailed some_mails [] (record { level = One; class = Optional; claim = Extension 3 m ((m, text (codes "m9")) ∷ []) }) → ⊥
  pub twice : Shows mailed some_mails [] (record { level = One; class = Optional; claim = Extension 3 m ((m, text (codes "m2")) ∷ (m, text (codes "m9")) ∷ []) }) → ⊥
