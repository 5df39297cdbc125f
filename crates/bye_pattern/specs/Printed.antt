-- The written text of a query, as the list of its characters. In a document it stands in UTF-8.
use Rattle.std.specs.Prelude.{ℕ, Bool, true, false, List, [], ◌++◌, codes}
use Rattle.std.specs.List.{flat_map}
use Rattle.bye_terms.specs.Spellings.{term_text}
use Rattle.bye_pattern.specs.declared.slot.Slot.{Slot}
use Rattle.bye_pattern.specs.declared.slot.Slot.TheVariants.{Var, Const}
use Rattle.bye_table.specs.Mappings.{Name}
use Rattle.bye_pattern.specs.Patterns.{Pattern}
use Rattle.bye_pattern.specs.declared.kind.Kind.{Kind}
use Rattle.bye_pattern.specs.declared.kind.Kind.TheVariants as kinds
use Rattle.bye_pattern.specs.Conditions.{Expr, IsBound, Same, KindOf, Not, And, Or, cond_expr}
use Rattle.bye_pattern.specs.Trees.{Tree, node, Forest, leaf, more, Select}

-- a variable after its mark, or the spelling of a constant
abbrev pub slot_text : Slot → List ℕ
slot_text (Var v) = codes "?" ++ v
slot_text (Const c) = term_text c

-- subject, predicate and object with a space between, and a dot
abbrev pub pattern_text : Pattern → List ℕ
pattern_text p = slot_text p.s ++ codes " " ++ slot_text p.p ++ codes " " ++ slot_text p.o ++ codes " ."

-- the name of a kind test, with its bracket
abbrev pub kind_text : Kind → List ℕ
kind_text kinds.Iri = codes "isIRI("
kind_text kinds.Blank = codes "isBlank("
kind_text kinds.Literal = codes "isLiteral("

-- whether the expression is written as a call
abbrev pub is_call : Expr → Bool
is_call (IsBound v) = true
is_call (Same s t) = true
is_call (KindOf kind s) = true
is_call (Not e) = false
is_call (And d e) = false
is_call (Or d e) = false

-- an inner expression that is no call stands in brackets
abbrev pub bracketed : Bool → List ℕ → List ℕ
bracketed true text = text
bracketed false text = codes "(" ++ text ++ codes ")"

-- an expression
abbrev pub expr_text : Expr → List ℕ
expr_text (IsBound v) = codes "bound(?" ++ v ++ codes ")"
expr_text (Same s t) = codes "sameTerm(" ++ slot_text s ++ codes ", " ++ slot_text t ++ codes ")"
expr_text (KindOf kind s) = kind_text kind ++ slot_text s ++ codes ")"
expr_text (Not e) = codes "!" ++ bracketed (is_call e) (expr_text e)
expr_text (And d e) = bracketed (is_call d) (expr_text d) ++ codes " && " ++ bracketed (is_call e) (expr_text e)
expr_text (Or d e) = bracketed (is_call d) (expr_text d) ++ codes " || " ++ bracketed (is_call e) (expr_text e)

-- a line of a group, after its margin
abbrev pub triple_line : List ℕ → Pattern → List ℕ
triple_line margin p = margin ++ pattern_text p ++ codes "\n"

-- the line of a triple pattern in the outermost group
unfoldable pub root_line : Pattern → List ℕ
root_line p = triple_line (codes "  ") p

-- the line of a condition
abbrev pub filter_line : List ℕ → Expr → List ℕ
filter_line margin e = margin ++ codes "FILTER (" ++ expr_text e ++ codes ")\n"

-- the lines within a group: its triples, its conditions, and its children as OPTIONAL groups, two spaces further in
abbrev mutual
  pub tree_lines : List ℕ → List Expr → Tree → List ℕ
  tree_lines margin outer (node ps cs f) =
      flat_map (triple_line margin) ps ++ flat_map (λ c. filter_line margin (cond_expr c)) cs ++ flat_map (filter_line margin) outer ++ forest_lines margin f

  pub forest_lines : List ℕ → Forest → List ℕ
  forest_lines margin leaf = []
  forest_lines margin (more t f) = margin ++ codes "OPTIONAL {\n" ++ tree_lines (margin ++ codes "  ") [] t ++ margin ++ codes "}\n" ++ forest_lines margin f

-- DISTINCT, where it is asked for
abbrev pub distinct_text : Bool → List ℕ
distinct_text true = codes " DISTINCT"
distinct_text false = []

-- the selected variables, each after a space
abbrev pub names_text : List Name → List ℕ
names_text vs = flat_map (λ v. codes " ?" ++ v) vs

-- the query: SELECT, its variables, and the lines of its group
abbrev pub query_text : Select → List ℕ
query_text s = codes "SELECT" ++ distinct_text s.distinct ++ names_text s.vars ++ codes "\nWHERE {\n" ++ tree_lines (codes "  ") s.outer s.tree ++ codes "}\n"
