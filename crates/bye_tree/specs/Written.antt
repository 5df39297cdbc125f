-- Written queries of the program, read as plain data, and what their walk answers.
use Rattle.std.specs.Prelude.{◌≡◌, ℕ, Bool, true, false, cond, ◌&&◌, ◌||◌, List, [], ◌∷◌, ◌++◌, Option, map, ◌⊎◌}
use Rattle.std.specs.Option.{option_map}
use Rattle.std.specs.List.{list_all}
use Rattle.bye_terms.specs.Members.{In}
use Rattle.bye_table.specs.Mappings.{Name, is_in}
use Rattle.bye_pattern.specs.declared.rule.Rule.{Rule}
use Rattle.bye_pattern.specs.declared.cond.Cond.{Cond}
use Rattle.bye_pattern.specs.declared.slot.Slot.{Slot}
use Rattle.bye_pattern.specs.Patterns.{Pattern, all_vars, slot_vars}
use Rattle.bye_pattern.specs.Conditions as expr
use Rattle.bye_pattern.specs.Written as plain
use Rattle.bye_pattern.specs.Written.{Group, group_of, triples}
use Rattle.bye_pattern.specs.Gathered.{AreDesignedEarly, BreaksEarly, BreaksHere, IsBrokenEarly, IsDesignedEarly, KeepsEach, plain_tests, root_tests}
use Rattle.bye_tree.specs.declared.written.Element.{Element}
use Rattle.bye_tree.specs.declared.written.Element.TheOpen.{Element-F, Block, Optional, Filter}
use Rattle.bye_tree.specs.declared.written.Element.TheFolds.{fold-Element}
use Rattle.bye_tree.specs.declared.written.WrittenQuery.{WrittenQuery}
use Rattle.bye_tree.specs.Exprs.{expr_of}
use Rattle.bye_tree.specs.Judging.{Stands}

-- an element whose parts are read already
abbrev pub element_step : Element-F plain.Element → plain.Element
element_step (Block ps) = plain.Block ps.items
element_step (Optional es) = plain.Optional (group_of es.items)
element_step (Filter e) = plain.Filter (expr_of e)

-- the plain element that an element is
abbrev pub element_of : Element → plain.Element
element_of = fold-Element plain.Element element_step

-- the group of these elements
abbrev pub elements_of : List Element → Group
elements_of es = group_of (map element_of es)

-- the plain written query that a written query is
abbrev pub written_of : WrittenQuery → plain.Written
written_of w = record { distinct = w.distinct; vars = option_map (λ vs. vs.items) w.vars; group = elements_of w.elements.items }

-- the triple patterns of an element, where it is a block
abbrev pub block_triples : plain.Element → List Pattern
block_triples (plain.Block ps) = ps
block_triples (plain.Optional h) = []
block_triples (plain.Filter e) = []

-- whether the group has no triple pattern
abbrev pub no_triples : Group → Bool
no_triples plain.done = true
no_triples (plain.also (plain.Block []) g) = no_triples g
no_triples (plain.also (plain.Block (p ∷ ps)) g) = false
no_triples (plain.also (plain.Optional h) g) = no_triples g
no_triples (plain.also (plain.Filter e) g) = no_triples g

-- whether each variable of the place is among the group's own or its parent's
abbrev pub slot_near : List Name → List Name → Slot → Bool
slot_near parent own s = list_all (λ v. is_in own v || is_in parent v) (slot_vars s)

-- whether the conjuncts of the expression that are plain have only such variables
abbrev pub test_safe : List Name → List Name → expr.Expr → Bool
test_safe parent own (expr.IsBound v) = is_in own v || is_in parent v
test_safe parent own (expr.Same s t) = slot_near parent own s && slot_near parent own t
test_safe parent own (expr.KindOf kind s) = slot_near parent own s
test_safe parent own (expr.And d e) = test_safe parent own d && test_safe parent own e
test_safe parent own _ = true

-- the same of all FILTERs of a group
abbrev pub tests_safe : List Name → List Name → Group → Bool
tests_safe parent own plain.done = true
tests_safe parent own (plain.also (plain.Block ps) g) = tests_safe parent own g
tests_safe parent own (plain.also (plain.Optional h) g) = tests_safe parent own g
tests_safe parent own (plain.also (plain.Filter e) g) = test_safe parent own e && tests_safe parent own g

-- the conditions of the node that the outermost group is, or an OPTIONAL group
abbrev pub group_tests : Bool → Group → List Cond
group_tests true g = root_tests g
group_tests false g = plain_tests g

-- each node of the group keeps each rule, wherever the code's lists stand for those of the definitions
abbrev pub IsGroupDesigned : Bool → List Name → List Name → List Name → Group → Type 0
IsGroupDesigned root parent above seen g = (p a b : List Name) → Stands parent above seen p a b
    → KeepsEach p a b (triples g) (group_tests root g) × AreDesignedEarly [] (a ++ all_vars (triples g)) b g

-- the group breaks the rule first at this path
abbrev pub GroupBreaks : Bool → List Name → List Name → List Name → Group → List ℕ → Rule → Type 0
GroupBreaks root parent above seen g path rule = (p a b : List Name) → Stands parent above seen p a b
    → BreaksHere p a b (triples g) (group_tests root g) path rule
    ⊎ (KeepsEach p a b (triples g) (group_tests root g) × BreaksEarly [] (a ++ all_vars (triples g)) b 1 g path rule)

-- each written query of the group keeps the rules
abbrev pub IsEarly : Group → Type 0
IsEarly g = (w : plain.Written) → w.group ≡ g → IsDesignedEarly w

-- each written query of the group breaks the rule first at this path
abbrev pub BreaksAsWritten : Group → List ℕ → Rule → Type 0
BreaksAsWritten g path rule = (w : plain.Written) → w.group ≡ g → IsBrokenEarly w path rule
