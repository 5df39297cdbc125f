-- The lines of a group, and of its children one after another.
use Rattle.std.proofs.Common.{◌≡◌, refl, ℕ, ◌<◌, ◌≤◌, ◌+◌, List, [], ◌∷◌, ◌++◌, codes, sym, ◌∙◌, ap, subst, append_assoc, get_or, drop, length, map, drop-cons, add-one}
use Rattle.std.specs.List.{AllByRecursion, flat_map}
use Rattle.std.proofs.lemmas.List.{append-nil, drop_all}
use Rattle.bye_pattern.specs.declared.cond.Cond.{Cond}
use Rattle.bye_pattern.specs.declared.node.Node.{Node, out-Node}
use Rattle.bye_pattern.specs.declared.node.Node.TheFolds.{fold_out-Node}
use Rattle.bye_pattern.specs.Conditions.{Expr, cond_expr}
use Rattle.bye_pattern.specs.Patterns.{Pattern}
use Rattle.bye_pattern.specs.Nodes.{forest_of, tree_of, tree_step}
use Rattle.bye_pattern.specs.Trees.{Tree, node}
use Rattle.bye_pattern.specs.Printed.{filter_line, forest_lines, tree_lines, triple_line}
use Rattle.bye_grammar.specs.Valid.{IsExpr, IsPattern}
use Rattle.bye_grammar.specs.ValidSelects.{AreValidTrees, IsValidTree}

from_item : (ns : List Node) (i : ℕ) (n : Node) → i < length ns → n ≡ get_or ns i n → drop i ns ≡ n ∷ drop (i + 1) ns
from_item ns i n l e = drop-cons ns i n l ∙ (λ k. sym e k ∷ drop (sym (add-one i) k) ns)

one_more : (margin out group rest : List ℕ) → out ++ margin ++ codes "OPTIONAL {\n" ++ group ++ margin ++ codes "}\n" ++ rest ≡ out ++ (margin ++ codes "OPTIONAL {\n" ++ group ++ margin ++ codes "}\n" ++ rest)
one_more margin out group rest = simp append_assoc refl

-- the lines of a child, before those of the later ones
pub child_lines : (margin out more : List ℕ) (ns : List Node) (i : ℕ) (n : Node) → i < length ns → n ≡ get_or ns i n
    → more ≡ out ++ margin ++ codes "OPTIONAL {\n" ++ tree_lines (margin ++ codes "  ") [] (tree_of n) ++ margin ++ codes "}\n"
    → more ++ forest_lines margin (forest_of (map tree_of (drop (i + 1) ns))) ≡ out ++ forest_lines margin (forest_of (map tree_of (drop i ns)))
child_lines margin out more ns i n l e put =
    let rest : List ℕ = forest_lines margin (forest_of (map tree_of (drop (i + 1) ns))) in
    ap (λ text. text ++ rest) put ∙ one_more margin out (tree_lines (margin ++ codes "  ") [] (tree_of n)) rest
    ∙ ap (λ ns. out ++ forest_lines margin (forest_of (map tree_of ns))) (sym (from_item ns i n l e))

pub child_valid : (ns : List Node) (i : ℕ) (n : Node) → i < length ns → n ≡ get_or ns i n → IsValidTree (tree_of n)
    → AreValidTrees (forest_of (map tree_of (drop (i + 1) ns))) → AreValidTrees (forest_of (map tree_of (drop i ns)))
child_valid ns i n l e one rest = subst (λ ns. AreValidTrees (forest_of (map tree_of ns))) (sym (from_item ns i n l e)) (one, rest)

-- the tree of a node of these parts
tree_parts : (n : Node) (ps : List Pattern) (cs : List Cond) (ns : List Node) → ps ≡ (out-Node n).triples → cs ≡ (out-Node n).conds → ns ≡ (out-Node n).children
    → node ps cs (forest_of (map tree_of ns)) ≡ tree_of n
tree_parts n ps cs ns p c e = sym (fold_out-Node Tree tree_step n ∙ (λ i. node (sym p i) (sym c i) (forest_of (map tree_of (sym e i)))))

in_order : (old a b c d : List ℕ) → old ++ a ++ b ++ c ++ d ≡ old ++ (a ++ b ++ c ++ d)
in_order old a b c d = simp append_assoc refl

-- the lines of a whole group, once no child is left
pub group_lines : (margin old first second third out : List ℕ) (outer : List Expr) (n : Node) (ps : List Pattern) (cs : List Cond) (ns : List Node) (i : ℕ)
    → ps ≡ (out-Node n).triples → cs ≡ (out-Node n).conds → ns ≡ (out-Node n).children → length ns ≤ i
    → first ≡ old ++ flat_map (triple_line margin) ps → second ≡ first ++ flat_map (λ c. filter_line margin (cond_expr c)) cs → third ≡ second ++ flat_map (filter_line margin) outer
    → out ++ forest_lines margin (forest_of (map tree_of (drop i ns))) ≡ third ++ forest_lines margin (forest_of (map tree_of ns)) → out ≡ old ++ tree_lines margin outer (tree_of n)
group_lines margin old first second third out outer n ps cs ns i p c e end one two three done =
    let triples : List ℕ = flat_map (triple_line margin) ps in
    let conds : List ℕ = flat_map (λ c. filter_line margin (cond_expr c)) cs in
    let tests : List ℕ = flat_map (filter_line margin) outer in
    let children : List ℕ = forest_lines margin (forest_of (map tree_of ns)) in
    sym (ap (λ ns. out ++ forest_lines margin (forest_of (map tree_of ns))) (drop_all i ns end) ∙ append-nil out) ∙ done
    ∙ ap (λ text. text ++ children) (three ∙ ap (λ text. text ++ tests) (two ∙ ap (λ text. text ++ conds) one))
    ∙ in_order old triples conds tests children ∙ ap (λ t. old ++ tree_lines margin outer t) (tree_parts n ps cs ns p c e)

pub group_valid : (n : Node) (ps : List Pattern) (cs : List Cond) (ns : List Node) (i : ℕ) → ps ≡ (out-Node n).triples → cs ≡ (out-Node n).conds → ns ≡ (out-Node n).children → length ns ≤ i
    → AllByRecursion IsPattern ps → AllByRecursion (λ c. IsExpr (cond_expr c)) cs → (AreValidTrees (forest_of (map tree_of (drop i ns))) → AreValidTrees (forest_of (map tree_of ns))) → IsValidTree (tree_of n)
group_valid n ps cs ns i p c e end patterns conds done =
    subst IsValidTree (tree_parts n ps cs ns p c e) (patterns, conds, done (subst (λ ns. AreValidTrees (forest_of (map tree_of ns))) (sym (drop_all i ns end)) tt))
