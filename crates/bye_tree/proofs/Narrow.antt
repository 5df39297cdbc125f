-- Whether each node of a tree has less than 2^32 children.
use Rattle.std.proofs.Common.{◌≡◌, refl, ℕ, ◌+◌, ◌<◌, ◌≤◌, ◌^◌, List, [], ◌∷◌, length, get_or, drop, map, ◌↔◌, sym, ◌∙◌, ap, subst, arith, add-one, drop-cons}
use Rattle.std.proofs.lemmas.List.{drop_all, length-map}
use Rattle.bye_pattern.specs.declared.node.Node.{Node, out-Node}
use Rattle.bye_pattern.specs.Trees.{Tree, node, Forest, leaf, more}
use Rattle.bye_pattern.specs.Nodes.{tree_of, forest_of}
use Rattle.bye_tree.specs.Trees.{AreNarrow, IsNarrow, count}
use Rattle.bye_tree.proofs.Opened.{tree_out}

-- the number of children, as trees and as items
pub count_is : (ns : List Node) → count (forest_of (map tree_of ns)) ≡ length ns
count_is [] = refl
count_is (n ∷ ns) = ap (λ k. k + 1) (count_is ns) ∙ add-one (length ns)

-- the items from one on
pub from_item : {X : Type 0} (ns : List X) (i : ℕ) (n : X) → i < length ns → n ≡ get_or ns i n → drop i ns ≡ n ∷ drop (i + 1) ns
from_item ns i n l e = drop-cons ns i n l ∙ (λ k. sym e k ∷ drop (sym (add-one i) k) ns)

abbrev Rest : List Node → ℕ → Type 0
Rest ns i = AreNarrow (forest_of (map tree_of (drop i ns))) ↔ AreNarrow (forest_of (map tree_of ns))

pub opened : (n : Node) (ns : List Node) → ns ≡ (out-Node n).children → tree_of n ≡ node (out-Node n).triples (out-Node n).conds (forest_of (map tree_of ns))
opened n ns e = tree_out n ∙ ap (λ ns. node (out-Node n).triples (out-Node n).conds (forest_of (map tree_of ns))) (sym e)

pub too_many : (n : Node) (ns : List Node) → ns ≡ (out-Node n).children → 4294967295 < length ns → IsNarrow (tree_of n) → ⊥
too_many n ns e l h =
    let k : IsNarrow (node (out-Node n).triples (out-Node n).conds (forest_of (map tree_of ns))) = subst IsNarrow (opened n ns e) h in
    let few : length ns < 2 ^ 32 = subst (λ (k : ℕ). k < 2 ^ 32) (count_is ns) k.0 in
    omega arith

pub not_narrow : (n m : Node) (ns : List Node) (i : ℕ) → ns ≡ (out-Node n).children → i < length ns → m ≡ get_or ns i m → Rest ns i → (IsNarrow (tree_of m) → ⊥) → IsNarrow (tree_of n) → ⊥
not_narrow n m ns i e l is rest not h =
    let k : IsNarrow (node (out-Node n).triples (out-Node n).conds (forest_of (map tree_of ns))) = subst IsNarrow (opened n ns e) h in
    let all : AreNarrow (forest_of (map tree_of (m ∷ drop (i + 1) ns))) = subst (λ (ns : List Node). AreNarrow (forest_of (map tree_of ns))) (from_item ns i m l is) (rest.1 k.1) in
    not all.0

pub all_narrow : (n : Node) (ns : List Node) (i : ℕ) → ns ≡ (out-Node n).children → length ns ≤ 4294967295 → length ns ≤ i → Rest ns i → IsNarrow (tree_of n)
all_narrow n ns i e few end rest =
    let k : count (forest_of (map tree_of ns)) < 2 ^ 32 = subst (λ (k : ℕ). k < 2 ^ 32) (sym (count_is ns)) (omega arith) in
    let all : AreNarrow (forest_of (map tree_of ns)) = rest.0 (subst (λ (ns : List Node). AreNarrow (forest_of (map tree_of ns))) (sym (drop_all i ns end)) tt) in
    subst IsNarrow (sym (opened n ns e)) (k, all)
