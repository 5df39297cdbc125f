-- Plans: the first group, what is inside it and what comes after it.
use Rattle.std.proofs.Common.{◌≡◌, refl, ℕ, zero, suc, ◌+◌, ◌<◌, ◌≤◌, List, [], ◌∷◌, ◌++◌, append_assoc, append-nil, map, MatchOption, sym, ◌∙◌, ap, subst, length, get_or, take, drop, arith}
use Rattle.std.proofs.lemmas.List.{take_more}
use Rattle.bye_terms.specs.declared.term.Term.{Term}
use Rattle.bye_table.specs.Mappings.{Name, nothing}
use Rattle.bye_pattern.specs.declared.node.Node.{Node, out-Node}
use Rattle.bye_pattern.specs.Nodes.{forest_of, tree_of}
use Rattle.bye_pattern.specs.Trees.{Forest, Tree, leaf, more, node}
use Rattle.bye_pattern.specs.Trees as trees
use Rattle.bye_node.specs.Steps.{AreShapes, HasLost, pattern_in}
use Rattle.bye_laws.specs.Reaching.{children}
use Rattle.bye_graph.specs.Graphs.{GraphValue}
use Rattle.bye_member.specs.Downs.{flat, flat_tree}
use Rattle.bye_member.specs.Plans.{ArePlanned, IsPlan, IsPlanned, Planned}
use Rattle.bye_tree.proofs.Opened.{tree_out}
use Rattle.bye_member.proofs.Downing.{Listed, flat_joined, joined, listed_next}

planned_drop : (vs : List Name) (terms : List Term) (xs ys : List (Tree × ℕ)) (ps : List Planned) → ArePlanned vs terms (xs ++ ys) ps → ArePlanned vs terms ys (drop (length xs) ps)
planned_drop vs terms [] ys ps all = all
planned_drop vs terms (x ∷ xs) ys [] all = absurd all
planned_drop vs terms (x ∷ xs) ys (p ∷ ps) all = planned_drop vs terms xs ys ps all.1

planned_long : (vs : List Name) (terms : List Term) (xs ys : List (Tree × ℕ)) (ps : List Planned) → ArePlanned vs terms (xs ++ ys) ps → length xs ≤ length ps
planned_long vs terms [] ys ps all = omega arith
planned_long vs terms (x ∷ xs) ys [] all = absurd all
planned_long vs terms (x ∷ xs) ys (p ∷ ps) all = let l = planned_long vs terms xs ys ps all.1 in omega arith

-- a plan of groups, whose first is t, and the others f
pub record Front (vs : List Name) (g : GraphValue) (t : Tree) (f : Forest) (p : Planned) (rest : List Planned) : Type 0 where
  pub planned : IsPlanned vs g.terms t p.below p
  pub next : IsPlan vs g (joined (children t) f) rest
  pub past : IsPlan vs g f (drop p.below rest)
  pub fits : p.below ≤ length rest
  pub listed : Listed vs t f

pub plan_front : (vs : List Name) (g : GraphValue) (t : Tree) (f : Forest) (p : Planned) (rest : List Planned) → IsPlan vs g (more t f) (p ∷ rest) → Front vs g t f p rest
plan_front vs g (node ps cs k) f p rest plan =
    let first : IsPlanned vs g.terms (node ps cs k) (length (flat k)) p = plan.entries.0 in
    let others : ArePlanned vs g.terms (flat k ++ flat f) rest = plan.entries.1 in
    let listed = listed_next vs (node ps cs k) f plan.listed in
    record {
      planned = record { shapes = first.shapes; conds = first.conds; below = refl };
      next = record { listed = listed.next; entries = subst (λ ts. ArePlanned vs g.terms ts rest) (sym (flat_joined k f)) others };
      past = record { listed = listed.past; entries = subst (λ n. ArePlanned vs g.terms (flat f) (drop n rest)) (sym first.below) (planned_drop vs g.terms (flat k) (flat f) rest others) };
      fits = let l = planned_long vs g.terms (flat k) (flat f) rest others in let e = first.below in omega arith;
      listed = listed;
    }

pub plan_none : (vs : List Name) (g : GraphValue) (f : Forest) → IsPlan vs g f [] → f ≡ leaf
plan_none vs g leaf plan = refl
plan_none vs g (more (node ps cs k) f) plan = absurd plan.entries

pub plan_some : (vs : List Name) (g : GraphValue) (f : Forest) (p : Planned) (rest : List Planned) → IsPlan vs g f (p ∷ rest) → (t : Tree) × (h : Forest) × (f ≡ more t h)
plan_some vs g leaf p rest plan = absurd plan.entries
plan_some vs g (more t f) p rest plan = (t, f, refl)

-- the first children of a node are compiled
pub record IsSoFar (vs : List Name) (terms : List Term) (children : List Node) (index : ℕ) (plan : List Planned) : Type 0 where
  pub are : ArePlanned vs terms (flat (forest_of (map tree_of (take index children)))) plan

planned_join : (vs : List Name) (terms : List Term) (xs ys : List (Tree × ℕ)) (ps qs : List Planned) → ArePlanned vs terms xs ps → ArePlanned vs terms ys qs → ArePlanned vs terms (xs ++ ys) (ps ++ qs)
planned_join vs terms [] ys [] qs a b = b
planned_join vs terms [] ys (p ∷ ps) qs a b = absurd a
planned_join vs terms (x ∷ xs) ys [] qs a b = absurd a
planned_join vs terms (x ∷ xs) ys (p ∷ ps) qs a b = (a.0, planned_join vs terms xs ys ps qs a.1 b)

flat_more : (children : List Node) (child : Node) → flat (forest_of (map tree_of (children ++ child ∷ []))) ≡ flat (forest_of (map tree_of children)) ++ flat_tree (tree_of child)
flat_more [] child = append-nil (flat_tree (tree_of child))
flat_more (c ∷ children) child = ap (λ xs. flat_tree (tree_of c) ++ xs) (flat_more children child) ∙ sym (append_assoc (flat_tree (tree_of c)) (flat (forest_of (map tree_of children))) (flat_tree (tree_of child)))

pub so_far_none : (vs : List Name) (terms : List Term) (children : List Node) (plan : List Planned) → plan ≡ [] → IsSoFar vs terms children 0 plan
so_far_none vs terms [] plan none = record { are = subst (ArePlanned vs terms []) (sym none) tt }
so_far_none vs terms (c ∷ children) plan none = record { are = subst (ArePlanned vs terms []) (sym none) tt }

pub so_far_more : (vs : List Name) (terms : List Term) (nodes : List Node) (index : ℕ) (child : Node) (rest next longer : List Planned) → index < length nodes → child ≡ get_or nodes index child
    → ArePlanned vs terms (flat_tree (tree_of child)) next → longer ≡ rest ++ next → IsSoFar vs terms nodes index rest → IsSoFar vs terms nodes (index + 1) longer
so_far_more vs terms nodes index child rest next longer l at planned is before = record {
  are =
      let front : take (index + 1) nodes ≡ take index nodes ++ child ∷ [] = take_more nodes index child l ∙ ap (λ c. take index nodes ++ c ∷ []) (sym at) in
      subst (λ cs. ArePlanned vs terms (flat (forest_of (map tree_of cs))) longer) (sym front)
      (subst (λ ts. ArePlanned vs terms ts longer) (sym (flat_more (take index nodes) child))
      (subst (ArePlanned vs terms (flat (forest_of (map tree_of (take index nodes))) ++ flat_tree (tree_of child))) (sym is)
      (planned_join vs terms _ (flat_tree (tree_of child)) rest next before.are planned)));
}

planned_count : (vs : List Name) (terms : List Term) (ts : List (Tree × ℕ)) (ps : List Planned) → ArePlanned vs terms ts ps → length ps ≡ length ts
planned_count vs terms [] [] all = refl
planned_count vs terms [] (p ∷ ps) all = absurd all
planned_count vs terms (t ∷ ts) [] all = absurd all
planned_count vs terms (t ∷ ts) (p ∷ ps) all = ap suc (planned_count vs terms ts ps all.1)

take_all : {X : Type 0} (xs : List X) (i : ℕ) → length xs ≤ i → take i xs ≡ xs
take_all [] zero l = refl
take_all [] (suc i) l = refl
take_all (x ∷ xs) zero l = absurd (omega arith)
take_all (x ∷ xs) (suc i) l = ap (λ ys. x ∷ ys) (take_all xs i (omega arith))

-- the node is compiled, and all of its children
pub node_planned : (vs : List Name) (terms : List Term) (n : Node) (nodes : List Node) (index : ℕ) (p : Planned) (rest plan : List Planned) → nodes ≡ (out-Node n).children → length nodes ≤ index
    → MatchOption p.shapes (HasLost vs terms (map (pattern_in nothing) (out-Node n).triples)) (AreShapes vs terms (map (pattern_in nothing) (out-Node n).triples)) → p.conds ≡ (out-Node n).conds → p.below ≡ length rest
    → plan ≡ p ∷ rest → IsSoFar vs terms nodes index rest → ArePlanned vs terms (flat_tree (tree_of n)) plan
node_planned vs terms n nodes index p rest plan same l shapes conds below is far =
    let f = forest_of (map tree_of (out-Node n).children) in
    let all : ArePlanned vs terms (flat f) rest = subst (λ cs. ArePlanned vs terms (flat (forest_of (map tree_of cs))) rest) (take_all nodes index l ∙ same) far.are in
    subst (λ t. ArePlanned vs terms (flat_tree t) plan) (sym (tree_out n))
    (subst (λ plan. ArePlanned vs terms (flat_tree (trees.node (out-Node n).triples (out-Node n).conds f)) plan) (sym is)
    (record { shapes = shapes; conds = conds; below = below ∙ planned_count vs terms (flat f) rest all }, all))

-- a group, and then the others
pub one_first : (p : Planned) (rest none one all : List Planned) → none ≡ [] → one ≡ none ++ p ∷ [] → all ≡ one ++ rest → all ≡ p ∷ rest
one_first p rest none one all empty first join = join ∙ ap (λ xs. xs ++ rest) (first ∙ ap (λ xs. xs ++ p ∷ []) empty)
