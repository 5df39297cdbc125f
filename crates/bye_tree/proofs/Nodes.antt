-- The walk over a node of the program, by the facts that its code has.
use Rattle.std.proofs.Common.{◌≡◌, refl, ℕ, ◌+◌, ◌<◌, ◌≤◌, Bool, true, false, IsTrue, List, [], ◌∷◌, ◌++◌, Option, None, length, get_or, drop, take, map, ◌↔◌, sym, ◌∙◌, ap, subst, reverse}
use Rattle.std.specs.List.{list_all}
use Rattle.std.proofs.lemmas.List.{drop_all, length-map, take-map}
use Rattle.std.proofs.Math.Seq.{take-append_seam}
use Rattle.bye_table.specs.Mappings.{Name}
use Rattle.bye_pattern.specs.declared.node.Node.{Node, out-Node}
use Rattle.bye_pattern.specs.declared.cond.Cond.{Cond}
use Rattle.bye_pattern.specs.declared.rule.Rule.{Rule}
use Rattle.bye_pattern.specs.Patterns.{Pattern, all_vars}
use Rattle.bye_pattern.specs.Trees.{Tree, node, Forest, leaf, more, forest_vars, tree_vars}
use Rattle.bye_pattern.specs.Nodes.{tree_of, forest_of}
use Rattle.bye_pattern.specs.Designed.{IsBroken, IsWellDesigned}
use Rattle.bye_tree.specs.declared.shape.ShapeErr.{ShapeErr}
use Rattle.bye_tree.specs.declared.shape.ShapeErr.TheVariants.{Broken, Memory}
use Rattle.bye_tree.specs.Judging.{IsRefused, Stands, is_safe, judged}
use Rattle.bye_tree.specs.Names.{with_names}
use Rattle.bye_tree.specs.Checking.{BreaksHere, IsDesignedHere, IsTurned, IsUnder, NamesUp}
use Rattle.bye_tree.specs.Checking as spec
use Rattle.bye_tree.proofs.Joining.{names_again, names_join}
use Rattle.bye_tree.proofs.Opened.{tree_out}
use Rattle.bye_tree.proofs.Narrow.{from_item, opened}
use Rattle.bye_tree.proofs.Walked.{Judged, Walked, child_refused, node_designed, node_refused, walk_goes_on}

-- what the code knows of a node when it judges it
pub record Told (n : Node) (ps : List Pattern) (cs : List Cond) (ns : List Node) (own parent above shown : List Name) (empty safe : Bool) : Type 0 where
  pub triples_are : ps ≡ (out-Node n).triples
  pub conds_are : cs ≡ (out-Node n).conds
  pub children_are : ns ≡ (out-Node n).children
  pub own_is : own ≡ with_names [] (all_vars ps)
  pub safe_is : safe ≡ list_all (is_safe parent own) cs
  pub empty_is : IsTrue empty ↔ ((out-Node n).triples ≡ [])
  pub shown_is : shown ≡ above

abbrev forest : List Node → Forest
forest ns = forest_of (map tree_of ns)

tree_is : (n : Node) (ps : List Pattern) (cs : List Cond) (ns : List Node) (own parent above shown : List Name) (empty safe : Bool) → Told n ps cs ns own parent above shown empty safe → tree_of n ≡ node ps cs (forest ns)
tree_is n ps cs ns own parent above shown empty safe t = opened n ns t.children_are ∙ (λ i. node (sym t.triples_are i) (sym t.conds_are i) (forest ns))

not_empty : (b : Bool) (ps qs : List Pattern) → ps ≡ qs → IsTrue b ↔ (qs ≡ []) → b ≡ false → ps ≡ [] → ⊥
not_empty b ps qs e w f h = let t : b ≡ true = w.1 (sym e ∙ h) in cc

judged_so : (n : Node) (ps : List Pattern) (cs : List Cond) (ns : List Node) (own parent above shown seen : List Name) (empty safe : Bool) → Told n ps cs ns own parent above shown empty safe
    → judged empty safe own parent (with_names [] shown) seen ≡ None → Judged empty own parent above seen ps cs
judged_so n ps cs ns own parent above shown seen empty safe t j = record {
  own_is = t.own_is;
  some = not_empty empty ps (out-Node n).triples t.triples_are t.empty_is;
  none = λ e. t.triples_are ∙ t.empty_is.0 e;
  verdict = (λ i. judged empty (sym t.safe_is i) own parent (with_names [] (sym t.shown_is i)) seen) ∙ j;
}

pub refused_node : (e : ShapeErr) (n : Node) (ps : List Pattern) (cs : List Cond) (ns : List Node) (own parent above shown seen : List Name) (empty safe : Bool)
    → Told n ps cs ns own parent above shown empty safe → IsRefused (judged empty safe own parent (with_names [] shown) seen) e → NamesUp (BreaksHere parent above seen (tree_of n)) e
refused_node e n ps cs ns own parent above shown seen empty safe t r =
    subst (λ (u : Tree). NamesUp (BreaksHere parent above seen u) e) (sym (tree_is n ps cs ns own parent above shown empty safe t))
    (node_refused e empty own parent above seen ps cs (forest ns) t.own_is (not_empty empty ps (out-Node n).triples t.triples_are t.empty_is) (λ x. t.triples_are ∙ t.empty_is.0 x)
    (subst (λ (o : Option Rule). IsRefused o e) (λ i. judged empty (t.safe_is i) own parent (with_names [] (t.shown_is i)) seen) r))

-- the walk at a child, and at the end
abbrev WalkedTo : List Node → ℕ → List Name → List Name → List Name → List Name → Type 0
WalkedTo ns i own entered start seen = Walked own entered start seen (forest ns) (i + 1) (forest (drop i ns))

at_child : (ns : List Node) (i : ℕ) (m : Node) (own entered start seen : List Name) → i < length ns → m ≡ get_or ns i m → WalkedTo ns i own entered start seen
    → Walked own entered start seen (forest ns) (i + 1) (more (tree_of m) (forest (drop (i + 1) ns)))
at_child ns i m own entered start seen l is w = subst (λ (rest : List Node). Walked own entered start seen (forest ns) (i + 1) (forest rest)) (from_item ns i m l is) w

pub refused_child : (e r : ShapeErr) (n m : Node) (i : ℕ) (ps : List Pattern) (cs : List Cond) (ns : List Node) (own parent above shown seen entered start now at : List Name) (empty safe : Bool)
    → Told n ps cs ns own parent above shown empty safe → judged empty safe own parent (with_names [] shown) seen ≡ None → entered ≡ above ++ own → start ≡ with_names seen own
    → i < length ns → m ≡ get_or ns i m → WalkedTo ns i own entered start now → at ≡ entered → NamesUp (BreaksHere own at now (tree_of m)) e → IsUnder i e r
    → NamesUp (BreaksHere parent above seen (tree_of n)) r
refused_child e r n m i ps cs ns own parent above shown seen entered start now at empty safe t j en st l is w ab h u =
    subst (λ (u : Tree). NamesUp (BreaksHere parent above seen u) r) (sym (tree_is n ps cs ns own parent above shown empty safe t))
    (child_refused e r i empty own parent above seen now ps cs (forest ns) (tree_of m) (forest (drop (i + 1) ns)) (judged_so n ps cs ns own parent above shown seen empty safe t j)
    (subst (λ (x : List Name). Walked own x (with_names seen own) now (forest ns) (i + 1) (more (tree_of m) (forest (drop (i + 1) ns)))) en
    (subst (λ (x : List Name). Walked own entered x now (forest ns) (i + 1) (more (tree_of m) (forest (drop (i + 1) ns)))) st (at_child ns i m own entered start now l is w)))
    (subst (λ (x : List Name). NamesUp (BreaksHere own x now (tree_of m)) e) (ab ∙ en) h) u)

pub seen_on : (ns : List Node) (i : ℕ) (m : Node) (seen new end : List Name) → i < length ns → m ≡ get_or ns i m → with_names seen (forest_vars (forest (drop i ns))) ≡ end
    → new ≡ with_names seen (tree_vars (tree_of m)) → with_names new (forest_vars (forest (drop (i + 1) ns))) ≡ end
seen_on ns i m seen new end l is e f =
    ap (λ vs. with_names vs (forest_vars (forest (drop (i + 1) ns)))) f ∙ names_join seen (tree_vars (tree_of m)) (forest_vars (forest (drop (i + 1) ns)))
    ∙ ap (λ rest. with_names seen (forest_vars (forest rest))) (sym (from_item ns i m l is)) ∙ e

pub walked_on : (ns : List Node) (i : ℕ) (m : Node) (own entered start seen new at : List Name) → i < length ns → m ≡ get_or ns i m → WalkedTo ns i own entered start seen → at ≡ entered
    → new ≡ with_names seen (tree_vars (tree_of m)) → IsDesignedHere own at seen (tree_of m) → WalkedTo ns (i + 1) own entered start new
walked_on ns i m own entered start seen new at l is w ab f d =
    subst (λ (x : List Name). Walked own entered start x (forest ns) (i + 1 + 1) (forest (drop (i + 1) ns))) (sym f)
    (walk_goes_on own entered start seen (forest ns) (i + 1) (tree_of m) (forest (drop (i + 1) ns)) (at_child ns i m own entered start seen l is w)
    (subst (λ (x : List Name). IsDesignedHere own x seen (tree_of m)) ab d))

pub designed_node : (n : Node) (i : ℕ) (ps : List Pattern) (cs : List Cond) (ns : List Node) (own parent above shown seen entered start last : List Name) (empty safe : Bool)
    → Told n ps cs ns own parent above shown empty safe → judged empty safe own parent (with_names [] shown) seen ≡ None → entered ≡ above ++ own → start ≡ with_names seen own
    → length ns ≤ i → WalkedTo ns i own entered start last → IsDesignedHere parent above seen (tree_of n)
designed_node n i ps cs ns own parent above shown seen entered start last empty safe t j en st l w =
    subst (λ (u : Tree). IsDesignedHere parent above seen u) (sym (tree_is n ps cs ns own parent above shown empty safe t))
    (node_designed empty own parent above seen last ps cs (forest ns) (i + 1) (judged_so n ps cs ns own parent above shown seen empty safe t j)
    (subst (λ (x : List Name). Walked own x (with_names seen own) last (forest ns) (i + 1) leaf) en
    (subst (λ (x : List Name). Walked own entered x last (forest ns) (i + 1) leaf) st
    (subst (λ (rest : List Node). Walked own entered start last (forest ns) (i + 1) (forest rest)) (drop_all i ns l) w))))

pub seen_all : (n : Node) (i : ℕ) (ps : List Pattern) (cs : List Cond) (ns : List Node) (own parent above shown seen start last : List Name) (empty safe : Bool)
    → Told n ps cs ns own parent above shown empty safe → start ≡ with_names seen own → length ns ≤ i → with_names last (forest_vars (forest (drop i ns))) ≡ with_names start (forest_vars (forest ns))
    → last ≡ with_names seen (tree_vars (tree_of n))
seen_all n i ps cs ns own parent above shown seen start last empty safe t st l e =
    ap (λ rest. with_names last (forest_vars (forest rest))) (sym (drop_all i ns l)) ∙ e
    ∙ ap (λ vs. with_names vs (forest_vars (forest ns))) (st ∙ ap (with_names seen) t.own_is) ∙ names_again seen (all_vars ps) (forest_vars (forest ns))
    ∙ ap (λ u. with_names seen (tree_vars u)) (sym (tree_is n ps cs ns own parent above shown empty safe t))

-- the root
pub subst3 : (P : List Name → List Name → List Name → Type 0) {a b c x y z : List Name} → a ≡ x → b ≡ y → c ≡ z → P a b c → P x y z
subst3 P {a} {b} {c} {x} {y} {z} e f g h = subst (λ (c : List Name). P x y c) g (subst (λ (b : List Name). P x b c) f (subst (λ (a : List Name). P a b c) e h))

pub at_root : Stands [] [] [] [] [] []
at_root = record {
  near = λ v h. h;
  parent_is = record { to = λ v h. h; back = λ v h. h };
  above_is = record { to = λ v h. h; back = λ v h. h };
  seen_is = record { to = λ v h. h; back = λ v h. h };
}

pub root_designed : (parent above seen : List Name) (t : Tree) → parent ≡ [] → above ≡ [] → seen ≡ [] → IsDesignedHere parent above seen t → IsWellDesigned t
root_designed parent above seen t p a s d = let k : IsDesignedHere [] [] [] t = subst3 (λ p a s. IsDesignedHere p a s t) p a s d in k [] [] [] at_root

here_broken : (t : Tree) (e : ShapeErr) → NamesUp (BreaksHere [] [] [] t) e → NamesUp (IsBroken t) e
here_broken t (Broken e) h = h [] [] [] at_root
here_broken t Memory h = tt

pub turned : (P : List ℕ → Rule → Type 0) (e r : ShapeErr) → NamesUp P e → IsTurned e r → spec.Names P r
turned P (Broken e) (Broken r) h u = subst (λ (x : List ℕ). P x r.rule) (sym u.0) (subst (λ (x : Rule). P (reverse e.path.items) x) (sym u.1) h)
turned P Memory (Broken r) h u = absurd u
turned P e Memory h u = tt

pub root_refused : (e r : ShapeErr) (parent above seen : List Name) (t : Tree) → parent ≡ [] → above ≡ [] → seen ≡ [] → NamesUp (BreaksHere parent above seen t) e → IsTurned e r → spec.Names (IsBroken t) r
root_refused e r parent above seen t p a s h u = turned (IsBroken t) e r (here_broken t e (subst3 (λ p a s. NamesUp (BreaksHere p a s t) e) p a s h)) u

-- the ancestors that are left when what was put on them goes
pub cut : {X : Type 0} (f : X → Name) (new old all : List X) (height : ℕ) (own : List Name) → new ≡ take height all → height ≡ length old → map f all ≡ map f old ++ own → map f new ≡ map f old
cut f new old all height own e h is =
    ap (map f) e ∙ sym (take-map f height all) ∙ (λ i. take ((h ∙ sym (length-map old f)) i) (is i)) ∙ take-append_seam (map f old) own
