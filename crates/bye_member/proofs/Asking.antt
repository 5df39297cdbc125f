-- The variables of a tree, their places, and the pins of a row, one after another.
use Rattle.std.proofs.Common.{◌≡◌, refl, ℕ, zero, suc, ◌+◌, ◌<◌, ◌≤◌, cond, List, [], ◌∷◌, ◌++◌, map, inl, inr, ⊎_elim, ◌↔◌, sym, ◌∙◌, ap, subst, length, get_or, drop, take, arith, true, false, Bool}
use Rattle.std.proofs.lemmas.List.{drop_all, take_all, take_more}
use Rattle.bye_terms.specs.declared.term.Term.{Term}
use Rattle.bye_terms.specs.Members.{In, EachOnce}
use Rattle.bye_terms.proofs.Members.{once_more}
use Rattle.bye_table.specs.Mappings.{Mapping, Name, is_in}
use Rattle.bye_table.proofs.Merging.{in_is}
use Rattle.bye_terms.proofs.Tests.{not_both}
use Rattle.bye_pattern.specs.declared.node.Node.{Node, out-Node}
use Rattle.bye_pattern.specs.Nodes.{forest_of, tree_of}
use Rattle.bye_pattern.specs.Patterns.{Pattern, all_vars}
use Rattle.bye_pattern.specs.Trees.{forest_vars, node, tree_vars}
use Rattle.bye_tree.specs.Names.{with_name, with_names}
use Rattle.bye_tree.proofs.Judged.{is_out}
use Rattle.bye_tree.proofs.Joining.{from_names, names_join, new_names}
use Rattle.bye_tree.proofs.Opened.{tree_out}
use Rattle.bye_node.specs.declared.pin.Pin.{Pin}
use Rattle.bye_member.specs.Answers.{ArePins, ArePlaces, IsPinOf, IsPlaceOf}

-- names that are put into a set stand there once
name_once : (b : Bool) (vs : List Name) (v : Name) → is_in vs v ≡ b → EachOnce vs → EachOnce (cond b vs (vs ++ v ∷ []))
name_once true vs v e once = once
name_once false vs v e once = once_more vs v once (λ h. not_both (is_in vs v) (in_is vs v h) e)

pub names_once : (vs ws : List Name) → EachOnce vs → EachOnce (with_names vs ws)
names_once vs [] once = once
names_once vs (w ∷ ws) once = names_once (with_name vs w) ws (name_once (is_in vs w) vs w refl once)

-- one more place
places_grow : (vs sel : List Name) (places : List ℕ) (v : Name) (i : ℕ) → ArePlaces vs sel places → IsPlaceOf vs v i → ArePlaces vs (sel ++ v ∷ []) (places ++ i ∷ [])
places_grow vs [] [] v i are is = (is, tt)
places_grow vs [] (j ∷ places) v i are is = absurd are
places_grow vs (w ∷ sel) [] v i are is = absurd are
places_grow vs (w ∷ sel) (j ∷ places) v i are is = (are.0, places_grow vs sel places v i are.1 is)

pub places_more : (vs sel : List Name) (k : ℕ) (places more : List ℕ) (v : Name) (i : ℕ) → k < length sel → v ≡ get_or sel k v → ArePlaces vs (take k sel) places → IsPlaceOf vs v i
    → more ≡ places ++ i ∷ [] → ArePlaces vs (take (k + 1) sel) more
places_more vs sel k places more v i l at are is made =
    let taken : take (k + 1) sel ≡ take k sel ++ v ∷ [] = take_more sel k v l ∙ ap (λ w. take k sel ++ w ∷ []) (sym at) in
    subst (λ more. ArePlaces vs (take (k + 1) sel) more) (sym made) (subst (λ sel. ArePlaces vs sel (places ++ i ∷ [])) (sym taken) (places_grow vs (take k sel) places v i are is))

pub places_all : (vs sel : List Name) (k : ℕ) (places : List ℕ) → length sel ≤ k → ArePlaces vs (take k sel) places → ArePlaces vs sel places
places_all vs sel k places end are = subst (λ sel. ArePlaces vs sel places) (take_all k sel end) are

-- one more pin
pins_grow : (ts : List Term) (sel : List Name) (m : Mapping) (vs : List Name) (pins : List Pin) (v : Name) (pin : Pin) → ArePins ts sel m vs pins → IsPinOf ts sel m v pin
    → ArePins ts sel m (vs ++ v ∷ []) (pins ++ pin ∷ [])
pins_grow ts sel m [] [] v pin are is = (is, tt)
pins_grow ts sel m [] (p ∷ pins) v pin are is = absurd are
pins_grow ts sel m (w ∷ vs) [] v pin are is = absurd are
pins_grow ts sel m (w ∷ vs) (p ∷ pins) v pin are is = (are.0, pins_grow ts sel m vs pins v pin are.1 is)

pub pins_more : (ts : List Term) (sel : List Name) (m : Mapping) (vs : List Name) (k : ℕ) (pins more : List Pin) (v : Name) (pin : Pin) → k < length vs → v ≡ get_or vs k v
    → ArePins ts sel m (take k vs) pins → IsPinOf ts sel m v pin → more ≡ pins ++ pin ∷ [] → ArePins ts sel m (take (k + 1) vs) more
pins_more ts sel m vs k pins more v pin l at are is made =
    let taken : take (k + 1) vs ≡ take k vs ++ v ∷ [] = take_more vs k v l ∙ ap (λ w. take k vs ++ w ∷ []) (sym at) in
    subst (λ more. ArePins ts sel m (take (k + 1) vs) more) (sym made) (subst (λ vs. ArePins ts sel m vs (pins ++ pin ∷ [])) (sym taken) (pins_grow ts sel m (take k vs) pins v pin are is))

pub pins_all : (ts : List Term) (sel : List Name) (m : Mapping) (vs ws : List Name) (k : ℕ) (pins : List Pin) → ws ≡ vs → length ws ≤ k → ArePins ts sel m (take k ws) pins → ArePins ts sel m vs pins
pins_all ts sel m vs ws k pins same end are = subst (λ vs. ArePins ts sel m vs pins) (take_all k ws end ∙ same) are

-- the variables of a tree
pub tree_in : (n : Node) (ps : List Pattern) (ns : List Node) (i : ℕ) (old own last : List Name) → ps ≡ (out-Node n).triples → ns ≡ (out-Node n).children → own ≡ with_names old (all_vars ps)
    → length ns ≤ i → with_names last (forest_vars (forest_of (map tree_of (drop i ns)))) ≡ with_names own (forest_vars (forest_of (map tree_of ns))) → last ≡ with_names old (tree_vars (tree_of n))
tree_in n ps ns i old own last triples children is end so =
    let below : List Name = forest_vars (forest_of (map tree_of ns)) in
    let opened : tree_of n ≡ node ps (out-Node n).conds (forest_of (map tree_of ns)) = tree_out n ∙ (λ k. node (sym triples k) (out-Node n).conds (forest_of (map tree_of (sym children k)))) in
    sym (ap (λ (ns : List Node). with_names last (forest_vars (forest_of (map tree_of ns)))) (drop_all i ns end)) ∙ so
    ∙ ap (λ vs. with_names vs below) is ∙ names_join old (all_vars ps) below ∙ sym (ap (λ t. with_names old (tree_vars t)) opened)

pub all_once : (none names ws : List Name) → none ≡ [] → names ≡ with_names none ws → EachOnce names
all_once none names ws empty is = subst EachOnce (sym (is ∙ ap (λ vs. with_names vs ws) empty)) (names_once [] ws tt)

pub all_there : (none names ws : List Name) → none ≡ [] → names ≡ with_names none ws → (v : Name) → In names v ↔ In ws v
all_there none names ws empty is v =
    let e : names ≡ with_names [] ws = is ∙ ap (λ vs. with_names vs ws) empty in (
      λ h. ⊎_elim (λ n. absurd n) (λ k. k) (from_names [] ws v (subst (λ vs. In vs v) e h)),
      λ h. subst (λ vs. In vs v) (sym e) (new_names [] ws v h),
    )

-- names that stand once are put into a set one after another
fresh : (vs : List Name) (i : ℕ) (v : Name) → EachOnce vs → i < length vs → v ≡ get_or vs i v → In (take i vs) v → ⊥
fresh [] i v once l at h = absurd (omega arith)
fresh (w ∷ vs) zero v once l at h = h
fresh (w ∷ vs) (suc i) v once l at (inl same) = once.0 (subst (In vs) (sym same) (place_in vs i v (omega arith) at))
  where
    place_in : (vs : List Name) (i : ℕ) (v : Name) → i < length vs → v ≡ get_or vs i v → In vs v
    place_in [] i v l at = absurd (omega arith)
    place_in (w ∷ vs) zero v l at = inl (sym at)
    place_in (w ∷ vs) (suc i) v l at = inr (place_in vs i v (omega arith) at)
fresh (w ∷ vs) (suc i) v once l at (inr h) = fresh vs i v once.1 (omega arith) at h

pub name_next : (vs : List Name) (i : ℕ) (v : Name) (names more : List Name) → EachOnce vs → i < length vs → v ≡ get_or vs i v → names ≡ take i vs → more ≡ with_name names v → more ≡ take (i + 1) vs
name_next vs i v names more once l at so is =
    let new : is_in (take i vs) v ≡ false = is_out (take i vs) v (fresh vs i v once l at) in
    is ∙ ap (λ ns. with_name ns v) so ∙ ap (λ b. cond b (take i vs) (take i vs ++ v ∷ [])) new ∙ ap (λ w. take i vs ++ w ∷ []) at ∙ sym (take_more vs i v l)
