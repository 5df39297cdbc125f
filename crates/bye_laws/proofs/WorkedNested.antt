-- Examples of two variables, of which every row binds the first and some rows the second: their start, when it is right, and the pass.
use Rattle.std.proofs.Common.{◌≡◌, refl, ℕ, Bool, true, false, not, ◌&&◌, ◌||◌, List, [], ◌∷◌, map, Option, Some, None, ◌⊎◌, inl, inr, ⊎_elim, sym, ◌∙◌, ap, subst}
use Rattle.std.specs.Prelude.{is_some}
use Rattle.std.specs.List.{filter, list_all, list_any}
use Rattle.bye_terms.specs.declared.term.Term.{Term}
use Rattle.bye_terms.specs.Members.{In}
use Rattle.bye_terms.specs.Terms.{Statement}
use Rattle.bye_terms.proofs.Lists.{all_map, each_of, filtered, in_any, in_filtered, in_map, map_in, of_each}
use Rattle.bye_terms.proofs.Members.{all_from, all_in}
use Rattle.bye_terms.proofs.Tests.{both, not_both, not_true, one_part}
use Rattle.bye_table.specs.Domains.{AreAlike, AreSelected, BindsEach, IsBefore, IsBelow, IsSeen, IsWithin, Wanted}
use Rattle.bye_table.specs.DomainTrees.{Domain, IsDomainTree, IsFirstOfClass, also, domain, none}
use Rattle.bye_table.specs.Mappings.{Binds, Mapping, Name, Pairs, first_of, merge, row_mapping}
use Rattle.bye_table.proofs.Merging.{binds}
use Rattle.bye_pattern.specs.declared.class.Class.TheVariants.{Optional}
use Rattle.bye_pattern.specs.declared.cond.Cond.{Cond}
use Rattle.bye_pattern.specs.declared.level.Level.{Level}
use Rattle.bye_pattern.specs.declared.slot.Slot.{Slot}
use Rattle.bye_pattern.specs.declared.slot.Slot.TheVariants.{Const, Var}
use Rattle.bye_pattern.specs.Certificates.{ShowsExtension, ShowsUncovered}
use Rattle.bye_pattern.specs.Conditions.{same_term}
use Rattle.bye_pattern.specs.Keeping.{IsKept, IsRight, IsStart, IsThinned}
use Rattle.bye_pattern.specs.Patterns.{Meets, Pattern, all_vars, slot_under}
use Rattle.bye_pattern.specs.Starting.{IsStartTree}
use Rattle.bye_pattern.specs.Trees.{Tree, leaf, more, node, plain_select}
use Rattle.bye_pattern.proofs.OneGroup.{in_all_vars}
use Rattle.bye_pattern.proofs.SameTerms.{same_self}
use Rattle.bye_laws.specs.Completeness.{AreExamples}
use Rattle.bye_laws.specs.LocalPass.{AreSettled, IsSettled, IsShut}
use Rattle.bye_laws.specs.Parts.{Within}
use Rattle.bye_laws.specs.Reaching.{NoValues}
use Rattle.bye_laws.specs.Serving.{IsNeeded}
use Rattle.bye_laws.specs.Strongest.{AreAround, AreRowsOf, IsStrongestNode}
use Rattle.bye_laws.proofs.AnyRight.{root_of_right}
use Rattle.bye_laws.proofs.ClaimLists.{extension_by_list, uncovered_by_list}
use Rattle.bye_table.proofs.RowNumbers.{at_in}
use Rattle.bye_laws.proofs.LocalPass.{both_in, children_of, first_of_in, local_kept, rest_of_in, settled_down, thinned_right}
use Rattle.bye_laws.proofs.LocalQuestions.{drop_cond}
use Rattle.bye_laws.proofs.PassMaps.{thinned_map}
use Rattle.bye_laws.proofs.Served.{triples_stand}
use Rattle.bye_laws.proofs.StartsRight.{by_covering, optional_right}
use Rattle.bye_laws.proofs.StrongestAt.{start_at}
use Rattle.bye_laws.proofs.Withins.{each_seen, seen_up, within_each, within_self}
use Rattle.bye_laws.proofs.WorkedDomains.{all_rows}

-- the rows of a table that bind a variable
pub rows_that_bind : (rows : List Pairs) (x : Name) → AreRowsOf (map row_mapping rows) x (map row_mapping (filter (λ row. is_some (row_mapping row x)) rows))
rows_that_bind rows x m = (
  (λ h.
      let r = in_map row_mapping (filter (λ row. is_some (row_mapping row x)) rows) m h in
      let w = filtered (λ row. is_some (row_mapping row x)) rows r.0 r.1 in
      (subst (In (map row_mapping rows)) r.2 (map_in row_mapping rows r.0 w.0), subst (λ (m : Mapping). Binds m x) r.2 w.1)),
  (λ (h, b).
      let r = in_map row_mapping rows m h in
      subst (In (map row_mapping (filter (λ row. is_some (row_mapping row x)) rows))) r.2
      (map_in row_mapping (filter (λ row. is_some (row_mapping row x)) rows) r.0
      (in_filtered (λ row. is_some (row_mapping row x)) rows r.0 r.1 (subst (λ (m : Mapping). Binds m x) (sym r.2) b)))),
)

-- whether a place can become a term, a pattern a triple, and a pattern some triple, by values for what the mapping leaves open
abbrev pub can_be : Option Term → Term → Bool
can_be None t = true
can_be (Some s) t = same_term s t

abbrev pub can_become : Mapping → Pattern → Statement → Bool
can_become m p f = can_be (slot_under m p.s) f.s && can_be (slot_under m p.p) f.p && can_be (slot_under m p.o) f.o

abbrev pub can_meet : List Statement → Mapping → Pattern → Bool
can_meet g m p = list_any (can_become m p) g

first_can : (o p : Option Term) (t : Term) → first_of o p ≡ Some t → can_be o t ≡ true
first_can None p t e = refl
first_can (Some s) p t e = let same : s ≡ t = cc in ap (same_term s) (sym same) ∙ same_self s

place_can : (m e : Mapping) (s : Slot) (t : Term) → slot_under (merge m e) s ≡ Some t → can_be (slot_under m s) t ≡ true
place_can m e (Var v) t is = first_can (m v) (e v) t is
place_can m e (Const c) t is = first_can (Some c) None t is

-- where some pattern of a node can become no triple there are no values
pub no_values : (g : List Statement) (m : Mapping) (ps : List Pattern) (cs : List Cond) → list_all (can_meet g m) ps ≡ false → NoValues g m (node ps cs leaf)
no_values g m ps cs never e within same met = not_both _ (of_each (can_meet g m) ps can) never
  where
    can : (p : Pattern) → In ps p → can_meet g m p ≡ true
    can p h =
        let w = all_in (Meets g (merge m e)) ps p met.0 h in
        in_any (can_become m p) g w.0 w.1 (both _ _ (both _ _ (place_can m e p.s w.0.s w.2.s) (place_can m e p.p w.0.p w.2.p)) (place_can m e p.o w.0.o w.2.o))

-- so a node is shut where each row that does not bind its variable has such a pattern
abbrev pub is_shut : List Statement → Name → List Pattern → Pairs → Bool
is_shut g m ps row = is_some (row_mapping row m) || not (list_all (can_meet g (row_mapping row)) ps)

pub shut : (g : List Statement) (rows : List Pairs) (x m : Name) (ps : List Pattern) (cs : List Cond) → list_all (is_shut g m ps) rows ≡ true
    → IsShut g (map row_mapping rows) x m (node ps cs leaf)
shut g rows x m ps cs e =
    all_map (λ r. Binds r x → (Binds r m → ⊥) → NoValues g r (node ps cs leaf)) row_mapping rows
    (all_from (λ row. Binds (row_mapping row) x → (Binds (row_mapping row) m → ⊥) → NoValues g (row_mapping row) (node ps cs leaf)) rows (λ row h b out.
    ⊎_elim (λ k. absurd (out k)) (λ k. no_values g (row_mapping row) ps cs (not_true _ k)) (one_part _ _ (each_of (is_shut g m ps) rows e row h))))

-- every row binds the first variable, and some rows the second, but not all
pub record AreNestedRows (rows : List Mapping) (x m : Name) : Type 0 where
  pub examples : AreExamples (record { vars = x ∷ m ∷ []; rows = rows })
  pub root : BindsEach rows x
  pub seen : IsSeen rows m
  pub apart : IsWithin rows x m → ⊥

abbrev pub examples_of : List Mapping → Name → Name → Wanted
examples_of rows x m = record { vars = x ∷ m ∷ []; rows = rows }

-- these are the variables
cases : (rows : List Mapping) (x m : Name) → AreNestedRows rows x m → (v : Name) → IsSeen rows v → (x ≡ v) ⊎ (m ≡ v)
cases rows x m is v seen = ⊎_elim inl (λ h. ⊎_elim inr (λ n. absurd n) h) (is.examples.within v seen)

-- each within the domain of the first alone is the first
root_case : (rows : List Mapping) (x m : Name) → AreNestedRows rows x m → (v : Name) → IsWithin rows x v → x ≡ v
root_case rows x m is v up =
    ⊎_elim (λ e. e) (λ e. absurd (is.apart (subst (IsWithin rows x) (sym e) up)))
    (cases rows x m is v (seen_up rows x v (each_seen rows x is.examples.some is.root) up))

-- the tree of domains
abbrev pub tree_of_two : Name → Name → Domain
tree_of_two x m = domain x (also (domain m none) none)

pub nested_tree : (rows : List Mapping) (x m : Name) → AreNestedRows rows x m → IsDomainTree (examples_of rows x m) (tree_of_two x m)
nested_tree rows x m is = record {
  labels = labels;
  covers = λ v seen. ⊎_elim
      (λ e. (x, inl refl, subst (AreAlike rows x) e (within_self rows x, within_self rows x)))
      (λ e. (m, inr (inl (inl refl)), subst (AreAlike rows m) e (within_self rows m, within_self rows m)))
      (cases rows x m is v seen);
  ordered = (below, (tt, ((λ y k. absurd k), tt), tt));
  root = is.root;
}
  where
    not_first : (y : Name) → IsBefore (x ∷ m ∷ []) y x → ⊥
    not_first y (inl (e, h)) = is.examples.once.0 h
    not_first y (inr (inl (e, h))) = h
    not_first y (inr (inr h)) = h

    not_alike : (y : Name) → IsBefore (x ∷ m ∷ []) y m → AreAlike rows m y → ⊥
    not_alike y (inl (e, h)) same = is.apart (subst (λ y. IsWithin rows y m) (sym e) same.1)
    not_alike y (inr (inl (e, h))) same = h
    not_alike y (inr (inr h)) same = h

    first_root : IsFirstOfClass (examples_of rows x m) x
    first_root = record { seen = each_seen rows x is.examples.some is.root; first = λ y before same. not_first y before }

    first_child : IsFirstOfClass (examples_of rows x m) m
    first_child = record { seen = is.seen; first = not_alike }

    labels : (v : Name) → (x ≡ v) ⊎ (((m ≡ v) ⊎ ⊥) ⊎ ⊥) → IsFirstOfClass (examples_of rows x m) v
    labels v (inl e) = subst (IsFirstOfClass (examples_of rows x m)) e first_root
    labels v (inr (inl (inl e))) = subst (IsFirstOfClass (examples_of rows x m)) e first_child
    labels v (inr (inl (inr k))) = absurd k
    labels v (inr (inr k)) = absurd k

    below : (y : Name) → ((m ≡ y) ⊎ ⊥) ⊎ ⊥ → IsBelow rows y x
    below y (inl (inl e)) = subst (λ y. IsBelow rows y x) e (within_each rows m x is.root, is.apart)
    below y (inl (inr k)) = absurd k
    below y (inr k) = absurd k

-- the variables around each
around_root : (rows : List Mapping) (x m : Name) → AreNestedRows rows x m → AreAround (examples_of rows x m) x (x ∷ [])
around_root rows x m is = record {
  members = λ v. ((λ h. ⊎_elim (λ e. subst (IsWithin rows x) e (within_self rows x)) (λ k. absurd k) h), (λ up. inl (root_case rows x m is v up)));
  sorted = (tt, tt);
}

around_child : (rows : List Mapping) (x m : Name) → AreNestedRows rows x m → AreAround (examples_of rows x m) m (x ∷ m ∷ [])
around_child rows x m is = record {
  members = λ v. (
    (λ h. ⊎_elim (λ e. subst (IsWithin rows m) e (within_each rows m x is.root)) (λ h. ⊎_elim (λ e. subst (IsWithin rows m) e (within_self rows m)) (λ k. absurd k) h) h),
    (λ up. is.examples.within v (seen_up rows m v is.seen up)),
  );
  sorted = ((inl (refl, inl refl), tt), (tt, tt));
}

abbrev pub tree_over : List Pattern → List Cond → List Pattern → List Cond → Tree
tree_over ps cs qs ds = node ps cs (more (node qs ds leaf) leaf)

-- the start by the strongest nodes: of all rows over the first variable, and over both of the rows that bind the second
pub record AreStartLists (level : Level) (g : List Statement) (rows : List Mapping) (x m : Name) (ps qs : List Pattern) (cs ds : List Cond) : Type 0 where
  pub nested : AreNestedRows rows x m
  pub others : List Mapping
  pub binding : AreRowsOf rows m others
  pub root : IsStrongestNode level g (x ∷ []) rows ps cs
  pub child : IsStrongestNode level g (x ∷ m ∷ []) others qs ds

start_tree : (level : Level) (g : List Statement) (rows : List Mapping) (x m : Name) (ps qs : List Pattern) (cs ds : List Cond) → AreStartLists level g rows x m ps qs cs ds
    → IsStartTree level g (examples_of rows x m) (tree_of_two x m) (tree_over ps cs qs ds)
start_tree level g rows x m ps qs cs ds is = (
  (start_at level g (examples_of rows x m) x (x ∷ []) rows ps cs is.nested.examples (around_root rows x m is.nested) (all_rows rows x is.nested.root)).0 is.root,
  (((start_at level g (examples_of rows x m) m (x ∷ m ∷ []) is.others qs ds is.nested.examples (around_child rows x m is.nested) is.binding).0 is.child, tt), tt),
)

selected : (rows : List Mapping) (x m : Name) → AreNestedRows rows x m → AreSelected (examples_of rows x m) (x ∷ m ∷ [])
selected rows x m is = inl (each_seen rows x is.examples.some is.root, (m ∷ [], inl (is.seen, ([], refl, refl)), refl))

pub nested_start : (level : Level) (g : List Statement) (rows : List Mapping) (x m : Name) (ps qs : List Pattern) (cs ds : List Cond) → AreStartLists level g rows x m ps qs cs ds
    → IsStart Optional level g (examples_of rows x m) (plain_select (x ∷ m ∷ []) (tree_over ps cs qs ds))
nested_start level g rows x m ps qs cs ds is = record {
  domains = tree_of_two x m;
  tree = tree_over ps cs qs ds;
  vars = x ∷ m ∷ [];
  allowed = tt;
  over = nested_tree rows x m is.nested;
  conjuncts = start_tree level g rows x m ps qs cs ds is;
  selected = selected rows x m is.nested;
  query = refl;
}

-- it is right where its triples contain the variables, and no row without the second variable has values for it
pub record IsRightStart (level : Level) (g : List Statement) (rows : List Mapping) (x m : Name) (ps qs : List Pattern) (cs ds : List Cond) : Type 0 where
  pub lists : AreStartLists level g rows x m ps qs cs ds
  pub root : In (all_vars ps) x
  pub child : In (all_vars qs) m
  pub shut : IsShut g rows x m (node qs ds leaf)

pub nested_right : (level : Level) (g : List Statement) (rows : List Mapping) (x m : Name) (ps qs : List Pattern) (cs ds : List Cond) → IsRightStart level g rows x m ps qs cs ds
    → IsRight Optional level g rows [] (plain_select (x ∷ m ∷ []) (tree_over ps cs qs ds))
nested_right level g rows x m ps qs cs ds is =
    (optional_right level g (examples_of rows x m) (plain_select (x ∷ m ∷ []) (tree_over ps cs qs ds)) is.lists.nested.examples begun
    ((by_covering Optional level g (examples_of rows x m) (plain_select (x ∷ m ∷ []) (tree_over ps cs qs ds)) is.lists.nested.examples begun).1 covered)).1
    closed
  where
    begun : IsStart Optional level g (examples_of rows x m) (plain_select (x ∷ m ∷ []) (tree_over ps cs qs ds))
    begun = nested_start level g rows x m ps qs cs ds is.lists

    nodes : IsStartTree level g (examples_of rows x m) (tree_of_two x m) (tree_over ps cs qs ds)
    nodes = start_tree level g rows x m ps qs cs ds is.lists

    covered : (v : Name) → ShowsUncovered g rows v → ⊥
    covered v claim = ⊎_elim
        (λ e. ((uncovered_by_list level g (examples_of rows x m) x ps cs nodes.0).0 (subst (ShowsUncovered g rows) (sym e) claim)).1 is.root)
        (λ e. ((uncovered_by_list level g (examples_of rows x m) m qs ds nodes.1.0.0).0 (subst (ShowsUncovered g rows) (sym e) claim)).1 is.child)
        (cases rows x m is.lists.nested v claim.seen)

    lacks_root : (i : ℕ) (values : Mapping) → ShowsExtension level g rows i x values → ⊥
    lacks_root i values claim = claim.place.lacks (all_in (λ r. Binds r x) rows claim.row is.lists.nested.root (at_in rows i claim.row claim.place.row_at))

    lacks_child : (i : ℕ) (values : Mapping) → ShowsExtension level g rows i m values → ⊥
    lacks_child i values claim =
        let (r, place, class, met) = (extension_by_list level g (examples_of rows x m) i m values qs ds is.lists.nested.examples nodes.1.0.0).0 claim in
        let row = at_in rows i r place.row_at in
        let bound = all_in (λ k. Binds k x) rows r is.lists.nested.root row in
        let fresh : (v : Name) → Binds values v → m ≡ v = λ v b. ⊎_elim
        (λ e. absurd (is.lists.nested.apart (subst (λ v. IsWithin rows v m) (sym e) ((class v).0 b).1)))
        (λ e. e)
        (cases rows x m is.lists.nested v (seen_up rows m v is.lists.nested.seen ((class v).0 b).0)) in
        all_in (λ k. Binds k x → (Binds k m → ⊥) → NoValues g k (node qs ds leaf)) rows r is.shut row bound place.lacks values
        (λ v b. subst (In (all_vars qs)) (fresh v b) is.child)
        (λ v s t left right. absurd (place.lacks (subst (Binds r) (sym (fresh v (binds (values v) t right))) (binds (r v) s left))))
        met

    closed : (i : ℕ) (v : Name) (values : Mapping) → ShowsExtension level g rows i v values → ⊥
    closed i v values claim = ⊎_elim
        (λ e. lacks_root i values (subst (λ v. ShowsExtension level g rows i v values) (sym e) claim))
        (λ e. lacks_child i values (subst (λ v. ShowsExtension level g rows i v values) (sym e) claim))
        (cases rows x m is.lists.nested v claim.place.seen)

-- it is settled at its root
start_settled : (level : Level) (g : List Statement) (rows : List Mapping) (x m : Name) (ps qs : List Pattern) (cs ds : List Cond) → IsRightStart level g rows x m ps qs cs ds
    → IsSettled level g rows [] x (tree_of_two x m) (tree_over ps cs qs ds)
start_settled level g rows x m ps qs cs ds is =
    root_of_right level g rows (plain_select (x ∷ m ∷ []) (tree_over ps cs qs ds)) (tree_of_two x m) (nested_right level g rows x m ps qs cs ds is)
    ((is.root, λ k. k), (((is.child, apart), tt), tt))
  where
    apart : In (all_vars ps) m → ⊥
    apart h =
        let w = in_all_vars ps m h in
        let up = (((start_tree level g rows x m ps qs cs ds is.lists).0.triples w.0).0 w.1).over m w.2 in
        is.lists.nested.apart up

-- where all parts of a list are right the pass leaves out each element
all_left_out : {X : Type 0} (R : List X → Type 0) (xs : List X) → ((ys : List X) → Within ys xs → R ys) → IsThinned R xs []
all_left_out R [] right = refl
all_left_out R (x ∷ xs) right = inl (right xs (λ y h. inr h), all_left_out R xs (λ ys within. right ys (λ y h. inr (within y h))))

-- What the pass keeps of a start that is right, with one pattern at its root. Of the child's conditions it asks whether the child
-- stays shut, and here it leaves out all; of its patterns it asks besides whether the second variable stays in them. At the root the
-- conditions go and the pattern stays.
pub nested_kept : (level : Level) (g : List Statement) (rows : List Mapping) (x m : Name) (p : Pattern) (qs rs : List Pattern) (cs ds : List Cond)
    → IsRightStart level g rows x m (p ∷ []) qs cs ds
    → IsThinned (λ es. IsShut g rows x m (node qs es leaf)) ds [] → IsThinned (λ zs. In (all_vars zs) m × IsShut g rows x m (node zs [] leaf)) qs rs
    → IsKept Optional level g (examples_of rows x m) [] (plain_select (x ∷ m ∷ []) (tree_over (p ∷ []) [] rs []))
nested_kept level g rows x m p qs rs cs ds is conditions triples =
    local_kept level g (examples_of rows x m) (tree_of_two x m) (x ∷ m ∷ []) (tree_over (p ∷ []) cs qs ds) (tree_over (p ∷ []) [] rs [])
    is.lists.nested.examples (nested_tree rows x m is.lists.nested)
    (selected rows x m is.lists.nested) (start_tree level g rows x m (p ∷ []) qs cs ds is.lists) (nested_right level g rows x m (p ∷ []) qs cs ds is) (
      more (node rs [] leaf) leaf,
      [],
      p ∷ [],
      (node rs [] leaf, leaf, (leaf, [], rs, refl, conditions_here, triples_here, refl), refl, refl),
      root_conditions,
      inr ((λ t. t.over.0.cover x (each_seen rows x is.lists.nested.examples.some is.lists.nested.root) (within_self rows x, within_self rows x)), ([], refl, refl)),
      refl,
    )
  where
    whole : IsSettled level g rows [] x (tree_of_two x m) (tree_over (p ∷ []) cs qs ds)
    whole = start_settled level g rows x m (p ∷ []) qs cs ds is

    below : AreSettled level g rows (all_vars (p ∷ [])) x (also (domain m none) none) (more (node qs ds leaf) leaf)
    below = children_of level g rows [] x x (also (domain m none) none) (p ∷ []) cs (more (node qs ds leaf) leaf) whole

    child : IsSettled level g rows (all_vars (p ∷ [])) x (domain m none) (node qs ds leaf)
    child = first_of_in level g rows (all_vars (p ∷ [])) x (domain m none) none (node qs ds leaf) leaf below

    conditions_here : IsThinned (λ es. IsSettled level g rows (all_vars (p ∷ [])) x (domain m none) (node qs es leaf)) ds []
    conditions_here = thinned_map (λ es. IsShut g rows x m (node qs es leaf)) (λ es. IsSettled level g rows (all_vars (p ∷ [])) x (domain m none) (node qs es leaf)) ds []
        (λ es within. let stand = drop_cond level g rows (all_vars (p ∷ [])) x m none qs ds es leaf within child in (stand.1, stand.0)) conditions

    bare : IsSettled level g rows (all_vars (p ∷ [])) x (domain m none) (node qs [] leaf)
    bare = thinned_right (λ es. IsSettled level g rows (all_vars (p ∷ [])) x (domain m none) (node qs es leaf)) ds [] child conditions_here

    needed : (zs : List Pattern) → In (all_vars zs) m → (v : Name) → IsNeeded rows (all_vars (p ∷ [])) m none [] leaf v → In (all_vars zs) v
    needed zs h v (inl (seen, same)) = ⊎_elim
        (λ e. absurd (is.lists.nested.apart (subst (λ v. IsWithin rows v m) (sym e) same.1)))
        (λ e. subst (In (all_vars zs)) e h)
        (cases rows x m is.lists.nested v seen)
    needed zs h v (inr (inl k)) = absurd k.1
    needed zs h v (inr (inr k)) = absurd k

    triples_here : IsThinned (λ zs. IsSettled level g rows (all_vars (p ∷ [])) x (domain m none) (node zs [] leaf)) qs rs
    triples_here = thinned_map (λ zs. In (all_vars zs) m × IsShut g rows x m (node zs [] leaf))
        (λ zs. IsSettled level g rows (all_vars (p ∷ [])) x (domain m none) (node zs [] leaf)) qs rs
        (λ zs within.
        let stand = triples_stand level g rows (all_vars (p ∷ [])) x m none qs zs [] leaf within bare in
        ((λ h. stand.1 (needed zs h.0, h.1)), (λ t. let k = stand.0 t in (k.0 m (inl (is.lists.nested.seen, (within_self rows m, within_self rows m))), k.1))))
        triples

    left : IsSettled level g rows (all_vars (p ∷ [])) x (domain m none) (node rs [] leaf)
    left = thinned_right (λ zs. IsSettled level g rows (all_vars (p ∷ [])) x (domain m none) (node zs [] leaf)) qs rs bare triples_here

    root : IsSettled level g rows [] x (tree_of_two x m) (tree_over (p ∷ []) cs rs [])
    root = (settled_down level g rows [] x x (also (domain m none) none) (p ∷ []) cs (more (node qs ds leaf) leaf) (more (node rs [] leaf) leaf) whole).0
        (both_in level g rows (all_vars (p ∷ [])) x (domain m none) none (node rs [] leaf) leaf left
        (rest_of_in level g rows (all_vars (p ∷ [])) x (domain m none) none (node qs ds leaf) leaf below))

    root_conditions : IsThinned (λ es. IsSettled level g rows [] x (tree_of_two x m) (tree_over (p ∷ []) es rs [])) cs []
    root_conditions = all_left_out (λ es. IsSettled level g rows [] x (tree_of_two x m) (tree_over (p ∷ []) es rs [])) cs
        (λ es within. (drop_cond level g rows [] x x (also (domain m none) none) (p ∷ []) cs es (more (node rs [] leaf) leaf) within root).1
        (all_from (λ r. Binds r x → (Binds r x → ⊥) → NoValues g r (tree_over (p ∷ []) es rs [])) rows (λ r h b out. absurd (out b))))
