-- A wanted row is an answer of a query of the class with OPTIONAL groups exactly where it says of each node what it should.
use Rattle.bye_pattern.specs.declared.level.Level.{Level}
use Rattle.std.proofs.Common.{◌≡◌, refl, List, [], ◌++◌, ◌⊎◌, inl, inr, ⊎_elim, sym, ◌∙◌, subst, ◌↔◌}
use Rattle.std.specs.List.{AllByRecursion}
use Rattle.bye_terms.specs.Members.{In}
use Rattle.bye_terms.specs.Terms.{Statement}
use Rattle.bye_terms.proofs.Members.{all_from, all_in, in_cases, in_left, in_right}
use Rattle.bye_pattern.specs.declared.cond.Cond.{Cond}
use Rattle.bye_pattern.specs.Algebra.{IsAnswer}
use Rattle.bye_pattern.specs.Conditions.{AllHoldExpr}
use Rattle.bye_pattern.specs.Conjuncts.{MeetsCond}
use Rattle.bye_pattern.specs.Designed.{IsForest, IsTree}
use Rattle.bye_table.specs.Domains.{AreAlike, IsSeen, IsWithin}
use Rattle.bye_table.specs.Mappings.{Binds, Mapping, Name}
use Rattle.bye_pattern.specs.Optional.{InOptional, IsAncestor, IsNewAt, IsNode, IsNodeIn}
use Rattle.bye_pattern.specs.Patterns.{Pattern, all_vars}
use Rattle.bye_pattern.specs.Trees.{Forest, Select, Tree, alg, forest_vars, leaf, more, node, own_conds, own_vars, tree_vars}
use Rattle.bye_pattern.proofs.FourRules.{at_once}
use Rattle.bye_table.proofs.Merging.{in_or_not, restrict_within}
use Rattle.bye_pattern.proofs.Places.{fresh, node_vars}
use Rattle.bye_laws.specs.Nodes.{BindsNew, ByNode}
use Rattle.bye_laws.specs.Reaching.{BindsAll, IsChild, MeetsNode, children}
use Rattle.bye_laws.proofs.Examples.{in_seen}
use Rattle.bye_laws.proofs.Reached.{BelowForest, BelowTree, InReached, InReachedForest, Reached, reached_in}
use Rattle.bye_laws.proofs.ReachedNodes.{child_below, names_bound, reached_row, row_reached, tree_below}
use Rattle.bye_laws.proofs.Withins.{seen_up}

-- the answers of a query
abbrev pub Answers : List Statement → Select → Mapping → Type 0
Answers g q m = IsAnswer g q.vars (alg q) m

-- the class of a query: as one relation of its tree, with a variable of each node, and with the nodes below one another
pub once_designed : (level : Level) → (rows : List Mapping) (q : Select) → InOptional level rows q → IsTree [] [] q.tree
once_designed level rows q class = (at_once q.tree).0 class.designed

-- the class of a node, with the variables that are seen
pub class_at : (level : Level) → (rows : List Mapping) (q : Select) → InOptional level rows q → (p : List Name) (u : Tree) → IsNode [] q.tree p u
    → (x : Name) × IsSeen rows x × ((v : Name) → IsNewAt p u v ↔ (IsSeen rows v × AreAlike rows x v))
class_at level rows q class p u k =
    let c = class.classes p u k in (
      c.0,
      c.1.0,
      λ v. (
        (λ new. let same = (c.1.1 v).0 new in (seen_up rows c.0 v c.1.0 same.0, same)),
        (λ h. (c.1.1 v).1 h.1),
      ),
    )

-- the nodes below one another, from above
pub order_at : (level : Level) → (rows : List Mapping) (q : Select) → InOptional level rows q → (p : List Name) (u : Tree) (r : List Name) (t : Tree) (x y : Name) → IsNode [] q.tree p u → IsNode [] q.tree r t
    → IsNewAt p u x → IsNewAt r t y → IsAncestor u r t ↔ (IsWithin rows y x × (IsWithin rows x y → ⊥))
order_at level rows q class p u r t x y a b nx ny = class.order r t p u y x b a ny nx

-- an answer is what is reached
pub answer_reached : (level : Level) → (g : List Statement) (q : Select) (rows : List Mapping) (m : Mapping) → InOptional level rows q → Answers g q m → Reached g q.tree m × AllByRecursion (MeetsCond m) (own_conds q.tree)
answer_reached level g q rows m class (n, row, e) =
    let r = row_reached g q n (once_designed level rows q class) row in
    let same = restrict_within q.vars n (λ v h. (class.selects v).1 (reached_in n q.tree v (r.0.binds v h))) in
    subst (λ m. Reached g q.tree m × AllByRecursion (MeetsCond m) (own_conds q.tree)) (sym (e ∙ sym same)) (r.0, r.1)

-- and what is reached is an answer
pub reached_answer : (level : Level) → (g : List Statement) (q : Select) (rows : List Mapping) (m : Mapping) → InOptional level rows q → Reached g q.tree m → AllByRecursion (MeetsCond m) (own_conds q.tree) → Answers g q m
reached_answer level g q rows m class r conds =
    (m, reached_row g q m (once_designed level rows q class) r conds (subst (λ es. AllHoldExpr es m) (sym class.outer) tt), restrict_within q.vars m (λ v h. (class.selects v).1 (reached_in m q.tree v (r.binds v h))))

-- places
pub self_node : (p : List Name) (t : Tree) → IsNode p t p t
self_node p (node ps cs f) = inl (refl, refl)

-- a node is the root or below it
pub node_cases : (parent : List Name) (t : Tree) (p : List Name) (u : Tree) → IsNode parent t p u → ((p ≡ parent) × (u ≡ t)) ⊎ IsAncestor t p u
node_cases parent (node ps cs f) p u h = h

-- a variable of the own triples is the parent's or new here
new_own : (parent : List Name) (ps : List Pattern) (cs : List Cond) (f : Forest) (v : Name) → In (all_vars ps) v
    → In parent v ⊎ ((p : List Name) × (u : Tree) × IsNode parent (node ps cs f) p u × IsNewAt p u v)
new_own parent ps cs f v h = ⊎_elim (λ k. inl k) (λ n. inr (parent, node ps cs f, inl (refl, refl), (h, n))) (in_or_not parent v)

-- a variable of a tree is the parent's or new at some node
mutual
  pub new_at : (parent : List Name) (t : Tree) (v : Name) → In (tree_vars t) v → In parent v ⊎ ((p : List Name) × (u : Tree) × IsNode parent t p u × IsNewAt p u v)
  new_at parent (node ps cs f) v h =
      ⊎_elim (λ k. new_own parent ps cs f v k)
      (λ k. ⊎_elim (λ j. new_own parent ps cs f v j) (λ w. inr (w.0, w.1, inr w.2, w.3)) (new_in (all_vars ps) f v k)) (in_cases (all_vars ps) _ v h)

  new_in : (parent : List Name) (f : Forest) (v : Name) → In (forest_vars f) v → In parent v ⊎ ((p : List Name) × (u : Tree) × IsNodeIn parent f p u × IsNewAt p u v)
  new_in parent leaf v h = absurd h
  new_in parent (more t f) v h =
      ⊎_elim (λ k. ⊎_elim (λ j. inl j) (λ w. inr (w.0, w.1, inl w.2, w.3)) (new_at parent t v k))
      (λ k. ⊎_elim (λ j. inl j) (λ w. inr (w.0, w.1, inr w.2, w.3)) (new_in parent f v k)) (in_cases (tree_vars t) _ v h)

-- a mapping that binds a variable below a node's parent binds the node's new variables
abbrev mutual
  Stairs : Mapping → Tree → Type 0
  Stairs m (node ps cs f) = StairsIn m (all_vars ps) f

  StairsIn : Mapping → List Name → Forest → Type 0
  StairsIn m own leaf = Unit {0}
  StairsIn m own (more t f) = ((v : Name) → In (tree_vars t) v → (In own v → ⊥) → Binds m v → BindsNew m own t) × Stairs m t × StairsIn m own f

-- a row that binds a variable binds each one around it
up_at : (rows : List Mapping) (m : Mapping) (x y : Name) → In rows m → IsWithin rows x y → Binds m x → Binds m y
up_at rows m x y h up = all_in (λ m. Binds m x → Binds m y) rows m up h

-- a row that binds a variable below a node binds the node's new variables
rise : (level : Level) → (q : Select) (rows : List Mapping) (m : Mapping) → InOptional level rows q → In rows m → (own : List Name) (t : Tree) → ((p : List Name) (u : Tree) → IsNode own t p u → IsNode [] q.tree p u)
    → (v : Name) → In (tree_vars t) v → (In own v → ⊥) → Binds m v → BindsNew m own t
rise level q rows m class row own t at v h out b w new =
    let here = at own t (self_node own t) in
    ⊎_elim (λ k. absurd (out k))
    (λ k. ⊎_elim
    (λ e.
    let x = class_at level rows q class own t here in
    let a = ((x.2 v).0 (subst (λ p. IsNewAt p t v) e.0 (subst (λ u. IsNewAt k.0 u v) e.1 k.3))).1 in
    let c = ((x.2 w).0 new).1 in
    up_at rows m x.0 w row c.0 (up_at rows m v x.0 row a.1 b))
    (λ below. up_at rows m v w row ((order_at level rows q class own t k.0 k.1 w v here (at k.0 k.1 k.2) new k.3).0 below).0 b)
    (node_cases own t k.0 k.1 k.2))
    (new_at own t v h)

-- so each wanted row has such stairs
mutual
  stairs : (level : Level) → (q : Select) (rows : List Mapping) (m : Mapping) → InOptional level rows q → In rows m → (parent : List Name) (t : Tree)
      → ((p : List Name) (u : Tree) → IsNode parent t p u → IsNode [] q.tree p u) → Stairs m t
  stairs level q rows m class row parent (node ps cs f) at = stairs_in level q rows m class row (all_vars ps) f (λ p u k. at p u (inr k))

  stairs_in : (level : Level) → (q : Select) (rows : List Mapping) (m : Mapping) → InOptional level rows q → In rows m → (own : List Name) (f : Forest)
      → ((p : List Name) (u : Tree) → IsNodeIn own f p u → IsNode [] q.tree p u) → StairsIn m own f
  stairs_in level q rows m class row own leaf at = tt
  stairs_in level q rows m class row own (more t f) at = (
    rise level q rows m class row own t (λ p u k. at p u (inl k)),
    stairs level q rows m class row own t (λ p u k. at p u (inl k)),
    stairs_in level q rows m class row own f (λ p u k. at p u (inr k)),
  )

-- a node of which all variables are bound, as the row reaches it
record At (g : List Statement) (m : Mapping) (t : Tree) : Type 0 where
  all : BindsAll m t
  meets : MeetsNode g m t
  below : BelowTree g m t

-- with the parent's variables bound, the new ones are all that is missing
all_from_new : (m : Mapping) (own : List Name) (t : Tree) → ((v : Name) → In own v → Binds m v) → BindsNew m own t → BindsAll m t
all_from_new m own t up new v h = ⊎_elim (λ k. up v k) (λ n. new v (h, n)) (in_or_not own v)

-- each node whose new variables are bound is reached
mutual
  reached_at : (g : List Statement) (m : Mapping) (parent seen : List Name) (t : Tree) → IsTree parent seen t
      → ((p : List Name) (u : Tree) → IsNode parent t p u → (x : Name) × IsNewAt p u x) → At g m t → Stairs m t
      → (p : List Name) (u : Tree) → IsNode parent t p u → BindsNew m p u → At g m u
  reached_at g m parent seen (node ps cs f) d news here steps p u (inl (e, same)) new = subst (At g m) (sym same) here
  reached_at g m parent seen (node ps cs f) d news here steps p u (inr k) new =
      reached_at_in g m (all_vars ps) (seen ++ all_vars ps) f d.1 (λ v h. in_right seen _ v h) (λ p u k. news p u (inr k)) here.all here.below steps p u k new

  reached_at_in : (g : List Statement) (m : Mapping) (own seen : List Name) (f : Forest) → IsForest own seen f → ((v : Name) → In own v → In seen v)
      → ((p : List Name) (u : Tree) → IsNodeIn own f p u → (x : Name) × IsNewAt p u x) → ((v : Name) → In own v → Binds m v) → BelowForest g m f → StairsIn m own f
      → (p : List Name) (u : Tree) → IsNodeIn own f p u → BindsNew m p u → At g m u
  reached_at_in g m own seen leaf d in_seen news up below steps p u k new = absurd k
  reached_at_in g m own seen (more t f) d in_seen news up below steps p u (inl k) new =
      let x = news p u (inl k) in
      let first = steps.0 x.0 (node_vars own t p u x.0 k x.1.0) (λ h. x.1.1 (fresh own seen t d.0 p u x.0 k x.1.0 (in_seen x.0 h))) (new x.0 x.1) in
      ⊎_elim
      (λ h. reached_at g m own seen t d.0 (λ p u k. news p u (inl k)) (record { all = h.0; meets = h.1; below = h.2 }) steps.1 p u k new)
      (λ h. absurd (h.0 (all_from_new m own t up first))) below.0
  reached_at_in g m own seen (more t f) d in_seen news up below steps p u (inr k) new =
      reached_at_in g m own (seen ++ tree_vars t) f d.1 (λ v h. in_left _ _ v (in_seen v h)) (λ p u k. news p u (inr k)) up below.1 steps.2 p u k new

-- a variable that some row binds is one of the tree's
pub covered_vars : (level : Level) → (rows : List Mapping) (q : Select) → InOptional level rows q → (v : Name) → IsSeen rows v → In (tree_vars q.tree) v
covered_vars level rows q class v s = let at = class.covers v s in node_vars [] q.tree at.0 at.1 v at.2 at.3.0

-- each node has a new variable
some_new : (level : Level) → (q : Select) (rows : List Mapping) → InOptional level rows q → (p : List Name) (u : Tree) → IsNode [] q.tree p u → (x : Name) × IsNewAt p u x
some_new level q rows class p u k =
    let x = class_at level rows q class p u k in
    let same = all_from (λ m. Binds m x.0 → Binds m x.0) rows (λ m h b. b) in
    (x.0, (x.2 x.0).1 (x.1, (same, same)))

-- each wanted row binds the root's variables
root_bound : (level : Level) → (q : Select) (rows : List Mapping) (m : Mapping) → InOptional level rows q → In rows m → BindsAll m q.tree
root_bound level q rows m class row v h = all_in (λ m. Binds m v) rows m (class.whole v h) row

-- what holds below the root
root_below : (g : List Statement) (t : Tree) (m : Mapping) → Reached g t m → BelowTree g m t
root_below g t m r = r.below

-- an answer says of each node what it should
pub answer_by_node : (level : Level) → (g : List Statement) (q : Select) (rows : List Mapping) (m : Mapping) → InOptional level rows q → In rows m → Answers g q m → ByNode g q.tree m
answer_by_node level g q rows m class row answer =
    let r = answer_reached level g q rows m class answer in
    let here : At g m q.tree = record { all = root_bound level q rows m class row; meets = (r.0.own, r.1); below = r.0.below } in
    let at = reached_at g m [] [] q.tree (once_designed level rows q class) (some_new level q rows class) here (stairs level q rows m class row [] q.tree (λ p u k. k)) in
    record {
      meets = λ p u k new. (at p u k new).meets;
      none = λ p u c k child new shut.
          child_below g m (children u) c (tree_below g m u (at p u k new).below) child (λ all. shut (λ v h. all v h.0));
    }

-- back
mutual
  below_from : (g : List Statement) (root : Tree) (m : Mapping) → ByNode g root m → (p : List Name) (t : Tree) → ((r : List Name) (u : Tree) → IsNode p t r u → IsNode [] root r u)
      → BindsNew m p t → BindsAll m t → BelowTree g m t
  below_from g root m by p (node ps cs f) at new all =
      below_in g root m by p (node ps cs f) (at p (node ps cs f) (inl (refl, refl))) new all f (λ c h. h) (λ r u k. at r u (inr k))

  below_in : (g : List Statement) (root : Tree) (m : Mapping) → ByNode g root m → (p : List Name) (u : Tree) → IsNode [] root p u → BindsNew m p u → BindsAll m u
      → (f : Forest) → ((c : Tree) → IsChild f c → IsChild (children u) c) → ((r : List Name) (t : Tree) → IsNodeIn (own_vars u) f r t → IsNode [] root r t) → BelowForest g m f
  below_in g root m by p u here new all leaf child at = tt
  below_in g root m by p u here new all (more t f) child at = (
    ⊎_elim
        (λ every. inl (
          every,
          by.meets (own_vars u) t (at (own_vars u) t (inl (self_node (own_vars u) t))) (λ v h. every v h.0),
          below_from g root m by (own_vars u) t (λ r w k. at r w (inl k)) (λ v h. every v h.0) every,
        ))
        (λ shut. inr (shut, by.none p u t here (child t (inl refl)) new (λ fresh. shut (all_from_new m (own_vars u) t all fresh))))
        (names_bound m (own_vars t)),
    below_in g root m by p u here new all f (λ c h. child c (inr h)) (λ r w k. at r w (inr k)),
  )

-- a variable that is bound is one of a reached node
mutual
  reaches : (m : Mapping) (t : Tree) (v : Name) → BindsAll m t → Stairs m t → In (tree_vars t) v → Binds m v → InReached m t v
  reaches m (node ps cs f) v all steps h b =
      ⊎_elim (λ k. inl k)
      (λ k. ⊎_elim (λ j. inl j) (λ out. inr (reaches_in m (all_vars ps) f v all steps k out b)) (in_or_not (all_vars ps) v)) (in_cases (all_vars ps) _ v h)

  reaches_in : (m : Mapping) (own : List Name) (f : Forest) (v : Name) → ((w : Name) → In own w → Binds m w) → StairsIn m own f → In (forest_vars f) v → (In own v → ⊥) → Binds m v → InReachedForest m f v
  reaches_in m own leaf v all steps h out b = absurd h
  reaches_in m own (more t f) v all steps h out b =
      ⊎_elim (λ k. let every = all_from_new m own t all (steps.0 v k out b) in inl (every, reaches m t v every steps.1 k b))
      (λ k. inr (reaches_in m own f v all steps.2 k out b)) (in_cases (tree_vars t) _ v h)

-- and a variable of a reached node is bound
mutual
  reached_bound : (m : Mapping) (t : Tree) (v : Name) → BindsAll m t → InReached m t v → Binds m v
  reached_bound m (node ps cs f) v all (inl h) = all v h
  reached_bound m (node ps cs f) v all (inr h) = reached_bound_in m f v h

  reached_bound_in : (m : Mapping) (f : Forest) (v : Name) → InReachedForest m f v → Binds m v
  reached_bound_in m leaf v h = absurd h
  reached_bound_in m (more t f) v (inl h) = reached_bound m t v h.0 h.1
  reached_bound_in m (more t f) v (inr h) = reached_bound_in m f v h

-- a row that says of each node what it should is an answer
pub by_node_answer : (level : Level) → (g : List Statement) (q : Select) (rows : List Mapping) (m : Mapping) → InOptional level rows q → In rows m → ByNode g q.tree m → Answers g q m
by_node_answer level g q rows m class row by =
    let all = root_bound level q rows m class row in
    let met = by.meets [] q.tree (self_node [] q.tree) (λ v h. all v h.0) in
    reached_answer level g q rows m class (record {
      binds = λ v h. reaches m q.tree v all (stairs level q rows m class row [] q.tree (λ p u k. k)) (covered_vars level rows q class v (m, row, h)) h;
      bound = λ v h. reached_bound m q.tree v all h;
      own = met.0;
      below = below_from g q.tree m by [] q.tree (λ r u k. k) (λ v h. all v h.0) all;
    }) met.1

-- the two together
pub by_node : (level : Level) → (g : List Statement) (q : Select) (rows : List Mapping) (m : Mapping) → InOptional level rows q → In rows m → Answers g q m ↔ ByNode g q.tree m
by_node level g q rows m class row = (answer_by_node level g q rows m class row, by_node_answer level g q rows m class row)

-- and for all rows
pub by_nodes : (level : Level) → (g : List Statement) (q : Select) (rows : List Mapping) → InOptional level rows q → AllByRecursion (Answers g q) rows ↔ AllByRecursion (ByNode g q.tree) rows
by_nodes level g q rows class = (
  λ h. all_from (ByNode g q.tree) rows (λ m k. (by_node level g q rows m class k).0 (all_in (Answers g q) rows m h k)),
  λ h. all_from (Answers g q) rows (λ m k. (by_node level g q rows m class k).1 (all_in (ByNode g q.tree) rows m h k)),
)
