-- The rows of a whole tree, and that they are those of the algebra.
use Rattle.std.proofs.Common.{◌≡◌, refl, ℕ, zero, suc, ◌+◌, ◌<◌, List, [], ◌∷◌, ◌++◌, append-nil, map, Option, Some, None, option_map, ⊎_elim, ◌↔◌, sym, ◌∙◌, ap, subst, length, length-append, get_or, take, cond, arith}
use Rattle.std.specs.Str.{bytes_eq}
use Rattle.std.proofs.lemmas.List.{take_more}
use Rattle.bye_terms.specs.declared.term.Term.{Term}
use Rattle.bye_terms.proofs.Members.{in_cases}
use Rattle.bye_terms.proofs.Tests.{bool_cases}
use Rattle.bye_table.specs.Mappings.{Mapping, Name, nothing}
use Rattle.bye_pattern.specs.declared.cond.Cond.{Cond}
use Rattle.bye_pattern.specs.Conditions.{AllHoldExpr}
use Rattle.bye_pattern.specs.Designed.{IsWellDesigned}
use Rattle.bye_pattern.specs.Patterns.{all_vars}
use Rattle.bye_pattern.specs.Trees.{Forest, Select, Tree, forest_vars, leaf, more, node, own_vars, tree_vars}
use Rattle.bye_laws.specs.Descending.{Down, Descends, IsStep}
use Rattle.bye_laws.specs.Reaching.{children}
use Rattle.bye_laws.proofs.Descending.{descends_row, row_descends}
use Rattle.bye_graph.specs.Graphs.{GraphValue, IsNumbered, statements}
use Rattle.bye_tree.specs.Exprs.{expr_of}
use Rattle.bye_node.specs.declared.env.Shape.{Shape}
use Rattle.bye_node.specs.Envs.{Cells, blank, cell}
use Rattle.bye_node.specs.Steps.{AreListed, IsEnv, IsStepBy, decode}
use Rattle.bye_node.proofs.Stepping.{step_env, step_given, step_up}
use Rattle.bye_member.specs.Answers.{AreRowsBy}
use Rattle.bye_member.specs.Downs.{DescendsBy, flat_tree}
use Rattle.bye_member.specs.Lines.{project}
use Rattle.bye_member.specs.Plans.{ArePlanned, IsPlan, Planned, count, room}
use Rattle.bye_member.specs.Searches.{Adds, HasAll, IsPinned, IsRowOf, Reached, Task}
use Rattle.bye_member.proofs.Downing.{down_given, down_is, joined, listed_part}
use Rattle.bye_member.proofs.Planning.{plan_front}
use Rattle.bye_member.proofs.Searching.{adds_change}
use Rattle.bye_member.proofs.Taking.{FitsTask}
use Rattle.bye_member.proofs.Walking.{Entered, fits_step, lost_enters}

-- room for the shapes of one group more
room_join : (ps : List Planned) (p : Planned) → room (ps ++ p ∷ []) ≡ room ps + count p.shapes
room_join [] p = omega arith
room_join (q ∷ ps) p = let h = room_join ps p in omega (arith, h)

pub room_more : (ps : List Planned) (i : ℕ) (p : Planned) → i < length ps → p ≡ get_or ps i p → room (take (i + 1) ps) ≡ room (take i ps) + count p.shapes
room_more ps i p l at = ap room (take_more ps i p l ∙ ap (λ p. take i ps ++ p ∷ []) (sym at)) ∙ room_join (take i ps) p

pub room_grown : {X : Type 0} (ps : List Planned) (i : ℕ) (p : Planned) (items : X → List Shape) (o : Option X) (x : X) (old new : List Shape) → i < length ps → p ≡ get_or ps i p → option_map items o ≡ p.shapes → o ≡ Some x
    → new ≡ old ++ items x → length old ≡ room (take i ps) → length new ≡ room (take (i + 1) ps)
room_grown ps i p items o x old new l at is some longer before =
    let a = room_more ps i p l at in
    let b : count p.shapes ≡ length (items x) = ap count (sym is ∙ ap (option_map items) some) in
    let d : length new ≡ length old + length (items x) = ap length longer ∙ length-append old (items x) in
    omega (arith, a, b, d, before)

pub room_same_on : {X : Type 0} (ps : List Planned) (i : ℕ) (p : Planned) (items : X → List Shape) (o : Option X) (old : List Shape) → i < length ps → p ≡ get_or ps i p → option_map items o ≡ p.shapes → o ≡ None
    → length old ≡ room (take i ps) → length old ≡ room (take (i + 1) ps)
room_same_on ps i p items o old l at is none before =
    let a = room_more ps i p l at in
    let b : count p.shapes ≡ 0 = ap count (sym is ∙ ap (option_map items) none) in
    omega (arith, a, b, before)

-- the groups of a tree
joined_leaf : (f : Forest) → joined f leaf ≡ f
joined_leaf leaf = refl
joined_leaf (more t f) = ap (more t) (joined_leaf f)

pub tree_plan : (vs : List Name) (g : GraphValue) (t : Tree) (plan : List Planned) → AreListed nothing vs (tree_vars t) → ArePlanned vs g.terms (flat_tree t) plan → IsPlan vs g (more t leaf) plan
tree_plan vs g t plan listed planned = record {
  listed = record { once = listed.once; has = λ v i. listed.has v (⊎_elim (λ i. i) (λ b. absurd b) (in_cases (tree_vars t) [] v i)) };
  entries = subst (λ ts. ArePlanned vs g.terms ts plan) (sym (append-nil (flat_tree t))) planned;
}

pub root_plan : (task : Task) (p : Planned) (after : List Planned) → (t : Tree) × IsPlan task.vars task.graph (more t leaf) (p ∷ after) → (f : Forest) × IsPlan task.vars task.graph f after
root_plan task p after (t, plan) = (joined (children t) leaf, (plan_front task.vars task.graph t leaf p after plan).next)

-- the rows of a root with shapes
pub root_adds : (task : Task) (e : Cells) (p : Planned) (after : List Planned) (conds : List Cond) (here : List Shape) (xs ys : List Cells) → Entered task e p after conds here
    → ((f : Forest) → IsPlan task.vars task.graph f after → Adds xs ys (Reached task f (FitsTask task conds here e)))
    → (t : Tree) → IsPlan task.vars task.graph (more t leaf) (p ∷ after) → Adds xs ys (Reached task (children t) (IsStepBy nothing task.vars task.graph e t))
root_adds task e p after conds here xs ys at adds t plan =
    let next = subst (λ f. IsPlan task.vars task.graph f after) (joined_leaf (children t)) (plan_front task.vars task.graph t leaf p after plan).next in
    adds_change xs ys _ _ (λ r (z, h, l). (z, (fits_step task e t leaf p after conds here at plan z).0 h, l)) (adds (children t) next)

pub root_all : (task : Task) (e : Cells) (p : Planned) (after : List Planned) (conds : List Cond) (here : List Shape) (ys : List Cells) → Entered task e p after conds here
    → ((f : Forest) → IsPlan task.vars task.graph f after → HasAll ys (Reached task f (FitsTask task conds here e)))
    → (t : Tree) → IsPlan task.vars task.graph (more t leaf) (p ∷ after) → HasAll ys (Reached task (children t) (IsStepBy nothing task.vars task.graph e t))
root_all task e p after conds here ys at all t plan r (z, h, l) =
    let next = subst (λ f. IsPlan task.vars task.graph f after) (joined_leaf (children t)) (plan_front task.vars task.graph t leaf p after plan).next in
    all (children t) next r (z, (fits_step task e t leaf p after conds here at plan z).1 h, l)

-- and of one without
pub root_lost : (task : Task) (e : Cells) (p : Planned) (after : List Planned) (ys : List Cells) → IsNumbered task.graph → p.shapes ≡ None
    → (t : Tree) → IsPlan task.vars task.graph (more t leaf) (p ∷ after) → HasAll ys (Reached task (children t) (IsStepBy nothing task.vars task.graph e t))
root_lost task e p after ys good none t plan r (z, s, l) = absurd ((lost_enters task e t leaf p after ys good none plan).none refl z s)

-- The mapping that binds nothing.
blank_len : (n : ℕ) → length (blank n) ≡ n
blank_len zero = refl
blank_len (suc n) = ap suc (blank_len n)

blank_cell : (n i : ℕ) → cell (blank n) i ≡ None
blank_cell zero i = refl
blank_cell (suc n) zero = refl
blank_cell (suc n) (suc i) = blank_cell n i

blank_env : (vs : List Name) (g : GraphValue) → IsEnv vs g (blank (length vs))
blank_env vs g = record { len = blank_len (length vs); used = λ i n h. absurd (not_some n (sym (blank_cell (length vs) i) ∙ h)) }
  where
    not_some : (n : ℕ) → ◌≡◌ {A = Option ℕ} None (Some n) → ⊥
    not_some n e = cc

blank_at : (vs : List Name) (ts : List Term) (v : Name) → decode vs ts (blank (length vs)) v ≡ None
blank_at [] ts v = refl
blank_at (w ∷ vs) ts v =
    ⊎_elim (λ t. ap (λ b. cond b None (decode vs ts (blank (length vs)) v)) t) (λ f. ap (λ b. cond b None (decode vs ts (blank (length vs)) v)) f ∙ blank_at vs ts v) (bool_cases (bytes_eq w v))

blank_nothing : (vs : List Name) (ts : List Term) → decode vs ts (blank (length vs)) ≡ nothing
blank_nothing vs ts = λ i v. blank_at vs ts v i

tree_parts : (vs : List Name) (t : Tree) → AreListed nothing vs (tree_vars t) → AreListed nothing vs (own_vars t) × AreListed nothing vs (forest_vars (children t))
tree_parts vs (node ps cs f) listed = listed_part vs (all_vars ps) (forest_vars f) listed

-- The mappings to which the way down leads are the rows of the algebra.
descends_is : (vs : List Name) (g : GraphValue) (q : Select) (y : Cells) → IsNumbered g → AreListed nothing vs (tree_vars q.tree) → DescendsBy vs g q y → Descends (statements g) q (decode vs g.terms y) × IsEnv vs g y
descends_is vs g q y good listed (x, s, down, outer) =
    let parts = tree_parts vs q.tree listed in
    let start = step_up nothing vs g (blank (length vs)) q.tree x parts.0.once s in
    let env = step_env nothing vs g (blank (length vs)) q.tree x parts.0.once (blank_env vs g) s in
    let r = down_is vs g good x (children q.tree) y parts.1 env down in
    ((decode vs g.terms x, subst (λ e. IsStep (statements g) e q.tree (decode vs g.terms x)) (blank_nothing vs g.terms) start, r.0, outer), r.1)

descends_given : (vs : List Name) (g : GraphValue) (q : Select) (m : Mapping) → IsNumbered g → AreListed nothing vs (tree_vars q.tree) → Descends (statements g) q m → (y : Cells) × DescendsBy vs g q y × (m ≡ decode vs g.terms y)
descends_given vs g q m good listed (x, s, down, outer) =
    let parts = tree_parts vs q.tree listed in
    let start = subst (λ e. IsStep (statements g) e q.tree x) (sym (blank_nothing vs g.terms)) s in
    let w = step_given nothing vs g good (blank (length vs)) q.tree x parts.0 (blank_env vs g) start in
    let env = step_env nothing vs g (blank (length vs)) q.tree w.0 parts.0.once (blank_env vs g) w.1 in
    let r = down_given vs g good w.0 (children q.tree) m parts.1 env (subst (λ x. Down (statements g) x (children q.tree) m) (sym w.2) down) in
    (r.0, (w.0, w.1, r.1, subst (AllHoldExpr q.outer) (sym r.2) outer), sym r.2)

pub descends_by : (vs : List Name) (g : GraphValue) (q : Select) (m : Mapping) → IsNumbered g → AreListed nothing vs (tree_vars q.tree) → Descends (statements g) q m ↔ ((y : Cells) × DescendsBy vs g q y × (m ≡ decode vs g.terms y))
descends_by vs g q m good listed = (descends_given vs g q m good listed, λ (y, h, is). subst (Descends (statements g) q) (sym is) (descends_is vs g q y good listed h).0)

pub rows_by : (vs : List Name) (g : GraphValue) (q : Select) → IsNumbered g → IsWellDesigned q.tree → AreListed nothing vs (tree_vars q.tree) → AreRowsBy vs g q (DescendsBy vs g q)
rows_by vs g q good designed listed = record {
  env = λ y h. (descends_is vs g q y good listed h).1;
  row = λ y h. descends_row (statements g) q (decode vs g.terms y) designed (descends_is vs g q y good listed h).0;
  whole = λ m h. (descends_by vs g q m good listed).0 (row_descends (statements g) q m designed h);
}

-- a row of a task is that of a mapping of its query that is as the pins say
pub row_of : (task : Task) (q : Select) (r : Cells) → q.outer ≡ map expr_of task.outer → IsRowOf task q.tree r ↔ ((y : Cells) × DescendsBy task.vars task.graph q y × IsPinned task.pins y × (r ≡ project task.selected y))
row_of task q r same = (
  λ (x, s, l). (l.y, (x, s, l.down, subst (λ es. AllHoldExpr es (decode task.vars task.graph.terms l.y)) (sym same) l.wanted.outer), l.wanted.pinned, l.row),
  λ (y, (x, s, down, outer), pinned, is). (x, s, record { y = y; down = down; wanted = record { pinned = pinned; outer = subst (λ es. AllHoldExpr es (decode task.vars task.graph.terms y)) same outer }; row = is }),
)

-- The whole tree, from the mapping that binds nothing.
pub first_root : (task : Task) (t : Tree) (plan slice : List Planned) (p : Planned) (after : List Planned) → AreListed nothing task.vars (tree_vars t) → ArePlanned task.vars task.graph.terms (flat_tree t) plan → slice ≡ plan → slice ≡ p ∷ after
    → IsPlan task.vars task.graph (more t leaf) (p ∷ after)
first_root task t plan slice p after listed planned whole is =
    tree_plan task.vars task.graph t (p ∷ after) listed (subst (ArePlanned task.vars task.graph.terms (flat_tree t)) (sym whole ∙ is) planned)
