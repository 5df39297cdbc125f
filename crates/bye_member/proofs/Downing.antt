-- The way down by numbers: it keeps what is bound, and it goes through a node and then through what is below and beside it.
use Rattle.std.proofs.Common.{◌≡◌, refl, List, ◌++◌, append_assoc, ◌⊎◌, inl, inr, ⊎_elim, ◌↔◌, sym, ◌∙◌, ap, subst}
use Rattle.bye_terms.specs.Members.{In}
use Rattle.bye_terms.proofs.Members.{in_cases, in_left, in_right}
use Rattle.bye_table.specs.Mappings.{Mapping, Name, nothing}
use Rattle.bye_pattern.specs.Patterns.{all_vars}
use Rattle.bye_pattern.specs.Trees.{Forest, Tree, forest_vars, leaf, more, node, own_vars, tree_vars}
use Rattle.bye_laws.specs.Descending.{Down, DownChild}
use Rattle.bye_laws.specs.Reaching.{children}
use Rattle.bye_graph.specs.Graphs.{GraphValue, IsNumbered, statements}
use Rattle.bye_node.specs.Envs.{Cells, Grows}
use Rattle.bye_node.specs.Steps.{AreListed, IsEnv, IsStepBy, decode}
use Rattle.bye_node.proofs.Cells.{grows_more, grows_self}
use Rattle.bye_node.proofs.Stepping.{step_env, step_given, step_up}
use Rattle.bye_member.specs.Downs.{DownBy, DownChildBy, flat, flat_tree}

-- lists with more variables
pub listed_part : (vs xs ys : List Name) → AreListed nothing vs (xs ++ ys) → AreListed nothing vs xs × AreListed nothing vs ys
listed_part vs xs ys h = (record { once = h.once; has = λ v i. h.has v (in_left xs ys v i) }, record { once = h.once; has = λ v i. h.has v (in_right xs ys v i) })

-- what is bound stays
mutual
  child_grows : (vs : List Name) (g : GraphValue) (e : Cells) (t : Tree) (y : Cells) → DownChildBy vs g e t y → Grows e y
  child_grows vs g e (node ps cs f) y (inl (z, s, down)) = grows_more e z y s.grows (down_grows vs g z f y down)
  child_grows vs g e (node ps cs f) y (inr (same, none)) = subst (Grows e) (sym same) (grows_self e)

  pub down_grows : (vs : List Name) (g : GraphValue) (e : Cells) (f : Forest) (z : Cells) → DownBy vs g e f z → Grows e z
  down_grows vs g e leaf z same = subst (Grows e) (sym same) (grows_self e)
  down_grows vs g e (more t f) z (y, step, rest) = grows_more e y z (child_grows vs g e t y step) (down_grows vs g y f z rest)

-- the way down by numbers is the way down
mutual
  child_is : (vs : List Name) (g : GraphValue) → IsNumbered g → (e : Cells) (t : Tree) (y : Cells) → AreListed nothing vs (tree_vars t) → IsEnv vs g e → DownChildBy vs g e t y
      → DownChild (statements g) (decode vs g.terms e) t (decode vs g.terms y) × IsEnv vs g y
  child_is vs g good e (node ps cs f) y listed env (inl (z, s, down)) =
      let parts = listed_part vs (all_vars ps) (forest_vars f) listed in
      let r = down_is vs g good z f y parts.1 (step_env nothing vs g e (node ps cs f) z parts.0.once env s) down in
      (inl (decode vs g.terms z, step_up nothing vs g e (node ps cs f) z parts.0.once s, r.0), r.1)
  child_is vs g good e (node ps cs f) y listed env (inr (same, none)) =
      let parts = listed_part vs (all_vars ps) (forest_vars f) listed in
      (inr (ap (decode vs g.terms) same, λ m s. let w = step_given nothing vs g good e (node ps cs f) m parts.0 env s in none w.0 w.1), subst (IsEnv vs g) (sym same) env)

  pub down_is : (vs : List Name) (g : GraphValue) → IsNumbered g → (e : Cells) (f : Forest) (z : Cells) → AreListed nothing vs (forest_vars f) → IsEnv vs g e → DownBy vs g e f z
      → Down (statements g) (decode vs g.terms e) f (decode vs g.terms z) × IsEnv vs g z
  down_is vs g good e leaf z listed env same = (ap (decode vs g.terms) same, subst (IsEnv vs g) (sym same) env)
  down_is vs g good e (more t f) z listed env (y, step, rest) =
      let parts = listed_part vs (tree_vars t) (forest_vars f) listed in
      let a = child_is vs g good e t y parts.0 env step in
      let b = down_is vs g good y f z parts.1 a.1 rest in
      ((decode vs g.terms y, a.0, b.0), b.1)

-- and back
mutual
  child_given : (vs : List Name) (g : GraphValue) → IsNumbered g → (e : Cells) (t : Tree) (m : Mapping) → AreListed nothing vs (tree_vars t) → IsEnv vs g e
      → DownChild (statements g) (decode vs g.terms e) t m → (y : Cells) × DownChildBy vs g e t y × (decode vs g.terms y ≡ m)
  child_given vs g good e (node ps cs f) m listed env (inl (x, s, down)) =
      let parts = listed_part vs (all_vars ps) (forest_vars f) listed in
      let w = step_given nothing vs g good e (node ps cs f) x parts.0 env s in
      let r = down_given vs g good w.0 f m parts.1 (step_env nothing vs g e (node ps cs f) w.0 parts.0.once env w.1) (subst (λ x. Down (statements g) x f m) (sym w.2) down) in
      (r.0, inl (w.0, w.1, r.1), r.2)
  child_given vs g good e (node ps cs f) m listed env (inr (same, none)) =
      let parts = listed_part vs (all_vars ps) (forest_vars f) listed in
      (e, inr (refl, λ z s. none (decode vs g.terms z) (step_up nothing vs g e (node ps cs f) z parts.0.once s)), sym same)

  pub down_given : (vs : List Name) (g : GraphValue) → IsNumbered g → (e : Cells) (f : Forest) (m : Mapping) → AreListed nothing vs (forest_vars f) → IsEnv vs g e
      → Down (statements g) (decode vs g.terms e) f m → (z : Cells) × DownBy vs g e f z × (decode vs g.terms z ≡ m)
  down_given vs g good e leaf m listed env same = (e, refl, sym same)
  down_given vs g good e (more t f) m listed env (y, step, rest) =
      let parts = listed_part vs (tree_vars t) (forest_vars f) listed in
      let w = child_given vs g good e t y parts.0 env step in
      let a = child_is vs g good e t w.0 parts.0 env w.1 in
      let r = down_given vs g good w.0 f m parts.1 a.1 (subst (λ y. Down (statements g) y f m) (sym w.2) rest) in
      (r.0, (w.0, w.1, r.1), r.2)

-- one forest and then another
abbrev pub joined : Forest → Forest → Forest
joined leaf f = f
joined (more t h) f = more t (joined h f)

pub flat_joined : (h f : Forest) → flat (joined h f) ≡ flat h ++ flat f
flat_joined leaf f = refl
flat_joined (more t h) f = ap (λ xs. flat_tree t ++ xs) (flat_joined h f) ∙ sym (append_assoc (flat_tree t) (flat h) (flat f))

vars_joined : (h f : Forest) (v : Name) → In (forest_vars (joined h f)) v → In (forest_vars h) v ⊎ In (forest_vars f) v
vars_joined leaf f v i = inr i
vars_joined (more t h) f v i =
    ⊎_elim (λ i. inl (in_left _ _ v i)) (λ i. ⊎_elim (λ i. inl (in_right (tree_vars t) _ v i)) inr (vars_joined h f v i)) (in_cases (tree_vars t) _ v i)

joined_down : (vs : List Name) (g : GraphValue) (h f : Forest) (e r : Cells) → DownBy vs g e (joined h f) r → (y : Cells) × DownBy vs g e h y × DownBy vs g y f r
joined_down vs g leaf f e r d = (e, refl, d)
joined_down vs g (more t h) f e r (x, step, rest) = let w = joined_down vs g h f x r rest in (w.0, (x, step, w.1), w.2)

down_joined : (vs : List Name) (g : GraphValue) (h f : Forest) (e y r : Cells) → DownBy vs g e h y → DownBy vs g y f r → DownBy vs g e (joined h f) r
down_joined vs g leaf f e y r same d = subst (λ y. DownBy vs g y f r) same d
down_joined vs g (more t h) f e y r (x, step, rest) d = (x, step, down_joined vs g h f x y r rest d)

-- where the first node has steps, the way goes through one of them, what is below it and what is beside it
pub steps_down : (vs : List Name) (g : GraphValue) (e r : Cells) (t : Tree) (f : Forest) → ((z : Cells) × IsStepBy nothing vs g e t z) → DownBy vs g e (more t f) r
    → (z : Cells) × IsStepBy nothing vs g e t z × DownBy vs g z (joined (children t) f) r
steps_down vs g e r (node ps cs k) f some (y, inl (z, s, low), rest) = (z, s, down_joined vs g k f z y r low rest)
steps_down vs g e r (node ps cs k) f some (y, inr (same, none), rest) = absurd (none some.0 some.1)

pub down_steps : (vs : List Name) (g : GraphValue) (e z r : Cells) (t : Tree) (f : Forest) → IsStepBy nothing vs g e t z → DownBy vs g z (joined (children t) f) r → DownBy vs g e (more t f) r
down_steps vs g e z r (node ps cs k) f s d = let w = joined_down vs g k f z r d in (w.0, inl (z, s, w.1), w.2)

-- where it has none, the way goes past it
pub skip_down : (vs : List Name) (g : GraphValue) (e r : Cells) (t : Tree) (f : Forest) → ((z : Cells) → IsStepBy nothing vs g e t z → ⊥) → DownBy vs g e (more t f) r ↔ DownBy vs g e f r
skip_down vs g e r (node ps cs k) f shut = (
  λ (y, step, rest). ⊎_elim (λ (z, s, low). absurd (shut z s)) (λ (same, none). subst (λ y. DownBy vs g y f r) same rest) (split y step),
  λ d. (e, inr (refl, shut), d),
)
  where
    split : (y : Cells) → DownChildBy vs g e (node ps cs k) y → ((z : Cells) × IsStepBy nothing vs g e (node ps cs k) z × DownBy vs g z k y) ⊎ ((y ≡ e) × ((z : Cells) → IsStepBy nothing vs g e (node ps cs k) z → ⊥))
    split y step = step

-- the variables of what comes next are listed
pub record Listed (vs : List Name) (t : Tree) (f : Forest) : Type 0 where
  pub own : AreListed nothing vs (own_vars t)
  pub next : AreListed nothing vs (forest_vars (joined (children t) f))
  pub past : AreListed nothing vs (forest_vars f)

pub listed_next : (vs : List Name) (t : Tree) (f : Forest) → AreListed nothing vs (forest_vars (more t f)) → Listed vs t f
listed_next vs (node ps cs k) f listed = record {
  own = record { once = listed.once; has = λ v i. listed.has v (in_left _ _ v (in_left _ _ v i)) };
  next = record { once = listed.once; has = λ v i. ⊎_elim (λ i. listed.has v (in_left _ _ v (in_right (all_vars ps) _ v i))) (λ i. listed.has v (in_right (tree_vars (node ps cs k)) _ v i)) (vars_joined k f v i) };
  past = record { once = listed.once; has = λ v i. listed.has v (in_right (tree_vars (node ps cs k)) _ v i) };
}
