-- Steps by numbers and steps of mappings.
use Rattle.std.proofs.Common.{◌≡◌, refl, ℕ, ◌<◌, List, [], ◌∷◌, Option, Some, None, inl, inr, ⊎_elim, sym, ◌∙◌, ap, subst, IsSome, length, slice_get}
use Rattle.std.specs.List.{AllByRecursion}
use Rattle.bye_terms.specs.declared.term.Term.{Term}
use Rattle.bye_terms.specs.declared.term.Term.TheVariants.{Iri}
use Rattle.bye_terms.specs.Members.{In, EachOnce}
use Rattle.bye_terms.proofs.Lists.{in_map}
use Rattle.bye_terms.proofs.Members.{in_cases}
use Rattle.bye_table.specs.Mappings.{Binds, Mapping, Name, first_of}
use Rattle.bye_table.proofs.Merging.{not_bound}
use Rattle.bye_pattern.specs.declared.slot.Slot.{Slot}
use Rattle.bye_pattern.specs.declared.slot.Slot.TheVariants.{Var, Const}
use Rattle.bye_pattern.specs.Patterns.{Meets, Pattern, all_vars, slot_under, slot_vars, vars}
use Rattle.bye_pattern.specs.Trees.{Tree, own_triples, own_vars}
use Rattle.bye_pattern.proofs.Solutions.{var_cases}
use Rattle.bye_laws.specs.Descending.{IsStep}
use Rattle.bye_laws.specs.Reaching.{MeetsNode}
use Rattle.bye_laws.proofs.Values as values
use Rattle.bye_laws.proofs.Values.{second_of}
use Rattle.bye_laws.proofs.Telling.{all_meets_bind}
use Rattle.bye_graph.specs.Graphs.{GraphValue, IsNumbered, IsUsed, statement_of, statements, term_of}
use Rattle.bye_graph.proofs.Numbers.{term_in}
use Rattle.bye_node.specs.Envs.{Cells, Grows, cell}
use Rattle.bye_node.specs.Steps.{AreListed, IsEnv, IsStepBy, beside, decode}
use Rattle.bye_node.proofs.Cells.{in_some, none_or_some, not_none, same_some, some_in}
use Rattle.bye_node.proofs.Decoding.{below_get, cell_var, decoded, decodes, encode, encode_grows, encode_new, get_below, get_once, has_number, in_get, number_is, of_some, of_value}

-- what is beside the row, at a variable that it leaves open
pub beside_open : (row : Mapping) (vs : List Name) (ts : List Term) (e : Cells) (v : Name) → row v ≡ None → beside row vs ts e v ≡ decode vs ts e v
beside_open row vs ts e v none = ap (λ o. first_of o (decode vs ts e v)) none

pub beside_row : (row : Mapping) (vs : List Name) (ts : List Term) (e : Cells) (v : Name) (t : Term) → row v ≡ Some t → beside row vs ts e v ≡ Some t
beside_row row vs ts e v t is = ap (λ o. first_of o (decode vs ts e v)) is

-- a mapping that grows keeps its values
decode_grown : (vs : List Name) (ts : List Term) (e z : Cells) → EachOnce vs → Grows e z → (v : Name) (t : Term) → decode vs ts e v ≡ Some t → decode vs ts z v ≡ Some t
decode_grown vs ts e z once up v t h =
    let w = decoded vs ts e v t once h in
    decodes vs ts z v w.0 w.1 t once w.2 (up.keeps w.0 w.1 w.3) w.4

beside_grown : (row : Mapping) (vs : List Name) (ts : List Term) (e z : Cells) → EachOnce vs → Grows e z → (v : Name) (t : Term) → beside row vs ts e v ≡ Some t → beside row vs ts z v ≡ Some t
beside_grown row vs ts e z once up v t h = ⊎_elim
    (λ none. beside_open row vs ts z v none ∙ decode_grown vs ts e z once up v t (sym (beside_open row vs ts e v none) ∙ h))
    (λ w. beside_row row vs ts z v w.0 w.1 ∙ sym (beside_row row vs ts e v w.0 w.1) ∙ h)
    (none_or_some (row v))

-- what a step binds anew is a variable of the node
pub step_up : (row : Mapping) (vs : List Name) (g : GraphValue) (e : Cells) (t : Tree) (z : Cells) → EachOnce vs → IsStepBy row vs g e t z
    → IsStep (statements g) (beside row vs g.terms e) t (beside row vs g.terms z)
step_up row vs g e t z once s = record {
  keeps = beside_grown row vs g.terms e z once s.grows;
  within = λ v h. ⊎_elim
      (λ none.
      let b = some_in (decode vs g.terms z v) (subst (λ o. IsSome o) (beside_open row vs g.terms z v none) h) in
      let w = decoded vs g.terms z v b.0 once b.1 in
      ⊎_elim
      (λ there. let c = some_in (cell e w.0) there in
      let same : c.0 ≡ w.1 = same_some c.0 w.1 (sym (s.grows.keeps w.0 c.0 c.1) ∙ w.3) in
      inl (in_some (beside row vs g.terms e v) b.0 (beside_open row vs g.terms e v none ∙ decodes vs g.terms e v w.0 w.1 b.0 once w.2 (c.1 ∙ ap Some same) w.4)))
      (λ (u, own, free, at). inr (subst (In (own_vars t)) (same_some u v (sym at ∙ w.2)) own))
      (s.within w.0 (in_some (cell z w.0) w.1 w.3)))
      (λ w. inl (in_some (beside row vs g.terms e v) w.0 (beside_row row vs g.terms e v w.0 w.1)))
      (none_or_some (row v));
  meets = s.meets;
}

-- and its numbers are those of terms again
pub step_env : (row : Mapping) (vs : List Name) (g : GraphValue) (e : Cells) (t : Tree) (z : Cells) → EachOnce vs → IsEnv vs g e → IsStepBy row vs g e t z → IsEnv vs g z
step_env row vs g e t z once env s = record {
  len = s.grows.len ∙ env.len;
  used = λ i k h.
      ⊎_elim
      (λ there. let c = some_in (cell e i) there in
      let same : c.0 ≡ k = same_some c.0 k (sym (s.grows.keeps i c.0 c.1) ∙ h) in
      subst (λ k. k < length g.terms) same (env.used i c.0 c.1))
      (λ (v, own, free, at).
      let m = beside row vs g.terms z in
      let b = some_in (decode vs g.terms z v) (subst (λ o. IsSome o) (beside_open row vs g.terms z v free) (all_meets_bind (statements g) m (own_triples t) v s.meets.0 own)) in
      let w = decoded vs g.terms z v b.0 once b.1 in
      let j : w.0 ≡ i = get_once vs w.0 i v once w.2 at in
      let c : w.1 ≡ k = same_some w.1 k (sym (subst (λ j. cell z j ≡ Some w.1) j w.3) ∙ h) in
      subst (λ k. k < length g.terms) c (below_get g.terms w.1 b.0 w.4))
      (s.within i (in_some (cell z i) k h));
}

-- the terms of a mapping that meets patterns are terms of the graph
slot_term : (m : Mapping) (s : Slot) (v : Name) (u t : Term) → In (slot_vars s) v → slot_under m s ≡ Some t → m v ≡ Some u → t ≡ u
slot_term m (Var w) v u t (inl e) h g = same_some t u (sym h ∙ ap m e ∙ g)
slot_term m (Var w) v u t (inr b) h g = absurd b
slot_term m (Const c) v u t b h g = absurd b

met_term : (g : GraphValue) → IsNumbered g → (m : Mapping) (p : Pattern) (v : Name) (u : Term) → Meets (statements g) m p → In (vars p) v → m v ≡ Some u → In g.terms u
met_term g good m p v u (f, inside, is) h at =
    let w = in_map (statement_of g.terms) g.keys f inside in
    let used : IsUsed g.terms w.0 = good.used w.0 w.1 in
    var_cases p v h
    (λ h. subst (In g.terms) (ap (λ f. f.s) w.2 ∙ slot_term m p.s v u f.s h is.s at) (term_in g.terms w.0.0 used.0))
    (λ h. subst (In g.terms) (ap (λ f. f.p) w.2 ∙ slot_term m p.p v u f.p h is.p at) (term_in g.terms w.0.1 used.1))
    (λ h. subst (In g.terms) (ap (λ f. f.o) w.2 ∙ slot_term m p.o v u f.o h is.o at) (term_in g.terms w.0.2 used.2))

all_met_term : (g : GraphValue) → IsNumbered g → (m : Mapping) (ps : List Pattern) (v : Name) (u : Term) → AllByRecursion (Meets (statements g) m) ps → In (all_vars ps) v → m v ≡ Some u → In g.terms u
all_met_term g good m [] v u all h at = absurd h
all_met_term g good m (p ∷ ps) v u (met, all) h at = ⊎_elim (λ h. met_term g good m p v u met h at) (λ h. all_met_term g good m ps v u all h at) (in_cases (vars p) _ v h)

-- what a mapping says beside the row
open_some : (r o : Option Term) (u : Term) → second_of r o ≡ Some u → (r ≡ None) × (o ≡ Some u)
open_some None o u e = (refl, e)
open_some (Some t) o u e = cc

open_at : (row m : Mapping) (v : Name) → row v ≡ None → values.beside row m v ≡ m v
open_at row m v none = ap (λ r. second_of r (m v)) none

kept_same : (vs : List Name) (ts : List Term) (e z : Cells) (m : Mapping) (v : Name) (t : Term) → EachOnce vs → Grows e z → ((u : Term) → decode vs ts e v ≡ Some u → m v ≡ Some u) → decode vs ts e v ≡ Some t → decode vs ts z v ≡ m v
kept_same vs ts e z m v t once up before h = decode_grown vs ts e z once up v t h ∙ sym (before t h)

new_same : (vs : List Name) (ts : List Term) (z : Cells) (m : Mapping) (v : Name) (i k : ℕ) (u : Term) → EachOnce vs → slice_get vs i ≡ Some v → cell z i ≡ Some k → slice_get ts k ≡ Some u → m v ≡ Some u → decode vs ts z v ≡ m v
new_same vs ts z m v i k u once at new is told = decodes vs ts z v i k u once at new is ∙ sym told

-- what the mapping by numbers has at a variable
step_same : (row : Mapping) (vs : List Name) (g : GraphValue) → IsNumbered g → (e : Cells) (t : Tree) (m : Mapping) → AreListed row vs (own_vars t) → IsEnv vs g e
    → IsStep (statements g) (beside row vs g.terms e) t m → (v : Name) → row v ≡ None → decode vs g.terms (encode vs g.terms (values.beside row m) e) v ≡ m v
step_same row vs g good e t m listed env s v free =
    let z = encode vs g.terms (values.beside row m) e in
    let up = encode_grows vs g.terms (values.beside row m) e in
    let before : (u : Term) → decode vs g.terms e v ≡ Some u → m v ≡ Some u = λ u h. s.keeps v u (beside_open row vs g.terms e v free ∙ h) in
    let kept : (i k : ℕ) → slice_get vs i ≡ Some v → cell e i ≡ Some k → decode vs g.terms e v ≡ Some (term_of g.terms k) =
    λ i k at h. decodes vs g.terms e v i k (term_of g.terms k) listed.once at h (get_below g.terms k (Iri []) (env.used i k h)) in
    ⊎_elim
    (λ none. ⊎_elim
    (λ gone. gone ∙ sym none)
    (λ b. let w = decoded vs g.terms z v b.0 listed.once b.1 in
    ⊎_elim
    (λ empty. let new : of_value g.terms (m v) ≡ Some w.1 = ap (of_value g.terms) (sym (open_at row m v free)) ∙ sym (encode_new vs g.terms (values.beside row m) e w.0 v env.len w.2 empty) ∙ w.3 in
    absurd (not_none w.1 (sym (ap (of_value g.terms) none) ∙ new)))
    (λ k. let t : Term = term_of g.terms k.0 in
    absurd (not_none t (sym none ∙ before t (kept w.0 k.0 w.2 k.1))))
    (none_or_some (cell e w.0)))
    (none_or_some (decode vs g.terms z v)))
    (λ u. ⊎_elim
    (λ there. let b = some_in (decode vs g.terms e v) (subst (λ o. IsSome o) (beside_open row vs g.terms e v free) there) in
    kept_same vs g.terms e z m v b.0 listed.once up before b.1)
    (λ own. ⊎_elim
    (λ taken. absurd (not_bound (row v) free taken))
    (λ has. let at = in_get vs v has in
    ⊎_elim
    (λ empty. let k = has_number g.terms u.0 (all_met_term g good m (own_triples t) v u.0 s.meets.0 own u.1) in
    let new : cell z at.0 ≡ Some k.0 = encode_new vs g.terms (values.beside row m) e at.0 v env.len at.1 empty ∙ ap (of_value g.terms) (open_at row m v free ∙ u.1) ∙ k.1 in
    new_same vs g.terms z m v at.0 k.0 u.0 listed.once at.1 new (number_is g.terms u.0 k.0 k.1) u.1)
    (λ k. let h = kept at.0 k.0 at.1 k.1 in
    kept_same vs g.terms e z m v (term_of g.terms k.0) listed.once up before h)
    (none_or_some (cell e at.0)))
    (listed.has v own))
    (s.within v (in_some (m v) u.0 u.1)))
    (none_or_some (m v))

-- a step of mappings is one by numbers
pub step_given : (row : Mapping) (vs : List Name) (g : GraphValue) → IsNumbered g → (e : Cells) (t : Tree) (m : Mapping) → AreListed row vs (own_vars t) → IsEnv vs g e
    → IsStep (statements g) (beside row vs g.terms e) t m → (z : Cells) × IsStepBy row vs g e t z × (beside row vs g.terms z ≡ m)
step_given row vs g good e t m listed env s =
    let z = encode vs g.terms (values.beside row m) e in
    let up : Grows e z = encode_grows vs g.terms (values.beside row m) e in
    let same : (v : Name) → beside row vs g.terms z v ≡ m v = λ v. ⊎_elim
    (λ free. beside_open row vs g.terms z v free ∙ step_same row vs g good e t m listed env s v free)
    (λ w. beside_row row vs g.terms z v w.0 w.1 ∙ sym (s.keeps v w.0 (beside_row row vs g.terms e v w.0 w.1)))
    (none_or_some (row v)) in (
      z,
      record {
        grows = up;
        within = λ i h. ⊎_elim
            (λ none.
            let k = some_in (cell z i) h in
            let w = cell_var vs z i k.0 (up.len ∙ env.len) k.1 in
            let new : of_value g.terms (values.beside row m w.0) ≡ Some k.0 = sym (encode_new vs g.terms (values.beside row m) e i w.0 env.len w.1 none) ∙ k.1 in
            let u = of_some g.terms (values.beside row m w.0) k.0 new in
            let o = open_some (row w.0) (m w.0) u.0 u.1 in
            ⊎_elim
            (λ there. absurd (unbound_at i w.0 w.1 none (subst (λ o. IsSome o) (beside_open row vs g.terms e w.0 o.0) there)))
            (λ own. inr (w.0, own, o.0, w.1))
            (s.within w.0 (in_some (m w.0) u.0 o.1)))
            (λ k. inl (in_some (cell e i) k.0 k.1))
            (none_or_some (cell e i));
        meets = subst (λ m. MeetsNode (statements g) m t) (λ i v. sym (same v) i) s.meets;
      },
      (λ i v. same v i),
    )
  where
    unbound_at : (i : ℕ) (v : Name) → slice_get vs i ≡ Some v → cell e i ≡ None → Binds (decode vs g.terms e) v → ⊥
    unbound_at i v at none h =
        let b = some_in (decode vs g.terms e v) h in
        let w = decoded vs g.terms e v b.0 listed.once b.1 in
        let j : w.0 ≡ i = get_once vs w.0 i v listed.once w.2 at in
        not_none w.1 (sym none ∙ subst (λ j. cell e j ≡ Some w.1) j w.3)
