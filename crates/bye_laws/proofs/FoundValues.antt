-- The values of a node beside a mapping are found by a finite search: each is of an open variable, and a term of the graph.
use Rattle.std.proofs.Common.{◌≡◌, List, Some, ◌⊎◌, inl, inr, ⊎_elim, ◌∙◌, ap}
use Rattle.bye_terms.specs.declared.term.Term.{Term}
use Rattle.bye_terms.specs.Members.{In}
use Rattle.bye_terms.specs.Terms.{Statement}
use Rattle.bye_terms.proofs.Members.{all_in}
use Rattle.bye_table.specs.Mappings.{Binds, Mapping, Name, first_of, merge}
use Rattle.bye_table.proofs.Merging.{binds, unbound}
use Rattle.bye_pattern.specs.Conjuncts.{MeetsCond}
use Rattle.bye_pattern.specs.Patterns.{Meets}
use Rattle.bye_pattern.specs.Trees.{Tree, own_conds, own_triples, own_vars}
use Rattle.bye_pattern.proofs.OneGroup.{in_all_vars}
use Rattle.bye_laws.specs.Reaching.{MeetsNode, NoValues}
use Rattle.bye_laws.specs.Values.{AreValues}
use Rattle.bye_laws.proofs.Decided.{all_or_not, both_or_not, meets_or_not, met_or_not, picked}
use Rattle.bye_laws.proofs.Searches.{graph_terms, mapping_or_none, met_term, not_or_not}
use Rattle.bye_laws.proofs.Values.{open_none}
use Rattle.bye_laws.proofs.Withins.{binds_or_not}

-- a mapping meets the conjuncts of a node or does not
pub node_or_not : (g : List Statement) (m : Mapping) (t : Tree) → MeetsNode g m t ⊎ (MeetsNode g m t → ⊥)
node_or_not g m t = both_or_not (all_or_not (Meets g m) (meets_or_not g m) (own_triples t)) (all_or_not (MeetsCond m) (met_or_not m) (own_conds t))

-- values are terms of the graph
values_told : (g : List Statement) (m : Mapping) (t : Tree) (e : Mapping) → AreValues g m t e → (v : Name) (u : Term) → e v ≡ Some u → In (graph_terms g) u
values_told g m t e values v u is =
    let here = (values.exactly v).0 (binds (e v) u is) in
    let p = in_all_vars (own_triples t) v here.0 in
    met_term g (merge m e) p.0 v u (all_in (Meets g (merge m e)) (own_triples t) p.0 values.meets.0 p.1) p.2 (ap (λ o. first_of o (e v)) (unbound (m v) here.1) ∙ is)

-- a node has values beside a mapping or has none
pub values_or_not : (g : List Statement) (m : Mapping) (t : Tree) → ((e : Mapping) × AreValues g m t e) ⊎ NoValues g m t
values_or_not g m t =
    let free = picked (λ v. Binds m v → ⊥) (λ v. not_or_not (binds_or_not m v)) (own_vars t) in
    ⊎_elim
    (λ h. inl (h.0, record { exactly = λ v. ((λ b. (free.1 v).0 ((h.1 v).0 b)), (λ k. (h.1 v).1 ((free.1 v).1 k))); meets = h.2 }))
    (λ none. inr (open_none g m t (λ e values. none e
    (λ v. ((λ b. (free.1 v).1 ((values.exactly v).0 b)), (λ k. (values.exactly v).1 ((free.1 v).0 k))))
    (values_told g m t e values)
    values.meets)))
    (mapping_or_none free.0 (graph_terms g) (λ e. MeetsNode g (merge m e) t) (λ e. node_or_not g (merge m e) t))
