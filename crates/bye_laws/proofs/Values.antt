-- The values of a node beside a mapping: what a mapping says of open variables alone.
use Rattle.std.proofs.Common.{◌≡◌, refl, List, Option, Some, None, ⊎_elim, inl, inr, sym, ◌∙◌, subst, IsSome}
use Rattle.bye_terms.specs.declared.term.Term.{Term}
use Rattle.bye_terms.specs.Members.{In}
use Rattle.bye_terms.specs.Terms.{Statement}
use Rattle.bye_table.specs.Mappings.{Binds, Compatible, Mapping, Name, first_of, merge}
use Rattle.bye_pattern.specs.Trees.{Tree, own_triples, own_vars}
use Rattle.bye_table.proofs.Merging.{binds, merge_bound, merge_left}
use Rattle.bye_laws.specs.Descending.{IsStep}
use Rattle.bye_laws.specs.Reaching.{MeetsNode, NoValues}
use Rattle.bye_laws.specs.Values.{AreValues}
use Rattle.bye_laws.proofs.Telling.{all_meets_bind}

-- the second term, where there is no first
abbrev pub second_of : Option Term → Option Term → Option Term
second_of None o = o
second_of (Some t) o = None

-- what a mapping says of the names that another leaves open
abbrev pub beside : Mapping → Mapping → Mapping
beside m n v = second_of (m v) (n v)

-- such a term is there exactly where there is no first and there is a second
second_bound : (o p : Option Term) → IsSome (second_of o p) → (IsSome o → ⊥) × IsSome p
second_bound None p h = ((λ k. cc), h)
second_bound (Some t) p h = cc

bound_second : (o p : Option Term) → (IsSome o → ⊥) → IsSome p → IsSome (second_of o p)
bound_second None p lacks h = h
bound_second (Some t) p lacks h = absurd (lacks refl)

-- the merge with what is beside is the merge with the whole
first_second : (o p : Option Term) → first_of o (second_of o p) ≡ first_of o p
first_second None p = refl
first_second (Some t) p = refl

pub merge_beside : (m n : Mapping) → merge m (beside m n) ≡ merge m n
merge_beside m n = λ i v. first_second (m v) (n v) i

-- a mapping that keeps the values of another is the merge of the other with it
keeping_first : (o p : Option Term) → ((t : Term) → o ≡ Some t → p ≡ Some t) → p ≡ first_of o p
keeping_first None p keeps = refl
keeping_first (Some t) p keeps = keeps t refl

pub keeping_merge : (m n : Mapping) → ((v : Name) (t : Term) → m v ≡ Some t → n v ≡ Some t) → n ≡ merge m n
keeping_merge m n keeps = λ i v. keeping_first (m v) (n v) (keeps v) i

-- what is beside m are values, where the merge meets the node and binds besides variables of the node's triples alone
pub values_beside : (g : List Statement) (m : Mapping) (t : Tree) (n : Mapping) → ((v : Name) → Binds n v → (Binds m v → ⊥) → In (own_vars t) v) → MeetsNode g (merge m n) t
    → AreValues g m t (beside m n)
values_beside g m t n over meets = record {
  exactly = λ v. (
    (λ h. let w = second_bound (m v) (n v) h in (over v w.1 w.0, w.0)),
    (λ h. bound_second (m v) (n v) h.1 (⊎_elim (λ k. absurd (h.1 k)) (λ k. k) (merge_bound m n v (all_meets_bind g (merge m n) (own_triples t) v meets.0 h.0)))),
  );
  meets = subst (λ z. MeetsNode g z t) (sym (merge_beside m n)) meets;
}

-- values agree with the mapping, since they bind nothing that it binds
pub values_agree : (g : List Statement) (m : Mapping) (t : Tree) (e : Mapping) → AreValues g m t e → Compatible m e
values_agree g m t e values v p u i k = absurd (((values.exactly v).0 (binds (e v) u k)).1 (binds (m v) p i))

-- no values, by mappings of the open variables
pub none_open : (g : List Statement) (m : Mapping) (t : Tree) → NoValues g m t → (e : Mapping) → AreValues g m t e → ⊥
none_open g m t none e values = none e (λ v h. ((values.exactly v).0 h).0) (values_agree g m t e values) values.meets

-- and back
pub open_none : (g : List Statement) (m : Mapping) (t : Tree) → ((e : Mapping) → AreValues g m t e → ⊥) → NoValues g m t
open_none g m t shut e over agree meets = shut (beside m e) (values_beside g m t e (λ v h lacks. over v h) meets)

-- a step has values
pub step_values : (g : List Statement) (m : Mapping) (t : Tree) (z : Mapping) → IsStep g m t z → (e : Mapping) × AreValues g m t e × (z ≡ merge m e)
step_values g m t z s =
    let same = keeping_merge m z s.keeps in (
      beside m z,
      values_beside g m t z (λ v h lacks. ⊎_elim (λ k. absurd (lacks k)) (λ k. k) (s.within v h)) (subst (λ z. MeetsNode g z t) same s.meets),
      same ∙ sym (merge_beside m z),
    )

-- and values make a step
pub values_step : (g : List Statement) (m : Mapping) (t : Tree) (e : Mapping) → AreValues g m t e → IsStep g m t (merge m e)
values_step g m t e values = record {
  keeps = λ v u h. merge_left m e v u h;
  within = λ v h. ⊎_elim inl (λ k. inr ((values.exactly v).0 k).0) (merge_bound m e v h);
  meets = values.meets;
}
