-- The strongest node over Up(x) and the rows that bind x is the start's node of x.
use Rattle.std.proofs.Common.{◌≡◌, refl, true, List, [], ◌∷◌, inl, inr, ⊎_elim, sym, subst, ◌↔◌}
use Rattle.std.specs.Ordering.{is_lt}
use Rattle.bye_terms.specs.Members.{EachOnce, In}
use Rattle.bye_terms.specs.Terms.{Statement}
use Rattle.bye_terms.proofs.Members.{all_from, all_in}
use Rattle.bye_table.specs.Domains.{IsBefore, IsSeen, IsWithin, Wanted}
use Rattle.bye_table.specs.Mappings.{Binds, Mapping, Name}
use Rattle.bye_pattern.specs.declared.cond.Cond.{Cond}
use Rattle.bye_pattern.specs.declared.cond.Cond.TheVariants as conds
use Rattle.bye_pattern.specs.declared.level.Level.{Level}
use Rattle.bye_pattern.specs.Common.{IsCommon, IsCommonCond}
use Rattle.bye_pattern.specs.Conditions.{cond_vars}
use Rattle.bye_pattern.specs.Conjuncts.{MeetsCond}
use Rattle.bye_pattern.specs.Patterns.{Meets, Pattern}
use Rattle.bye_pattern.specs.Starting.{AreInTrialOrder, IsCommonAt, IsCommonCondAt, IsInForm, IsStartNode, IsTriedBefore}
use Rattle.bye_pattern.specs.TrialOrder.{trial_cmp}
use Rattle.bye_laws.specs.Completeness.{AreExamples}
use Rattle.bye_laws.specs.Ordering.{IsSorted}
use Rattle.bye_laws.specs.Strongest.{AreAround, AreRowsOf, IsStrongestNode, StrongestNodes}
use Rattle.bye_laws.proofs.Decided.{picked}
use Rattle.bye_laws.proofs.DomainNodes.{chosen, names_one}
use Rattle.bye_laws.proofs.DomainTrees.{one_before}
use Rattle.bye_laws.proofs.KeptQueries.{conditions_apart, patterns_apart, sorted_same, tried_in_order, tried_strictly}
use Rattle.bye_laws.proofs.OneDomainTree.{not_both_before}
use Rattle.bye_laws.proofs.StrongestThere.{strongest_there}
use Rattle.bye_laws.proofs.Withins.{binds_or_not, seen_up, within_or_not}

-- in a part of a list in its order each stands once
pub sorted_once : (header vs : List Name) → EachOnce header → IsSorted (IsBefore header) vs → EachOnce vs
sorted_once header [] once sorted = tt
sorted_once header (v ∷ vs) once sorted = ((λ h. let b = all_in (IsBefore header v) vs v sorted.0 h in not_both_before header v v once b b), sorted_once header vs once sorted.1)

-- what stands first in the part stands first in the list
part_before : (header vs : List Name) (v w : Name) → IsSorted (IsBefore header) vs → IsBefore vs v w → IsBefore header v w
part_before header [] v w sorted h = absurd h
part_before header (x ∷ vs) v w sorted (inl (e, h)) = subst (λ x. IsBefore header x w) e (all_in (IsBefore header x) vs w sorted.0 h)
part_before header (x ∷ vs) v w sorted (inr h) = part_before header vs v w sorted.1 h

-- and the other way round
before_part : (header vs : List Name) (v w : Name) → EachOnce header → IsSorted (IsBefore header) vs → In vs v → In vs w → IsBefore header v w → IsBefore vs v w
before_part header vs v w once sorted h k before =
    ⊎_elim
    (λ e. let self = subst (IsBefore header v) (sym e) before in absurd (not_both_before header v v once self self))
    (λ r. ⊎_elim (λ b. b) (λ b. absurd (not_both_before header v w once before (part_before header vs w v sorted b))) r)
    (one_before vs v w h k)

-- a condition tried before another one by one order of names is so by another, which orders their names the same way
tried_for : (us names : List Name) (c d : Cond) → ((v w : Name) → In (cond_vars c) v → In (cond_vars d) w → IsBefore us v w → IsBefore names v w) → IsTriedBefore us c d
    → IsTriedBefore names c d
tried_for us names (conds.Bound v) (conds.Bound w) f h = f v w (inl refl) (inl refl) h
tried_for us names (conds.Bound v) (conds.SameVar w x) f h = h
tried_for us names (conds.Bound v) (conds.SameConst w t) f h = h
tried_for us names (conds.Bound v) (conds.KindOf kind w) f h = h
tried_for us names (conds.SameVar v w) (conds.Bound x) f h = h
tried_for us names (conds.SameVar v w) (conds.SameVar x y) f h = ⊎_elim (λ k. inl (f v x (inl refl) (inl refl) k)) (λ k. inr (k.0, f w y (inr (inl refl)) (inr (inl refl)) k.1)) h
tried_for us names (conds.SameVar v w) (conds.SameConst x t) f h = h
tried_for us names (conds.SameVar v w) (conds.KindOf kind x) f h = h
tried_for us names (conds.SameConst v s) (conds.Bound w) f h = h
tried_for us names (conds.SameConst v s) (conds.SameVar w x) f h = h
tried_for us names (conds.SameConst v s) (conds.SameConst w t) f h = f v w (inl refl) (inl refl) h
tried_for us names (conds.SameConst v s) (conds.KindOf kind w) f h = h
tried_for us names (conds.KindOf kind v) (conds.Bound w) f h = h
tried_for us names (conds.KindOf kind v) (conds.SameVar w x) f h = h
tried_for us names (conds.KindOf kind v) (conds.SameConst w t) f h = h
tried_for us names (conds.KindOf kind v) (conds.KindOf other w) f h = ⊎_elim (λ k. inl (f v w (inl refl) (inl refl) k)) (λ k. inr k) h

-- so is a list of conditions
order_for : (us names vs : List Name) → ((v w : Name) → In vs v → In vs w → IsBefore us v w → IsBefore names v w) → (cs : List Cond)
    → ((c : Cond) → In cs c → (v : Name) → In (cond_vars c) v → In vs v) → AreInTrialOrder us cs → AreInTrialOrder names cs
order_for us names vs f [] over h = tt
order_for us names vs f (c ∷ cs) over h = (
  all_from (IsTriedBefore names c) cs (λ d k. tried_for us names c d (λ v w i j. f v w (over c (inl refl) v i) (over d (inr k) w j)) (all_in (IsTriedBefore us c) cs d h.0 k)),
  order_for us names vs f cs (λ d k. over d (inr k)) h.1,
)

-- and a condition in form
form_for : (us names : List Name) (c : Cond) → ((v w : Name) → In (cond_vars c) v → In (cond_vars c) w → IsBefore us v w → IsBefore names v w) → IsInForm us c → IsInForm names c
form_for us names (conds.Bound v) f h = h
form_for us names (conds.SameVar v w) f h = f v w (inl refl) (inr (inl refl)) h
form_for us names (conds.SameConst v t) f h = h
form_for us names (conds.KindOf kind v) f h = h

-- what is common over Up(x) in the rows that bind x is common at x
common_at : (g : List Statement) (w : Wanted) (x : Name) (vs : List Name) (rows : List Mapping) → AreAround w x vs → AreRowsOf w.rows x rows → (p : Pattern)
    → IsCommon g vs rows p ↔ IsCommonAt g w.rows x p
common_at g w x vs rows around at p = (
  (λ c. record {
    in_class = c.in_class;
    over = λ v h. (around.members v).0 (c.over v h);
    holds = all_from (λ m. Binds m x → Meets g m p) w.rows (λ m row b. all_in (λ m. Meets g m p) rows m c.holds ((at m).1 (row, b)));
  }),
  (λ c. record {
    in_class = c.in_class;
    over = λ v h. (around.members v).1 (c.over v h);
    holds = all_from (λ m. Meets g m p) rows (λ m h. let k = (at m).0 h in all_in (λ m. Binds m x → Meets g m p) w.rows m c.holds k.0 k.1);
  }),
)

-- so are conditions
common_cond_at : (level : Level) (w : Wanted) (x : Name) (vs : List Name) (rows : List Mapping) → AreAround w x vs → AreRowsOf w.rows x rows → (c : Cond)
    → IsCommonCond level vs rows c ↔ IsCommonCondAt level w.rows x c
common_cond_at level w x vs rows around at d = (
  (λ c. record {
    in_class = c.in_class;
    over = λ v h. (around.members v).0 (c.over v h);
    holds = all_from (λ m. Binds m x → MeetsCond m d) w.rows (λ m row b. all_in (λ m. MeetsCond m d) rows m c.holds ((at m).1 (row, b)));
  }),
  (λ c. record {
    in_class = c.in_class;
    over = λ v h. (around.members v).1 (c.over v h);
    holds = all_from (λ m. MeetsCond m d) rows (λ m h. let k = (at m).0 h in all_in (λ m. Binds m x → MeetsCond m d) w.rows m c.holds k.0 k.1);
  }),
)

-- the strongest node is the start's, and the other way round
pub start_at : (level : Level) (g : List Statement) (w : Wanted) (x : Name) (vs : List Name) (rows : List Mapping) (ps : List Pattern) (cs : List Cond) → AreExamples w
    → AreAround w x vs → AreRowsOf w.rows x rows → IsStrongestNode level g vs rows ps cs ↔ IsStartNode level g w x ps cs
start_at level g w x vs rows ps cs examples around at =
    let up : (v u : Name) → IsBefore vs v u → IsBefore w.vars v u = λ v u b. part_before w.vars vs v u around.sorted b in
    let down : (v u : Name) → In vs v → In vs u → IsBefore w.vars v u → IsBefore vs v u = λ v u h k b. before_part w.vars vs v u examples.once around.sorted h k b in (
      (λ s. record {
        triples = λ p. ((λ h. (common_at g w x vs rows around at p).0 ((s.triples p).0 h)), (λ c. (s.triples p).1 ((common_at g w x vs rows around at p).1 c)));
        sorted = s.sorted;
        conditions = λ c. (
          (λ h. let k = (s.conditions c).0 h in ((common_cond_at level w x vs rows around at c).0 k.0, form_for vs w.vars c (λ v u i j. up v u) k.1)),
          (λ k. let common = (common_cond_at level w x vs rows around at c).1 k.0 in
              (s.conditions c).1 (common, form_for w.vars vs c (λ v u i j. down v u (common.over v i) (common.over u j)) k.1)),
        );
        conditions_sorted = order_for vs w.vars vs (λ v u i j. up v u) cs (λ c h. ((s.conditions c).0 h).0.over) s.conditions_sorted;
      }),
      (λ s. record {
        triples = λ p. ((λ h. (common_at g w x vs rows around at p).1 ((s.triples p).0 h)), (λ c. (s.triples p).1 ((common_at g w x vs rows around at p).0 c)));
        sorted = s.sorted;
        conditions = λ c. (
          (λ h. let k = (s.conditions c).0 h in
              let common = (common_cond_at level w x vs rows around at c).1 k.0 in
              (common, form_for w.vars vs c (λ v u i j. down v u (common.over v i) (common.over u j)) k.1)),
          (λ k. (s.conditions c).1 ((common_cond_at level w x vs rows around at c).0 k.0, form_for vs w.vars c (λ v u i j. up v u) k.1)),
        );
        conditions_sorted = order_for w.vars vs vs down cs (λ c h. ((common_cond_at level w x vs rows around at c).1 ((s.conditions c).0 h).0).over) s.conditions_sorted;
      }),
    )

-- the strongest node is one
strongest_one : (level : Level) (g : List Statement) (header : List Name) (rows : List Mapping) (ps qs : List Pattern) (cs ds : List Cond) → EachOnce header
    → IsStrongestNode level g header rows ps cs → IsStrongestNode level g header rows qs ds → (ps ≡ qs) × (cs ≡ ds)
strongest_one level g header rows ps qs cs ds once a b = (
  sorted_same (λ p q. is_lt (trial_cmp p q) ≡ true) patterns_apart ps qs (tried_strictly ps a.sorted) (tried_strictly qs b.sorted)
      (λ p. ((λ h. (b.triples p).1 ((a.triples p).0 h)), (λ h. (a.triples p).1 ((b.triples p).0 h)))),
  sorted_same (IsTriedBefore header) (conditions_apart header once) cs ds (tried_in_order header cs a.conditions_sorted) (tried_in_order header ds b.conditions_sorted)
      (λ c. ((λ h. (b.conditions c).1 ((a.conditions c).0 h)), (λ h. (a.conditions c).1 ((b.conditions c).0 h)))),
)

-- Up(x) is there
pub around_there : (w : Wanted) (x : Name) → AreExamples w → IsSeen w.rows x → (vs : List Name) × AreAround w x vs
around_there w x examples seen =
    let c = chosen (IsWithin w.rows x) (within_or_not w.rows x) w.vars in
    (c.0, record { members = λ v. ((λ h. ((c.2 v).0 h).1), (λ h. (c.2 v).1 (examples.within v (seen_up w.rows x v seen h), h))); sorted = c.1 })

-- and so are the rows that bind x
pub rows_there : (rows : List Mapping) (x : Name) → (others : List Mapping) × AreRowsOf rows x others
rows_there rows x = picked (λ m. Binds m x) (λ m. binds_or_not m x) rows

-- what is told of strongest nodes
pub strongest_nodes_told : StrongestNodes
strongest_nodes_told = record {
  there = strongest_there;
  one = strongest_one;
  around = around_there;
  one_around = λ w x vs us examples a b. names_one w.vars vs us (IsWithin w.rows x) (λ y z. not_both_before w.vars y z examples.once) a.sorted b.sorted a.members b.members;
  rows = rows_there;
  start = start_at;
}
