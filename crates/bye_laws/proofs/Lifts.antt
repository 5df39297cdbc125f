-- The class with OPTIONAL groups: what carries over from two trees to one between them.
use Rattle.bye_pattern.specs.declared.level.Level.{Level}
use Rattle.std.proofs.Common.{◌≡◌, List, [], ◌∷◌, Some, ◌⊎◌, inl, inr, ⊎_elim, sym, ◌∙◌, ap, subst}
use Rattle.std.specs.List.{AllByRecursion}
use Rattle.bye_terms.specs.declared.term.Term.{Term}
use Rattle.bye_terms.specs.Characters.{within}
use Rattle.bye_terms.specs.Members.{In}
use Rattle.bye_terms.specs.Terms.{Statement}
use Rattle.bye_pattern.specs.declared.cond.Cond.{Cond}
use Rattle.bye_pattern.specs.Classes.{IsClassCond, IsClassTriple}
use Rattle.bye_pattern.specs.Conditions.{cond_vars}
use Rattle.bye_pattern.specs.Conjuncts.{MeetsCond}
use Rattle.bye_table.specs.Mappings.{Binds, Compatible, Mapping, Name, first_of, merge, restrict}
use Rattle.bye_pattern.specs.Patterns.{Meets, Pattern, all_vars}
use Rattle.bye_table.specs.DomainTrees.{Domain, Subdomains, also, domain, none}
use Rattle.bye_pattern.specs.Trees.{Forest, Tree, leaf, more, node, own_conds, own_triples, own_vars}
use Rattle.bye_table.proofs.Merging.{bound, merge_left, restrict_binds, restrict_some, restrict_tells, some_or_none}
use Rattle.bye_pattern.proofs.Solutions.{all_told}
use Rattle.bye_laws.specs.LocalPass.{AreOver, ByDomain, ByDomains, IsOver}
use Rattle.bye_laws.specs.Reaching.{MeetsNode, NoValues}
use Rattle.bye_laws.proofs.Conjunctions.{all_vars_within, all_within, tried_within}
use Rattle.bye_laws.specs.Parts.{WithinTree}
use Rattle.bye_laws.proofs.Passes.{TriedForest, TriedTree}
use Rattle.bye_laws.proofs.Telling.{all_met_told}
use Rattle.bye_laws.proofs.Withins.{within_row}

-- safe conditions stay safe over more variables
safe_more : (own big parent above : List Name) (cs : List Cond) → ((v : Name) → In own v → In big v) → ((v : Name) → In parent v → In above v)
    → AllByRecursion (λ c. (v : Name) → In (cond_vars c) v → In own v ⊎ In parent v) cs → AllByRecursion (λ c. (v : Name) → In (cond_vars c) v → In big v ⊎ In above v) cs
safe_more own big parent above [] f h all = tt
safe_more own big parent above (c ∷ cs) f h (s, all) = (λ v k. ⊎_elim (λ i. inl (f v i)) (λ i. inr (h v i)) (s v k), safe_more own big parent above cs f h all)

-- a greater parent does not hurt the children
over_more : (level : Level) → (rows : List Mapping) (parent above : List Name) (d : Domain) (t : Tree) → ((v : Name) → In parent v → In above v) → IsOver level rows parent d t → IsOver level rows above d t
over_more level rows parent above (domain x ds) (node ps cs f) h over = (
  record {
    over = over.0.over;
    cover = over.0.cover;
    rises = λ v k up. h v (over.0.rises v k up);
    safe = safe_more (all_vars ps) (all_vars ps) parent above cs (λ v k. k) h over.0.safe;
    triples = over.0.triples;
    conds = over.0.conds;
  },
  over.1,
)

-- the same of nodes beside one another
are_over_more : (level : Level) → (rows : List Mapping) (parent above : List Name) (ds : Subdomains) (f : Forest) → ((v : Name) → In parent v → In above v) → AreOver level rows parent ds f → AreOver level rows above ds f
are_over_more level rows parent above none leaf h over = tt
are_over_more level rows parent above none (more t f) h over = over
are_over_more level rows parent above (also d ds) leaf h over = over
are_over_more level rows parent above (also d ds) (more t f) h over = (over_more level rows parent above d t h over.0, are_over_more level rows parent above ds f h over.1)

-- between two groups
-- of a tree with a conjunct and one without it and without later ones, what lies between is over the same domains
mutual
  pub over_lifts : (level : Level) → (rows : List Mapping) (low parent : List Name) (d : Domain) (a b c : Tree) → ((v : Name) → In low v → In parent v) → TriedTree a b c → IsOver level rows parent d c → IsOver level rows low d a → IsOver level rows parent d b
  over_lifts level rows low parent (domain x ds) a b (node ps cs f) sub (inl (qa, qb, tried, ea, eb)) over_c over_a =
      let w = tried_within qa qb ps tried in
      let oa : IsOver level rows low (domain x ds) (node qa cs f) = subst (IsOver level rows low (domain x ds)) ea over_a in
      let grow : (v : Name) → In (all_vars qa) v → In (all_vars qb) v = λ v h. all_vars_within qa qb v w.0 h in
      subst (IsOver level rows parent (domain x ds)) (sym eb) (
        record {
          over = λ v h. over_c.0.over v (all_vars_within qb ps v w.1 h);
          cover = λ v s same. grow v (oa.0.cover v s same);
          rises = λ v h up. over_c.0.rises v (all_vars_within qb ps v w.1 h) up;
          safe = safe_more (all_vars qa) (all_vars qb) low parent cs grow sub oa.0.safe;
          triples = all_within IsClassTriple qb ps w.1 over_c.0.triples;
          conds = over_c.0.conds;
        },
        are_over_more level rows (all_vars qa) (all_vars qb) ds f grow oa.1,
      )
  over_lifts level rows low parent (domain x ds) a b (node ps cs f) sub (inr (inl (qa, da, db, within, tried, ea, eb))) over_c over_a =
      let w = tried_within da db cs tried in
      subst (IsOver level rows parent (domain x ds)) (sym eb) (
        record {
          over = over_c.0.over;
          cover = over_c.0.cover;
          rises = over_c.0.rises;
          safe = all_within (λ c. (v : Name) → In (cond_vars c) v → In (all_vars ps) v ⊎ In parent v) db cs w.1 over_c.0.safe;
          triples = over_c.0.triples;
          conds = all_within (IsClassCond level) db cs w.1 over_c.0.conds;
        },
        over_c.1,
      )
  over_lifts level rows low parent (domain x ds) a b (node ps cs f) sub (inr (inr (qa, da, fa, fb, wq, wd, tried, ea, eb))) over_c over_a =
      let oa : IsOver level rows low (domain x ds) (node qa da fa) = subst (IsOver level rows low (domain x ds)) ea over_a in
      subst (IsOver level rows parent (domain x ds)) (sym eb)
      (over_c.0, are_over_lifts level rows (all_vars qa) (all_vars ps) ds fa fb f (λ v h. all_vars_within qa ps v wq h) tried over_c.1 oa.1)

  are_over_lifts : (level : Level) → (rows : List Mapping) (low parent : List Name) (ds : Subdomains) (a b c : Forest) → ((v : Name) → In low v → In parent v) → TriedForest a b c → AreOver level rows parent ds c → AreOver level rows low ds a → AreOver level rows parent ds b
  are_over_lifts level rows low parent ds a b leaf sub tried over_c over_a = absurd tried
  are_over_lifts level rows low parent none a b (more t f) sub tried over_c over_a = absurd over_c
  are_over_lifts level rows low parent (also d ds) a b (more t f) sub (inl (ta, tb, fa, tried, within, ea, eb)) over_c over_a =
      let oa : AreOver level rows low (also d ds) (more ta fa) = subst (AreOver level rows low (also d ds)) ea over_a in
      subst (AreOver level rows parent (also d ds)) (sym eb) (over_lifts level rows low parent d ta tb t sub tried over_c.0 oa.0, over_c.1)
  are_over_lifts level rows low parent (also d ds) a b (more t f) sub (inr (fa, fb, tried, ea, eb)) over_c over_a =
      let oa : AreOver level rows low (also d ds) (more t fa) = subst (AreOver level rows low (also d ds)) ea over_a in
      subst (AreOver level rows parent (also d ds)) (sym eb) (over_c.0, are_over_lifts level rows low parent ds fa fb f sub tried over_c.1 oa.1)

-- values of a stronger node give values of a weaker one, where the row binds the parent's variables
pub weaker : (g : List Statement) (m : Mapping) (parent : List Name) (t u : Tree) → ((v : Name) → In parent v → Binds m v)
    → AllByRecursion (λ c. (v : Name) → In (cond_vars c) v → In (own_vars t) v ⊎ In parent v) (own_conds t)
    → ((n : Mapping) → MeetsNode g n u → MeetsNode g n t) → NoValues g m t → NoValues g m u
weaker g m parent t u up safe strong shut e over agree meets =
    let small = restrict (own_vars t) e in
    let met = strong (merge m e) meets in
    let agree_small : Compatible m small = λ v s w a b. agree v s w a (restrict_some (own_vars t) e v w b).1 in
    let own : (v : Name) (k : Term) → In (own_vars t) v → merge m e v ≡ Some k → merge m small v ≡ Some k = λ v k h a.
    ⊎_elim
    (λ b. let w = bound (m v) b in merge_left m small v k (w.1 ∙ sym (merge_left m e v w.0 w.1) ∙ a))
    (λ n. ap (λ o. first_of o (small v)) n ∙ (restrict_tells (own_vars t) e v k h (sym (ap (λ o. first_of o (e v)) n) ∙ a)))
    (some_or_none (m v)) in
    let above : (v : Name) (k : Term) → In parent v → merge m e v ≡ Some k → merge m small v ≡ Some k = λ v k h a.
    let w = bound (m v) (up v h) in merge_left m small v k (w.1 ∙ sym (merge_left m e v w.0 w.1) ∙ a) in
    shut small (λ v h. (restrict_binds (own_vars t) e v h).0) agree_small
    (all_told g (merge m e) (merge m small) (own_triples t) own met.0, all_met_told (merge m e) (merge m small) (own_vars t) parent (own_conds t) safe own above met.1)

-- what meets a greater node meets a smaller one
within_meets : (g : List Statement) (n : Mapping) (t u : Tree) → WithinTree t u → MeetsNode g n u → MeetsNode g n t
within_meets g n (node ps cs f) (node qs ds e) within met = (all_within (Meets g n) ps qs within.0 met.0, all_within (MeetsCond n) cs ds within.1 met.1)

-- the tried tree keeps what was met, and has no more values than a weaker one
tried_tree : (a b c : Tree) → TriedTree a b c → ((p : Pattern) → In (own_triples a) p → In (own_triples b) p) × ((d : Cond) → In (own_conds a) d → In (own_conds b) d)
tried_tree a b (node ps cs f) (inl (qa, qb, tried, ea, eb)) = (
  λ p h. subst (λ t. In (own_triples t) p) (sym eb) ((tried_within qa qb ps tried).0 p (subst (λ t. In (own_triples t) p) ea h)),
  λ d h. subst (λ t. In (own_conds t) d) (sym eb) (subst (λ t. In (own_conds t) d) ea h),
)
tried_tree a b (node ps cs f) (inr (inl (qa, da, db, within, tried, ea, eb))) = (
  λ p h. subst (λ t. In (own_triples t) p) (sym eb) (within p (subst (λ t. In (own_triples t) p) ea h)),
  λ d h. subst (λ t. In (own_conds t) d) (sym eb) ((tried_within da db cs tried).0 d (subst (λ t. In (own_conds t) d) ea h)),
)
tried_tree a b (node ps cs f) (inr (inr (qa, da, fa, fb, wq, wd, tried, ea, eb))) = (
  λ p h. subst (λ t. In (own_triples t) p) (sym eb) (wq p (subst (λ t. In (own_triples t) p) ea h)),
  λ d h. subst (λ t. In (own_conds t) d) (sym eb) (wd d (subst (λ t. In (own_conds t) d) ea h)),
)

-- the conditions over a domain are safe
over_safe : (level : Level) → (rows : List Mapping) (parent : List Name) (d : Domain) (t : Tree) → IsOver level rows parent d t → AllByRecursion (λ c. (v : Name) → In (cond_vars c) v → In (own_vars t) v ⊎ In parent v) (own_conds t)
over_safe level rows parent (domain x ds) (node ps cs f) over = over.0.safe

-- what rows say carries over too
mutual
  pub by_lifts : (level : Level) → (g : List Statement) (rows : List Mapping) (m : Mapping) → In rows m → (low : List Name) (d : Domain) (a b c : Tree) → TriedTree a b c → IsOver level rows low d a → ByDomain g m d c → ByDomain g m d a → ByDomain g m d b
  by_lifts level g rows m row low (domain x ds) a b (node ps cs f) (inl (qa, qb, tried, ea, eb)) over_a by_c by_a =
      let w = tried_within qa qb ps tried in
      subst (ByDomain g m (domain x ds)) (sym eb) (λ h. (all_within (Meets g m) qb ps w.1 (by_c.0 h).0, (by_c.0 h).1), by_c.1)
  by_lifts level g rows m row low (domain x ds) a b (node ps cs f) (inr (inl (qa, da, db, within, tried, ea, eb))) over_a by_c by_a =
      let w = tried_within da db cs tried in
      subst (ByDomain g m (domain x ds)) (sym eb) (λ h. ((by_c.0 h).0, all_within (MeetsCond m) db cs w.1 (by_c.0 h).1), by_c.1)
  by_lifts level g rows m row low (domain x ds) a b (node ps cs f) (inr (inr (qa, da, fa, fb, wq, wd, tried, ea, eb))) over_a by_c by_a =
      let oa : IsOver level rows low (domain x ds) (node qa da fa) = subst (IsOver level rows low (domain x ds)) ea over_a in
      let ba : ByDomain g m (domain x ds) (node qa da fa) = subst (ByDomain g m (domain x ds)) ea by_a in
      subst (ByDomain g m (domain x ds)) (sym eb)
      (by_c.0, by_forest_lifts level g rows m row (all_vars qa) x (λ h v k. within_row rows m x v row (oa.0.over v k) h) ds fa fb f tried oa.1 by_c.1 ba.1)

  by_forest_lifts : (level : Level) → (g : List Statement) (rows : List Mapping) (m : Mapping) → In rows m → (low : List Name) (z : Name) → (Binds m z → (v : Name) → In low v → Binds m v)
      → (ds : Subdomains) (a b c : Forest) → TriedForest a b c → AreOver level rows low ds a → ByDomains g m z ds c → ByDomains g m z ds a → ByDomains g m z ds b
  by_forest_lifts level g rows m row low z up ds a b leaf tried over_a by_c by_a = absurd tried
  by_forest_lifts level g rows m row low z up none a b (more t f) tried over_a by_c by_a = tt
  by_forest_lifts level g rows m row low z up (also d ds) a b (more t f) (inl (ta, tb, fa, tried, within, ea, eb)) over_a by_c by_a =
      let oa : AreOver level rows low (also d ds) (more ta fa) = subst (AreOver level rows low (also d ds)) ea over_a in
      let ba : ByDomains g m z (also d ds) (more ta fa) = subst (ByDomains g m z (also d ds)) ea by_a in
      let more_in = tried_tree ta tb t tried in
      subst (ByDomains g m z (also d ds)) (sym eb) (
        λ h lacks. weaker g m low ta tb (up h) (over_safe level rows low d ta oa.0)
            (λ n met. (all_within (Meets g n) (own_triples ta) (own_triples tb) more_in.0 met.0, all_within (MeetsCond n) (own_conds ta) (own_conds tb) more_in.1 met.1)) (ba.0 h lacks),
        by_lifts level g rows m row low d ta tb t tried oa.0 by_c.1 ba.1,
        by_c.2,
      )
  by_forest_lifts level g rows m row low z up (also d ds) a b (more t f) (inr (fa, fb, tried, ea, eb)) over_a by_c by_a =
      let oa : AreOver level rows low (also d ds) (more t fa) = subst (AreOver level rows low (also d ds)) ea over_a in
      let ba : ByDomains g m z (also d ds) (more t fa) = subst (ByDomains g m z (also d ds)) ea by_a in
      subst (ByDomains g m z (also d ds)) (sym eb) (by_c.0, by_c.1, by_forest_lifts level g rows m row low z up ds fa fb f tried oa.1 by_c.2 ba.2)
