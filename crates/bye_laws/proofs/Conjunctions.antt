-- Queries of one group: what their fitting says of the examples, and what lies between two that are right.
use Rattle.bye_pattern.specs.declared.level.Level.{Level}
use Rattle.std.proofs.Common.{◌≡◌, refl, List, [], ◌∷◌, inl, inr, ⊎_elim, sym, ◌∙◌, ap, subst, ◌↔◌}
use Rattle.std.specs.List.{AllByRecursion}
use Rattle.bye_terms.specs.Characters.{within}
use Rattle.bye_terms.specs.Members.{EachOnce, In}
use Rattle.bye_terms.specs.Terms.{Statement}
use Rattle.bye_terms.proofs.Members.{all_from, all_in}
use Rattle.bye_pattern.specs.declared.class.Class.TheVariants.{And}
use Rattle.bye_pattern.specs.declared.cond.Cond.{Cond}
use Rattle.bye_pattern.specs.declared.rule.Rule.TheVariants.{NoNewVariable, UnsafeCondition}
use Rattle.bye_pattern.specs.Algebra.{IsAnswer}
use Rattle.bye_pattern.specs.Classes.{HasNoChild, InAnd, IsClassCond, IsClassTriple}
use Rattle.bye_pattern.specs.Conjuncts.{MeetsCond}
use Rattle.bye_pattern.specs.Designed.{IsSafe, IsWellDesigned}
use Rattle.bye_table.specs.Domains.{IsSeen}
use Rattle.bye_pattern.specs.Keeping.{IsRight}
use Rattle.bye_pattern.specs.Laws.{MeetsAll}
use Rattle.bye_table.specs.Mappings.{Binds, Mapping, Name}
use Rattle.bye_pattern.specs.Patterns.{Meets, Pattern, all_vars, vars}
use Rattle.bye_pattern.specs.Starting.{IsCommonAt, IsCommonCondAt}
use Rattle.bye_pattern.specs.Trees.{Forest, Select, Tree, alg, leaf, more, node, own_conds, own_triples, plain_select}
use Rattle.bye_pattern.proofs.OneGroup.{all_vars_in, answer_meets, fits_meets, in_all_vars, meets_fits, root_rules}
use Rattle.bye_laws.specs.Parts.{Within}
use Rattle.bye_laws.proofs.Passes.{Lifts, Tried, TriedForest, within_more}

-- what makes a group one of a query of the class
pub record IsGroupFor (level : Level) (vs : List Name) (ps : List Pattern) (cs : List Cond) : Type 0 where
  pub some : (v : Name) × In (all_vars ps) v
  pub safe : AllByRecursion (IsSafe [] ps) cs
  pub triples : AllByRecursion IsClassTriple ps
  pub conditions : AllByRecursion (IsClassCond level) cs
  pub once : EachOnce vs
  pub selects : (v : Name) → In vs v ↔ In (all_vars ps) v

-- the query of such a group
pub of_group : (level : Level) → (vs : List Name) (ps : List Pattern) (cs : List Cond) → IsGroupFor level vs ps cs → InAnd level (plain_select vs (node ps cs leaf))
of_group level vs ps cs one = record {
  distinct = refl;
  outer = refl;
  designed = (root_rules ps cs one.some.0 one.some.1 one.safe, tt);
  one = refl;
  triples = one.triples;
  conds = one.conditions;
  once = one.once;
  selects = one.selects;
}

-- the group of a well-designed tree
group_at : (level : Level) → (vs : List Name) (t : Tree) → IsWellDesigned t → AllByRecursion IsClassTriple (own_triples t) → AllByRecursion (IsClassCond level) (own_conds t) → EachOnce vs
    → ((v : Name) → In vs v ↔ In (all_vars (own_triples t)) v) → IsGroupFor level vs (own_triples t) (own_conds t)
group_at level vs (node ps cs f) designed triples conditions once selects =
    let new = designed.0 NoNewVariable in
    record { some = (new.0, new.1.0); safe = designed.0 UnsafeCondition; triples = triples; conditions = conditions; once = once; selects = selects }

-- the group of a query
pub group_of : (level : Level) → (q : Select) → InAnd level q → IsGroupFor level q.vars (own_triples q.tree) (own_conds q.tree)
group_of level q class = group_at level q.vars q.tree class.designed class.triples class.conds class.once class.selects

-- a query of the class whose rows are answers: each row binds its variables and meets its conjuncts
pub each_meets : (level : Level) → (g : List Statement) (rows : List Mapping) (q : Select) → InAnd level q → AllByRecursion (IsAnswer g q.vars (alg q)) rows → (m : Mapping) → In rows m → MeetsAll g q m
each_meets level g rows q class fits m row = answer_meets level g q m class (all_in (IsAnswer g q.vars (alg q)) rows m fits row)

-- and each of its conjuncts is common at any variable
pub triple_common : (level : Level) → (g : List Statement) (rows : List Mapping) (q : Select) → InAnd level q → AllByRecursion (IsAnswer g q.vars (alg q)) rows → (x : Name) (p : Pattern) → In (own_triples q.tree) p
    → IsCommonAt g rows x p
triple_common level g rows q class fits x p h =
    let met = each_meets level g rows q class fits in
    record {
      in_class = all_in IsClassTriple (own_triples q.tree) p class.triples h;
      over = λ v k. all_from (λ m. Binds m x → Binds m v) rows (λ m row b. ((met m row).binds v).1 ((class.selects v).1 (all_vars_in (own_triples q.tree) p v h k)));
      holds = all_from (λ m. Binds m x → Meets g m p) rows (λ m row b. all_in (Meets g m) (own_triples q.tree) p (met m row).triples h);
    }

-- likewise its conditions
pub condition_common : (level : Level) → (g : List Statement) (rows : List Mapping) (q : Select) → InAnd level q → AllByRecursion (IsAnswer g q.vars (alg q)) rows → (x : Name) (c : Cond) → In (own_conds q.tree) c
    → IsCommonCondAt level rows x c
condition_common level g rows q class fits x c h =
    let met = each_meets level g rows q class fits in
    record {
      in_class = all_in (IsClassCond level) (own_conds q.tree) c class.conds h;
      over = λ v k. all_from (λ m. Binds m x → Binds m v) rows (λ m row b. (all_in (MeetsCond m) (own_conds q.tree) c (met m row).conds h).0 v k);
      holds = all_from (λ m. Binds m x → MeetsCond m c) rows (λ m row b. all_in (MeetsCond m) (own_conds q.tree) c (met m row).conds h);
    }

-- a variable that a row binds is in some triple pattern
pub row_var : (level : Level) → (g : List Statement) (rows : List Mapping) (q : Select) → InAnd level q → AllByRecursion (IsAnswer g q.vars (alg q)) rows → (x : Name) → IsSeen rows x
    → (p : Pattern) × In (own_triples q.tree) p × In (vars p) x
row_var level g rows q class fits x seen =
    let met = each_meets level g rows q class fits seen.0 seen.1 in
    in_all_vars (own_triples q.tree) x ((class.selects x).0 ((met.binds x).0 seen.2))

-- a query of the class, from the lists of its group
pub whole_query : (level : Level) → (q : Select) → InAnd level q → q ≡ plain_select q.vars (node (own_triples q.tree) (own_conds q.tree) leaf)
whole_query level q class =
    let tree = lone q.tree class.one in
    λ i. record { distinct = class.distinct i; vars = q.vars; tree = tree i; outer = class.outer i }
  where
    lone : (t : Tree) → HasNoChild t → t ≡ node (own_triples t) (own_conds t) leaf
    lone (node ps cs f) e = ap (node ps cs) e

-- lists between two others
pub all_within : {X : Type 0} (P : X → Type 0) (xs ys : List X) → Within xs ys → AllByRecursion P ys → AllByRecursion P xs
all_within P xs ys within all = all_from P xs (λ x h. all_in P ys x all (within x h))

-- variables of fewer patterns are variables of more
pub all_vars_within : (ps qs : List Pattern) (v : Name) → Within ps qs → In (all_vars ps) v → In (all_vars qs) v
all_vars_within ps qs v within h = let w = in_all_vars ps v h in all_vars_in qs w.0 v (within w.0 w.1) w.2

-- what is tried lies between
pub tried_within : {X : Type 0} (a b c : List X) → Tried a b c → Within a b × Within b c
tried_within a b [] h = absurd h
tried_within {X} a b (x ∷ c) (inl (e, w)) = (
  (λ y h. subst (λ zs. In zs y) (sym e) (w y h)),
  (λ y h. inr (subst (λ zs. In zs y) e h)),
)
tried_within {X} a b (x ∷ c) (inr (d, r, tried, ea, eb)) =
    let w = tried_within d r c tried in (
      (λ y h. subst (λ zs. In zs y) (sym eb) (within_more x d r w.0 y (subst (λ zs. In zs y) ea h))),
      (λ y h. within_more x r c w.1 y (subst (λ zs. In zs y) eb h)),
    )

-- between two groups that are right each is right: class and wanted rows from the greater, cover and unwanted rows from the smaller
between : (level : Level) → (g : List Statement) (rows unwanted : List Mapping) (vs : List Name) (small mid big : List Pattern) (low some high : List Cond)
    → Within small mid → Within mid big → Within low some → Within some high
    → IsRight And level g rows unwanted (plain_select vs (node big high leaf)) → IsRight And level g rows unwanted (plain_select vs (node small low leaf))
    → IsRight And level g rows unwanted (plain_select vs (node mid some leaf))
between level g rows unwanted vs small mid big low some high a b c d greater less =
    let big_one = group_of level (plain_select vs (node big high leaf)) greater.in_class in
    let small_one = group_of level (plain_select vs (node small low leaf)) less.in_class in
    let class = of_group level vs mid some (record {
      some = (small_one.some.0, all_vars_within small mid small_one.some.0 a small_one.some.1);
      safe = all_from (IsSafe [] mid) some (λ k h v i. inl (all_vars_within small mid v a ((small_one.selects v).0 ((big_one.selects v).1
          (⊎_elim (λ j. j) (λ n. absurd n) (all_in (IsSafe [] big) high k big_one.safe (d k h) v i))))));
      triples = all_within IsClassTriple mid big b big_one.triples;
      conditions = all_within (IsClassCond level) some high d big_one.conditions;
      once = big_one.once;
      selects = λ v. ((λ h. all_vars_within small mid v a ((small_one.selects v).0 h)), (λ h. (big_one.selects v).1 (all_vars_within mid big v b h)));
    }) in
    let met_big = fits_meets level g rows unwanted (plain_select vs (node big high leaf)) greater.in_class greater.fits in
    let met_small = fits_meets level g rows unwanted (plain_select vs (node small low leaf)) less.in_class less.fits in
    record {
      in_class = class;
      fits = meets_fits level g rows unwanted (plain_select vs (node mid some leaf)) class (
        all_from (MeetsAll g (plain_select vs (node mid some leaf))) rows (λ m row.
            let met = all_in (MeetsAll g (plain_select vs (node big high leaf))) rows m met_big.0 row in
            record { binds = met.binds; triples = all_within (Meets g m) mid big b met.triples; conds = all_within (MeetsCond m) some high d met.conds }),
        all_from (λ m. MeetsAll g (plain_select vs (node mid some leaf)) m → ⊥) unwanted (λ m row met.
            all_in (λ m. MeetsAll g (plain_select vs (node small low leaf)) m → ⊥) unwanted m met_small.1 row
            (record { binds = met.binds; triples = all_within (Meets g m) small mid a met.triples; conds = all_within (MeetsCond m) low some c met.conds })),
      );
    }

-- a tree without children has none to try
no_child : (a b f : Forest) → f ≡ leaf → TriedForest a b f → ⊥
no_child a b leaf e h = h
no_child a b (more t f) e h = cc

-- so the class of one conjunction lifts through a pass
pub conjunctions_lift : (level : Level) → (g : List Statement) (rows unwanted : List Mapping) (vs : List Name) → Lifts (λ t. IsRight And level g rows unwanted (plain_select vs t))
conjunctions_lift level g rows unwanted vs a b (node ps cs f) (inl (qa, qb, tried, ea, eb)) right_c right_a =
    let w = tried_within qa qb ps tried in
    let R : Tree → Type 0 = λ t. IsRight And level g rows unwanted (plain_select vs t) in
    let one = right_c.in_class.one in
    subst R (sym (eb ∙ ap (node qb cs) one)) (between level g rows unwanted vs qa qb ps cs cs cs w.0 w.1 (λ x h. h) (λ x h. h)
    (subst R (ap (node ps cs) one) right_c) (subst R (ea ∙ ap (node qa cs) one) right_a))
conjunctions_lift level g rows unwanted vs a b (node ps cs f) (inr (inl (qa, da, db, within, tried, ea, eb))) right_c right_a =
    let w = tried_within da db cs tried in
    let R : Tree → Type 0 = λ t. IsRight And level g rows unwanted (plain_select vs t) in
    let one = right_c.in_class.one in
    subst R (sym (eb ∙ ap (node ps db) one)) (between level g rows unwanted vs qa ps ps da db cs within (λ x h. h) w.0 w.1
    (subst R (ap (node ps cs) one) right_c) (subst R (ea ∙ ap (node qa da) one) right_a))
conjunctions_lift level g rows unwanted vs a b (node ps cs f) (inr (inr (qa, da, fa, fb, w, u, tried, ea, eb))) right_c right_a = absurd (no_child fa fb f right_c.in_class.one tried)
