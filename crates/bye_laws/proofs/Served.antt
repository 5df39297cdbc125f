-- Conjuncts of one group may go exactly where those that are left serve each demand.
use Rattle.std.proofs.Common.{List, [], inl, inr, ⊎_elim, ◌↔◌}
use Rattle.bye_terms.specs.Members.{In}
use Rattle.bye_terms.specs.Terms.{Statement}
use Rattle.bye_terms.proofs.Members.{all_from, all_in}
use Rattle.bye_table.specs.DomainTrees.{Domain, Subdomains, also, domain, label, none}
use Rattle.bye_table.specs.Mappings.{Exactly, Mapping, Name}
use Rattle.bye_table.proofs.Merging.{in_or_not}
use Rattle.bye_pattern.specs.declared.class.Class.TheVariants.{And}
use Rattle.bye_pattern.specs.declared.cond.Cond.{Cond}
use Rattle.bye_pattern.specs.declared.level.Level.{Level}
use Rattle.bye_pattern.specs.Classes.{IsClassCond, IsClassTriple}
use Rattle.bye_pattern.specs.Conjuncts.{MeetsCond}
use Rattle.bye_pattern.specs.Designed.{IsSafe}
use Rattle.bye_pattern.specs.Keeping.{IsRight}
use Rattle.bye_pattern.specs.Laws.{MeetsAll}
use Rattle.bye_pattern.specs.Patterns.{Meets, Pattern, all_vars}
use Rattle.bye_pattern.specs.Trees.{Forest, Tree, leaf, more, node, plain_select}
use Rattle.bye_pattern.proofs.OneGroup.{fits_meets, meets_fits}
use Rattle.bye_laws.specs.LocalPass.{AreOver, IsOver, IsSettled, IsShut}
use Rattle.bye_laws.specs.Parts.{Within}
use Rattle.bye_laws.specs.Serving.{AreServed, FailsOne, IsNeeded, IsNeededBelow, IsNeededByChild}
use Rattle.bye_laws.proofs.Conjunctions.{all_vars_within, all_within, group_of, of_group}
use Rattle.bye_laws.proofs.Decided.{all_or_one, meets_or_not, met_or_not}
use Rattle.bye_laws.proofs.LocalQuestions.{drop_triple}

-- a row that does not meet all of a group fails one
pub fails_one : (g : List Statement) (vs : List Name) (ps : List Pattern) (cs : List Cond) (m : Mapping) → (MeetsAll g (plain_select vs (node ps cs leaf)) m → ⊥) → Exactly vs m → FailsOne g ps cs m
fails_one g vs ps cs m never exactly =
    ⊎_elim
    (λ triples. ⊎_elim (λ conds. absurd (never (record { binds = exactly; triples = triples; conds = conds }))) inr (all_or_one (MeetsCond m) (met_or_not m) cs))
    inl
    (all_or_one (Meets g m) (meets_or_not g m) ps)

-- and where it fails one it does not meet all
pub failing_one : (g : List Statement) (vs : List Name) (ps : List Pattern) (cs : List Cond) (m : Mapping) → (Exactly vs m → FailsOne g ps cs m) → MeetsAll g (plain_select vs (node ps cs leaf)) m → ⊥
failing_one g vs ps cs m fails met =
    ⊎_elim (λ w. w.2 (all_in (Meets g m) ps w.0 met.triples w.1)) (λ w. w.2 (all_in (MeetsCond m) cs w.0 met.conds w.1)) (fails met.binds)

-- parts of a group that is right
pub right_served : (level : Level) (g : List Statement) (rows unwanted : List Mapping) (vs : List Name) (ps qs : List Pattern) (cs es : List Cond)
    → Within qs ps → Within es cs → IsRight And level g rows unwanted (plain_select vs (node ps cs leaf))
    → IsRight And level g rows unwanted (plain_select vs (node qs es leaf)) ↔ AreServed g unwanted vs qs es
right_served level g rows unwanted vs ps qs cs es fewer less right = (
  (λ rest. record {
    variables = λ v h. ((group_of level (plain_select vs (node qs es leaf)) rest.in_class).selects v).0 h;
    rows = all_from (λ m. Exactly vs m → FailsOne g qs es m) unwanted (λ m row.
        fails_one g vs qs es m (all_in (λ m. MeetsAll g (plain_select vs (node qs es leaf)) m → ⊥) unwanted m (fits_meets level g rows unwanted (plain_select vs (node qs es leaf)) rest.in_class rest.fits).1 row));
  }),
  (λ served.
      let one = group_of level (plain_select vs (node ps cs leaf)) right.in_class in
      let met = fits_meets level g rows unwanted (plain_select vs (node ps cs leaf)) right.in_class right.fits in
      let first = one.some.0 in
      let class = of_group level vs qs es (record {
        some = (first, served.variables first ((one.selects first).1 one.some.1));
        safe = all_from (IsSafe [] qs) es (λ k h v i. inl (served.variables v ((one.selects v).1 (⊎_elim (λ j. j) (λ n. absurd n) (all_in (IsSafe [] ps) cs k one.safe (less k h) v i)))));
        triples = all_within IsClassTriple qs ps fewer one.triples;
        conditions = all_within (IsClassCond level) es cs less one.conditions;
        once = one.once;
        selects = λ v. (served.variables v, (λ h. (one.selects v).1 (all_vars_within qs ps v fewer h)));
      }) in
      record {
        in_class = class;
        fits = meets_fits level g rows unwanted (plain_select vs (node qs es leaf)) class (
          all_from (MeetsAll g (plain_select vs (node qs es leaf))) rows (λ m row.
              let is = all_in (MeetsAll g (plain_select vs (node ps cs leaf))) rows m met.0 row in
              record { binds = is.binds; triples = all_within (Meets g m) qs ps fewer is.triples; conds = all_within (MeetsCond m) es cs less is.conds }),
          all_from (λ m. MeetsAll g (plain_select vs (node qs es leaf)) m → ⊥) unwanted (λ m row. failing_one g vs qs es m (all_in (λ m. Exactly vs m → FailsOne g qs es m) unwanted m served.rows row)),
        );
      }),
)

-- a child over other variables of its parent
child_stands : (level : Level) (rows : List Mapping) (old new : List Name) (d : Domain) (t : Tree) → IsOver level rows old d t → ((v : Name) → IsNeededByChild rows (label d) t v → In new v) → IsOver level rows new d t
child_stands level rows old new (domain y ds) (node ps cs f) over needs = (
  record {
    over = over.0.over;
    cover = over.0.cover;
    rises = λ v h shut. needs v (inl (h, shut));
    safe = all_from (IsSafe new ps) cs (λ c h v i. ⊎_elim inl (λ out. inr (needs v (inr (c, h, i, out)))) (in_or_not (all_vars ps) v));
    triples = over.0.triples;
    conds = over.0.conds;
  },
  over.1,
)

child_stood : (level : Level) (rows : List Mapping) (new : List Name) (d : Domain) (t : Tree) → IsOver level rows new d t → (v : Name) → IsNeededByChild rows (label d) t v → In new v
child_stood level rows new (domain y ds) (node ps cs f) over v (inl (h, shut)) = over.0.rises v h shut
child_stood level rows new (domain y ds) (node ps cs f) over v (inr (c, h, i, out)) = ⊎_elim (λ k. absurd (out k)) (λ k. k) (all_in (IsSafe new ps) cs c over.0.safe h v i)

-- and children beside one another
children_stand : (level : Level) (rows : List Mapping) (old new : List Name) (ds : Subdomains) (f : Forest) → AreOver level rows old ds f → ((v : Name) → IsNeededBelow rows ds f v → In new v) → AreOver level rows new ds f
children_stand level rows old new none leaf over needs = tt
children_stand level rows old new none (more t f) over needs = absurd over
children_stand level rows old new (also d ds) leaf over needs = absurd over
children_stand level rows old new (also d ds) (more t f) over needs =
    (child_stands level rows old new d t over.0 (λ v h. needs v (inl h)), children_stand level rows old new ds f over.1 (λ v h. needs v (inr h)))

children_stood : (level : Level) (rows : List Mapping) (new : List Name) (ds : Subdomains) (f : Forest) → AreOver level rows new ds f → (v : Name) → IsNeededBelow rows ds f v → In new v
children_stood level rows new none f over v h = absurd h
children_stood level rows new (also d ds) leaf over v h = absurd h
children_stood level rows new (also d ds) (more t f) over v (inl h) = child_stood level rows new d t over.0 v h
children_stood level rows new (also d ds) (more t f) over v (inr h) = children_stood level rows new ds f over.1 v h

-- triples of a settled node may go exactly where what is needed is left, and the node stays shut
pub triples_stand : (level : Level) (g : List Statement) (rows : List Mapping) (parent : List Name) (z x : Name) (ds : Subdomains) (ps qs : List Pattern) (cs : List Cond) (f : Forest)
    → Within qs ps → IsSettled level g rows parent z (domain x ds) (node ps cs f)
    → IsSettled level g rows parent z (domain x ds) (node qs cs f) ↔ (((v : Name) → IsNeeded rows parent x ds cs f v → In (all_vars qs) v) × IsShut g rows z x (node qs cs f))
triples_stand level g rows parent z x ds ps qs cs f within s = (
  (λ t.
      let (cover, safe, below, shut) = (drop_triple level g rows parent z x ds ps qs cs f within s).0 t in (
        (λ v h. ⊎_elim (λ k. cover v k.0 k.1)
            (λ k. ⊎_elim (λ (c, i, j, out). ⊎_elim (λ a. a) (λ a. absurd (out a)) (all_in (IsSafe parent qs) cs c safe i v j))
            (λ i. children_stood level rows (all_vars qs) ds f below v i) k) h),
        shut,
      )),
  (λ (needs, shut). (drop_triple level g rows parent z x ds ps qs cs f within s).1 (
    (λ v seen same. needs v (inl (seen, same))),
    all_from (IsSafe parent qs) cs (λ c h v i. ⊎_elim inr (λ out. inl (needs v (inr (inl (c, h, i, out))))) (in_or_not parent v)),
    children_stand level rows (all_vars ps) (all_vars qs) ds f s.over.1 (λ v h. needs v (inr (inr h))),
    shut,
  )),
)
