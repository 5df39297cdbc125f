-- The class of one conjunction: the start fits where any query does, each claim shows that none does, and the claims are enough.
use Rattle.bye_pattern.specs.declared.level.Level.{Level}
use Rattle.std.proofs.Common.{◌≡◌, refl, ℕ, ◌<◌, List, [], ◌⊎◌, inl, inr, ⊎_elim, sym, ◌∙◌, ap, subst, ◌↔◌}
use Rattle.std.specs.List.{AllByRecursion}
use Rattle.bye_terms.specs.Members.{EachOnce, In}
use Rattle.bye_terms.specs.Terms.{Statement}
use Rattle.bye_terms.proofs.Members.{all_from, all_in}
use Rattle.bye_pattern.specs.declared.class.Class.TheVariants.{And}
use Rattle.bye_pattern.specs.declared.cond.Cond.{Cond}
use Rattle.bye_pattern.specs.Algebra.{IsAnswer}
use Rattle.bye_pattern.specs.Certificates.{Admitted, CertificateValue, Claim, Domains, Extension, Fork, GoesWith, IsShown, NoRoot, Shows, ShowsAdmitted, ShowsDomains, ShowsNoRoot, ShowsUncovered, Uncovered}
use Rattle.bye_pattern.specs.Classes.{InAnd, IsClassCond, IsClassTriple}
use Rattle.bye_pattern.specs.Conjuncts.{MeetsCond}
use Rattle.bye_pattern.specs.Designed.{IsSafe}
use Rattle.bye_table.specs.Domains.{BindsEach, IsRowAt, IsSeen, IsWithin, Wanted}
use Rattle.bye_pattern.specs.Fitting.{Fits, NoFit}
use Rattle.bye_pattern.specs.Keeping.{HasDomains, IsRight, IsStart}
use Rattle.bye_pattern.specs.Laws.{MeetsAll}
use Rattle.bye_table.specs.Mappings.{Binds, Exactly, Mapping, Name}
use Rattle.bye_pattern.specs.Patterns.{Meets, Pattern, all_vars}
use Rattle.bye_table.specs.DomainTrees.{Domain, IsDomainTree, domain, none}
use Rattle.bye_pattern.specs.Starting.{IsCommonAt, IsCommonCondAt, IsStartNode, IsStartTree}
use Rattle.bye_pattern.specs.Trees.{Select, Tree, alg, leaf, more, node, own_conds, own_triples, plain_select}
use Rattle.bye_table.proofs.Merging.{bound, in_or_not, not_bound, some_or_none}
use Rattle.bye_pattern.proofs.OneGroup.{all_vars_in, answer_meets, in_all_vars, meets_answer, meets_fits}
use Rattle.bye_laws.specs.Completeness.{AreExamples}
use Rattle.bye_laws.proofs.AllConjuncts.{AreAllAt, some_lists}
use Rattle.bye_laws.proofs.CommonConditions.{in_form, lower}
use Rattle.bye_laws.proofs.Conjunctions.{IsGroupFor, condition_common, each_meets, group_of, of_group, row_var, triple_common}
use Rattle.bye_table.proofs.RowNumbers.{at_in, one_at}
use Rattle.bye_laws.proofs.Examples.{either_less, in_at, in_seen, seen_in, seen_list, seen_once, some_row}
use Rattle.bye_laws.proofs.Withins.{seen_up, within_row, within_self}

-- all rows have one domain, that of x, and these are its variables
pub record HasOneDomain (rows : List Mapping) (x : Name) (vs : List Name) : Type 0 where
  pub seen : IsSeen rows x
  pub bound : BindsEach rows x
  pub exact : AllByRecursion (Exactly vs) rows
  pub once : EachOnce vs

-- a variable to whose domain that of x belongs is one of them, and each of them is such a one
pub up_in : (rows : List Mapping) (x : Name) (vs : List Name) → HasOneDomain rows x vs → (v : Name) → IsWithin rows x v → In vs v
up_in rows x vs one v up =
    ((all_in (Exactly vs) rows one.seen.0 one.exact one.seen.1) v).0 (within_row rows one.seen.0 x v one.seen.1 up one.seen.2)

-- and each of them is such a one
pub in_up : (rows : List Mapping) (x : Name) (vs : List Name) → HasOneDomain rows x vs → (v : Name) → In vs v → IsWithin rows x v
in_up rows x vs one v h = all_from (λ m. Binds m x → Binds m v) rows (λ m row b. ((all_in (Exactly vs) rows m one.exact row) v).1 h)

-- the start is a group of the class where its triples cover the domain
pub start_group : (level : Level) → (g : List Statement) (rows : List Mapping) (header : List Name) (x : Name) (vs : List Name) (ps : List Pattern) (cs : List Cond) → HasOneDomain rows x vs → AreAllAt level g rows header x ps cs
    → ((v : Name) → In vs v → In (all_vars ps) v) → IsGroupFor level vs ps cs
start_group level g rows header x vs ps cs one all cover = record {
  some = (x, cover x (up_in rows x vs one x (within_self rows x)));
  safe = all_from (IsSafe [] ps) cs (λ c h v k. inl (cover v (up_in rows x vs one v (((all.1 c).0 h).0.over v k))));
  triples = all_from IsClassTriple ps (λ p h. ((all.0 p).0 h).in_class);
  conditions = all_from (IsClassCond level) cs (λ c h. ((all.1 c).0 h).0.in_class);
  once = one.once;
  selects = λ v. (cover v, λ h. let w = in_all_vars ps v h in up_in rows x vs one v (((all.0 w.0).0 w.1).over v w.2));
}

-- each wanted row meets it
start_meets : (level : Level) → (g : List Statement) (rows : List Mapping) (header : List Name) (x : Name) (vs : List Name) (ps : List Pattern) (cs : List Cond) → HasOneDomain rows x vs → AreAllAt level g rows header x ps cs
    → AllByRecursion (MeetsAll g (plain_select vs (node ps cs leaf))) rows
start_meets level g rows header x vs ps cs one all = all_from (MeetsAll g (plain_select vs (node ps cs leaf))) rows (λ m row.
    let b = all_in (λ m. Binds m x) rows m one.bound row in
    record {
      binds = all_in (Exactly vs) rows m one.exact row;
      triples = all_from (Meets g m) ps (λ p h. all_in (λ m. Binds m x → Meets g m p) rows m ((all.0 p).0 h).holds row b);
      conds = all_from (MeetsCond m) cs (λ c h. all_in (λ m. Binds m x → MeetsCond m c) rows m ((all.1 c).0 h).0.holds row b);
    })

-- what meets the start meets whatever is common
meets_common : (level : Level) → (g : List Statement) (rows : List Mapping) (header : List Name) (x : Name) (vs : List Name) (ps : List Pattern) (cs : List Cond) → ((v : Name) → In vs v → In header v)
    → HasOneDomain rows x vs → AreAllAt level g rows header x ps cs → (m : Mapping) → MeetsAll g (plain_select vs (node ps cs leaf)) m
    → ((p : Pattern) → IsCommonAt g rows x p → Meets g m p) × ((c : Cond) → IsCommonCondAt level rows x c → MeetsCond m c)
meets_common level g rows header x vs ps cs inside one all m met = (
  (λ p common. all_in (Meets g m) ps p met.triples ((all.0 p).1 common)),
  (λ c common.
      let d = in_form level header rows x (λ v up. inside v (up_in rows x vs one v up)) cs all.1 c common in
      d.2 m (all_in (MeetsCond m) cs d.0 met.conds d.1)),
)

-- where any query fits, the start is right
start_right : (level : Level) → (g : List Statement) (rows unwanted : List Mapping) (header : List Name) (x : Name) (vs : List Name) (ps : List Pattern) (cs : List Cond) → ((v : Name) → In vs v → In header v)
    → HasOneDomain rows x vs → AreAllAt level g rows header x ps cs → (q : Select) → InAnd level q → Fits g rows unwanted q → IsRight And level g rows unwanted (plain_select vs (node ps cs leaf))
start_right level g rows unwanted header x vs ps cs inside one all q class fits =
    let first = each_meets level g rows q class fits.all one.seen.0 one.seen.1 in
    let same : (v : Name) → In vs v ↔ In q.vars v = λ v. (
      (λ h. (first.binds v).0 (((all_in (Exactly vs) rows one.seen.0 one.exact one.seen.1) v).1 h)),
      (λ h. ((all_in (Exactly vs) rows one.seen.0 one.exact one.seen.1) v).0 ((first.binds v).1 h)),
    ) in
    let group = start_group level g rows header x vs ps cs one all (λ v h.
    let w = row_var level g rows q class fits.all v (one.seen.0, one.seen.1, (first.binds v).1 ((same v).0 h)) in
    all_vars_in ps w.0 v ((all.0 w.0).1 (triple_common level g rows q class fits.all x w.0 w.1)) w.2) in
    let of_class = of_group level vs ps cs group in
    record {
      in_class = of_class;
      fits = meets_fits level g rows unwanted (plain_select vs (node ps cs leaf)) of_class (
        start_meets level g rows header x vs ps cs one all,
        all_from (λ m. MeetsAll g (plain_select vs (node ps cs leaf)) m → ⊥) unwanted (λ m row met.
            let common = meets_common level g rows header x vs ps cs inside one all m met in
            all_in (λ m. IsAnswer g q.vars (alg q) m → ⊥) unwanted m fits.none row (meets_answer level g q m class (record {
              binds = λ v. ((λ h. (same v).0 ((met.binds v).0 h)), (λ h. (met.binds v).1 ((same v).1 h)));
              triples = all_from (Meets g m) (own_triples q.tree) (λ p h. common.0 p (triple_common level g rows q class fits.all x p h));
              conds = all_from (MeetsCond m) (own_conds q.tree) (λ c h. common.1 c (condition_common level g rows q class fits.all x c h));
            }))),
      );
    }

-- where no variable is uncovered, the start covers the domain
pub start_covers : (g : List Statement) (rows : List Mapping) (x : Name) (vs : List Name) (ps : List Pattern) → HasOneDomain rows x vs → ((p : Pattern) → In ps p ↔ IsCommonAt g rows x p)
    → ((v : Name) → ShowsUncovered g rows v → ⊥) → (v : Name) → In vs v → In (all_vars ps) v
start_covers g rows x vs ps one all covered v h =
    let row_binds = ((all_in (Exactly vs) rows one.seen.0 one.exact one.seen.1) v).1 h in
    ⊎_elim (λ k. k) (λ out. absurd (covered v (record {
      seen = (one.seen.0, one.seen.1, row_binds);
      none = λ p common k. out (all_vars_in ps p v ((all p).1 (lower g rows x v p (in_up rows x vs one v h) common)) k);
    }))) (in_or_not (all_vars ps) v)

-- where no variable is uncovered and no unwanted row is admitted, the start is right
pub start_enough : (level : Level) → (g : List Statement) (rows unwanted : List Mapping) (header : List Name) (x : Name) (vs : List Name) (ps : List Pattern) (cs : List Cond) → ((v : Name) → In vs v → In header v)
    → HasOneDomain rows x vs → AreAllAt level g rows header x ps cs → ((v : Name) → ShowsUncovered g rows v → ⊥) → ((j : ℕ) → ShowsAdmitted level g rows unwanted j → ⊥)
    → IsRight And level g rows unwanted (plain_select vs (node ps cs leaf))
start_enough level g rows unwanted header x vs ps cs inside one all covered admitted =
    let group = start_group level g rows header x vs ps cs one all (start_covers g rows x vs ps one all.0 covered) in
    let of_class = of_group level vs ps cs group in
    record {
      in_class = of_class;
      fits = meets_fits level g rows unwanted (plain_select vs (node ps cs leaf)) of_class (
        start_meets level g rows header x vs ps cs one all,
        all_from (λ m. MeetsAll g (plain_select vs (node ps cs leaf)) m → ⊥) unwanted (λ m row met.
            let common = meets_common level g rows header x vs ps cs inside one all m met in
            let at = in_at unwanted m row in
            admitted at.0 (record {
              domain = vs;
              same = one.exact;
              row = m;
              row_at = at.1;
              of_row = met.binds;
              triples = λ p is. common.0 p (record {
                in_class = is.in_class;
                over = λ v h. in_up rows x vs one v (is.over v h);
                holds = all_from (λ m. Binds m x → Meets g m p) rows (λ r k b. all_in (λ m. Meets g m p) rows r is.holds k);
              });
              conditions = λ c is. common.1 c (record {
                in_class = is.in_class;
                over = λ v h. in_up rows x vs one v (is.over v h);
                holds = all_from (λ m. Binds m x → MeetsCond m c) rows (λ r k b. all_in (λ m. MeetsCond m c) rows r is.holds k);
              });
            })),
      );
    }

-- each claim shows that no query fits
domains_none : (level : Level) → (g : List Statement) (rows unwanted : List Mapping) (i j : ℕ) (x : Name) → ShowsDomains rows i j x → NoFit (InAnd level) g rows unwanted
domains_none level g rows unwanted i j x claim q class fits =
    let one = each_meets level g rows q class fits.all claim.one (at_in rows i claim.one claim.one_row) in
    let other = each_meets level g rows q class fits.all claim.other (at_in rows j claim.other claim.other_row) in
    ⊎_elim (λ h. h.1 ((other.binds x).1 ((one.binds x).0 h.0))) (λ h. h.0 ((one.binds x).1 ((other.binds x).0 h.1))) claim.binds

-- no variable is bound in all rows
noroot_none : (level : Level) → (g : List Statement) (rows unwanted : List Mapping) → ShowsNoRoot rows → NoFit (InAnd level) g rows unwanted
noroot_none level g rows unwanted never q class fits =
    let some = (group_of level q class).some in
    never some.0 (all_from (λ m. Binds m some.0) rows (λ m row. ((each_meets level g rows q class fits.all m row).binds some.0).1 ((class.selects some.0).1 some.1)))

-- a variable is in no common pattern
uncovered_none : (level : Level) → (g : List Statement) (rows unwanted : List Mapping) (x : Name) → ShowsUncovered g rows x → NoFit (InAnd level) g rows unwanted
uncovered_none level g rows unwanted x claim q class fits =
    let w = row_var level g rows q class fits.all x claim.seen in claim.none w.0 (triple_common level g rows q class fits.all x w.0 w.1) w.2

-- an unwanted row meets all that is common
pub admitted_none : (level : Level) → (g : List Statement) (rows unwanted : List Mapping) (j : ℕ) → (rows ≡ [] → ⊥) → ShowsAdmitted level g rows unwanted j → NoFit (InAnd level) g rows unwanted
admitted_none level g rows unwanted j some claim q class fits =
    let w = some_row rows some in
    let met = each_meets level g rows q class fits.all in
    let domain = all_in (Exactly claim.domain) rows w.0 claim.same w.1 in
    all_in (λ m. IsAnswer g q.vars (alg q) m → ⊥) unwanted claim.row fits.none (at_in unwanted j claim.row claim.row_at) (meets_answer level g q claim.row class (record {
      binds = λ v. (
        (λ h. ((met w.0 w.1).binds v).0 ((domain v).1 ((claim.of_row v).0 h))),
        (λ h. (claim.of_row v).1 ((domain v).0 (((met w.0 w.1).binds v).1 h))),
      );
      triples = all_from (Meets g claim.row) (own_triples q.tree) (λ p h. claim.triples p (record {
        in_class = all_in IsClassTriple (own_triples q.tree) p class.triples h;
        over = λ v k. (domain v).0 (((met w.0 w.1).binds v).1 ((class.selects v).1 (all_vars_in (own_triples q.tree) p v h k)));
        holds = all_from (λ m. Meets g m p) rows (λ m row. all_in (Meets g m) (own_triples q.tree) p (met m row).triples h);
      }));
      conds = all_from (MeetsCond claim.row) (own_conds q.tree) (λ c h. claim.conditions c (record {
        in_class = all_in (IsClassCond level) (own_conds q.tree) c class.conds h;
        over = λ v k. (domain v).0 ((all_in (MeetsCond w.0) (own_conds q.tree) c (met w.0 w.1).conds h).0 v k);
        holds = all_from (λ m. MeetsCond m c) rows (λ m row. all_in (MeetsCond m) (own_conds q.tree) c (met m row).conds h);
      }));
    }))

-- so each claim of the class
pub conjunction_claims : (level : Level) → (g : List Statement) (w : Wanted) (unwanted : List Mapping) (claim : Claim) → AreExamples w → GoesWith And claim → IsShown level g w.rows unwanted claim → NoFit (InAnd level) g w.rows unwanted
conjunction_claims level g w unwanted (Domains i j x) examples goes shown = domains_none level g w.rows unwanted i j x shown
conjunction_claims level g w unwanted NoRoot examples goes shown = noroot_none level g w.rows unwanted shown
conjunction_claims level g w unwanted (Fork x y z) examples goes shown = absurd goes
conjunction_claims level g w unwanted (Uncovered x) examples goes shown = uncovered_none level g w.rows unwanted x shown
conjunction_claims level g w unwanted (Admitted j) examples goes shown = admitted_none level g w.rows unwanted j examples.some shown
conjunction_claims level g w unwanted (Extension i x values) examples goes shown = absurd goes

-- two rows of which one binds a variable and the other does not stand at two numbers
number_of : (rows : List Mapping) (i j : ℕ) (m n : Mapping) (x : Name) → IsRowAt rows i m → IsRowAt rows j n → Binds m x → (Binds n x → ⊥)
    → (i < j) ⊎ (j < i)
number_of rows i j m n x at other b lacks = cases (either_less i j)
  where
    cases : (i < j) ⊎ ((i ≡ j) ⊎ (j < i)) → (i < j) ⊎ (j < i)
    cases (inl l) = inl l
    cases (inr (inl e)) = absurd (lacks (subst (λ (r : Mapping). Binds r x) (one_at rows j m n (subst (λ i. IsRowAt rows i m) e at) other) b))
    cases (inr (inr l)) = inr l

-- without a claim of domains each row binds what some row binds
pub one_domain : (rows : List Mapping) → ((i j : ℕ) (x : Name) → ShowsDomains rows i j x → ⊥) → (m : Mapping) → In rows m → (v : Name) → IsSeen rows v → Binds m v
one_domain rows never m row v seen =
    ⊎_elim (λ b. b) (λ e.
    let lacks : Binds m v → ⊥ = λ b. not_bound (m v) e b in
    let here = in_at rows m row in
    let there = in_at rows seen.0 seen.1 in
    absurd (⊎_elim
    (λ l. never there.0 here.0 v (record { apart = l; one = seen.0; other = m; one_row = there.1; other_row = here.1; binds = inl (seen.2, lacks) }))
    (λ l. never here.0 there.0 v (record { apart = l; one = m; other = seen.0; one_row = here.1; other_row = there.1; binds = inr (lacks, seen.2) }))
    (number_of rows there.0 here.0 seen.0 m v there.1 here.1 seen.2 lacks)))
    (some_or_none (m v))

-- the variables that are seen are the one domain
pub has_one_domain : (w : Wanted) → AreExamples w → (x : Name) → BindsEach w.rows x → ((m : Mapping) → In w.rows m → (v : Name) → IsSeen w.rows v → Binds m v) → HasOneDomain w.rows x (seen_list w.rows w.vars).0
has_one_domain w examples x bound same =
    let list = seen_list w.rows w.vars in
    let some = some_row w.rows examples.some in
    record {
      seen = (some.0, some.1, all_in (λ m. Binds m x) w.rows some.0 bound some.1);
      bound = bound;
      exact = all_from (Exactly list.0) w.rows (λ m row v. (
        (λ b. in_seen w.rows w.vars list.0 list.1 v (examples.within v (m, row, b)) (m, row, b)),
        (λ h. same m row v (seen_in w.rows w.vars list.0 list.1 v h).1),
      ));
      once = seen_once w.rows w.vars list.0 list.1 examples.once;
    }

-- where no query fits, it is not so that no certificate shows it
pub conjunction_enough : (level : Level) → (g : List Statement) (w : Wanted) (unwanted : List Mapping) → AreExamples w → NoFit (InAnd level) g w.rows unwanted
    → ((c : CertificateValue) → c.class ≡ And → c.level ≡ level → Shows g w.rows unwanted c → ⊥) → ⊥
conjunction_enough level g w unwanted examples nofit never =
    never (record { level = level; class = And; claim = NoRoot }) refl refl (record {
      goes = tt;
      shown = λ x bound.
          let one = has_one_domain w examples x bound (one_domain w.rows (λ i j v claim. never (record { level = level; class = And; claim = Domains i j v }) refl refl (record { goes = tt; shown = claim }))) in
          let vs = (seen_list w.rows w.vars).0 in
          some_lists level g w.rows w.vars x one.seen (λ v up. examples.within v (seen_up w.rows x v one.seen up)) (λ ps cs all.
          let right = start_enough level g w.rows unwanted w.vars x vs ps cs (λ v h. (seen_in w.rows w.vars vs (seen_list w.rows w.vars).1 v h).0) one all
          (λ v claim. never (record { level = level; class = And; claim = Uncovered v }) refl refl (record { goes = tt; shown = claim }))
          (λ j claim. never (record { level = level; class = And; claim = Admitted j }) refl refl (record { goes = tt; shown = claim })) in
          nofit (plain_select vs (node ps cs leaf)) right.in_class right.fits);
    })

-- the parts of a start of the class
pub record ConjunctionStart (level : Level) (g : List Statement) (w : Wanted) (start : Select) : Type 0 where
  pub x : Name
  pub vs : List Name
  pub ps : List Pattern
  pub cs : List Cond
  pub inside : (v : Name) → In vs v → In w.vars v
  pub one : HasOneDomain w.rows x vs
  pub all : AreAllAt level g w.rows w.vars x ps cs
  pub is : start ≡ plain_select vs (node ps cs leaf)

-- a start over one domain is one group
lone_start : (level : Level) → (g : List Statement) (w : Wanted) (x : Name) (t : Tree) → IsStartTree level g w (domain x none) t → (ps : List Pattern) × (cs : List Cond) × IsStartNode level g w x ps cs × (t ≡ node ps cs leaf)
lone_start level g w x (node ps cs leaf) (here, below) = (ps, cs, here, refl)
lone_start level g w x (node ps cs (more t f)) (here, below) = absurd below

-- each start has these parts
pub start_parts : (level : Level) → (g : List Statement) (w : Wanted) (start : Select) → AreExamples w → IsStart And level g w start → ConjunctionStart level g w start
start_parts level g w start examples is = parts is.domains is.allowed is.over is.conjuncts
  where
    parts : (d : Domain) → HasDomains And d → IsDomainTree w d → IsStartTree level g w d is.tree → ConjunctionStart level g w start
    parts (domain x ds) alone tree conjuncts =
        let over : IsDomainTree w (domain x none) = subst (λ ds. IsDomainTree w (domain x ds)) alone tree in
        let t = lone_start level g w x is.tree (subst (λ ds. IsStartTree level g w (domain x ds) is.tree) alone conjuncts) in
        let some = some_row w.rows examples.some in
        let alike : (v : Name) → IsSeen w.rows v → IsWithin w.rows x v = λ v s. let k = over.covers v s in ⊎_elim (λ e. subst (λ y. IsWithin w.rows y v) (sym e) k.2.0) (λ n. absurd n) k.1 in
        record {
          x = x;
          vs = is.vars;
          ps = t.0;
          cs = t.1;
          inside = λ v h. (seen_in w.rows w.vars is.vars is.selected v h).0;
          one = record {
            seen = (some.0, some.1, all_in (λ m. Binds m x) w.rows some.0 over.root some.1);
            bound = over.root;
            exact = all_from (Exactly is.vars) w.rows (λ m row v. (
              (λ b. in_seen w.rows w.vars is.vars is.selected v (examples.within v (m, row, b)) (m, row, b)),
              (λ h. within_row w.rows m x v row (alike v (seen_in w.rows w.vars is.vars is.selected v h).1) (all_in (λ m. Binds m x) w.rows m over.root row)),
            ));
            once = seen_once w.rows w.vars is.vars is.selected examples.once;
          };
          all = (t.2.triples, t.2.conditions);
          is = is.query ∙ ap (plain_select is.vars) t.3;
        }

-- and is right where any query is
pub conjunction_start_right : (level : Level) → (g : List Statement) (w : Wanted) (unwanted : List Mapping) (start q : Select) → AreExamples w → IsStart And level g w start → IsRight And level g w.rows unwanted q
    → IsRight And level g w.rows unwanted start
conjunction_start_right level g w unwanted start q examples is right =
    let p = start_parts level g w start examples is in
    subst (IsRight And level g w.rows unwanted) (sym p.is) (start_right level g w.rows unwanted w.vars p.x p.vs p.ps p.cs p.inside p.one p.all q right.in_class right.fits)

-- each answer of the start is one of each query of the class that fits
pub start_answers_shared : (level : Level) (g : List Statement) (w : Wanted) (unwanted : List Mapping) (start q : Select) (m : Mapping) → AreExamples w → IsStart And level g w start
    → IsRight And level g w.rows unwanted q → IsAnswer g start.vars (alg start) m → IsAnswer g q.vars (alg q) m
start_answers_shared level g w unwanted start q m examples is right answer =
    let p = start_parts level g w start examples is in
    let good = conjunction_start_right level g w unwanted start q examples is right in
    let met : MeetsAll g (plain_select p.vs (node p.ps p.cs leaf)) m = subst (λ s. MeetsAll g s m) p.is (answer_meets level g start m good.in_class answer) in
    let common = meets_common level g w.rows w.vars p.x p.vs p.ps p.cs p.inside p.one p.all m met in
    let seen = p.one.seen in
    let first = each_meets level g w.rows q right.in_class right.fits.all seen.0 seen.1 in
    let here = all_in (Exactly p.vs) w.rows seen.0 p.one.exact seen.1 in
    meets_answer level g q m right.in_class (record {
      binds = λ v. ((λ b. (first.binds v).0 ((here v).1 ((met.binds v).0 b))), (λ h. (met.binds v).1 ((here v).0 ((first.binds v).1 h))));
      triples = all_from (Meets g m) (own_triples q.tree) (λ r h. common.0 r (triple_common level g w.rows q right.in_class right.fits.all p.x r h));
      conds = all_from (MeetsCond m) (own_conds q.tree) (λ c h. common.1 c (condition_common level g w.rows q right.in_class right.fits.all p.x c h));
    })
