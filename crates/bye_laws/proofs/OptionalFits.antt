-- The class with OPTIONAL groups: the start fits where any query does, and claims show that none does.
use Rattle.bye_pattern.specs.declared.level.Level.{Level}
use Rattle.std.proofs.Common.{◌≡◌, ℕ, List, [], ⊎_elim, subst}
use Rattle.std.specs.List.{AllByRecursion}
use Rattle.bye_terms.specs.Members.{In}
use Rattle.bye_terms.specs.Terms.{Statement}
use Rattle.bye_terms.proofs.Members.{all_from, all_in}
use Rattle.bye_pattern.specs.declared.class.Class.TheVariants.{Optional}
use Rattle.bye_pattern.specs.declared.cond.Cond.{Cond}
use Rattle.bye_pattern.specs.Certificates.{ShowsExtension, ShowsNoRoot, ShowsUncovered}
use Rattle.bye_pattern.specs.Conjuncts.{MeetsCond}
use Rattle.bye_table.specs.Domains.{IsSeen, IsWithin}
use Rattle.bye_pattern.specs.Fitting.{NoFit}
use Rattle.bye_pattern.specs.Keeping.{IsRight}
use Rattle.bye_table.specs.Mappings.{Binds, Mapping, Name, merge}
use Rattle.bye_pattern.specs.Optional.{InOptional, IsNewAt, IsNode}
use Rattle.bye_pattern.specs.Patterns.{Meets, Pattern, all_vars}
use Rattle.bye_table.specs.DomainTrees.{Domain, Subdomains, also, domain, label, none}
use Rattle.bye_pattern.specs.Starting.{IsCommonAt, IsCommonCondAt}
use Rattle.bye_pattern.specs.Trees.{Forest, Select, Tree, leaf, more, node, own_conds, own_triples, own_vars, plain_select}
use Rattle.bye_table.proofs.Merging.{binds}
use Rattle.bye_pattern.proofs.OneGroup.{in_all_vars}
use Rattle.bye_laws.specs.LocalPass.{ByDomain, ByDomains}
use Rattle.bye_laws.specs.Nodes.{BindsNew, ByNode}
use Rattle.bye_laws.specs.Reaching.{IsChild, MeetsNode, NoValues, children}
use Rattle.bye_laws.proofs.ByNodes.{Answers, by_nodes, class_at, once_designed, order_at, self_node}
use Rattle.bye_laws.proofs.CommonConditions.{in_form}
use Rattle.bye_laws.proofs.DomainLabels.{label_self}
use Rattle.bye_table.proofs.RowNumbers.{at_in}
use Rattle.bye_laws.specs.QueryDomains.{AreDomains}
use Rattle.bye_laws.proofs.Labelled.{AllCommon, AllCommonIn}
use Rattle.bye_laws.proofs.Lifts.{weaker}
use Rattle.bye_laws.specs.QueryDomains.{Selects}
use Rattle.bye_laws.proofs.OptionalKept.{from_labels}
use Rattle.bye_laws.proofs.QueryPlaces.{child_is_below, conjuncts_common, own_up, parent_of, safe_at}
use Rattle.bye_laws.proofs.StartTrees.{Start, StartIn, own_from, root_start, start_down, start_first, start_is_over, start_rest, strictly}
use Rattle.bye_laws.proofs.Withins.{seen_up, within_row, within_self, within_trans}

-- the start node meets what a node of common conjuncts meets
strong_at : (level : Level) → (g : List Statement) (header : List Name) (rows : List Mapping) → ((v : Name) → IsSeen rows v → In header v) → (d : Domain) (t u : Tree) → IsSeen rows (label d) → AllCommon level g header rows d t
    → ((c : Pattern) → In (own_triples u) c → IsCommonAt g rows (label d) c) × ((c : Cond) → In (own_conds u) c → IsCommonCondAt level rows (label d) c)
    → (n : Mapping) → MeetsNode g n t → MeetsNode g n u
strong_at level g header rows inside (domain x ds) (node ps cs f) u s ((same, conds), below) common n met = (
  all_from (Meets g n) (own_triples u) (λ c h. all_in (Meets g n) ps c met.0 ((same c).1 (common.0 c h))),
  all_from (MeetsCond n) (own_conds u) (λ c h.
      let d = in_form level header rows x (λ v up. inside v (seen_up rows x v s up)) cs conds c (common.1 c h) in d.2 n (all_in (MeetsCond n) cs d.0 met.1 d.1)),
)

-- the node of a query at which a variable is new that some rows row lacks, and its parent
record Child (rows : List Mapping) (q : Select) (y : Name) : Type 0 where
  p : List Name
  u : Tree
  r : List Name
  w : Tree
  here : IsNode [] q.tree p u
  new : IsNewAt p u y
  parent : IsNode [] q.tree r w
  child : IsChild (children w) u
  own : p ≡ own_vars w

-- there is such a node
child_of : (level : Level) → (rows : List Mapping) (q : Select) → InOptional level rows q → (m : Mapping) → In rows m → (y : Name) → IsSeen rows y → (Binds m y → ⊥) → Child rows q y
child_of level rows q class m row y s lacks =
    let at = class.covers y s in
    ⊎_elim
    (λ e. absurd (lacks (all_in (λ m. Binds m y) rows m (class.whole y (subst (λ u. In (own_vars u) y) e.1 at.3.0)) row)))
    (λ w. record { p = at.0; u = at.1; r = w.0; w = w.1; here = at.2; new = at.3; parent = w.2; child = w.3; own = w.4 })
    (parent_of [] q.tree at.0 at.1 at.2)

-- a row that binds the strictly greater domains has no values at that node
none_of : (level : Level) → (g : List Statement) (rows : List Mapping) (q : Select) → InOptional level rows q → AllByRecursion (Answers g q) rows → (m : Mapping) → In rows m → (y : Name) → (Binds m y → ⊥)
    → ((v : Name) → IsSeen rows v → IsWithin rows y v → (IsWithin rows v y → ⊥) → Binds m v) → (c : Child rows q y) → NoValues g m c.u × ((v : Name) → In c.p v → Binds m v)
none_of level g rows q class has m row y lacks greater c =
    let by = all_in (ByNode g q.tree) rows m ((by_nodes level g q rows class).0 has) row in
    let new : BindsNew m c.r c.w = λ v nv.
    let up = (order_at level rows q class c.r c.w c.p c.u v y c.parent c.here nv c.new).0 (child_is_below c.w c.u c.p c.child c.own) in
    let k = class_at level rows q class c.r c.w c.parent in
    greater v ((k.2 v).0 nv).0 up.0 up.1 in
    let k = class_at level rows q class c.r c.w c.parent in
    let x_new : IsNewAt c.r c.w k.0 = (k.2 k.0).1 (k.1, (within_self rows k.0, within_self rows k.0)) in (
      by.none c.r c.w c.u c.parent c.child new (λ all. lacks (all y (subst (λ p. IsNewAt p c.u y) c.own c.new))),
      λ v h. within_row rows m k.0 v row (own_up level rows q class c.r c.w c.parent k.0 x_new v (subst (λ p. In p v) c.own h)) (new k.0 x_new),
    )

-- so each row says what it should of each node of the start
mutual
  by_start : (level : Level) → (g : List Statement) (header : List Name) (rows : List Mapping) → ((v : Name) → IsSeen rows v → In header v) → ((x : Name) → ShowsUncovered g rows x → ⊥) → (q : Select) → InOptional level rows q → AllByRecursion (Answers g q) rows
      → (m : Mapping) → In rows m → (parent : List Name) (d : Domain) (t : Tree) → Start rows parent d → AllCommon level g header rows d t → ByDomain g m d t
  by_start level g header rows heads covered q class has m row parent (domain x ds) (node ps cs f) s ((same, conds), below) = (
    λ b. (
      all_from (Meets g m) ps (λ p h. all_in (λ m. Binds m x → Meets g m p) rows m ((same p).0 h).holds row b),
      all_from (MeetsCond m) cs (λ c h. all_in (λ m. Binds m x → MeetsCond m c) rows m ((conds c).0 h).0.holds row b),
    ),
    by_start_in level g header rows heads covered q class has m row (all_vars ps) x
        (λ b v h. let w = in_all_vars ps v h in within_row rows m x v row (((same w.0).0 w.1).over v w.2) b) ds f (start_down g rows parent x ds ps same (own_from g rows covered x ps same) s) below,
  )

  by_start_in : (level : Level) → (g : List Statement) (header : List Name) (rows : List Mapping) → ((v : Name) → IsSeen rows v → In header v) → ((x : Name) → ShowsUncovered g rows x → ⊥) → (q : Select) → InOptional level rows q → AllByRecursion (Answers g q) rows
      → (m : Mapping) → In rows m → (parent : List Name) (z : Name) → (Binds m z → (v : Name) → In parent v → Binds m v) → (ds : Subdomains) (f : Forest) → StartIn rows parent ds → AllCommonIn level g header rows ds f → ByDomains g m z ds f
  by_start_in level g header rows heads covered q class has m row parent z up none leaf s below = tt
  by_start_in level g header rows heads covered q class has m row parent z up none (more t f) s below = tt
  by_start_in level g header rows heads covered q class has m row parent z up (also d ds) leaf s below = tt
  by_start_in level g header rows heads covered q class has m row parent z up (also d ds) (more t f) s below =
      let first = start_first rows parent d ds s in (
        λ b lacks.
            let seen = first.known (label d) (label_self d) in
            let c = child_of level rows q class m row (label d) seen lacks in
            let greater : (v : Name) → IsSeen rows v → IsWithin rows (label d) v → (IsWithin rows v (label d) → ⊥) → Binds m v = λ v k h shut. up b v (strictly rows parent d first v k h shut) in
            let n = none_of level g rows q class has m row (label d) lacks greater c in
            weaker g m c.p c.u t n.1 (safe_at [] [] q.tree (once_designed level rows q class) c.p c.u c.here)
            (strong_at level g header rows heads d t c.u seen below.0 (conjuncts_common level g rows q class has c.p c.u c.here (label d) c.new)) n.0,
        by_start level g header rows heads covered q class has m row parent d t first below.0,
        by_start_in level g header rows heads covered q class has m row parent z up ds f (start_rest rows parent d ds s) below.1,
      )

-- a query that fits covers each variable
fits_cover : (level : Level) → (g : List Statement) (rows : List Mapping) (q : Select) → InOptional level rows q → AllByRecursion (Answers g q) rows → (x : Name) → ShowsUncovered g rows x → ⊥
fits_cover level g rows q class has x bad =
    let at = class.covers x bad.seen in
    let c = in_all_vars (own_triples at.1) x at.3.0 in
    bad.none c.0 ((conjuncts_common level g rows q class has at.0 at.1 at.2 x at.3).0 c.0 c.1) c.2

-- where any query of the class fits, the start does
pub start_tree_right : (level : Level) → (g : List Statement) (rows : List Mapping) (header vs : List Name) (d : Domain) (t : Tree) (q : Select) → ((v : Name) → IsSeen rows v → In header v) → Selects rows vs → AreDomains rows d
    → AllCommon level g header rows d t → InOptional level rows q → AllByRecursion (Answers g q) rows → IsRight Optional level g rows [] (plain_select vs t)
start_tree_right level g rows header vs d t q heads selects tree start class fits =
    let covered = fits_cover level g rows q class fits in
    from_labels level g rows vs d t selects tree (record {
      over = start_is_over level g header rows d t tree start covered;
      by = all_from (λ m. ByDomain g m d t) rows (λ m row. by_start level g header rows heads covered q class fits m row [] d t (root_start rows d tree) start);
    })

-- claims
pub optional_noroot_none : (level : Level) → (g : List Statement) (rows unwanted : List Mapping) → ShowsNoRoot rows → NoFit (InOptional level rows) g rows unwanted
optional_noroot_none level g rows unwanted claim q class fits =
    let k = class.classes [] q.tree (self_node [] q.tree) in
    claim k.0 (class.whole k.0 ((k.1.1 k.0).1 (within_self rows k.0, within_self rows k.0)).0)

-- a variable is uncovered
pub optional_uncovered_none : (level : Level) → (g : List Statement) (rows unwanted : List Mapping) (x : Name) → ShowsUncovered g rows x → NoFit (InOptional level rows) g rows unwanted
optional_uncovered_none level g rows unwanted x bad q class fits = fits_cover level g rows q class fits.all x bad

-- a row can be extended
pub extension_none : (level : Level) → (g : List Statement) (rows unwanted : List Mapping) (i : ℕ) (x : Name) (e : Mapping) → ShowsExtension level g rows i x e → NoFit (InOptional level rows) g rows unwanted
extension_none level g rows unwanted i x e claim q class fits =
    let m = claim.row in
    let row = at_in rows i m claim.place.row_at in
    let c = child_of level rows q class m row x claim.place.seen claim.place.lacks in
    let n = none_of level g rows q class fits.all m row x claim.place.lacks (λ v s up shut. claim.place.around v s (up, shut)) c in
    let k = class.classes c.p c.u c.here in
    let k_x = (k.1.1 x).0 c.new in
    let common = conjuncts_common level g rows q class fits.all c.p c.u c.here x c.new in
    n.0 e
    (λ v b. let same = (claim.binds v).0 b in ((k.1.1 v).1 (within_trans rows k.0 x v k_x.0 same.0, within_trans rows v x k.0 same.1 k_x.1)).0)
    (λ v s t a b. absurd (claim.place.lacks (within_row rows m v x row ((claim.binds v).0 (binds (e v) t b)).1 (binds (m v) s a))))
    (all_from (Meets g (merge m e)) (own_triples c.u) (λ p h. claim.triples p (common.0 p h)), all_from (MeetsCond (merge m e)) (own_conds c.u) (λ p h. claim.conditions p (common.1 p h)))
