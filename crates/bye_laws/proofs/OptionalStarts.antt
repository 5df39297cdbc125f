-- The class with OPTIONAL groups: its claims, and that they are enough, over examples.
use Rattle.bye_pattern.specs.declared.level.Level.{Level}
use Rattle.std.proofs.Common.{◌≡◌, refl, ℕ, List, [], inl, inr, sym, subst, ◌↔◌}
use Rattle.bye_terms.specs.Members.{In}
use Rattle.bye_terms.specs.Terms.{Statement}
use Rattle.bye_pattern.specs.declared.class.Class.TheVariants.{Optional}
use Rattle.bye_pattern.specs.Certificates.{Admitted, CertificateValue, Claim, Domains, Extension, Fork, GoesWith, IsShown, NoRoot, Shows, ShowsExtension, ShowsUncovered, Uncovered}
use Rattle.bye_table.specs.Domains.{AreSelected, IsSeen, Wanted}
use Rattle.bye_pattern.specs.Fitting.{NoFit}
use Rattle.bye_pattern.specs.Keeping.{IsRight, IsStart}
use Rattle.bye_table.specs.Mappings.{Mapping, Name, row_mapping}
use Rattle.bye_pattern.specs.Optional.{InOptional}
use Rattle.bye_table.specs.DomainTrees.{Domain, IsLabel, IsLabelIn, Subdomains, also, domain, none}
use Rattle.bye_pattern.specs.Trees.{Forest, Select, Tree, leaf, more, node, plain_select}
use Rattle.bye_laws.specs.Completeness.{AreExamples}
use Rattle.bye_laws.proofs.AllConjuncts.{some_lists}
use Rattle.bye_laws.proofs.ClassStarts.{class_is_over, covered_at}
use Rattle.bye_laws.proofs.CommonConditions.{lower}
use Rattle.bye_laws.proofs.DomainTrees.{domain_tree}
use Rattle.bye_laws.proofs.Examples.{in_seen, seen_in, seen_list, seen_once}
use Rattle.bye_laws.proofs.Forks.{fork_none}
use Rattle.bye_laws.specs.QueryDomains.{AreDomains}
use Rattle.bye_laws.proofs.Labelled.{AllCommon, AllCommonIn, common_of, domains_of}
use Rattle.bye_pattern.specs.FirstClaims.{listing}
use Rattle.bye_laws.proofs.Listings.{listed_once, listed_whole}
use Rattle.bye_laws.proofs.OptionalEnough.{start_tree_enough}
use Rattle.bye_laws.proofs.OptionalFits.{extension_none, optional_noroot_none, optional_uncovered_none, start_tree_right}
use Rattle.bye_laws.specs.QueryDomains.{Selects}
use Rattle.bye_laws.proofs.OptionalKept.{over_of_class}
use Rattle.bye_laws.proofs.StartTrees.{start_is_over}
use Rattle.bye_laws.proofs.Withins.{seen_up}

-- the variables that some row binds
pub selects_of : (w : Wanted) → AreExamples w → (vs : List Name) → AreSelected w vs → Selects w.rows vs
selects_of w examples vs selected = record {
  once = seen_once w.rows w.vars vs selected examples.once;
  same = λ v. ((λ h. (seen_in w.rows w.vars vs selected v h).1), (λ s. in_seen w.rows w.vars vs selected v (examples.within v s) s));
}

-- each claim of the class shows that none fits
pub optional_claims : (level : Level) → (g : List Statement) (w : Wanted) (unwanted : List Mapping) (claim : Claim) → GoesWith Optional claim → IsShown level g w.rows unwanted claim → NoFit (InOptional level w.rows) g w.rows unwanted
optional_claims level g w unwanted (Domains i j x) goes shown = absurd goes
optional_claims level g w unwanted NoRoot goes shown = optional_noroot_none level g w.rows unwanted shown
optional_claims level g w unwanted (Fork x y z) goes shown = fork_none level g w.rows unwanted x y z shown
optional_claims level g w unwanted (Uncovered x) goes shown = optional_uncovered_none level g w.rows unwanted x shown
optional_claims level g w unwanted (Admitted j) goes shown = absurd goes
optional_claims level g w unwanted (Extension i x values) goes shown = extension_none level g w.rows unwanted i x (row_mapping values) shown.1

-- it is not so that there is no tree of all common conjuncts
mutual
  some_tree : (level : Level) → (g : List Statement) (header : List Name) (rows : List Mapping) → ((v : Name) → IsSeen rows v → In header v) → (d : Domain) → ((x : Name) → IsLabel d x → IsSeen rows x)
      → ((t : Tree) → AllCommon level g header rows d t → ⊥) → ⊥
  some_tree level g header rows heads (domain x ds) known k =
      let seen = known x (inl refl) in
      some_lists level g rows header x seen (λ v up. heads v (seen_up rows x v seen up)) (λ ps cs all.
      some_forest level g header rows heads ds (λ y h. known y (inr h)) (λ f below. k (node ps cs f) (all, below)))

  some_forest : (level : Level) → (g : List Statement) (header : List Name) (rows : List Mapping) → ((v : Name) → IsSeen rows v → In header v) → (ds : Subdomains) → ((x : Name) → IsLabelIn ds x → IsSeen rows x)
      → ((f : Forest) → AllCommonIn level g header rows ds f → ⊥) → ⊥
  some_forest level g header rows heads none known k = k leaf tt
  some_forest level g header rows heads (also d ds) known k =
      some_tree level g header rows heads d (λ x h. known x (inl h)) (λ t all.
      some_forest level g header rows heads ds (λ x h. known x (inr h)) (λ f below. k (more t f) (all, below)))

-- a certificate of an extension, from its values as a mapping
extension_listed : (level : Level) → (g : List Statement) (w : Wanted) (i : ℕ) (x : Name) (e : Mapping) → AreExamples w → ShowsExtension level g w.rows i x e → ShowsExtension level g w.rows i x (row_mapping (listing w.vars e))
extension_listed level g w i x e examples shown =
    subst (ShowsExtension level g w.rows i x) (sym (listed_whole w.vars e (λ v b. examples.within v (seen_up w.rows x v shown.place.seen ((shown.binds v).0 b).0)))) shown

-- where no query fits, it is not so that no certificate shows it
pub optional_enough : (level : Level) → (g : List Statement) (w : Wanted) → AreExamples w → NoFit (InOptional level w.rows) g w.rows []
    → ((c : CertificateValue) → c.class ≡ Optional → c.level ≡ level → Shows g w.rows [] c → ⊥) → ⊥
optional_enough level g w examples nofit never =
    let tree = (domain_tree w examples).1 (
      (λ claim. never (record { level = level; class = Optional; claim = NoRoot }) refl refl (record { goes = tt; shown = claim })),
      (λ x y z claim. never (record { level = level; class = Optional; claim = Fork x y z }) refl refl (record { goes = tt; shown = claim })),
    ) in
    let domains = domains_of w tree.0 tree.1 in
    let list = seen_list w.rows w.vars in
    some_tree level g w.vars w.rows examples.within tree.0 domains.seen (λ t all.
    let right = start_tree_enough level g w.rows w.vars list.0 tree.0 t examples.within (selects_of w examples list.0 list.1) domains all
    (λ x claim. never (record { level = level; class = Optional; claim = Uncovered x }) refl refl (record { goes = tt; shown = claim }))
    (λ i x e claim. never (record { level = level; class = Optional; claim = Extension i x (listing w.vars e) }) refl refl (record { goes = tt; shown = (listed_once w.vars e examples.once, extension_listed level g w i x e examples claim) })) in
    nofit (plain_select list.0 t) right.in_class right.fits)

-- the parts of a start of the class
pub record OptionalStart (level : Level) (g : List Statement) (w : Wanted) (start : Select) : Type 0 where
  pub domains : Domain
  pub tree : Tree
  pub vs : List Name
  pub over : AreDomains w.rows domains
  pub all : AllCommon level g w.vars w.rows domains tree
  pub selects : Selects w.rows vs
  pub is : start ≡ plain_select vs tree

-- each start has these parts
pub optional_parts : (level : Level) → (g : List Statement) (w : Wanted) (start : Select) → AreExamples w → IsStart Optional level g w start → OptionalStart level g w start
optional_parts level g w start examples is = record {
  domains = is.domains;
  tree = is.tree;
  vs = is.vars;
  over = domains_of w is.domains is.over;
  all = common_of level g w is.domains is.tree is.conjuncts;
  selects = selects_of w examples is.vars is.selected;
  is = is.query;
}

-- and is right where any query is
pub optional_start_right : (level : Level) → (g : List Statement) (w : Wanted) (start q : Select) → AreExamples w → IsStart Optional level g w start → IsRight Optional level g w.rows [] q → IsRight Optional level g w.rows [] start
optional_start_right level g w start q examples is right =
    let p = optional_parts level g w start examples is in
    subst (IsRight Optional level g w.rows []) (sym p.is) (start_tree_right level g w.rows w.vars p.vs p.domains p.tree q examples.within p.selects p.over p.all right.in_class right.fits.all)

-- over a tree of domains the start is of the class where no variable is uncovered
covered_start : (level : Level) → (g : List Statement) (w : Wanted) (start : Select) → AreExamples w → IsStart Optional level g w start → ((x : Name) → ShowsUncovered g w.rows x → ⊥) → InOptional level w.rows start
covered_start level g w start examples is covered =
    let p = optional_parts level g w start examples is in
    subst (InOptional level w.rows) (sym p.is) (over_of_class level w.rows p.vs p.domains p.tree p.selects p.over (start_is_over level g w.vars w.rows p.domains p.tree p.over p.all covered))

-- and where it is of the class, none is
class_covered : (level : Level) → (g : List Statement) (w : Wanted) (start : Select) → AreExamples w → IsStart Optional level g w start → InOptional level w.rows start → (x : Name) → ShowsUncovered g w.rows x → ⊥
class_covered level g w start examples is class x claim =
    let p = optional_parts level g w start examples is in
    let over = class_is_over level g w.vars w.rows p.vs p.domains p.tree p.over p.all (subst (InOptional level w.rows) p.is class) in
    let y = p.over.covers x claim.seen in
    let c = covered_at level g w.vars w.rows [] p.domains p.tree p.all over y.0 x y.1 claim.seen y.2 in
    claim.none c.0 (lower g w.rows x y.0 c.0 y.2.1 c.1) c.2

-- the two together
pub starts_by_covering : (level : Level) → (g : List Statement) (w : Wanted) (start : Select) → AreExamples w → IsStart Optional level g w start
    → InOptional level w.rows start ↔ ((x : Name) → ShowsUncovered g w.rows x → ⊥)
starts_by_covering level g w start examples is = (class_covered level g w start examples is, covered_start level g w start examples is)
