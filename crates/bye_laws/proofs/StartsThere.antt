-- There is a start of each class exactly where no claim about domains shows: its nodes are the strongest ones.
use Rattle.std.proofs.Common.{◌≡◌, refl, ℕ, true, List, inl, inr, ⊎_elim, sym, subst, ◌↔◌}
use Rattle.std.specs.List.{AllByRecursion}
use Rattle.bye_terms.specs.Members.{In}
use Rattle.bye_terms.specs.Names.{is_name}
use Rattle.bye_terms.specs.Terms.{Statement}
use Rattle.bye_terms.proofs.Members.{all_from, all_in}
use Rattle.bye_table.specs.Domains.{IsSeen, IsWithin, Wanted}
use Rattle.bye_table.specs.DomainTrees.{Domain, IsDomainTree, IsLabel, IsLabelIn, Subdomains, also, domain, label, none}
use Rattle.bye_table.specs.Mappings.{Binds, Mapping, Name}
use Rattle.bye_pattern.specs.declared.class.Class.TheVariants.{And, Optional}
use Rattle.bye_pattern.specs.declared.cond.Cond.{Cond}
use Rattle.bye_pattern.specs.declared.level.Level.{Level}
use Rattle.bye_pattern.specs.Certificates.{ShowsDomains, ShowsFork, ShowsNoRoot}
use Rattle.bye_pattern.specs.Keeping.{HasDomains, IsStart}
use Rattle.bye_pattern.specs.Patterns.{Pattern}
use Rattle.bye_pattern.specs.Starting.{IsStartForest, IsStartNode, IsStartTree}
use Rattle.bye_pattern.specs.Trees.{Forest, Select, Tree, leaf, more, node, plain_select}
use Rattle.bye_laws.specs.Beginning.{StartsAreThereAndOne}
use Rattle.bye_laws.specs.Completeness.{AreExamples}
use Rattle.bye_laws.specs.Strongest.{AreNames, IsValidTriple}
use Rattle.bye_laws.proofs.ConjunctionStarts.{one_domain}
use Rattle.bye_laws.proofs.DomainLabels.{label_self}
use Rattle.bye_laws.proofs.DomainTrees.{domain_tree}
use Rattle.bye_table.proofs.RowNumbers.{at_in}
use Rattle.bye_laws.proofs.Examples.{seen_list}
use Rattle.bye_laws.proofs.KeptQueries.{one_start}
use Rattle.bye_laws.proofs.OneDomainTree.{one_domain_tree}
use Rattle.bye_laws.proofs.StrongestAt.{around_there, rows_there, sorted_once, start_at}
use Rattle.bye_laws.proofs.StrongestThere.{strongest_there}
use Rattle.bye_laws.proofs.Withins.{seen_up, within_row}

-- the node of a variable that some row binds
node_there : (level : Level) (g : List Statement) (w : Wanted) (x : Name) → AreExamples w → AreNames w.vars → AllByRecursion IsValidTriple g → IsSeen w.rows x
    → (ps : List Pattern) × (cs : List Cond) × IsStartNode level g w x ps cs
node_there level g w x examples names triples seen =
    let (vs, around) = around_there w x examples seen in
    let (rows, at) = rows_there w.rows x in
    let named : AreNames vs = all_from (λ v. is_name v ≡ true) vs (λ v h. all_in (λ v. is_name v ≡ true) w.vars v names (examples.within v (seen_up w.rows x v seen ((around.members v).0 h)))) in
    let (ps, cs, s) = strongest_there level g vs rows (sorted_once w.vars vs examples.once around.sorted) named triples (λ e. subst (λ (rows : List Mapping). In rows seen.0) e ((at seen.0).1 (seen.1, seen.2))) in
    (ps, cs, (start_at level g w x vs rows ps cs examples around at).0 s)

-- the tree over a tree of domains
mutual
  start_tree_there : (level : Level) (g : List Statement) (w : Wanted) → AreExamples w → AreNames w.vars → AllByRecursion IsValidTriple g → (d : Domain)
      → ((x : Name) → IsLabel d x → IsSeen w.rows x) → (t : Tree) × IsStartTree level g w d t
  start_tree_there level g w examples names triples (domain x ds) seen =
      let (ps, cs, n) = node_there level g w x examples names triples (seen x (inl refl)) in
      let (f, rest) = start_forest_there level g w examples names triples ds (λ y h. seen y (inr h)) in
      (node ps cs f, (n, rest))

  start_forest_there : (level : Level) (g : List Statement) (w : Wanted) → AreExamples w → AreNames w.vars → AllByRecursion IsValidTriple g → (ds : Subdomains)
      → ((x : Name) → IsLabelIn ds x → IsSeen w.rows x) → (f : Forest) × IsStartForest level g w ds f
  start_forest_there level g w examples names triples none seen = (leaf, tt)
  start_forest_there level g w examples names triples (also d ds) seen =
      let (t, first) = start_tree_there level g w examples names triples d (λ x h. seen x (inl h)) in
      let (f, rest) = start_forest_there level g w examples names triples ds (λ x h. seen x (inr h)) in
      (more t f, (first, rest))

-- a start with OPTIONAL groups
optional_there : (level : Level) (g : List Statement) (w : Wanted) → AreExamples w → AreNames w.vars → AllByRecursion IsValidTriple g → (d : Domain) → IsDomainTree w d
    → (start : Select) × IsStart Optional level g w start
optional_there level g w examples names triples d over =
    let (t, is) = start_tree_there level g w examples names triples d (λ x h. (over.labels x h).seen) in
    let (vs, selected) = seen_list w.rows w.vars in
    (plain_select vs t, record { domains = d; tree = t; vars = vs; allowed = tt; over = over; conjuncts = is; selected = selected; query = refl })

-- where each row binds what some row binds, the tree of domains is its root
pub lone : (w : Wanted) (d : Domain) → IsDomainTree w d → ((m : Mapping) → In w.rows m → (v : Name) → IsSeen w.rows v → Binds m v) → HasDomains And d
lone w (domain x none) over same = refl
lone w (domain x (also e ds)) over same =
    let seen = (over.labels (label e) (inr (inl (label_self e)))).seen in
    absurd ((over.ordered.0 (label e) (inl (label_self e))).1 (all_from (λ m. Binds m x → Binds m (label e)) w.rows (λ m row b. same m row (label e) seen)))

-- then no fork shows
pub no_fork : (w : Wanted) → ((m : Mapping) → In w.rows m → (v : Name) → IsSeen w.rows v → Binds m v) → (x y z : Name) → ShowsFork w.rows x y z → ⊥
no_fork w same x y z fork = fork.first_apart (all_from (λ m. Binds m y → Binds m z) w.rows (λ m row b. same m row z (seen_up w.rows x z fork.seen fork.second)))

-- a start of one conjunction
conjunction_there : (level : Level) (g : List Statement) (w : Wanted) → AreExamples w → AreNames w.vars → AllByRecursion IsValidTriple g → (ShowsNoRoot w.rows → ⊥)
    → ((i j : ℕ) (x : Name) → ShowsDomains w.rows i j x → ⊥) → (start : Select) × IsStart And level g w start
conjunction_there level g w examples names triples root never =
    let same = one_domain w.rows never in
    let (d, over) = (domain_tree w examples).1 (root, no_fork w same) in
    let (t, is) = start_tree_there level g w examples names triples d (λ x h. (over.labels x h).seen) in
    let (vs, selected) = seen_list w.rows w.vars in
    (plain_select vs t, record { domains = d; tree = t; vars = vs; allowed = lone w d over same; over = over; conjuncts = is; selected = selected; query = refl })

-- over a tree of domains that is its root each row binds what some row binds
pub lone_binds : (w : Wanted) (d : Domain) → HasDomains And d → IsDomainTree w d → (m : Mapping) → In w.rows m → (v : Name) → IsSeen w.rows v → Binds m v
lone_binds w (domain x ds) alone over m row v seen =
    let (y, h, same) = over.covers v seen in
    let e : x ≡ y = ⊎_elim (λ e. e) (λ k. absurd (subst (λ ds. IsLabelIn ds y) alone k)) h in
    within_row w.rows m x v row (subst (λ y. IsWithin w.rows y v) (sym e) same.0) (all_in (λ m. Binds m x) w.rows m over.root row)

-- so no two rows have different domains
pub no_domains : (w : Wanted) → ((m : Mapping) → In w.rows m → (v : Name) → IsSeen w.rows v → Binds m v) → (i j : ℕ) (x : Name) → ShowsDomains w.rows i j x → ⊥
no_domains w same i j x claim =
    let one = at_in w.rows i claim.one claim.one_row in
    let other = at_in w.rows j claim.other claim.other_row in
    ⊎_elim (λ h. h.1 (same claim.other other x (claim.one, one, h.0))) (λ h. h.0 (same claim.one one x (claim.other, other, h.1))) claim.binds

-- a tree of one domain
pub lone_tree : (w : Wanted) → AreExamples w → ((d : Domain) × HasDomains And d × IsDomainTree w d) ↔ ((ShowsNoRoot w.rows → ⊥) × ((i j : ℕ) (x : Name) → ShowsDomains w.rows i j x → ⊥))
lone_tree w examples = (
  (λ (d, alone, over). (((domain_tree w examples).0 (d, over)).0, no_domains w (lone_binds w d alone over))),
  (λ (root, never).
      let same = one_domain w.rows never in
      let (d, over) = (domain_tree w examples).1 (root, no_fork w same) in
      (d, lone w d over same, over)),
)

-- what is told of starts
pub starts_told : StartsAreThereAndOne
starts_told = record {
  one_tree = λ w d e examples. one_domain_tree w examples d e;
  one = one_start;
  optional = λ level g w examples names triples. (
    (λ (start, is). (domain_tree w examples).0 (is.domains, is.over)),
    (λ claims. let (d, over) = (domain_tree w examples).1 claims in optional_there level g w examples names triples d over),
  );
  conjunction = λ level g w examples names triples. (
    (λ (start, is). (
      ((domain_tree w examples).0 (is.domains, is.over)).0,
      no_domains w (lone_binds w is.domains is.allowed is.over),
    )),
    (λ claims. conjunction_there level g w examples names triples claims.0 claims.1),
  );
}
