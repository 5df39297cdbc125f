-- Trees of domains and of all common conjuncts, without the orders in which they stand.
use Rattle.bye_pattern.specs.declared.level.Level.{Level}
use Rattle.std.proofs.Common.{List}
use Rattle.bye_terms.specs.Terms.{Statement}
use Rattle.bye_table.specs.Domains.{IsWithin, Wanted}
use Rattle.bye_table.specs.Mappings.{Mapping, Name}
use Rattle.bye_table.specs.DomainTrees.{AreOrdered, Domain, IsBeside, IsDomainTree, IsLabel, IsLabelIn, IsOrdered, Subdomains, also, domain, none}
use Rattle.bye_pattern.specs.Starting.{IsStartForest, IsStartTree}
use Rattle.bye_pattern.specs.Trees.{Forest, Tree, leaf, more, node}
use Rattle.bye_laws.specs.QueryDomains.{AreDomains, AreNested, AreNestedIn}
use Rattle.bye_laws.proofs.AllConjuncts.{AreAllAt}
use Rattle.bye_laws.proofs.DomainLabels.{beside_apart}

-- at the node of each domain all common conjuncts, in any order
abbrev mutual
  pub AllCommon : (level : Level) → List Statement → List Name → List Mapping → Domain → Tree → Type 0
  AllCommon level g header rows (domain x ds) (node ps cs f) = AreAllAt level g rows header x ps cs × AllCommonIn level g header rows ds f

  pub AllCommonIn : (level : Level) → List Statement → List Name → List Mapping → Subdomains → Forest → Type 0
  AllCommonIn level g header rows none leaf = Unit {0}
  AllCommonIn level g header rows none (more t f) = ⊥
  AllCommonIn level g header rows (also d ds) leaf = ⊥
  AllCommonIn level g header rows (also d ds) (more t f) = AllCommon level g header rows d t × AllCommonIn level g header rows ds f

-- the order of nodes beside one another forgotten
beside_apart_all : (w : Wanted) (d : Domain) (ds : Subdomains) → IsBeside w d ds → (x y : Name) → IsLabel d x → IsLabelIn ds y → (IsWithin w.rows x y → ⊥) × (IsWithin w.rows y x → ⊥)
beside_apart_all w d ds beside x y h k = beside_apart w d ds x y beside h k

-- ordered trees are nested
mutual
  ordered_nested : (w : Wanted) (d : Domain) → IsOrdered w d → AreNested w.rows d
  ordered_nested w (domain x ds) order = (order.0, ordered_nested_in w ds order.1)

  ordered_nested_in : (w : Wanted) (ds : Subdomains) → AreOrdered w ds → AreNestedIn w.rows ds
  ordered_nested_in w none order = tt
  ordered_nested_in w (also d ds) order = (beside_apart_all w d ds order.0, ordered_nested w d order.1, ordered_nested_in w ds order.2)

-- a tree of domains, its order forgotten
pub domains_of : (w : Wanted) (d : Domain) → IsDomainTree w d → AreDomains w.rows d
domains_of w d tree = record {
  seen = λ x h. (tree.labels x h).seen;
  covers = tree.covers;
  ordered = ordered_nested w d tree.ordered;
  root = tree.root;
}

-- and the order of conjuncts
mutual
  pub common_of : (level : Level) → (g : List Statement) (w : Wanted) (d : Domain) (t : Tree) → IsStartTree level g w d t → AllCommon level g w.vars w.rows d t
  common_of level g w (domain x ds) (node ps cs f) (here, below) = ((here.triples, here.conditions), common_of_in level g w ds f below)

  common_of_in : (level : Level) → (g : List Statement) (w : Wanted) (ds : Subdomains) (f : Forest) → IsStartForest level g w ds f → AllCommonIn level g w.vars w.rows ds f
  common_of_in level g w none leaf below = tt
  common_of_in level g w none (more t f) below = below
  common_of_in level g w (also d ds) leaf below = below
  common_of_in level g w (also d ds) (more t f) below = (common_of level g w d t below.0, common_of_in level g w ds f below.1)
