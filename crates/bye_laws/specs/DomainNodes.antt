-- The nodes of a tree of domains: the variables and the rows of each, which are above it, and the tree as it is made from its labels.
use Rattle.std.specs.Prelude.{◌≡◌, ℕ, zero, suc, ◌≤◌, ◌<◌, Bool, true, List, [], ◌∷◌, length, map, ◌⊎◌, ◌↔◌}
use Rattle.std.specs.List.{filter}
use Rattle.bye_terms.specs.Members.{In}
use Rattle.bye_table.specs.Domains.{AreAlike, BindsEach, InE, IsBefore, IsBelow, IsSeen, Wanted}
use Rattle.bye_table.specs.DomainTrees.{Domain, IsDomainTree, IsFirstOfClass, IsLabel, IsLabelIn, Subdomains, also, domain, none}
use Rattle.bye_table.specs.Mappings.{Mapping, Name}
use Rattle.bye_pattern.specs.Certificates.{ShowsFork}
use Rattle.bye_laws.specs.Completeness.{AreExamples}
use Rattle.bye_laws.specs.Ordering.{IsSorted}

-- the variables of the class of x, in the table's order
pub record AreVariablesOf (w : Wanted) (x : Name) (vs : List Name) : Type 0 where
  pub members : (v : Name) → In vs v ↔ (IsSeen w.rows v × AreAlike w.rows x v)
  pub sorted : IsSorted (IsBefore w.vars) vs

-- the numbers of the rows that bind x, from 1, rising
pub record AreNumbersOf (rows : List Mapping) (x : Name) (numbers : List ℕ) : Type 0 where
  pub members : (i : ℕ) → In numbers i ↔ InE rows x i
  pub rising : IsSorted (λ i j. i < j) numbers

-- the node of y is a proper ancestor of a node of x
abbrev mutual
  pub StandsAbove : Domain → Name → Name → Type 0
  StandsAbove (domain z ds) y x = ((z ≡ y) × IsLabelIn ds x) ⊎ StandsAboveIn ds y x

  pub StandsAboveIn : Subdomains → Name → Name → Type 0
  StandsAboveIn none y x = ⊥
  StandsAboveIn (also d ds) y x = StandsAbove d y x ⊎ StandsAboveIn ds y x

-- what each node of a tree of domains has, and what is above it
pub record DomainNodesAreTold : Type 0 where
  -- each class has one list of its variables, and it begins with the variable of the node
  pub variables : (w : Wanted) (x : Name) → AreExamples w → (vs : List Name) × AreVariablesOf w x vs
  pub one_of_variables : (w : Wanted) (x : Name) (vs us : List Name) → AreExamples w → AreVariablesOf w x vs → AreVariablesOf w x us → vs ≡ us
  pub first : (w : Wanted) (d : Domain) (x : Name) (vs : List Name) → IsDomainTree w d → IsLabel d x → AreVariablesOf w x vs → (us : List Name) × (vs ≡ x ∷ us)
  -- each variable that some row binds is of one node's class
  pub one_node : (w : Wanted) (d : Domain) (x y v : Name) → AreExamples w → IsDomainTree w d → IsLabel d x → IsLabel d y → AreAlike w.rows x v → AreAlike w.rows y v → x ≡ y
  -- each variable has one list of the rows that bind it
  pub numbers : (rows : List Mapping) (x : Name) → (numbers : List ℕ) × AreNumbersOf rows x numbers
  pub one_of_numbers : (rows : List Mapping) (x : Name) (is js : List ℕ) → AreNumbersOf rows x is → AreNumbersOf rows x js → is ≡ js
  -- the ancestors of a node are the nodes of greater domains
  pub above : (w : Wanted) (d : Domain) (x y : Name) → IsDomainTree w d → IsLabel d x → IsLabel d y → StandsAbove d y x ↔ IsBelow w.rows x y

-- the variables that are first of their class, in the table's order
pub record AreLabels (w : Wanted) (labels : List Name) : Type 0 where
  pub members : (x : Name) → In labels x ↔ IsFirstOfClass w x
  pub sorted : IsSorted (IsBefore w.vars) labels

-- the domain of y is smaller than that of x, and that of no label lies between
pub record IsChildAmong (rows : List Mapping) (labels : List Name) (x y : Name) : Type 0 where
  pub below : IsBelow rows y x
  pub none : (t : Name) → In labels t → IsBelow rows y t → IsBelow rows t x → ⊥

-- a test of the labels that stand right below a label
abbrev pub TellsChildren : List Mapping → List Name → (Name → Name → Bool) → Type 0
TellsChildren rows labels is_child = (x y : Name) → In labels x → In labels y → (is_child x y ≡ true) ↔ IsChildAmong rows labels x y

-- trees beside one another
abbrev pub subdomains_of : List Domain → Subdomains
subdomains_of [] = none
subdomains_of (d ∷ ds) = also d (subdomains_of ds)

-- the tree below a label, to a depth: its children are the trees of the labels right below it
abbrev pub tree_at : (Name → Name → Bool) → List Name → ℕ → Name → Domain
tree_at is_child labels zero x = domain x none
tree_at is_child labels (suc depth) x = domain x (subdomains_of (map (tree_at is_child labels depth) (filter (is_child x) labels)))

-- a tree of domains is the one that is made from the labels, from the one that every row binds
pub record DomainTreesByDepth : Type 0 where
  pub labels : (w : Wanted) → AreExamples w → (labels : List Name) × AreLabels w labels
  pub one_of_labels : (w : Wanted) (labels others : List Name) → AreExamples w → AreLabels w labels → AreLabels w others → labels ≡ others
  pub test : (rows : List Mapping) (labels : List Name) → (is_child : Name → Name → Bool) × TellsChildren rows labels is_child
  -- and the number of all labels is depth enough
  pub tree : (w : Wanted) (d : Domain) (labels : List Name) (is_child : Name → Name → Bool) (depth : ℕ) (x : Name) → AreExamples w → IsDomainTree w d → AreLabels w labels
      → TellsChildren w.rows labels is_child → length labels ≤ depth → IsFirstOfClass w x → BindsEach w.rows x → tree_at is_child labels depth x ≡ d
  -- what is made so is a tree of domains exactly where no fork shows
  pub made : (w : Wanted) (labels : List Name) (is_child : Name → Name → Bool) (depth : ℕ) (x : Name) → AreExamples w → AreLabels w labels
      → TellsChildren w.rows labels is_child → length labels ≤ depth → IsFirstOfClass w x → BindsEach w.rows x
      → IsDomainTree w (tree_at is_child labels depth x) ↔ ((y z u : Name) → ShowsFork w.rows y z u → ⊥)
