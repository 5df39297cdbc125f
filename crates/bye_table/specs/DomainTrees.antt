-- Trees of domains: the domain classes of the examples, each within the greater ones.
use Rattle.std.specs.Prelude.{◌≡◌, ◌⊎◌}
use Rattle.bye_table.specs.Mappings.{Name}
use Rattle.bye_table.specs.Domains.{Wanted, IsSeen, IsWithin, IsBelow, AreAlike, BindsEach, IsBefore}

-- a tree of domain classes, each by the first of its variables
mutual
  pub data Domain : Type 0 where
    domain : Name → Subdomains → Domain

  pub data Subdomains : Type 0 where
    none : Subdomains
    also : Domain → Subdomains → Subdomains

-- the variable of a node
abbrev pub label : Domain → Name
label (domain x ds) = x

-- y is the variable of a node of the tree
abbrev mutual
  pub IsLabel : Domain → Name → Type 0
  IsLabel (domain x ds) y = (x ≡ y) ⊎ IsLabelIn ds y

  pub IsLabelIn : Subdomains → Name → Type 0
  IsLabelIn none y = ⊥
  IsLabelIn (also d ds) y = IsLabel d y ⊎ IsLabelIn ds y

-- below a node all domains are smaller; of two beside one another neither is within the other, and the first has the earlier variable
abbrev mutual
  pub IsOrdered : Wanted → Domain → Type 0
  IsOrdered w (domain x ds) = ((y : Name) → IsLabelIn ds y → IsBelow w.rows y x) × AreOrdered w ds

  pub AreOrdered : Wanted → Subdomains → Type 0
  AreOrdered w none = Unit {0}
  AreOrdered w (also d ds) = IsBeside w d ds × IsOrdered w d × AreOrdered w ds

  pub IsBeside : Wanted → Domain → Subdomains → Type 0
  IsBeside w d none = Unit {0}
  IsBeside w d (also e ds) =
      IsBefore w.vars (label d) (label e) × ((x y : Name) → IsLabel d x → IsLabel e y → (IsWithin w.rows x y → ⊥) × (IsWithin w.rows y x → ⊥)) × IsBeside w d ds

-- x is bound in some row, and the first of its class
pub record IsFirstOfClass (w : Wanted) (x : Name) : Type 0 where
  pub seen : IsSeen w.rows x
  pub first : (y : Name) → IsBefore w.vars y x → AreAlike w.rows x y → ⊥

-- each class has a node, and the ancestors of a node are the greater domains; every row binds the root's variables
pub record IsDomainTree (w : Wanted) (d : Domain) : Type 0 where
  pub labels : (x : Name) → IsLabel d x → IsFirstOfClass w x
  pub covers : (v : Name) → IsSeen w.rows v → (x : Name) × IsLabel d x × AreAlike w.rows x v
  pub ordered : IsOrdered w d
  pub root : BindsEach w.rows (label d)
