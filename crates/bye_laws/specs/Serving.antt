-- What is asked before conjuncts go: whether those that are left still serve.
use Rattle.std.specs.Prelude.{List, ◌⊎◌, ◌↔◌}
use Rattle.std.specs.List.{AllByRecursion}
use Rattle.bye_terms.specs.Members.{In}
use Rattle.bye_terms.specs.Terms.{Statement}
use Rattle.bye_table.specs.Mappings.{Exactly, Mapping, Name}
use Rattle.bye_table.specs.Domains.{AreAlike, IsSeen, IsWithin}
use Rattle.bye_table.specs.DomainTrees.{Subdomains, also, domain, label, none}
use Rattle.bye_pattern.specs.declared.class.Class.TheVariants.{And}
use Rattle.bye_pattern.specs.declared.cond.Cond.{Cond}
use Rattle.bye_pattern.specs.declared.level.Level.{Level}
use Rattle.bye_pattern.specs.Conditions.{cond_vars}
use Rattle.bye_pattern.specs.Conjuncts.{MeetsCond}
use Rattle.bye_pattern.specs.Keeping.{IsRight}
use Rattle.bye_pattern.specs.Patterns.{Meets, Pattern, all_vars}
use Rattle.bye_pattern.specs.Trees.{Forest, Tree, leaf, more, node, own_conds, own_vars, plain_select}
use Rattle.bye_laws.specs.LocalPass.{IsSettled, IsShut}
use Rattle.bye_laws.specs.Parts.{Within}

-- some conjunct of these the mapping does not meet
abbrev pub FailsOne : List Statement → List Pattern → List Cond → Mapping → Type 0
FailsOne g ps cs m = ((p : Pattern) × In ps p × (Meets g m p → ⊥)) ⊎ ((c : Cond) × In cs c × (MeetsCond m c → ⊥))

-- each demand is served: a selected variable by a triple pattern that contains it, and an unwanted row of exactly these variables
-- by a conjunct that it does not meet
pub record AreServed (g : List Statement) (unwanted : List Mapping) (vs : List Name) (ps : List Pattern) (cs : List Cond) : Type 0 where
  pub variables : (v : Name) → In vs v → In (all_vars ps) v
  pub rows : AllByRecursion (λ m. Exactly vs m → FailsOne g ps cs m) unwanted

-- what a child that y names needs of its parent's triples: variables of its own triples whose domain is not within that of y, and
-- variables of its conditions that are not its own
abbrev pub IsNeededByChild : List Mapping → Name → Tree → Name → Type 0
IsNeededByChild rows y t v = (In (own_vars t) v × (IsWithin rows v y → ⊥)) ⊎ ((c : Cond) × In (own_conds t) c × In (cond_vars c) v × (In (own_vars t) v → ⊥))

-- what some child needs
abbrev pub IsNeededBelow : List Mapping → Subdomains → Forest → Name → Type 0
IsNeededBelow rows none f v = ⊥
IsNeededBelow rows (also d ds) leaf v = ⊥
IsNeededBelow rows (also d ds) (more t f) v = IsNeededByChild rows (label d) t v ⊎ IsNeededBelow rows ds f v

-- what the triples of a node that x names have to contain: its class, the variables of its conditions that are not its parent's,
-- and what some child needs
abbrev pub IsNeeded : List Mapping → List Name → Name → Subdomains → List Cond → Forest → Name → Type 0
IsNeeded rows parent x ds cs f v = (IsSeen rows v × AreAlike rows x v) ⊎ (((c : Cond) × In cs c × In (cond_vars c) v × (In parent v → ⊥)) ⊎ IsNeededBelow rows ds f v)

pub record LocalQuestions : Type 0 where
  -- conditions of a settled node may go exactly where the node stays shut: no search finds values
  pub conditions : (level : Level) (g : List Statement) (rows : List Mapping) (parent : List Name) (z x : Name) (ds : Subdomains) (ps : List Pattern) (cs es : List Cond) (f : Forest)
      → Within es cs → IsSettled level g rows parent z (domain x ds) (node ps cs f)
      → IsSettled level g rows parent z (domain x ds) (node ps es f) ↔ IsShut g rows z x (node ps es f)
  -- triples may go exactly where those that are left contain each needed variable, and the node stays shut
  pub triples : (level : Level) (g : List Statement) (rows : List Mapping) (parent : List Name) (z x : Name) (ds : Subdomains) (ps qs : List Pattern) (cs : List Cond) (f : Forest)
      → Within qs ps → IsSettled level g rows parent z (domain x ds) (node ps cs f)
      → IsSettled level g rows parent z (domain x ds) (node qs cs f) ↔ (((v : Name) → IsNeeded rows parent x ds cs f v → In (all_vars qs) v) × IsShut g rows z x (node qs cs f))
  -- in the class of one conjunction conjuncts may go exactly where those that are left serve each demand
  pub conjunction : (level : Level) (g : List Statement) (rows unwanted : List Mapping) (vs : List Name) (ps qs : List Pattern) (cs es : List Cond)
      → Within qs ps → Within es cs → IsRight And level g rows unwanted (plain_select vs (node ps cs leaf))
      → IsRight And level g rows unwanted (plain_select vs (node qs es leaf)) ↔ AreServed g unwanted vs qs es
