-- A start that is of the class with OPTIONAL groups: no variable is uncovered.
use Rattle.bye_pattern.specs.declared.level.Level.{Level}
use Rattle.std.proofs.Common.{refl, List, [], inl, inr, ⊎_elim, sym, subst}
use Rattle.bye_terms.specs.Members.{In}
use Rattle.bye_terms.specs.Terms.{Statement}
use Rattle.bye_table.specs.Domains.{AreAlike, IsSeen, IsWithin}
use Rattle.bye_table.specs.Mappings.{Mapping, Name}
use Rattle.bye_pattern.specs.Optional.{InOptional, IsNode, IsNodeIn}
use Rattle.bye_pattern.specs.Patterns.{Pattern, all_vars, vars}
use Rattle.bye_table.specs.DomainTrees.{Domain, IsLabel, IsLabelIn, Subdomains, also, domain, label, none}
use Rattle.bye_pattern.specs.Starting.{IsCommonAt}
use Rattle.bye_pattern.specs.Trees.{Forest, Select, Tree, leaf, more, node, plain_select}
use Rattle.bye_pattern.proofs.OneGroup.{all_vars_in, in_all_vars}
use Rattle.bye_laws.specs.LocalPass.{AreOver, IsOver}
use Rattle.bye_laws.proofs.ByNodes.{class_at}
use Rattle.bye_laws.proofs.CommonConditions.{lower}
use Rattle.bye_laws.proofs.DomainLabels.{label_self}
use Rattle.bye_laws.specs.QueryDomains.{AreDomains}
use Rattle.bye_laws.proofs.Labelled.{AllCommon, AllCommonIn}
use Rattle.bye_laws.proofs.StartTrees.{Start, StartIn, group_over, root_start, start_down, start_first, start_rest, strictly}
use Rattle.bye_laws.proofs.Withins.{within_or_not, within_self, within_trans}

-- each variable of the parent is in a triple pattern that is common here
Passed : List Statement → List Mapping → List Name → Name → Type 0
Passed g rows parent x = (v : Name) → In parent v → (p : Pattern) × IsCommonAt g rows x p × In (vars p) v

mutual
  unfolding Passed

  class_over : (level : Level) → (g : List Statement) (header : List Name) (rows : List Mapping) (q : Select) → InOptional level rows q → (parent : List Name) (d : Domain) (t : Tree)
      → ((p : List Name) (u : Tree) → IsNode parent t p u → IsNode [] q.tree p u) → Start rows parent d → Passed g rows parent (label d) → AllCommon level g header rows d t → IsOver level rows parent d t
  class_over level g header rows q class parent (domain x ds) (node ps cs f) at s passed (all, below) =
      let place = at parent (node ps cs f) (inl (refl, refl)) in
      let k = class_at level rows q class parent (node ps cs f) place in
      let new = (k.2 k.0).1 (k.1, (within_self rows k.0, within_self rows k.0)) in
      let w = in_all_vars ps k.0 new.0 in
      let up : IsWithin rows x k.0 = ((all.0 w.0).0 w.1).over k.0 w.2 in
      let back : IsWithin rows k.0 x = ⊎_elim (λ h. h) (λ shut. absurd (new.1 (strictly rows parent (domain x ds) s k.0 k.1 up shut))) (within_or_not rows k.0 x) in
      let full : (v : Name) → IsSeen rows v → IsWithin rows x v → In (all_vars ps) v = λ v seen around.
      ⊎_elim
      (λ within. ((k.2 v).1 (seen, (within_trans rows k.0 x v back around, within_trans rows v x k.0 within up))).0)
      (λ shut. let c = passed v (strictly rows parent (domain x ds) s v seen around shut) in all_vars_in ps c.0 v ((all.0 c.0).1 c.1) c.2)
      (within_or_not rows v x) in (
        group_over level g header rows parent x ds ps cs s all full,
        class_over_in level g header rows q class (all_vars ps) x ds f (λ p u k. at p u (inr k)) (start_down g rows parent x ds ps all.0 full s)
            (λ y h. (s.order.0 y h).0) (λ v h. let c = in_all_vars ps v h in (c.0, (all.0 c.0).0 c.1, c.2)) below,
      )

  class_over_in : (level : Level) → (g : List Statement) (header : List Name) (rows : List Mapping) (q : Select) → InOptional level rows q → (parent : List Name) (x : Name) (ds : Subdomains) (f : Forest)
      → ((p : List Name) (u : Tree) → IsNodeIn parent f p u → IsNode [] q.tree p u) → StartIn rows parent ds → ((y : Name) → IsLabelIn ds y → IsWithin rows y x) → Passed g rows parent x
      → AllCommonIn level g header rows ds f → AreOver level rows parent ds f
  class_over_in level g header rows q class parent x none leaf at s around passed below = tt
  class_over_in level g header rows q class parent x none (more t f) at s around passed below = absurd below
  class_over_in level g header rows q class parent x (also d ds) leaf at s around passed below = absurd below
  class_over_in level g header rows q class parent x (also d ds) (more t f) at s around passed below = (
    class_over level g header rows q class parent d t (λ p u k. at p u (inl k)) (start_first rows parent d ds s)
        (λ v h. let c = passed v h in (c.0, lower g rows (label d) x c.0 (around (label d) (inl (label_self d))) c.1, c.2)) below.0,
    class_over_in level g header rows q class parent x ds f (λ p u k. at p u (inr k)) (start_rest rows parent d ds s) (λ y h. around y (inr h)) passed below.1,
  )

-- from the root
pub class_is_over : (level : Level) → (g : List Statement) (header : List Name) (rows : List Mapping) (vs : List Name) (d : Domain) (t : Tree) → AreDomains rows d → AllCommon level g header rows d t → InOptional level rows (plain_select vs t)
    → IsOver level rows [] d t
unfolding Passed
class_is_over level g header rows vs d t tree all class = class_over level g header rows (plain_select vs t) class [] d t (λ p u k. k) (root_start rows d tree) (λ v h. absurd h) all

-- over its domains each class is in a pattern that is common at it
mutual
  pub covered_at : (level : Level) → (g : List Statement) (header : List Name) (rows : List Mapping) (parent : List Name) (d : Domain) (t : Tree) → AllCommon level g header rows d t → IsOver level rows parent d t
      → (y v : Name) → IsLabel d y → IsSeen rows v → AreAlike rows y v → (p : Pattern) × IsCommonAt g rows y p × In (vars p) v
  covered_at level g header rows parent (domain x ds) (node ps cs f) all over y v (inl e) seen same =
      let c = in_all_vars ps v (over.0.cover v seen (subst (λ y. AreAlike rows y v) (sym e) same)) in
      (c.0, subst (λ y. IsCommonAt g rows y c.0) e ((all.0.0 c.0).0 c.1), c.2)
  covered_at level g header rows parent (domain x ds) (node ps cs f) all over y v (inr h) seen same = covered_in level g header rows (all_vars ps) ds f all.1 over.1 y v h seen same

  covered_in : (level : Level) → (g : List Statement) (header : List Name) (rows : List Mapping) (parent : List Name) (ds : Subdomains) (f : Forest) → AllCommonIn level g header rows ds f → AreOver level rows parent ds f
      → (y v : Name) → IsLabelIn ds y → IsSeen rows v → AreAlike rows y v → (p : Pattern) × IsCommonAt g rows y p × In (vars p) v
  covered_in level g header rows parent none f all over y v h seen same = absurd h
  covered_in level g header rows parent (also d ds) leaf all over y v h seen same = absurd over
  covered_in level g header rows parent (also d ds) (more t f) all over y v (inl h) seen same = covered_at level g header rows parent d t all.0 over.0 y v h seen same
  covered_in level g header rows parent (also d ds) (more t f) all over y v (inr h) seen same = covered_in level g header rows parent ds f all.1 over.1 y v h seen same
