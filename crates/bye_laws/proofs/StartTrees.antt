-- The start over domains, where no variable is uncovered.
use Rattle.bye_pattern.specs.declared.level.Level.{Level}
use Rattle.std.proofs.Common.{refl, List, [], ◌⊎◌, inl, inr, ⊎_elim, sym, subst, ◌↔◌}
use Rattle.bye_terms.specs.Members.{In}
use Rattle.bye_terms.specs.Terms.{Statement}
use Rattle.bye_terms.proofs.Members.{all_from}
use Rattle.bye_pattern.specs.declared.cond.Cond.{Cond}
use Rattle.bye_pattern.specs.Certificates.{ShowsUncovered}
use Rattle.bye_pattern.specs.Classes.{IsClassCond, IsClassTriple}
use Rattle.bye_pattern.specs.Designed.{IsSafe}
use Rattle.bye_table.specs.Domains.{AreAlike, IsSeen, IsWithin}
use Rattle.bye_table.specs.Mappings.{Mapping, Name}
use Rattle.bye_pattern.specs.Patterns.{Pattern, all_vars}
use Rattle.bye_table.specs.DomainTrees.{Domain, IsLabel, IsLabelIn, Subdomains, also, domain, label, none}
use Rattle.bye_pattern.specs.Starting.{IsCommonAt}
use Rattle.bye_pattern.specs.Trees.{Forest, Tree, leaf, more, node}
use Rattle.bye_table.proofs.Merging.{in_or_not}
use Rattle.bye_pattern.proofs.OneGroup.{all_vars_in, in_all_vars}
use Rattle.bye_laws.specs.LocalPass.{AreOver, IsGroupOf, IsOver}
use Rattle.bye_laws.proofs.AllConjuncts.{AreAllAt}
use Rattle.bye_laws.proofs.CommonConditions.{lower}
use Rattle.bye_laws.specs.QueryDomains.{AreDomains, AreNested, AreNestedIn}
use Rattle.bye_laws.proofs.Labelled.{AllCommon, AllCommonIn}
use Rattle.bye_laws.proofs.Withins.{seen_up, within_trans}

-- at a node with all common triples every variable around its domain is covered
pub own_from : (g : List Statement) (rows : List Mapping) → ((x : Name) → ShowsUncovered g rows x → ⊥) → (x : Name) (ps : List Pattern) → ((p : Pattern) → In ps p ↔ IsCommonAt g rows x p)
    → (v : Name) → IsSeen rows v → IsWithin rows x v → In (all_vars ps) v
own_from g rows covered x ps same v s up =
    ⊎_elim (λ h. h) (λ out. absurd (covered v (record { seen = s; none = λ p c h. out (all_vars_in ps p v ((same p).1 (lower g rows x v p up c)) h) }))) (in_or_not (all_vars ps) v)

-- what holds at a node of a start: which variables stand in its domains, and which in its parent
pub record Start (rows : List Mapping) (parent : List Name) (d : Domain) : Type 0 where
  pub known : (x : Name) → IsLabel d x → IsSeen rows x
  pub order : AreNested rows d
  pub stands : (y : Name) → IsLabel d y → (v : Name) → IsSeen rows v → IsWithin rows y v → ((w : Name) × IsLabel d w × AreAlike rows w v) ⊎ In parent v
  pub low : (y : Name) → IsLabel d y → (v : Name) → In parent v → IsWithin rows y v

-- and at nodes beside one another
pub record StartIn (rows : List Mapping) (parent : List Name) (ds : Subdomains) : Type 0 where
  pub known : (x : Name) → IsLabelIn ds x → IsSeen rows x
  pub order : AreNestedIn rows ds
  pub stands : (y : Name) → IsLabelIn ds y → (v : Name) → IsSeen rows v → IsWithin rows y v → ((w : Name) × IsLabelIn ds w × AreAlike rows w v) ⊎ In parent v
  pub low : (y : Name) → IsLabelIn ds y → (v : Name) → In parent v → IsWithin rows y v

-- from a node to those below it
pub start_down : (g : List Statement) (rows : List Mapping) (parent : List Name) (x : Name) (ds : Subdomains) (ps : List Pattern) → ((p : Pattern) → In ps p ↔ IsCommonAt g rows x p)
    → ((v : Name) → IsSeen rows v → IsWithin rows x v → In (all_vars ps) v) → Start rows parent (domain x ds) → StartIn rows (all_vars ps) ds
start_down g rows parent x ds ps same full s = record {
  known = λ y k. s.known y (inr k);
  order = s.order.1;
  stands = λ y k v seen up. ⊎_elim
      (λ w. ⊎_elim (λ e. inr (full v seen (subst (λ w. IsWithin rows w v) (sym e) w.2.0))) (λ j. inl (w.0, j, w.2)) w.1)
      (λ h. inr (full v seen (s.low x (inl refl) v h))) (s.stands y (inr k) v seen up);
  low = λ y k v h. let w = in_all_vars ps v h in within_trans rows y x v (s.order.0 y k).0 (((same w.0).0 w.1).over v w.2);
}

-- from nodes beside one another to the first
pub start_first : (rows : List Mapping) (parent : List Name) (d : Domain) (ds : Subdomains) → StartIn rows parent (also d ds) → Start rows parent d
start_first rows parent d ds s = record {
  known = λ y k. s.known y (inl k);
  order = s.order.1;
  stands = λ y k v seen up. ⊎_elim (λ w. ⊎_elim (λ j. inl (w.0, j, w.2)) (λ j. absurd ((s.order.0 y w.0 k j).0 (within_trans rows y v w.0 up w.2.1))) w.1) (λ h. inr h) (s.stands y (inl k) v seen up);
  low = λ y k. s.low y (inl k);
}

-- and to the others
pub start_rest : (rows : List Mapping) (parent : List Name) (d : Domain) (ds : Subdomains) → StartIn rows parent (also d ds) → StartIn rows parent ds
start_rest rows parent d ds s = record {
  known = λ y k. s.known y (inr k);
  order = s.order.2;
  stands = λ y k v seen up. ⊎_elim (λ w. ⊎_elim (λ j. absurd ((s.order.0 w.0 y j k).1 (within_trans rows y v w.0 up w.2.1))) (λ j. inl (w.0, j, w.2)) w.1) (λ h. inr h) (s.stands y (inr k) v seen up);
  low = λ y k. s.low y (inr k);
}

-- a variable of a strictly greater domain stands in the parent
pub strictly : (rows : List Mapping) (parent : List Name) (d : Domain) → Start rows parent d → (v : Name) → IsSeen rows v → IsWithin rows (label d) v → (IsWithin rows v (label d) → ⊥) → In parent v
strictly rows parent (domain x ds) s v seen up shut =
    ⊎_elim
    (λ w. ⊎_elim (λ e. absurd (shut (subst (λ w. IsWithin rows v w) (sym e) w.2.1))) (λ j. absurd (shut (within_trans rows v w.0 x w.2.1 (s.order.0 w.0 j).0))) w.1)
    (λ h. h) (s.stands x (inl refl) v seen up)

-- a node of the start in which every variable around its domain stands
pub group_over : (level : Level) → (g : List Statement) (header : List Name) (rows : List Mapping) (parent : List Name) (x : Name) (ds : Subdomains) (ps : List Pattern) (cs : List Cond) → Start rows parent (domain x ds)
    → AreAllAt level g rows header x ps cs → ((v : Name) → IsSeen rows v → IsWithin rows x v → In (all_vars ps) v) → IsGroupOf level rows parent x ps cs
group_over level g header rows parent x ds ps cs s (same, conds) full =
    let up : (v : Name) → In (all_vars ps) v → IsWithin rows x v = λ v h. let w = in_all_vars ps v h in ((same w.0).0 w.1).over v w.2 in
    let seen : (v : Name) → IsWithin rows x v → IsSeen rows v = λ v h. seen_up rows x v (s.known x (inl refl)) h in
    record {
      over = up;
      cover = λ v k alike. full v k alike.0;
      rises = λ v h shut. strictly rows parent (domain x ds) s v (seen v (up v h)) (up v h) shut;
      safe = all_from (IsSafe parent ps) cs (λ c h v i. let k = ((conds c).0 h).0.over v i in inl (full v (seen v k) k));
      triples = all_from IsClassTriple ps (λ p h. ((same p).0 h).in_class);
      conds = all_from (IsClassCond level) cs (λ c h. ((conds c).0 h).0.in_class);
    }

-- so each node is over its domain
mutual
  start_over : (level : Level) → (g : List Statement) (header : List Name) (rows : List Mapping) → ((x : Name) → ShowsUncovered g rows x → ⊥) → (parent : List Name) (d : Domain) (t : Tree) → Start rows parent d → AllCommon level g header rows d t → IsOver level rows parent d t
  start_over level g header rows covered parent (domain x ds) (node ps cs f) s (all, below) =
      let full = own_from g rows covered x ps all.0 in (
        group_over level g header rows parent x ds ps cs s all full,
        start_over_in level g header rows covered (all_vars ps) ds f (start_down g rows parent x ds ps all.0 full s) below,
      )

  start_over_in : (level : Level) → (g : List Statement) (header : List Name) (rows : List Mapping) → ((x : Name) → ShowsUncovered g rows x → ⊥) → (parent : List Name) (ds : Subdomains) (f : Forest) → StartIn rows parent ds → AllCommonIn level g header rows ds f → AreOver level rows parent ds f
  start_over_in level g header rows covered parent none leaf s below = tt
  start_over_in level g header rows covered parent none (more t f) s below = absurd below
  start_over_in level g header rows covered parent (also d ds) leaf s below = absurd below
  start_over_in level g header rows covered parent (also d ds) (more t f) s below =
      (start_over level g header rows covered parent d t (start_first rows parent d ds s) below.0, start_over_in level g header rows covered parent ds f (start_rest rows parent d ds s) below.1)

-- at the root
pub root_start : (rows : List Mapping) (d : Domain) → AreDomains rows d → Start rows [] d
root_start rows d tree = record { known = tree.seen; order = tree.ordered; stands = λ y k v seen up. inl (tree.covers v seen); low = λ y k v h. absurd h }

-- the start over domains is of the class where no variable is uncovered
pub start_is_over : (level : Level) → (g : List Statement) (header : List Name) (rows : List Mapping) (d : Domain) (t : Tree) → AreDomains rows d → AllCommon level g header rows d t
    → ((x : Name) → ShowsUncovered g rows x → ⊥) → IsOver level rows [] d t
start_is_over level g header rows d t tree start covered = start_over level g header rows covered [] d t (root_start rows d tree) start
