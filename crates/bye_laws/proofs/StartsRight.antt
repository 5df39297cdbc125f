-- Where no claim shows, a start is of its class and right.
use Rattle.std.proofs.Common.{ℕ, List, [], sym, subst, ◌↔◌}
use Rattle.bye_terms.specs.Terms.{Statement}
use Rattle.bye_terms.proofs.Members.{all_in}
use Rattle.bye_table.specs.Domains.{Wanted}
use Rattle.bye_table.specs.Mappings.{Exactly, Mapping, Name}
use Rattle.bye_pattern.specs.declared.class.Class.{Class}
use Rattle.bye_pattern.specs.declared.class.Class.TheVariants.{And, Optional}
use Rattle.bye_pattern.specs.declared.level.Level.{Level}
use Rattle.bye_pattern.specs.Certificates.{ShowsAdmitted, ShowsExtension, ShowsUncovered}
use Rattle.bye_pattern.specs.Classes.{InAnd}
use Rattle.bye_pattern.specs.Keeping.{IsOfClass, IsRight, IsStart}
use Rattle.bye_pattern.specs.Optional.{InOptional}
use Rattle.bye_pattern.specs.Trees.{Select, leaf, node, plain_select}
use Rattle.bye_pattern.proofs.OneGroup.{in_all_vars}
use Rattle.bye_laws.specs.Completeness.{AreExamples}
use Rattle.bye_laws.proofs.CommonConditions.{lower}
use Rattle.bye_laws.proofs.ConjunctionStarts.{admitted_none, start_covers, start_enough, start_group, start_parts}
use Rattle.bye_laws.proofs.Conjunctions.{group_of, of_group}
use Rattle.bye_laws.proofs.OptionalEnough.{start_tree_enough}
use Rattle.bye_laws.proofs.OptionalFits.{extension_none}
use Rattle.bye_laws.proofs.OptionalStarts.{optional_parts, starts_by_covering}
use Rattle.bye_laws.proofs.Withins.{within_each}

-- a start of one conjunction that is of the class covers each variable
covers_of_class : (level : Level) (g : List Statement) (w : Wanted) (start : Select) → AreExamples w → IsStart And level g w start → InAnd level start → (x : Name) → ShowsUncovered g w.rows x → ⊥
covers_of_class level g w start examples is class x claim =
    let p = start_parts level g w start examples is in
    let group = group_of level (plain_select p.vs (node p.ps p.cs leaf)) (subst (InAnd level) p.is class) in
    let inside = ((all_in (Exactly p.vs) w.rows claim.seen.0 p.one.exact claim.seen.1) x).0 claim.seen.2 in
    let c = in_all_vars p.ps x ((group.selects x).0 inside) in
    claim.none c.0 (lower g w.rows x p.x c.0 (within_each w.rows x p.x p.one.bound) ((p.all.0 c.0).0 c.1)) c.2

-- and where none is uncovered it is of the class
class_of_covers : (level : Level) (g : List Statement) (w : Wanted) (start : Select) → AreExamples w → IsStart And level g w start → ((x : Name) → ShowsUncovered g w.rows x → ⊥) → InAnd level start
class_of_covers level g w start examples is covered =
    let p = start_parts level g w start examples is in
    subst (InAnd level) (sym p.is) (of_group level p.vs p.ps p.cs (start_group level g w.rows w.vars p.x p.vs p.ps p.cs p.one p.all (start_covers g w.rows p.x p.vs p.ps p.one p.all.0 covered)))

-- the same for both classes
pub by_covering : (class : Class) (level : Level) (g : List Statement) (w : Wanted) (start : Select) → AreExamples w → IsStart class level g w start
    → IsOfClass class level w.rows start ↔ ((x : Name) → ShowsUncovered g w.rows x → ⊥)
by_covering And level g w start examples is = (covers_of_class level g w start examples is, class_of_covers level g w start examples is)
by_covering Optional level g w start examples is = starts_by_covering level g w start examples is

-- over a start that is of its class the other claim tells whether it is right
pub conjunction_right : (level : Level) (g : List Statement) (w : Wanted) (unwanted : List Mapping) (start : Select) → AreExamples w → IsStart And level g w start → InAnd level start
    → IsRight And level g w.rows unwanted start ↔ ((j : ℕ) → ShowsAdmitted level g w.rows unwanted j → ⊥)
conjunction_right level g w unwanted start examples is class = (
  (λ right j claim. admitted_none level g w.rows unwanted j examples.some claim start right.in_class right.fits),
  (λ admitted.
      let p = start_parts level g w start examples is in
      subst (IsRight And level g w.rows unwanted) (sym p.is)
      (start_enough level g w.rows unwanted w.vars p.x p.vs p.ps p.cs p.inside p.one p.all (covers_of_class level g w start examples is class) admitted)),
)

pub optional_right : (level : Level) (g : List Statement) (w : Wanted) (start : Select) → AreExamples w → IsStart Optional level g w start → InOptional level w.rows start
    → IsRight Optional level g w.rows [] start ↔ ((i : ℕ) (x : Name) (values : Mapping) → ShowsExtension level g w.rows i x values → ⊥)
optional_right level g w start examples is class = (
  (λ right i x values claim. extension_none level g w.rows [] i x values claim start right.in_class right.fits),
  (λ closed.
      let p = optional_parts level g w start examples is in
      subst (IsRight Optional level g w.rows []) (sym p.is)
      (start_tree_enough level g w.rows w.vars p.vs p.domains p.tree examples.within p.selects p.over p.all ((starts_by_covering level g w start examples is).0 class) closed)),
)
