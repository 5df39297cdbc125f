-- Examples over rows of a table: the tree of domains where all rows bind the same variables.
use Rattle.std.proofs.Common.{refl, List, map, inl, ⊎_elim, sym, subst}
use Rattle.std.specs.List.{AllByRecursion}
use Rattle.bye_terms.specs.Members.{In}
use Rattle.bye_terms.proofs.Lists.{in_map}
use Rattle.bye_terms.proofs.Members.{all_in}
use Rattle.bye_table.specs.Domains.{BindsEach, IsBefore, IsSeen, Wanted}
use Rattle.bye_table.specs.DomainTrees.{IsDomainTree, IsFirstOfClass, domain, none}
use Rattle.bye_table.specs.Mappings.{Binds, Mapping, Name, Pairs, row_mapping}
use Rattle.bye_table.proofs.RowNames.{binds_names}
use Rattle.bye_pattern.proofs.WorkedTerms.{names_of}
use Rattle.bye_laws.specs.Completeness.{AreExamples}
use Rattle.bye_laws.specs.Ordering.{IsSorted}
use Rattle.bye_laws.specs.Strongest.{AreAround, AreRowsOf}
use Rattle.bye_laws.proofs.Withins.{each_seen, seen_up, within_each}

-- a variable that a row of the table binds is one of the header
pub seen_names : (header : List Name) (rows : List Pairs) → AllByRecursion (λ row. AllByRecursion (In header) (names_of row)) rows
    → (v : Name) → IsSeen (map row_mapping rows) v → In header v
seen_names header rows all v (m, there, b) =
    let r = in_map row_mapping rows m there in
    all_in (In header) (names_of r.0) v (all_in (λ row. AllByRecursion (In header) (names_of row)) rows r.0 all r.1)
    ((binds_names r.0 v).0 (subst (λ (m : Mapping). Binds m v) (sym r.2) b))

-- where every row binds a variable, its rows are all
pub all_rows : (rows : List Mapping) (x : Name) → BindsEach rows x → AreRowsOf rows x rows
all_rows rows x each m = ((λ h. (h, all_in (λ m. Binds m x) rows m each h)), (λ h. h.0))

-- examples of which every row binds every variable of the header
pub record AreFullRows (w : Wanted) : Type 0 where
  pub examples : AreExamples w
  pub full : AllByRecursion (BindsEach w.rows) w.vars
  pub sorted : IsSorted (IsBefore w.vars) w.vars

-- each variable of the header is bound by every row
pub each_full : (w : Wanted) → AreFullRows w → (v : Name) → IsSeen w.rows v → BindsEach w.rows v
each_full w is v seen = all_in (BindsEach w.rows) w.vars v is.full (is.examples.within v seen)

-- and all are around each
pub full_around : (w : Wanted) (x : Name) → AreFullRows w → In w.vars x → AreAround w x w.vars
full_around w x is h = record {
  members = λ v. (
    (λ k. within_each w.rows x v (all_in (BindsEach w.rows) w.vars v is.full k)),
    (λ up. is.examples.within v (seen_up w.rows x v (each_seen w.rows x is.examples.some (all_in (BindsEach w.rows) w.vars x is.full h)) up)),
  );
  sorted = is.sorted;
}

-- there is one domain, of the header's first variable
pub full_tree : (w : Wanted) (x : Name) → AreFullRows w → In w.vars x → ((v : Name) → IsBefore w.vars v x → ⊥) → IsDomainTree w (domain x none)
full_tree w x is h least =
    let each = all_in (BindsEach w.rows) w.vars x is.full h in
    record {
      labels = λ v k. ⊎_elim
          (λ e. subst (IsFirstOfClass w) e (record { seen = each_seen w.rows x is.examples.some each; first = λ y before same. least y before }))
          (λ n. absurd n) k;
      covers = λ v seen. (x, inl refl, (within_each w.rows x v (each_full w is v seen), within_each w.rows v x each));
      ordered = ((λ y k. absurd k), tt);
      root = each;
    }
