-- What a row binds, by the names that stand in it, and tests of names.
use Rattle.std.proofs.Common.{◌≡◌, refl, Bool, true, false, cond, not, List, [], ◌∷◌, ◌++◌, map, Some, None, IsSome, ◌↔◌, ◌⊎◌, inl, inr, ⊎_elim, sym, ◌∙◌, ap, subst}
use Rattle.std.specs.Prelude.{OnOk, OnErr}
use Rattle.std.specs.declared.result.Result.{Result}
use Rattle.std.specs.declared.result.Result.TheVariants.{Ok, Err}
use Rattle.std.specs.List.{AllByRecursion, list_all}
use Rattle.std.specs.Str.{bytes_eq}
use Rattle.std.proofs.lemmas.Slice.Eq.{bytes_eq-Decides}
use Rattle.bye_terms.specs.declared.term.Term.{Term}
use Rattle.bye_terms.specs.Members.{EachOnce, In}
use Rattle.bye_terms.proofs.Members.{all_from, all_in}
use Rattle.bye_terms.proofs.Lists.{each_of, in_map, map_in, of_each}
use Rattle.bye_terms.proofs.Tests.{both, both_parts, not_both, not_true}
use Rattle.bye_table.specs.Mappings.{Binds, Name, NoRepeat, Pairs, is_in, row_mapping}
use Rattle.bye_table.specs.Tables.{IsOverVars, distinct, is_pair_over}
use Rattle.bye_table.proofs.Merging.{in_is, is_in_in}

not_some : IsSome {T = Term} None → ⊥
not_some h = cc

-- a row binds the names that stand in it
pub binds_names : (row : Pairs) (v : Name) → Binds (row_mapping row) v ↔ In (map (λ e. e.0) row) v
binds_names [] v = (λ h. absurd (not_some h), λ h. absurd h)
binds_names (e ∷ row) v =
    elim (bytes_eq e.0 v) as (λ b. bytes_eq e.0 v ≡ b → IsSome (cond b (Some e.1) (row_mapping row v)) ↔ ((e.0 ≡ v) ⊎ In (map (λ e. e.0) row) v)) [
      | true ↦ λ is. (λ h. inl ((bytes_eq-Decides e.0 v).0 is), λ h. refl)
      | false ↦ λ is. (
        λ h. inr ((binds_names row v).0 h),
        λ h. ⊎_elim (λ same. absurd (not_both _ ((bytes_eq-Decides e.0 v).1 same) is)) (λ k. (binds_names row v).1 k) h,
      )
    ] refl

-- one more pair, whose name does not stand there yet
longer_unbound : (row : Pairs) (v w : Name) (t : Term) → row_mapping row w ≡ None → (v ≡ w → ⊥) → row_mapping (row ++ (v, t) ∷ []) w ≡ None
longer_unbound [] v w t e apart = ap (λ b. cond b (Some t) None) (not_same (bytes_eq v w) (λ h. apart ((bytes_eq-Decides v w).0 h)))
  where
    not_same : (b : Bool) → (b ≡ true → ⊥) → b ≡ false
    not_same true h = absurd (h refl)
    not_same false h = refl
longer_unbound (d ∷ row) v w t e apart = step (bytes_eq d.0 w) (λ e. longer_unbound row v w t e apart) e
  where
    step : (b : Bool) → (row_mapping row w ≡ None → row_mapping (row ++ (v, t) ∷ []) w ≡ None) → cond b (Some d.1) (row_mapping row w) ≡ None → cond b (Some d.1) (row_mapping (row ++ (v, t) ∷ []) w) ≡ None
    step true later e = cc
    step false later e = later e

pub once_longer : (row : Pairs) (v : Name) (t : Term) → NoRepeat row → row_mapping row v ≡ None → NoRepeat (row ++ (v, t) ∷ [])
once_longer [] v t once fresh = (refl, tt)
once_longer (d ∷ row) v t once fresh = (
  longer_unbound row v d.0 t once.0 (λ e. apart (bytes_eq d.0 v) ((bytes_eq-Decides d.0 v).1 (sym e)) fresh),
  once_longer row v t once.1 (rest (bytes_eq d.0 v) fresh),
)
  where
    apart : (b : Bool) → b ≡ true → cond b (Some d.1) (row_mapping row v) ≡ None → ⊥
    apart true h e = cc
    apart false h e = cc

    rest : (b : Bool) → cond b (Some d.1) (row_mapping row v) ≡ None → row_mapping row v ≡ None
    rest true e = cc
    rest false e = e

-- so a row that may have got one more pair names none twice
pub once_bound : {E : Type 0} (r : Result (Unit {0}) E) (old new : Pairs) (v : Name) (t : Term) → OnOk r (new ≡ old ++ (v, t) ∷ []) → OnErr r (new ≡ old) → NoRepeat old → row_mapping old v ≡ None → NoRepeat new
once_bound (Ok u) old new v t ok err once fresh = subst NoRepeat (sym ok) (once_longer old v t once fresh)
once_bound (Err e) old new v t ok err once fresh = subst NoRepeat (sym err) once

-- and has it at its end
pub bound_last : {E : Type 0} (r : Result (Unit {0}) E) (old seen new : Pairs) (v : Name) (t : Term) → old ≡ seen → OnOk r (new ≡ old ++ (v, t) ∷ []) → OnOk r (new ≡ seen ++ (v, t) ∷ [])
bound_last (Ok u) old seen new v t same ok = ok ∙ ap (λ row. row ++ (v, t) ∷ []) same
bound_last (Err e) old seen new v t same ok = tt

-- where no name stands twice, each pair has the term that its name is bound to
abbrev pub AreBound : Pairs → Pairs → Type 0
AreBound row pairs = AllByRecursion (λ e. row_mapping row e.0 ≡ Some e.1) pairs

bound_later : (e d : Name × Term) (row : Pairs) (b : Bool) → bytes_eq e.0 d.0 ≡ b → row_mapping row e.0 ≡ None → row_mapping row d.0 ≡ Some d.1 → cond b (Some e.1) (row_mapping row d.0) ≡ Some d.1
bound_later e d row true is fresh bound = let same = sym fresh ∙ ap (row_mapping row) ((bytes_eq-Decides e.0 d.0).0 is) ∙ bound in cc
bound_later e d row false is fresh bound = bound

longer_bound : (e : Name × Term) (row : Pairs) → row_mapping row e.0 ≡ None → AreBound row row → AreBound (e ∷ row) (e ∷ row)
longer_bound e row fresh bound = (
  ap (λ b. cond b (Some e.1) (row_mapping row e.0)) ((bytes_eq-Decides e.0 e.0).1 refl),
  all_from _ row (λ d h. bound_later e d row (bytes_eq e.0 d.0) refl fresh (all_in _ row d bound h)),
)

pub each_bound : (row : Pairs) → NoRepeat row → AreBound row row
each_bound [] once = tt
each_bound (e ∷ row) once = longer_bound e row once.0 (each_bound row once.1)

-- the tests
pub distinct_once : (vs : List Name) → (distinct vs ≡ true) ↔ EachOnce vs
distinct_once [] = (λ e. tt, λ once. refl)
distinct_once (v ∷ vs) =
    let rest = distinct_once vs in (
      (λ e. let b = both_parts _ _ e in ((λ h. not_both (is_in vs v) (in_is vs v h) (not_true (is_in vs v) b.0)), rest.0 b.1)),
      (λ once. both _ _ (fresh (is_in vs v) (λ e. once.0 (is_in_in vs v e))) (rest.1 once.1)),
    )
  where
    fresh : (b : Bool) → (b ≡ true → ⊥) → not b ≡ true
    fresh true h = absurd (h refl)
    fresh false h = refl

pub all_over : (vars : List Name) (row : Pairs) → (list_all (is_pair_over vars) row ≡ true) ↔ IsOverVars vars row
all_over vars row = (
  (λ e v b.
      let w = in_map (λ (e : Name × Term). e.0) row v ((binds_names row v).0 b) in
      subst (In vars) w.2 (is_in_in vars w.0.0 (each_of (is_pair_over vars) row e w.0 w.1))),
  (λ over. of_each (is_pair_over vars) row (λ p h. in_is vars p.0 (over p.0 ((binds_names row p.0).1 (map_in (λ (e : Name × Term). e.0) row p h))))),
)
