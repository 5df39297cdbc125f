-- The rows of bindings.
use Rattle.std.proofs.Common.{◌≡◌, refl, Bool, true, false, cond, List, [], ◌∷◌, ◌++◌, map, Option, Some, None, option_map, IsSome, ◌⊎◌, inl, inr, ⊎_elim, sym, ◌∙◌, subst}
use Rattle.std.specs.List.{AllByRecursion}
use Rattle.serde_json.specs.Data.{Data}
use Rattle.bye_terms.specs.Members.{EachOnce, In}
use Rattle.bye_terms.specs.declared.term.Term.{Term}
use Rattle.bye_terms.proofs.Readings.{some_same}
use Rattle.bye_table.specs.Mappings.{Name, NoRepeat, Pairs, row_mapping}
use Rattle.bye_table.specs.Tables.{IsOverVars}
use Rattle.bye_table.proofs.Merging.{unbound}
use Rattle.bye_table.proofs.RowNames.{binds_names}
use Rattle.bye_json.specs.Documents.{cell, cell_of, is_listed, pairs_of, row_of}
use Rattle.bye_json.specs.TermObjects.{term_at}
use Rattle.bye_json.specs.Trees.{collect}
use Rattle.bye_json.proofs.Steps.{collect_parts, gather_more, gather_parts}

-- what the cells of one variable more come to
pub pairs_more : (binding : Data) (vars : List Name) (v : Name) (pairs new : Pairs) → pairs_of vars binding ≡ Some pairs
    → option_map (λ here. pairs ++ here) (cell_of binding v) ≡ Some new → pairs_of (vars ++ v ∷ []) binding ≡ Some new
pairs_more binding vars v pairs new e h = step (cell_of binding v) refl h
  where
    step : (o : Option Pairs) → cell_of binding v ≡ o → option_map (λ here. pairs ++ here) o ≡ Some new → pairs_of (vars ++ v ∷ []) binding ≡ Some new
    step None is h = cc
    step (Some here) is h = gather_more (cell_of binding) vars v pairs here e is ∙ h

-- where there are none for it, it is the first whose value is no term object
pub no_cell : (o : Option Pairs) (pairs : Pairs) → option_map (λ here. pairs ++ here) o ≡ None → o ≡ None
no_cell None pairs e = refl
no_cell (Some here) pairs e = cc

pub is_some_of : {A : Type 0} (o : Option A) (x : A) → o ≡ Some x → IsSome o
is_some_of o x e = subst (λ o. IsSome o) (sym e) refl

-- a row binds variables of the list alone, and none twice
cell_cases : (v : Name) (o : Option Data) (here : Pairs) → cell v o ≡ Some here → (here ≡ []) ⊎ ((t : Term) × (here ≡ (v, t) ∷ []))
cell_cases v None here e = inl (sym (some_same e))
cell_cases v (Some d) here e =
    elim (term_at d) as (λ o. option_map (λ t. (v, t) ∷ []) o ≡ Some here → (here ≡ []) ⊎ ((t : Term) × (here ≡ (v, t) ∷ []))) [
      | None ↦ λ e. cc
      | Some t ↦ λ e. inr (t, sym (some_same e))
    ] e

name_in : (v : Name) (vars : List Name) (here rest : Pairs) (w : Name) → (here ≡ []) ⊎ ((t : Term) × (here ≡ (v, t) ∷ [])) → (In (map (λ e. e.0) rest) w → In vars w)
    → In (map (λ e. e.0) (here ++ rest)) w → In (v ∷ vars) w
name_in v vars here rest w (inl e) later h = inr (later (subst (λ here. In (map (λ e. e.0) (here ++ rest)) w) e h))
name_in v vars here rest w (inr (t, e)) later h = ⊎_elim inl (λ k. inr (later k)) (subst (λ here. In (map (λ e. e.0) (here ++ rest)) w) e h)

names_within : (binding : Data) (vars : List Name) (pairs : Pairs) → pairs_of vars binding ≡ Some pairs → (w : Name) → In (map (λ e. e.0) pairs) w → In vars w
names_within binding [] pairs e w h = subst (λ pairs. In (map (λ e. e.0) pairs) w) (sym (some_same e)) h
names_within binding (v ∷ vars) pairs e w h =
    let p = gather_parts (cell_of binding) v vars pairs e in
    name_in v vars p.here p.rest w (cell_cases v _ p.here p.first) (names_within binding vars p.rest p.later w) (subst (λ pairs. In (map (λ e. e.0) pairs) w) p.both h)

pub over : (binding : Data) (vars : List Name) (pairs : Pairs) → pairs_of vars binding ≡ Some pairs → IsOverVars vars pairs
over binding vars pairs e w bound = names_within binding vars pairs e w ((binds_names pairs w).0 bound)

pub no_repeat : (binding : Data) (vars : List Name) (pairs : Pairs) → EachOnce vars → pairs_of vars binding ≡ Some pairs → NoRepeat pairs
no_repeat binding [] pairs once e = subst NoRepeat (some_same e) tt
no_repeat binding (v ∷ vars) pairs once e =
    let p = gather_parts (cell_of binding) v vars pairs e in
    let later = no_repeat binding vars p.rest once.1 p.later in
    subst NoRepeat (sym p.both)
    (⊎_elim (λ is. subst (λ here. NoRepeat (here ++ p.rest)) (sym is) later)
    (λ is. subst (λ here. NoRepeat (here ++ p.rest)) (sym is.1) (unbound (row_mapping p.rest v) (λ bound. once.0 (over binding vars p.rest p.later v bound)), later))
    (cell_cases v _ p.here p.first))

-- the rows of a document are those of a table
row_pairs : (b : Bool) (o : Option Pairs) (row : Pairs) → cond b o None ≡ Some row → o ≡ Some row
row_pairs true o row e = e
row_pairs false o row e = cc

pub rows_over : (vars : List Name) (ds : List Data) (rows : List Pairs) → collect (row_of vars) ds ≡ Some rows → AllByRecursion (IsOverVars vars) rows
rows_over vars [] rows e = subst (AllByRecursion (IsOverVars vars)) (some_same e) tt
rows_over vars (d ∷ ds) rows e =
    let p = collect_parts (row_of vars) d ds rows e in
    subst (AllByRecursion (IsOverVars vars)) (sym p.both) (over d vars p.one (row_pairs (is_listed vars d) _ p.one p.first), rows_over vars ds p.rest p.later)

pub rows_once : (vars : List Name) (ds : List Data) (rows : List Pairs) → EachOnce vars → collect (row_of vars) ds ≡ Some rows → AllByRecursion NoRepeat rows
rows_once vars [] rows once e = subst (AllByRecursion NoRepeat) (some_same e) tt
rows_once vars (d ∷ ds) rows once e =
    let p = collect_parts (row_of vars) d ds rows e in
    subst (AllByRecursion NoRepeat) (sym p.both) (no_repeat d vars p.one once (row_pairs (is_listed vars d) _ p.one p.first), rows_once vars ds p.rest once p.later)
