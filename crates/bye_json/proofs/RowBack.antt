-- The object of a row is read as the row.
use Rattle.std.proofs.Common.{◌≡◌, refl, ℕ, ◌≤◌, Bool, true, false, cond, ◌||◌, List, [], ◌∷◌, ◌++◌, Option, Some, None, option_map, Ordering, Less, Equal, Greater, ◌⊎◌, inl, inr, ⊎_elim, sym, ap, ◌∙◌, subst, arith}
use Rattle.std.specs.List.{AllByRecursion, list_all}
use Rattle.std.specs.Cmp.Lexicographic.{slice_cmp}
use Rattle.std.specs.Ordering.{is_eq, match_ordering, nat_cmp}
use Rattle.std.specs.Str.{all_scalars, bytes_eq, encode_utf8_all}
use Rattle.std.proofs.lemmas.Cmp.{nat_list_cmp_total, tied_itself}
use Rattle.std.proofs.lemmas.Map.Text.{is_eq-slice_cmp}
use Rattle.std.proofs.lemmas.Slice.Eq.{bytes_eq-Decides}
use Rattle.std.proofs.lemmas.Str.{chars-encodes, encodes_same}
use Rattle.json.specs.Tree as tree
use Rattle.serde_json.specs.Data.{Data, Members, member}
use Rattle.serde_json.specs.Find.{get_member}
use Rattle.serde_json.specs.Written.{members_outline, outline}
use Rattle.bye_terms.specs.Members.{EachOnce, In}
use Rattle.bye_terms.specs.Reading.{◌>>=◌}
use Rattle.bye_terms.specs.Valid.{IsRdfTerm}
use Rattle.bye_terms.specs.declared.term.Term.{Term}
use Rattle.bye_terms.proofs.Members.{all_from, all_in}
use Rattle.bye_terms.proofs.Readings.{some_same}
use Rattle.bye_terms.proofs.Tests.{bool_cases, both, not_both}
use Rattle.bye_table.specs.Mappings.{Name, Pairs, is_in, restrict, row_mapping}
use Rattle.bye_table.specs.Tables.{IsOverVars}
use Rattle.bye_table.proofs.Merging.{in_is, restrict_within}
use Rattle.bye_json.specs.Documents.{cell, cell_of, pairs_of, row_of}
use Rattle.bye_json.specs.Laws.{Ascends}
use Rattle.bye_json.specs.ReadingBack.{HasTerms, IsVariable, pair_of, row_in_order}
use Rattle.bye_json.specs.Trees.{names_of}
use Rattle.bye_json.specs.Written.{by_name, cells, row_object, term_object, with_cell}
use Rattle.bye_json.proofs.ByName.{ascends, order, sorted_fact, sorted_in}
use Rattle.bye_json.proofs.Clear.{Above, HasClear, IsClear}
use Rattle.bye_json.proofs.TermBack.{term_back, term_clear, term_depth, utf8}

-- the terms of a row, by variable
pub bound_term : (row : Pairs) (v : Name) (t : Term) → HasTerms row → row_mapping row v ≡ Some t → IsRdfTerm t
bound_term [] v t all e = cc
bound_term (p ∷ row) v t all e =
    elim (bytes_eq p.0 v) as (λ b. cond b (Some p.1) (row_mapping row v) ≡ Some t → IsRdfTerm t) [
      | true ↦ λ e. subst IsRdfTerm (some_same e) all.0
      | false ↦ λ e. bound_term row v t all.1 e
    ] e

-- what the object has for a variable
same_key : (k : List ℕ) (d : Data) (ms : Members) → get_member k (member k d ms) ≡ Some d
same_key k d ms = ap (λ o. match_ordering o (get_member k ms) (Some d) (get_member k ms)) (tied_itself nat_list_cmp_total k)

other_at : (o : Ordering) (a b : Option Data) → is_eq o ≡ false → match_ordering o a b a ≡ a
other_at Less a b e = refl
other_at Equal a b e = cc
other_at Greater a b e = refl

differ : (b : Bool) → (b ≡ true → ⊥) → b ≡ false
differ true other = absurd (other refl)
differ false other = refl

other_key : (v w : Name) (d : Data) (ms : Members) → (v ≡ w → ⊥) → get_member (encode_utf8_all v) (member (encode_utf8_all w) d ms) ≡ get_member (encode_utf8_all v) ms
other_key v w d ms other =
    other_at (slice_cmp nat_cmp (encode_utf8_all v) (encode_utf8_all w)) _ _
    (is_eq-slice_cmp (encode_utf8_all v) (encode_utf8_all w) ∙ differ _ (λ e. other (encodes_same v w ((bytes_eq-Decides _ _).0 e))))

passed : (v w : Name) (o : Option Term) (ms : Members) → (v ≡ w → ⊥) → get_member (encode_utf8_all v) (with_cell w o ms) ≡ get_member (encode_utf8_all v) ms
passed v w None ms other = refl
passed v w (Some t) ms other = other_key v w (term_object t) ms other

-- a variable that is not bound is not found
unbound_here : (row : Pairs) (ws : List Name) (v : Name) → row_mapping row v ≡ None → get_member (encode_utf8_all v) (cells row ws) ≡ None
unbound_here row [] v e = refl
unbound_here row (w ∷ ws) v e =
    ⊎_elim
    (λ same.
    let is : w ≡ v = (bytes_eq-Decides w v).0 same in
    ap (λ o. get_member (encode_utf8_all v) (with_cell w o (cells row ws))) (ap (row_mapping row) is ∙ e) ∙ unbound_here row ws v e)
    (λ other. passed v w (row_mapping row w) (cells row ws) (λ is. not_both _ ((bytes_eq-Decides w v).1 (sym is)) other) ∙ unbound_here row ws v e)
    (bool_cases (bytes_eq w v))

bound_here : (row : Pairs) (ws : List Name) (v : Name) (t : Term) → In ws v → row_mapping row v ≡ Some t → get_member (encode_utf8_all v) (cells row ws) ≡ Some (term_object t)
bound_here row [] v t h e = absurd h
bound_here row (w ∷ ws) v t h e =
    ⊎_elim
    (λ same.
    let is : w ≡ v = (bytes_eq-Decides w v).0 same in
    ap (λ w. get_member (encode_utf8_all v) (with_cell w (row_mapping row w) (cells row ws))) is
    ∙ ap (λ o. get_member (encode_utf8_all v) (with_cell v o (cells row ws))) e ∙ same_key (encode_utf8_all v) (term_object t) (cells row ws))
    (λ other.
    passed v w (row_mapping row w) (cells row ws) (λ is. not_both _ ((bytes_eq-Decides w v).1 (sym is)) other)
    ∙ bound_here row ws v t (later h other) e)
    (bool_cases (bytes_eq w v))
  where
    later : (w ≡ v) ⊎ In ws v → bytes_eq w v ≡ false → In ws v
    later (inl is) other = absurd (not_both _ ((bytes_eq-Decides w v).1 is) other)
    later (inr k) other = k

-- so its cell is the pair of the row
cell_back : (row : Pairs) (ws : List Name) (v : Name) → In ws v → HasTerms row → cell_of (row_object ws row) v ≡ Some (pair_of v (row_mapping row v))
cell_back row ws v h terms =
    elim (row_mapping row v) as (λ o. row_mapping row v ≡ o → cell_of (row_object ws row) v ≡ Some (pair_of v o)) [
      | None ↦ λ e. ap (cell v) (unbound_here row ws v e)
      | Some t ↦ λ e. ap (cell v) (bound_here row ws v t h e) ∙ ap (option_map (λ t. (v, t) ∷ [])) (term_back t (bound_term row v t terms e))
    ] refl

pairs_back : (row : Pairs) (ws vars : List Name) → AllByRecursion (In ws) vars → HasTerms row → pairs_of vars (row_object ws row) ≡ Some (row_in_order vars row)
pairs_back row ws [] all terms = refl
pairs_back row ws (v ∷ vars) all terms =
    ap (λ o. o >>= (λ here. option_map (λ rest. here ++ rest) (pairs_of vars (row_object ws row)))) (cell_back row ws v all.0 terms)
    ∙ ap (option_map (λ rest. pair_of v (row_mapping row v) ++ rest)) (pairs_back row ws vars all.1 terms)

-- and each name in it is a variable
cells_listed : (row : Pairs) (vars ws : List Name) → AllByRecursion (λ w. (is_in vars w ≡ true) × (all_scalars w ≡ true)) ws → list_all (is_in vars) (names_of (cells row ws)) ≡ true
cells_listed row vars [] all = refl
cells_listed row vars (w ∷ ws) all = step (row_mapping row w) (cells_listed row vars ws all.1)
  where
    step : (o : Option Term) → list_all (is_in vars) (names_of (cells row ws)) ≡ true → list_all (is_in vars) (names_of (with_cell w o (cells row ws))) ≡ true
    step None later = later
    step (Some t) later = both _ _ (ap (is_in vars) (chars-encodes w all.0.1) ∙ all.0.0) later

listed_all : (vars : List Name) → AllByRecursion IsVariable vars → AllByRecursion (λ w. (is_in vars w ≡ true) × (all_scalars w ≡ true)) vars
listed_all vars names = all_from _ vars (λ w h. (in_is vars w h, (all_in IsVariable vars w names h).scalars))

pub row_back : (vars : List Name) (row : Pairs) → AllByRecursion IsVariable vars → HasTerms row → row_of vars (row_object (by_name vars) row) ≡ Some (row_in_order vars row)
row_back vars row names terms =
    ap (λ b. cond b (pairs_of vars (row_object (by_name vars) row)) None) (cells_listed row vars (by_name vars) (sorted_fact _ vars (listed_all vars names)))
    ∙ pairs_back row (by_name vars) vars (all_from _ vars (λ v h. sorted_in vars v h)) terms

-- which is the same mapping
skipped : (v w : Name) (o : Option Term) (rest : Pairs) → bytes_eq v w ≡ false → row_mapping (pair_of v o ++ rest) w ≡ row_mapping rest w
skipped v w None rest e = refl
skipped v w (Some t) rest e = ap (λ b. cond b (Some t) (row_mapping rest w)) e

restricted_none : (b : Bool) (o : Option Term) → o ≡ None → cond b o None ≡ None
restricted_none true o e = e
restricted_none false o e = refl

first : (v w : Name) (o : Option Term) (rest : Pairs) → bytes_eq v w ≡ true → (o ≡ None → row_mapping rest w ≡ None) → row_mapping (pair_of v o ++ rest) w ≡ o
first v w None rest e later = later refl
first v w (Some t) rest e later = ap (λ b. cond b (Some t) (row_mapping rest w)) e

ordered_is : (vars : List Name) (row : Pairs) (w : Name) → row_mapping (row_in_order vars row) w ≡ restrict vars (row_mapping row) w
ordered_is [] row w = refl
ordered_is (v ∷ vars) row w =
    ⊎_elim
    (λ e.
    let is : v ≡ w = (bytes_eq-Decides v w).0 e in
    first v w (row_mapping row v) (row_in_order vars row) e (λ none. ordered_is vars row w ∙ restricted_none (is_in vars w) (row_mapping row w) (ap (row_mapping row) (sym is) ∙ none))
    ∙ ap (row_mapping row) is ∙ ap (λ b. cond (b || is_in vars w) (row_mapping row w) None) (sym e))
    (λ e. skipped v w (row_mapping row v) (row_in_order vars row) e ∙ ordered_is vars row w ∙ ap (λ b. cond (b || is_in vars w) (row_mapping row w) None) (sym e))
    (bool_cases (bytes_eq v w))

pub same_mapping : (vars : List Name) (row : Pairs) → IsOverVars vars row → row_mapping row ≡ row_mapping (row_in_order vars row)
same_mapping vars row over = restrict_within vars (row_mapping row) over ∙ (λ i w. sym (ordered_is vars row w) i)

-- the object is one that is written and read back
cells_above : (row : Pairs) (v : Name) (ws : List Name) → AllByRecursion (λ w. order v w ≡ Less) ws → Above (encode_utf8_all v) (cells row ws)
cells_above row v [] all = tt
cells_above row v (w ∷ ws) all = step (row_mapping row w) (cells_above row v ws all.1)
  where
    step : (o : Option Term) → Above (encode_utf8_all v) (cells row ws) → Above (encode_utf8_all v) (with_cell w o (cells row ws))
    step None later = later
    step (Some t) later = (all.0, later)

cells_clear : (row : Pairs) (ws : List Name) → Ascends ws → AllByRecursion IsVariable ws → HasTerms row → HasClear (cells row ws)
cells_clear row [] up names terms = tt
cells_clear row (w ∷ ws) up names terms =
    elim (row_mapping row w) as (λ o. row_mapping row w ≡ o → HasClear (with_cell w o (cells row ws))) [
      | None ↦ λ e. cells_clear row ws up.1 names.1 terms
      | Some t ↦ λ e. (utf8 w names.0.scalars, (term_clear t (bound_term row w t terms e), (cells_above row w ws up.0, cells_clear row ws up.1 names.1 terms)))
    ] refl

pub row_clear : (vars : List Name) (row : Pairs) → EachOnce vars → AllByRecursion IsVariable vars → HasTerms row → IsClear (row_object (by_name vars) row)
row_clear vars row once names terms = cells_clear row (by_name vars) (ascends vars once) (sorted_fact IsVariable vars names) terms

cells_depth : (row : Pairs) (ws : List Name) → tree.members_depth (members_outline (cells row ws)) ≤ 1
cells_depth row [] = omega arith
cells_depth row (w ∷ ws) = step (row_mapping row w) (cells_depth row ws)
  where
    step : (o : Option Term) → tree.members_depth (members_outline (cells row ws)) ≤ 1 → tree.members_depth (members_outline (with_cell w o (cells row ws))) ≤ 1
    step None later = later
    step (Some t) later = omega (arith, term_depth t)

pub row_depth : (row : Pairs) (ws : List Name) → tree.depth (outline (row_object ws row)) ≤ 2
row_depth row ws = omega (arith, cells_depth row ws)
