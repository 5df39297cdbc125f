-- Rows that are sorted by their cells, of which one of each is kept, are the sorted set of the table; and a table has one.
use Rattle.std.proofs.Common.{◌≡◌, refl, ℕ, Bool, List, [], ◌∷◌, map, Option, Some, None, inl, inr, ⊎_elim, sym, ◌∙◌, ap, subst, Ordering, Less, Equal, Greater}
use Rattle.std.specs.List.{AllByRecursion, Contains, dedup}
use Rattle.std.specs.List.Sorted.{IsPermutation, IsSortedBy, IsStrictlySortedBy}
use Rattle.std.specs.Cmp.{IsTotalOrder, IsStrictWeakOrder, Equal-is}
use Rattle.std.specs.Cmp.Lexicographic.{slice_cmp, options_total}
use Rattle.std.specs.Ordering.{nat_cmp, is_lt, is_eq, ordering_then}
use Rattle.std.specs.Option.{option_cmp}
use Rattle.std.proofs.lemmas.Cmp.{eq_by_cmp_equiv, lists_total, nat_list_cmp_total, on_total, tied_itself}
use Rattle.std.proofs.lemmas.List.Kept.{Any-dedup, Contains-from_dedup, IsStrictlySortedBy-dedup}
use Rattle.std.proofs.lemmas.List.MinMax.{ranks_by}
use Rattle.std.proofs.lemmas.List.Sorted.{Contains-permutation, IsPermutation-sym}
use Rattle.std.proofs.lemmas.Map.Text.{is_eq-slice_cmp}
use Rattle.std.proofs.lemmas.Slice.Eq.{bytes_eq-Decides}
use Rattle.bye_terms.specs.declared.term.Term.{Term}
use Rattle.bye_terms.specs.Members.{In}
use Rattle.bye_terms.specs.Spellings.{term_bytes}
use Rattle.bye_terms.proofs.Lists.{in_map, map_in}
use Rattle.bye_terms.proofs.Members.{all_from, all_in, contains_in, in_contains}
use Rattle.bye_table.specs.Cells.{Cells, HasCells, IsRdfCell, cells_of}
use Rattle.bye_table.specs.Mappings.{Binds, Mapping, Name, NoRepeat, Pairs, row_mapping}
use Rattle.bye_table.specs.Sorted.{IsSortedSet, OneSortedSet, cell_cmp, mapping_cmp, mappings, term_cmp}
use Rattle.bye_table.specs.Tables.{IsOverVars, IsTable, TableValue}
use Rattle.bye_table.proofs.Merging.{in_or_not, unbound}
use Rattle.bye_table.proofs.OneSpelling.{one_spelling}

abbrev cells_cmp : Cells → Cells → Ordering
cells_cmp = slice_cmp cell_cmp

-- the order of cells is total
term_total : IsTotalOrder term_cmp
term_total = on_total term_bytes nat_list_cmp_total

as_option : (c d : Option Term) → option_cmp term_cmp c d ≡ cell_cmp c d
as_option None None = refl
as_option None (Some t) = refl
as_option (Some s) None = refl
as_option (Some s) (Some t) = refl

pub cells_total : IsTotalOrder cells_cmp
cells_total = lists_total (subst IsTotalOrder (λ i c d. as_option c d i) (options_total term_total))

-- what the order says of cells
then_equal : (o r : Ordering) → ordering_then o r ≡ Equal → (o ≡ Equal) × (r ≡ Equal)
then_equal Less r e = cc
then_equal Equal r e = (refl, e)
then_equal Greater r e = cc

same_bytes : (a b : List ℕ) → slice_cmp nat_cmp a b ≡ Equal → a ≡ b
same_bytes a b e = (bytes_eq-Decides a b).0 (sym (is_eq-slice_cmp a b) ∙ ap is_eq e)

same_cell : (c d : Option Term) → IsRdfCell c → IsRdfCell d → cell_cmp c d ≡ Equal → c ≡ d
same_cell None None h k e = refl
same_cell None (Some t) h k e = cc
same_cell (Some s) None h k e = cc
same_cell (Some s) (Some t) h k e = ap Some (one_spelling s t h k (same_bytes (term_bytes s) (term_bytes t) e))

same_cells : (cs ds : Cells) → AllByRecursion IsRdfCell cs → AllByRecursion IsRdfCell ds → cells_cmp cs ds ≡ Equal → cs ≡ ds
same_cells [] [] h k e = refl
same_cells [] (d ∷ ds) h k e = cc
same_cells (c ∷ cs) [] h k e = cc
same_cells (c ∷ cs) (d ∷ ds) h k e =
    let one = then_equal (cell_cmp c d) (cells_cmp cs ds) e in
    let first = same_cell c d h.0 k.0 one.0 in
    let rest = same_cells cs ds h.1 k.1 one.1 in
    λ i. first i ∷ rest i

-- rows of a table with the same cells are one mapping
at_each : (vars : List Name) (m n : Mapping) → map m vars ≡ map n vars → (v : Name) → In vars v → m v ≡ n v
at_each [] m n e v h = absurd h
at_each (w ∷ vars) m n e v (inl same) = let first : m w ≡ n w = cc in subst (λ v. m v ≡ n v) same first
at_each (w ∷ vars) m n e v (inr h) = let rest : map m vars ≡ map n vars = cc in at_each vars m n rest v h

same_mapping : (vars : List Name) (m n : Mapping) → ((v : Name) → Binds m v → In vars v) → ((v : Name) → Binds n v → In vars v) → map m vars ≡ map n vars → m ≡ n
same_mapping vars m n over also e = λ i v. at v i
  where
    at : (v : Name) → m v ≡ n v
    at v = ⊎_elim (λ h. at_each vars m n e v h) (λ none. unbound (m v) (λ h. none (over v h)) ∙ sym (unbound (n v) (λ h. none (also v h)))) (in_or_not vars v)

-- items that are rows with their cells
module _ {X : Type 0} (row : X → Pairs) (cells : X → Cells) where
  abbrev order : X → X → Ordering
  order x y = cells_cmp (cells x) (cells y)

  pub total : IsTotalOrder order
  total = on_total cells cells_total

  pub test_ranks : IsStrictWeakOrder (λ x y. is_lt (order x y))
  test_ranks = ranks_by cells_total cells

  abbrev pub Celled : List Name → X → Type 0
  Celled vars x = HasCells vars (row x) (cells x) × IsOverVars vars (row x)

  same_rows : (vars : List Name) (x y : X) → Celled vars x → Celled vars y → order x y ≡ Equal → row_mapping (row x) ≡ row_mapping (row y)
  same_rows vars x y h k e = same_mapping vars (row_mapping (row x)) (row_mapping (row y)) h.1 k.1 (sym h.0.are ∙ same_cells (cells x) (cells y) h.0.valid k.0.valid e ∙ k.0.are)

  abbrev mapping : X → Mapping
  mapping x = row_mapping (row x)

  before : (vars : List Name) (x y : X) → HasCells vars (row x) (cells x) → HasCells vars (row y) (cells y) → order x y ≡ Less → mapping_cmp vars (mapping x) (mapping y) ≡ Less
  before vars x y h k e = sym (λ i. cells_cmp (h.are i) (k.are i)) ∙ e

  all_before : (vars : List Name) (x : X) (ys : List X) → HasCells vars (row x) (cells x) → AllByRecursion (Celled vars) ys → AllByRecursion (λ y. order x y ≡ Less) ys → AllByRecursion (λ n. mapping_cmp vars (mapping x) n ≡ Less) (map row_mapping (map row ys))
  all_before vars x [] h all less = tt
  all_before vars x (y ∷ ys) h all less = (before vars x y h all.0.0 less.0, all_before vars x ys h all.1 less.1)

  rising : (vars : List Name) (xs : List X) → AllByRecursion (Celled vars) xs → IsStrictlySortedBy order xs → IsStrictlySortedBy (mapping_cmp vars) (map row_mapping (map row xs))
  unfolding IsStrictlySortedBy
  rising vars [] all h = tt
  rising vars (x ∷ xs) all h = (all_before vars x xs all.0.0 all.1 h.0, rising vars xs all.1 h.1)

  -- one of each is kept
  abbrev alike : X → X → Bool
  alike x y = is_eq (order x y)

  found_again : (items sorted kept : List X) (x : X) → IsPermutation items sorted → kept ≡ dedup alike sorted → In kept x → In items x
  found_again items sorted kept x same is h =
      contains_in items x (Contains-permutation sorted items x (IsPermutation-sym items sorted same) (Contains-from_dedup alike sorted x (subst (λ ks. Contains ks x) is (in_contains kept x h))))

  has_alike : (items sorted kept : List X) (x : X) → IsPermutation items sorted → kept ≡ dedup alike sorted → In items x → (y : X) × In kept y × (order x y ≡ Equal)
  has_alike items sorted kept x same is h =
      let k = Any-dedup (eq_by_cmp_equiv total) sorted x (Contains-permutation items sorted x same (in_contains items x h)) in
      (k.1, subst (λ ks. In ks k.1) (sym is) (contains_in (dedup alike sorted) k.1 (k.0, k.2, k.3)), (Equal-is (order x k.1)).0 k.4)

  pub kept_rows : (t : TableValue) (items sorted kept : List X) → IsTable t → map row items ≡ t.rows → AllByRecursion (λ x. HasCells t.vars (row x) (cells x)) items → IsPermutation items sorted → IsSortedBy (λ x y. is_lt (order x y)) sorted
      → kept ≡ dedup alike sorted → IsSortedSet t (record { vars = t.vars; rows = map row kept })
  kept_rows t items sorted kept valid rows all same up is =
      let celled : (x : X) → In items x → Celled t.vars x = λ x h. (
        all_in (λ x. HasCells t.vars (row x) (cells x)) items x all h,
        all_in (IsOverVars t.vars) t.rows (row x) valid.over (subst (λ rs. In rs (row x)) rows (map_in row items x h)),
      ) in
      let again : (x : X) → In kept x → In items x = λ x h. found_again items sorted kept x same is h in
      record {
        vars = refl;
        among = λ m h.
            let r = in_map row_mapping (map row kept) m h in
            let x = in_map row kept r.0 r.1 in
            subst (In (mappings t)) r.2 (map_in row_mapping t.rows r.0 (subst (λ rs. In rs r.0) rows (subst (In (map row items)) x.2 (map_in row items x.0 (again x.0 x.1)))));
        whole = λ m h.
            let r = in_map row_mapping t.rows m h in
            let x = in_map row items r.0 (subst (λ rs. In rs r.0) (sym rows) r.1) in
            let y = has_alike items sorted kept x.0 same is x.1 in
            let one : row_mapping (row y.0) ≡ m = sym (same_rows t.vars x.0 y.0 (celled x.0 x.1) (celled y.0 (again y.0 y.1)) y.2) ∙ ap row_mapping x.2 ∙ r.2 in
            subst (In (map row_mapping (map row kept))) one (map_in row_mapping (map row kept) (row y.0) (map_in row kept y.0 y.1));
        rises = rising t.vars kept (all_from (Celled t.vars) kept (λ x h. celled x (again x h)))
            (subst (IsStrictlySortedBy order) (sym is) (IsStrictlySortedBy-dedup total (λ x y. refl) sorted up));
      }

  pub kept_table : (t : TableValue) (items sorted kept : List X) → IsTable t → map row items ≡ t.rows → IsPermutation items sorted → kept ≡ dedup alike sorted → IsTable (record { vars = t.vars; rows = map row kept })
  kept_table t items sorted kept valid rows same is =
      let among : (r : Pairs) → In (map row kept) r → In t.rows r = λ r h.
      let x = in_map row kept r h in
      subst (λ rs. In rs r) rows (subst (In (map row items)) x.2 (map_in row items x.0 (found_again items sorted kept x.0 same is x.1))) in
      record {
        once = valid.once;
        over = all_from _ (map row kept) (λ r h. all_in (IsOverVars t.vars) t.rows r valid.over (among r h));
        rows = all_from _ (map row kept) (λ r h. all_in NoRepeat t.rows r valid.rows (among r h));
      }

-- lists that rise strictly, and have the same elements, are one list
module _ {X : Type 0} {R : X → X → Ordering} (o : IsTotalOrder R) where
  not_before_itself : (x : X) → R x x ≡ Less → ⊥
  not_before_itself x e = let f : Less ≡ Equal = sym e ∙ tied_itself o x in cc

  not_both : (x y : X) → R x y ≡ Less → R y x ≡ Less → ⊥
  not_both x y e f = not_before_itself x (o.trans x y x e f)

  first_same : (x y : X) (xs ys : List X) → AllByRecursion (λ z. R x z ≡ Less) xs → AllByRecursion (λ z. R y z ≡ Less) ys → In (y ∷ ys) x → In (x ∷ xs) y → x ≡ y
  first_same x y xs ys h k (inl e) j = sym e
  first_same x y xs ys h k (inr i) (inl e) = e
  first_same x y xs ys h k (inr i) (inr j) = absurd (not_both x y (all_in _ xs y h j) (all_in _ ys x k i))

  later_same : (x y : X) (xs ys : List X) → x ≡ y → AllByRecursion (λ z. R x z ≡ Less) xs → ((z : X) → In (x ∷ xs) z → In (y ∷ ys) z) → (z : X) → In xs z → In ys z
  later_same x y xs ys e h f z i =
      ⊎_elim (λ g. absurd (not_before_itself x (subst (λ z. R x z ≡ Less) (sym (e ∙ g)) (all_in _ xs z h i)))) (λ j. j) (f z (inr i))

  one_list : (xs ys : List X) → IsStrictlySortedBy R xs → IsStrictlySortedBy R ys → ((z : X) → In xs z → In ys z) → ((z : X) → In ys z → In xs z) → xs ≡ ys
  unfolding IsStrictlySortedBy
  one_list [] [] h k f g = refl
  one_list [] (y ∷ ys) h k f g = absurd (g y (inl refl))
  one_list (x ∷ xs) [] h k f g = absurd (f x (inl refl))
  one_list (x ∷ xs) (y ∷ ys) h k f g =
      let first = first_same x y xs ys h.0 k.0 (f x (inl refl)) (g y (inl refl)) in
      let rest = one_list xs ys h.1 k.1 (later_same x y xs ys first h.0 f) (later_same y x ys xs (sym first) k.0 g) in
      λ i. first i ∷ rest i

pub one_sorted_set : OneSortedSet
one_sorted_set t r s h k =
    one_list (on_total (cells_of t.vars) cells_total) (mappings r) (mappings s) h.rises k.rises (λ m i. k.whole m (h.among m i)) (λ m i. h.whole m (k.among m i))
