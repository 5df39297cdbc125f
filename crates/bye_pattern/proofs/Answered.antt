-- The learner's answer: a row that binds other variables than row 1, or the one domain of all rows and what they have in common.
use Rattle.std.proofs.Common.{◌≡◌, refl, ℕ, zero, suc, ◌+◌, ◌<◌, Bool, true, false, cond, not, List, [], ◌∷◌, map, Option, Some, None, inl, inr, ◌⊎◌, ⊎_elim, sym, ap, subst, arith, ◌↔◌}
use Rattle.std.specs.Prelude.{find}
use Rattle.std.specs.List.{AllByRecursion, filter}
use Rattle.bye_terms.specs.Terms.{Statement}
use Rattle.bye_terms.specs.Members.{In, EachOnce}
use Rattle.bye_terms.proofs.Readings.{some_same}
use Rattle.bye_terms.proofs.Lists.{all_map, filtered, filtered_once, in_filtered, in_map, map_in}
use Rattle.bye_terms.proofs.Members.{all_from, all_in}
use Rattle.bye_terms.proofs.Tests.{bool_cases, not_both, not_true}
use Rattle.bye_table.specs.Mappings.{Binds, Exactly, Mapping, Name, Pairs, row_mapping}
use Rattle.bye_table.specs.Domains.{AreSeen, BindsEach, IsRowAt}
use Rattle.bye_table.specs.Tables.{IsOverVars}
use Rattle.bye_pattern.specs.declared.level.Level.TheVariants.{One}
use Rattle.bye_pattern.specs.declared.rule.Rule.TheVariants.{NoTriples}
use Rattle.bye_pattern.specs.Apart.{binds, differs, first_apart, numbered}
use Rattle.bye_pattern.specs.Certificates.{BindsOne, Domains, NoRoot, ShowsDomains, ShowsNoRoot, ShowsUncovered, Uncovered}
use Rattle.bye_pattern.specs.Classes.{InAndPlain, IsClassTriple}
use Rattle.bye_pattern.specs.Common.{IsCommon}
use Rattle.bye_pattern.specs.Covering.{covers}
use Rattle.bye_pattern.specs.Designed.{IsWellDesigned}
use Rattle.bye_pattern.specs.FirstClaims.{IsFirstWith, NoDomains}
use Rattle.bye_pattern.specs.Fitting.{Fits, NoFit}
use Rattle.bye_pattern.specs.Learning.{AreFull, IsJustRefused, IsLearnedQuery, IsStrongest, common_query}
use Rattle.bye_pattern.specs.Patterns.{Meets, Pattern, all_vars}
use Rattle.bye_pattern.specs.Starting.{IsCommonAt}
use Rattle.bye_pattern.specs.Trees.{Tree, alg, node, own_triples, Select}
use Rattle.bye_pattern.specs.Algebra.{IsAnswer}
use Rattle.bye_table.proofs.RowNumbers.{at_in, one_at}
use Rattle.bye_pattern.proofs.Firsts.{first_alike, first_filtered, first_found, first_has}
use Rattle.bye_pattern.proofs.Covered.{all_covered, covered_by, none_found, uncovered_by}
use Rattle.bye_pattern.proofs.OneGroup.{all_vars_in, answer_meets, common_class, common_fits, uncovered_none}

-- of two rows one binds the variable, by the test
test_one : (a b : Bool) → cond a (not b) b ≡ true → ((a ≡ true) × (b ≡ true → ⊥)) ⊎ ((a ≡ true → ⊥) × (b ≡ true))
test_one true true e = cc
test_one true false e = inl (refl, λ k. cc)
test_one false true e = inr ((λ k. cc), refl)
test_one false false e = cc

one_test : (a b : Bool) → ((a ≡ true) × (b ≡ true → ⊥)) ⊎ ((a ≡ true → ⊥) × (b ≡ true)) → cond a (not b) b ≡ true
one_test true true (inl h) = absurd (h.1 refl)
one_test true true (inr h) = absurd (h.0 refl)
one_test true false h = refl
one_test false true h = refl
one_test false false (inl h) = h.0
one_test false false (inr h) = h.1

same_test : (a b : Bool) → cond a (not b) b ≡ false → (a ≡ true) ↔ (b ≡ true)
same_test true true e = (λ k. refl, λ k. refl)
same_test true false e = cc
same_test false true e = cc
same_test false false e = (λ k. k, λ k. k)

-- the row that is found among the others, which is numbered from n on
record Apart (vs : List Name) (row : Pairs) (n : ℕ) (others : List Pairs) (j : ℕ) (x : Name) : Type 0 where
  place : ℕ
  number : j ≡ n + place
  other : Pairs
  at : IsRowAt (map row_mapping others) (suc place) (row_mapping other)
  first : IsFirstWith (λ v. differs row other v ≡ true) vs x
  before : (k : ℕ) (m : Mapping) → k < place → IsRowAt (map row_mapping others) (suc k) m → (v : Name) → In vs v → BindsOne (row_mapping row) m v → ⊥

apart_here : (vs : List Name) (row : Pairs) (n : ℕ) (other : Pairs) (others : List Pairs) (j : ℕ) (x : Name) (o : Option Name) → find (differs row other) vs ≡ o
    → (first_apart vs row (suc n) others ≡ Some (j, x) → Apart vs row (suc n) others j x) → numbered n o (first_apart vs row (suc n) others) ≡ Some (j, x)
    → Apart vs row n (other ∷ others) j x
apart_here vs row n other others j x None is later e =
    let w = later e in
    record {
      place = suc w.place;
      number = let k = w.number in omega (arith, k);
      other = w.other;
      at = w.at;
      first = w.first;
      before = before w;
    }
  where
    before : (w : Apart vs row (suc n) others j x) (k : ℕ) (m : Mapping) → k < suc w.place → IsRowAt (map row_mapping (other ∷ others)) (suc k) m → (v : Name) → In vs v
        → BindsOne (row_mapping row) m v → ⊥
    before w zero m less at v h one =
        not_both (differs row other v) (one_test (binds row v) (binds other v) (subst (λ m. BindsOne (row_mapping row) m v) (sym at) one)) (none_found (differs row other) vs is v h)
    before w (suc k) m less at v h one = w.before k m (omega (arith, less)) at v h one
apart_here vs row n other others j x (Some y) is later e =
    let same = some_same e in
    let name : y ≡ x = ap (λ p. p.1) same in
    let number : n ≡ j = ap (λ p. p.0) same in
    record {
      place = 0;
      number = omega (arith, number);
      other = other;
      at = refl;
      first = subst (IsFirstWith (λ v. differs row other v ≡ true) vs) name (first_found (differs row other) vs y is);
      before = λ k m less at v h one. absurd (omega (arith, less));
    }

apart_found : (vs : List Name) (row : Pairs) (n : ℕ) (others : List Pairs) (j : ℕ) (x : Name) → first_apart vs row n others ≡ Some (j, x) → Apart vs row n others j x
apart_found vs row n [] j x e = cc
apart_found vs row n (other ∷ others) j x e = apart_here vs row n other others j x (find (differs row other) vs) refl (λ e. apart_found vs row (suc n) others j x e) e

alike_here : (vs : List Name) (row : Pairs) (n : ℕ) (other : Pairs) (others : List Pairs) (o : Option Name) → find (differs row other) vs ≡ o
    → numbered n o (first_apart vs row (suc n) others) ≡ None → (find (differs row other) vs ≡ None) × (first_apart vs row (suc n) others ≡ None)
alike_here vs row n other others None is e = (is, e)
alike_here vs row n other others (Some y) is e = cc

none_apart : (vs : List Name) (row : Pairs) (n : ℕ) (others : List Pairs) → first_apart vs row n others ≡ None → (r : Pairs) → In others r → (v : Name) → In vs v → differs row r v ≡ false
none_apart vs row n [] e r h v k = absurd h
none_apart vs row n (other ∷ others) e r h v k =
    let w = alike_here vs row n other others (find (differs row other) vs) refl e in
    ⊎_elim (λ same. subst (λ r. differs row r v ≡ false) same (none_found (differs row other) vs w.0 v k)) (λ i. none_apart vs row (suc n) others w.1 r i v k) h

-- the variables that a row binds are of the table
row_over : (vs : List Name) (rows : List Pairs) (m : Mapping) (v : Name) → AllByRecursion (IsOverVars vs) rows → In (map row_mapping rows) m → Binds m v → In vs v
row_over vs rows m v over h b =
    let w = in_map row_mapping rows m h in
    all_in (IsOverVars vs) rows w.0 over w.1 v (subst (λ m. Binds m v) (sym w.2) b)

one_over : (vs : List Name) (rows : List Pairs) (m n : Mapping) (v : Name) → AllByRecursion (IsOverVars vs) rows → In (map row_mapping rows) m → In (map row_mapping rows) n → BindsOne m n v → In vs v
one_over vs rows m n v over h k one = ⊎_elim (λ b. row_over vs rows m v over h b.0) (λ b. row_over vs rows n v over k b.1) one

-- an answer of a query of one group binds the selected variables, of which there is one
fit_binds : (g : List Statement) (rows : List Mapping) (q : Select) (m : Mapping) → InAndPlain q → Fits g rows [] q → In rows m → Exactly q.vars m
fit_binds g rows q m class fits h = (answer_meets One g q m class.in_class (all_in (λ m. IsAnswer g q.vars (alg q) m) rows m fits.all h)).binds

some_triple : (t : Tree) → IsWellDesigned t → own_triples t ≡ [] → ⊥
some_triple (node ps cs f) designed = designed.0 NoTriples

class_variable : (ps : List Pattern) → (ps ≡ [] → ⊥) → AllByRecursion IsClassTriple ps → (v : Name) × In (all_vars ps) v
class_variable [] some all = absurd (some refl)
class_variable (p ∷ ps) some all = (all.0.variable.0, all_vars_in (p ∷ ps) p all.0.variable.0 (inl refl) all.0.variable.1)

selected_variable : (q : Select) → InAndPlain q → (v : Name) × In q.vars v
selected_variable q class =
    let w = class_variable (own_triples q.tree) (some_triple q.tree class.in_class.designed) class.in_class.triples in
    (w.0, (class.in_class.selects w.0).1 w.1)

-- no query of one group fits two rows of different domains
apart_none : (g : List Statement) (rows : List Mapping) (i j : ℕ) (x : Name) → ShowsDomains rows i j x → NoFit InAndPlain g rows []
apart_none g rows i j x c q class fits =
    let one = fit_binds g rows q c.one class fits (at_in rows i c.one c.one_row) x in
    let other = fit_binds g rows q c.other class fits (at_in rows j c.other c.other_row) x in
    ⊎_elim (λ b. b.1 (other.1 (one.0 b.0))) (λ b. b.0 (one.1 (other.0 b.1))) c.binds

-- row 1 and the first row that is apart from it
pub apart : (g : List Statement) (vs : List Name) (first : Pairs) (later : List Pairs) (j : ℕ) (x : Name) → AllByRecursion (IsOverVars vs) (first ∷ later)
    → first_apart vs first 2 later ≡ Some (j, x) → IsJustRefused g (record { vars = vs; rows = first ∷ later }) (Domains 1 j x)
apart g vs first later j x over e =
    let w = apart_found vs first 2 later j x e in
    let number : j ≡ suc (suc w.place) = let k = w.number in omega (arith, k) in
    let rows = map row_mapping (first ∷ later) in
    let there : IsRowAt rows j (row_mapping w.other) = subst (λ j. IsRowAt rows j (row_mapping w.other)) (sym number) w.at in
    let further : 1 < j = omega (arith, number) in
    let same : (v : Name) → (differs first w.other v ≡ true) ↔ ShowsDomains rows 1 j v = λ v. (
      (λ d. record { apart = further; one = row_mapping first; other = row_mapping w.other; one_row = refl; other_row = there; binds = test_one (binds first v) (binds w.other v) d }),
      (λ c. one_test (binds first v) (binds w.other v) (subst (λ m. BindsOne (row_mapping first) m v) (one_at rows j c.other (row_mapping w.other) c.other_row there)
          (subst (λ m. BindsOne m c.other v) (sym c.one_row) c.binds))),
    ) in
    let found = first_alike (λ v. differs first w.other v ≡ true) (ShowsDomains rows 1 j) vs x same w.first in
    let shown = (first_has (ShowsDomains rows 1 j) vs x found).1 in
    record { first = (refl, ((x, shown), least w number), found); none = apart_none g rows 1 j x shown }
  where
    least : (w : Apart vs first 2 later j x) → j ≡ suc (suc w.place) → (k : ℕ) → k < j → ((y : Name) × ShowsDomains (map row_mapping (first ∷ later)) 1 k y) → ⊥
    least w number zero less h = let a = h.1.apart in absurd (omega (arith, a))
    least w number (suc zero) less h = let a = h.1.apart in absurd (omega (arith, a))
    least w number (suc (suc k)) less h =
        let c = h.1 in
        w.before k c.other (omega (arith, less, number)) c.other_row h.0
        (one_over vs (first ∷ later) c.one c.other h.0 over (inl c.one_row) (inr (at_in (map row_mapping later) (suc k) c.other c.other_row)) c.binds)
        (subst (λ m. BindsOne m c.other h.0) (sym c.one_row) c.binds)

-- the variables of row 1 are those of each row, where none is apart from it
exactly_first : (vs : List Name) (first : Pairs) (later : List Pairs) (r : Pairs) → AllByRecursion (IsOverVars vs) (first ∷ later) → In (first ∷ later) r
    → ((v : Name) → In vs v → (binds first v ≡ true) ↔ (binds r v ≡ true)) → Exactly (filter (binds first) vs) (row_mapping r)
exactly_first vs first later r over h same v = (
  (λ b. let k = row_over vs (first ∷ later) (row_mapping r) v over (map_in row_mapping (first ∷ later) r h) b in in_filtered (binds first) vs v k ((same v k).1 b)),
  (λ i. let w = filtered (binds first) vs v i in (same v w.0).0 w.1),
)

pub one_domain : (vs : List Name) (first : Pairs) (later : List Pairs) → AllByRecursion (IsOverVars vs) (first ∷ later) → first_apart vs first 2 later ≡ None
    → AllByRecursion (Exactly (filter (binds first) vs)) (map row_mapping (first ∷ later))
one_domain vs first later over e =
    all_map (Exactly (filter (binds first) vs)) row_mapping (first ∷ later) (all_from (λ r. Exactly (filter (binds first) vs) (row_mapping r)) (first ∷ later)
    (λ r h. exactly_first vs first later r over h (λ v k. ⊎_elim
    (λ same. subst (λ r. (binds first v ≡ true) ↔ (binds r v ≡ true)) same (λ b. b, λ b. b))
    (λ i. same_test (binds first v) (binds r v) (none_apart vs first 2 later e r i v k))
    h)))

-- these are the selected variables
selected_here : (rows : List Mapping) (first : Pairs) → In rows (row_mapping first) → (y : Name) (xs : List Name) → ((m : Mapping) → In rows m → Binds m y → binds first y ≡ true) → (b : Bool) → binds first y ≡ b
    → AreSeen rows xs (filter (binds first) xs) → AreSeen rows (y ∷ xs) (cond b (y ∷ filter (binds first) xs) (filter (binds first) xs))
selected_here rows first h y xs same true is rest = inl ((row_mapping first, h, is), (filter (binds first) xs, rest, refl))
selected_here rows first h y xs same false is rest = inr ((λ seen. not_both (binds first y) (same seen.0 seen.1 seen.2) is), rest)

selected : (rows : List Mapping) (first : Pairs) → In rows (row_mapping first) → ((m : Mapping) (v : Name) → In rows m → Binds m v → binds first v ≡ true) → (vs : List Name)
    → AreSeen rows vs (filter (binds first) vs)
selected rows first h same [] = refl
selected rows first h same (y ∷ xs) = selected_here rows first h y xs (λ m k b. same m y k b) (binds first y) refl (selected rows first h same xs)

-- no two rows of one domain are apart, and where it has a variable there is a root
no_domains : (vs : List Name) (rows : List Mapping) → AllByRecursion (Exactly vs) rows → NoDomains rows
no_domains vs rows all i j x c =
    let one = all_in (Exactly vs) rows c.one all (at_in rows i c.one c.one_row) x in
    let other = all_in (Exactly vs) rows c.other all (at_in rows j c.other c.other_row) x in
    ⊎_elim (λ b. b.1 (other.1 (one.0 b.0))) (λ b. b.0 (one.1 (other.0 b.1))) c.binds

each_bound : (vs : List Name) (rows : List Mapping) (x : Name) → AllByRecursion (Exactly vs) rows → In vs x → BindsEach rows x
each_bound vs rows x all h = all_from (λ m. Binds m x) rows (λ m k. (all_in (Exactly vs) rows m all k x).1 h)

some_root : (vs : List Name) (rows : List Mapping) → AllByRecursion (Exactly vs) rows → (vs ≡ [] → ⊥) → ShowsNoRoot rows → ⊥
some_root [] rows all some none = some refl
some_root (v ∷ vs) rows all some none = none v (each_bound (v ∷ vs) rows v all (inl refl))

-- rows without variables
pub rootless : (g : List Statement) (vs : List Name) (first : Pairs) (later : List Pairs) → AllByRecursion (Exactly []) (map row_mapping (first ∷ later))
    → IsJustRefused g (record { vars = vs; rows = first ∷ later }) NoRoot
rootless g vs first later all =
    let rows = map row_mapping (first ∷ later) in
    record {
      first = (no_domains [] rows all, λ x each. (all.0 x).0 each.0);
      none = λ q class fits. let v = selected_variable q class in (all.0 v.0).0 ((fit_binds g rows q (row_mapping first) class fits (inl refl) v.0).1 v.1);
    }

-- what is common at a variable of the one domain is common
at_common : (g : List Statement) (vs : List Name) (m : Mapping) (rows : List Mapping) (x : Name) (p : Pattern) → AllByRecursion (Exactly vs) (m ∷ rows) → In vs x
    → IsCommonAt g (m ∷ rows) x p → IsCommon g vs (m ∷ rows) p
at_common g vs m rows x p all h c = record {
  in_class = c.in_class;
  over = λ v k. (all.0 v).0 ((c.over v k).0 ((all.0 x).1 h));
  holds = all_from (λ m. Meets g m p) (m ∷ rows) (λ n k. all_in (λ m. Binds m x → Meets g m p) (m ∷ rows) n c.holds k ((all_in (Exactly vs) (m ∷ rows) n all k x).1 h));
}

common_at : (g : List Statement) (vs : List Name) (rows : List Mapping) (x : Name) (p : Pattern) → AllByRecursion (Exactly vs) rows → IsCommon g vs rows p → IsCommonAt g rows x p
common_at g vs rows x p all c = record {
  in_class = c.in_class;
  over = λ v k. all_from (λ m. Binds m x → Binds m v) rows (λ n i b. (all_in (Exactly vs) rows n all i v).1 (c.over v k));
  holds = all_from (λ m. Binds m x → Meets g m p) rows (λ n i b. all_in (λ m. Meets g m p) rows n c.holds i);
}

full : (vs : List Name) (first : Pairs) (later : List Pairs) → EachOnce vs → AllByRecursion (Exactly (filter (binds first) vs)) (map row_mapping (first ∷ later)) → (filter (binds first) vs ≡ [] → ⊥)
    → AreFull (filter (binds first) vs) (map row_mapping (first ∷ later))
full vs first later once all some = record { some_variable = some; distinct = filtered_once (binds first) vs once; some_row = λ e. cc; bound = all }

-- the first variable that no common pattern contains
pub uncovered : (g : List Statement) (vs : List Name) (first : Pairs) (later : List Pairs) (ps : List Pattern) (x : Name) → EachOnce vs
    → AllByRecursion (Exactly (filter (binds first) vs)) (map row_mapping (first ∷ later)) → (filter (binds first) vs ≡ [] → ⊥)
    → IsStrongest g (filter (binds first) vs) (map row_mapping (first ∷ later)) ps → find (λ v. not (covers ps v)) (filter (binds first) vs) ≡ Some x
    → IsJustRefused g (record { vars = vs; rows = first ∷ later }) (Uncovered x)
uncovered g vs first later ps x once all some strongest e =
    let bound = filter (binds first) vs in
    let rows = map row_mapping (first ∷ later) in
    let same : (v : Name) → ((binds first v ≡ true) × (not (covers ps v) ≡ true)) ↔ ShowsUncovered g rows v = λ v. (
      (λ h. record {
        seen = (row_mapping first, inl refl, h.0);
        none = λ p common k. uncovered_by g bound rows ps v strongest (not_true (covers ps v) h.1) p (at_common g bound (row_mapping first) (map row_mapping later) v p all ((all.0 v).0 h.0) common) k;
      }),
      (λ c. let k = (all_in (Exactly bound) rows c.seen.0 all c.seen.1 v).0 c.seen.2 in (
        (all.0 v).1 k,
        ⊎_elim
            (λ covered. let w = covered_by g bound rows ps v strongest covered in absurd (c.none w.0 (common_at g bound rows v w.0 all w.1) w.2))
            (λ lacks. ap not lacks)
            (bool_cases (covers ps v)),
      )),
    ) in
    let found = first_found (λ v. not (covers ps v)) bound x e in
    let last = first_has (λ v. not (covers ps v) ≡ true) bound x found in
    record {
      first = (
        no_domains bound rows all,
        some_root bound rows all some,
        first_alike (λ v. (binds first v ≡ true) × (not (covers ps v) ≡ true)) (ShowsUncovered g rows) vs x same
            (first_filtered (binds first) (λ v. not (covers ps v)) vs x found),
      );
      none = uncovered_none g bound rows x (full vs first later once all some) last.0 (uncovered_by g bound rows ps x strongest (not_true (covers ps x) last.1));
    }

-- the query of all common patterns
pub learned : (g : List Statement) (vs : List Name) (first : Pairs) (later : List Pairs) (ps : List Pattern) → EachOnce vs
    → AllByRecursion (Exactly (filter (binds first) vs)) (map row_mapping (first ∷ later)) → (filter (binds first) vs ≡ [] → ⊥)
    → IsStrongest g (filter (binds first) vs) (map row_mapping (first ∷ later)) ps → find (λ v. not (covers ps v)) (filter (binds first) vs) ≡ None
    → IsLearnedQuery g (record { vars = vs; rows = first ∷ later }) (common_query (filter (binds first) vs) ps)
learned g vs first later ps once all some strongest e =
    let bound = filter (binds first) vs in
    let rows = map row_mapping (first ∷ later) in
    let covered = all_covered g bound rows ps strongest e in
    let whole = full vs first later once all some in
    let class = common_class g bound rows ps whole strongest.members covered in
    record {
      strongest = record {
        vars = bound;
        selected = selected rows first (inl refl) (λ m v h b. (all.0 v).1 ((all_in (Exactly bound) rows m all h v).0 b)) vs;
        triples = ps;
        strongest = strongest;
        covered = covered;
        query = refl;
      };
      in_class = class;
      fits = common_fits g bound rows ps whole strongest.members class;
    }
