-- Values of a node beside a row, by numbers.
use Rattle.std.proofs.Common.{◌≡◌, refl, ℕ, zero, suc, ◌+◌, ◌<◌, ◌≤◌, Bool, true, false, cond, List, [], ◌∷◌, ◌++◌, append_assoc, add-one, map, Option, Some, None, ◌⊎◌, inl, inr, ⊎_elim, sym, ◌∙◌, ap, subst, length, get_or, replicate, drop, arith, MatchOption}
use Rattle.std.specs.Str.{bytes_eq}
use Rattle.std.proofs.lemmas.Bool.{cases_lt}
use Rattle.std.proofs.lemmas.List.{get_or-replicate, get_or_past}
use Rattle.std.proofs.lemmas.Slice.Eq.{bytes_eq-Decides}
use Rattle.bye_terms.specs.declared.term.Term.{Term}
use Rattle.bye_terms.specs.Members.{In, EachOnce}
use Rattle.bye_terms.proofs.Members.{in_left, in_right, once_more}
use Rattle.bye_terms.proofs.Tests.{bool_cases, not_both}
use Rattle.bye_table.specs.Mappings.{Binds, Mapping, Name, NoRepeat, Pairs, is_in, merge, row_mapping}
use Rattle.bye_table.proofs.Merging.{in_is, is_in_in, merge_bound, merge_left, not_bound}
use Rattle.bye_pattern.specs.declared.cond.Cond.{Cond}
use Rattle.bye_pattern.specs.declared.node.Node.{Node, out-Node}
use Rattle.bye_pattern.specs.Nodes.{tree_of}
use Rattle.bye_pattern.specs.Patterns.{Pattern, all_vars}
use Rattle.bye_pattern.specs.Trees.{Tree, own_conds, own_triples, own_vars}
use Rattle.bye_tree.specs.Names.{with_name, with_names}
use Rattle.bye_tree.proofs.Opened.{tree_out}
use Rattle.bye_laws.specs.Descending.{IsStep}
use Rattle.bye_laws.specs.Reaching.{MeetsNode, NoValues}
use Rattle.bye_laws.specs.Values.{AreValues}
use Rattle.bye_laws.proofs.Telling.{all_meets_bind}
use Rattle.bye_graph.specs.Graphs.{GraphValue, IsNumbered, statements}
use Rattle.bye_node.specs.Conds.{Fits}
use Rattle.bye_node.specs.Envs.{Cells, IsFirst, Shape, blank, cell}
use Rattle.bye_node.specs.Steps.{AreListed, AreShapes, HasLost, IsEnv, IsStepBy, beside, decode, pair, pairs, pattern_in, value_at}
use Rattle.bye_node.proofs.Cells.{in_some, none_or_some, not_none, some_in}
use Rattle.bye_node.proofs.Decoding.{decode_lost, decoded}
use Rattle.bye_node.proofs.Shaping.{lost_step, step_is}
use Rattle.bye_node.proofs.Stepping.{beside_open, beside_row, step_given}

-- a set of names has each name once
with_name_once : (vs : List Name) (w : Name) → EachOnce vs → EachOnce (with_name vs w)
with_name_once vs w once = ⊎_elim
    (λ old. subst EachOnce (ap (λ b. cond b vs (vs ++ w ∷ [])) (sym old)) once)
    (λ new. subst EachOnce (ap (λ b. cond b vs (vs ++ w ∷ [])) (sym new)) (once_more vs w once (λ i. not_both (is_in vs w) (in_is vs w i) new)))
    (bool_cases (is_in vs w))

pub with_names_once : (vs ws : List Name) → EachOnce vs → EachOnce (with_names vs ws)
with_names_once vs [] once = once
with_names_once vs (w ∷ ws) once = with_names_once (with_name vs w) ws (with_name_once vs w once)

with_name_has : (vs : List Name) (w v : Name) → In vs v ⊎ (w ≡ v) → In (with_name vs w) v
with_name_has vs w v h = ⊎_elim
    (λ old. subst (λ xs. In xs v) (ap (λ b. cond b vs (vs ++ w ∷ [])) (sym old)) (⊎_elim (λ i. i) (λ e. subst (In vs) e (is_in_in vs w old)) h))
    (λ new. subst (λ xs. In xs v) (ap (λ b. cond b vs (vs ++ w ∷ [])) (sym new)) (⊎_elim (λ i. in_left vs (w ∷ []) v i) (λ e. in_right vs (w ∷ []) v (inl e)) h))
    (bool_cases (is_in vs w))

with_names_has : (vs ws : List Name) (v : Name) → In vs v ⊎ In ws v → In (with_names vs ws) v
with_names_has vs [] v h = ⊎_elim (λ i. i) (λ b. absurd b) h
with_names_has vs (w ∷ ws) v h =
    with_names_has (with_name vs w) ws v (⊎_elim (λ i. inl (with_name_has vs w v (inl i))) (λ k. ⊎_elim (λ e. inl (with_name_has vs w v (inr e))) inr k) h)

pub names_listed : (row : Mapping) (ws : List Name) → AreListed row (with_names [] ws) ws
names_listed row ws = record { once = with_names_once [] ws tt; has = λ v h. inr (with_names_has [] ws v (inr h)) }

-- the pairs of a mapping by numbers
pairs_at : (vs : List Name) (ts : List Term) (e : Cells) (w v : Name) (o : Option Term) → (In vs w → ⊥) → row_mapping (pairs vs ts e) v ≡ decode vs ts e v
    → row_mapping (pair w o ++ pairs vs ts e) v ≡ cond (bytes_eq w v) o (decode vs ts e v)
pairs_at vs ts e w v None new rest = ⊎_elim
    (λ same. rest ∙ decode_lost vs ts e v (subst (λ w. In vs w → ⊥) ((bytes_eq-Decides w v).0 same) new) ∙ sym (ap (λ b. cond b None (decode vs ts e v)) same))
    (λ other. rest ∙ sym (ap (λ b. cond b None (decode vs ts e v)) other))
    (bool_cases (bytes_eq w v))
pairs_at vs ts e w v (Some t) new rest = ap (λ o. cond (bytes_eq w v) (Some t) o) rest

pub pairs_mapping : (vs : List Name) (ts : List Term) (e : Cells) → EachOnce vs → (v : Name) → row_mapping (pairs vs ts e) v ≡ decode vs ts e v
pairs_mapping [] ts e once v = refl
pairs_mapping (w ∷ vs) ts [] once v = refl
pairs_mapping (w ∷ vs) ts (c ∷ e) once v = pairs_at vs ts e w v (value_at ts c) once.0 (pairs_mapping vs ts e once.1 v)

pair_once : (w : Name) (o : Option Term) (es : Pairs) → row_mapping es w ≡ None → NoRepeat es → NoRepeat (pair w o ++ es)
pair_once w None es new once = once
pair_once w (Some t) es new once = (new, once)

pub pairs_once : (vs : List Name) (ts : List Term) (e : Cells) → EachOnce vs → NoRepeat (pairs vs ts e)
pairs_once [] ts e once = tt
pairs_once (w ∷ vs) ts [] once = tt
pairs_once (w ∷ vs) ts (c ∷ e) once = pair_once w (value_at ts c) (pairs vs ts e) (pairs_mapping vs ts e once.1 w ∙ decode_lost vs ts e w once.0) (pairs_once vs ts e once.1)

pairs_none : (vs : List Name) (ts : List Term) → pairs vs ts [] ≡ []
pairs_none [] ts = refl
pairs_none (v ∷ vs) ts = refl

pairs_drop : (vs : List Name) (ts : List Term) (e : Cells) (i : ℕ) (w : Name) → i < length vs → w ≡ get_or vs i w
    → pairs (drop i vs) ts (drop i e) ≡ pair w (value_at ts (cell e i)) ++ pairs (drop (suc i) vs) ts (drop (suc i) e)
pairs_drop [] ts e i w l is = absurd (omega arith)
pairs_drop (v ∷ vs) ts [] zero w l is = sym (pairs_none vs ts)
pairs_drop (v ∷ vs) ts (c ∷ e) zero w l is = ap (λ v. pair v (value_at ts c) ++ pairs vs ts e) (sym is)
pairs_drop (v ∷ vs) ts [] (suc i) w l is = pairs_none (drop i vs) ts ∙ sym (pairs_none (drop (suc i) vs) ts)
pairs_drop (v ∷ vs) ts (c ∷ e) (suc i) w l is = pairs_drop vs ts e i w (omega arith) is

pub pairs_more : (vs items : List Name) (ts : List Term) (e : Cells) (i : ℕ) (w x : Name) (n : Option ℕ) (o : Option Term) (xs ys : Pairs) → items ≡ vs → i < length items → w ≡ get_or items i w → x ≡ w → n ≡ cell e i
    → o ≡ value_at ts n → ys ≡ xs ++ pair x o → pairs vs ts e ≡ xs ++ pairs (drop i vs) ts (drop i e) → pairs vs ts e ≡ ys ++ pairs (drop (i + 1) vs) ts (drop (i + 1) e)
pairs_more vs items ts e i w x n o xs ys same l is named at told put all =
    let rest : Pairs = pairs (drop (suc i) vs) ts (drop (suc i) e) in
    let one : pair w (value_at ts (cell e i)) ≡ pair x o = ap (λ w. pair w (value_at ts (cell e i))) (sym named) ∙ ap (pair x) (sym (told ∙ ap (value_at ts) at)) in
    let drops : pairs (drop i vs) ts (drop i e) ≡ pair x o ++ rest =
    pairs_drop vs ts e i w (subst (λ vs. i < length vs) same l) (is ∙ ap (λ vs. get_or vs i w) same) ∙ ap (λ p. p ++ rest) one in
    let here : pairs vs ts e ≡ ys ++ rest = all ∙ ap (λ r. xs ++ r) drops ∙ sym (append_assoc xs (pair x o) rest) ∙ ap (λ ys. ys ++ rest) (sym put) in
    subst (λ k. pairs vs ts e ≡ ys ++ pairs (drop k vs) ts (drop k e)) (sym (add-one i)) here

-- the mapping that binds nothing
cell_blank : (n i : ℕ) → cell (blank n) i ≡ None
cell_blank n i = ⊎_elim (λ l. get_or-replicate n i None None l) (λ g. get_or_past (replicate n None) i None (subst (λ k. k ≤ i) (sym (length_blank n)) g)) (cases_lt i n)
  where
    length_blank : (n : ℕ) → length (blank n) ≡ n
    length_blank n = grind (arith, Rattle.std.proofs.lemmas.Grind.common_steps)

blank_env : (vs : List Name) (g : GraphValue) → IsEnv vs g (blank (length vs))
blank_env vs g = record { len = length_blank (length vs); used = λ i n h. absurd (not_none n (sym (cell_blank (length vs) i) ∙ h)) }
  where
    length_blank : (n : ℕ) → length (blank n) ≡ n
    length_blank n = grind (arith, Rattle.std.proofs.lemmas.Grind.common_steps)

blank_nothing : (vs : List Name) (ts : List Term) (n : ℕ) → EachOnce vs → (v : Name) → decode vs ts (blank n) v ≡ None
blank_nothing vs ts n once v = ⊎_elim (λ none. none)
    (λ w. let d = decoded vs ts (blank n) v w.0 once w.1 in absurd (not_none d.1 (sym (cell_blank n d.0) ∙ d.3)))
    (none_or_some (decode vs ts (blank n) v))

blank_beside : (row : Mapping) (vs : List Name) (ts : List Term) (n : ℕ) → EachOnce vs → beside row vs ts (blank n) ≡ row
blank_beside row vs ts n once = λ i v. at v i
  where
    at : (v : Name) → beside row vs ts (blank n) v ≡ row v
    at v = ⊎_elim
        (λ none. beside_open row vs ts (blank n) v none ∙ blank_nothing vs ts n once v ∙ sym none)
        (λ w. beside_row row vs ts (blank n) v w.0 w.1 ∙ sym w.1)
        (none_or_some (row v))

-- a step from it are values
step_values : (row : Mapping) (vs : List Name) (g : GraphValue) (n : ℕ) (t : Tree) (z : Cells) → EachOnce vs → IsStepBy row vs g (blank n) t z → AreValues (statements g) row t (decode vs g.terms z)
step_values row vs g n t z once s = record {
  exactly = λ v. (
    λ h.
        let b = some_in (decode vs g.terms z v) h in
        let w = decoded vs g.terms z v b.0 once b.1 in
        ⊎_elim
        (λ there. let c = some_in (cell (blank n) w.0) there in absurd (not_none c.0 (sym (cell_blank n w.0) ∙ c.1)))
        (λ (u, own, free, at).
        let same : u ≡ v = some_same u v (sym at ∙ w.2) in
        (subst (In (own_vars t)) same own, not_bound (row v) (subst (λ v. row v ≡ None) same free)))
        (s.within w.0 (in_some (cell z w.0) w.1 w.3)),
    λ h. ⊎_elim (λ taken. absurd (h.1 taken)) (λ b. b) (merge_bound row (decode vs g.terms z) v (all_meets_bind (statements g) (beside row vs g.terms z) (own_triples t) v s.meets.0 h.0)),
  );
  meets = s.meets;
}
  where
    some_same : (x y : Name) → ◌≡◌ {A = Option Name} (Some x) (Some y) → x ≡ y
    some_same x y e = cc

-- any values are a step from it
values_step : (row : Mapping) (vs : List Name) (g : GraphValue) (t : Tree) (e : Mapping) → IsNumbered g → AreListed row vs (own_vars t) → ((v : Name) → Binds e v → In (own_vars t) v) → MeetsNode (statements g) (merge row e) t
    → (z : Cells) × IsStepBy row vs g (blank (length vs)) t z
values_step row vs g t e good listed over meets =
    let step : IsStep (statements g) row t (merge row e) = record {
      keeps = λ v u h. merge_left row e v u h;
      within = λ v h. ⊎_elim inl (λ b. inr (over v b)) (merge_bound row e v h);
      meets = meets;
    } in
    let w = step_given row vs g good (blank (length vs)) t (merge row e) listed (blank_env vs g) (subst (λ b. IsStep (statements g) b t (merge row e)) (sym (blank_beside row vs g.terms (length vs) listed.once)) step) in
    (w.0, w.1)

-- what an extension gives
abbrev pub names_of : Tree → List Name
names_of t = with_names [] (own_vars t)

pub lost_values : (row : Mapping) (g : GraphValue) (t : Tree) → IsNumbered g → HasLost (names_of t) g.terms (map (pattern_in row) (own_triples t)) → NoValues (statements g) row t
lost_values row g t good lost e over agree meets =
    let listed = names_listed row (own_vars t) in
    let w = values_step row (names_of t) g t e good listed over meets in
    lost_step row (names_of t) g (blank (length (names_of t))) t w.0 good listed lost w.1

pub no_values : (row : Mapping) (g : GraphValue) (t : Tree) (shapes : List Shape) → IsNumbered g → AreShapes (names_of t) g.terms (map (pattern_in row) (own_triples t)) shapes
    → ((z : Cells) → Fits row (names_of t) g (own_conds t) shapes (blank (length (names_of t))) z → ⊥) → NoValues (statements g) row t
no_values row g t shapes good are none e over agree meets =
    let listed = names_listed row (own_vars t) in
    let w = values_step row (names_of t) g t e good listed over meets in
    let f = (step_is row (names_of t) g (blank (length (names_of t))) t w.0 shapes good listed.once are).1 w.1 in
    none w.0 (record { fills = f.0; hold = f.1 })

pub some_values : (row : Mapping) (g : GraphValue) (t : Tree) (shapes : List Shape) (z : Cells) (values : Pairs) → IsNumbered g → AreShapes (names_of t) g.terms (map (pattern_in row) (own_triples t)) shapes
    → Fits row (names_of t) g (own_conds t) shapes (blank (length (names_of t))) z → values ≡ pairs (names_of t) g.terms z → AreValues (statements g) row t (row_mapping values)
some_values row g t shapes z values good are fits is =
    let once = (names_listed row (own_vars t)).once in
    let s = (step_is row (names_of t) g (blank (length (names_of t))) t z shapes good once are).0 (fits.fills, fits.hold) in
    let mapping : row_mapping values ≡ decode (names_of t) g.terms z = ap row_mapping is ∙ (λ i v. pairs_mapping (names_of t) g.terms z once v i) in
    subst (AreValues (statements g) row t) (sym mapping) (step_values row (names_of t) g (length (names_of t)) t z once s)

-- a clause at one variant
pub match_none : {X : Type 0} (P : Type 0) (Q : X → Type 0) (o : Option X) → o ≡ None → MatchOption o P Q → P
match_none {X} P Q o e h = subst (λ o. MatchOption o P Q) e h

pub match_some : {X : Type 0} (P : Type 0) (Q : X → Type 0) (o : Option X) (x : X) → o ≡ Some x → MatchOption o P Q → Q x
match_some {X} P Q o x e h = subst (λ o. MatchOption o P Q) e h

-- a node of the program, the set of its names, and the row as it is listed
pub record AreParts (t : Node) (row listed : Pairs) (ps : List Pattern) (cs : List Cond) (none vs : List Name) : Type 0 where
  pub triples : ps ≡ (out-Node t).triples
  pub conds : cs ≡ (out-Node t).conds
  pub pairs : listed ≡ row
  pub empty : none ≡ []
  pub names : vs ≡ with_names none (all_vars ps)

own_patterns : (t : Node) (row listed : Pairs) (ps : List Pattern) (cs : List Cond) (none vs : List Name) → AreParts t row listed ps cs none vs → ps ≡ own_triples (tree_of t)
own_patterns t row listed ps cs none vs asked = asked.triples ∙ sym (ap own_triples (tree_out t))

own_names : (t : Node) (row listed : Pairs) (ps : List Pattern) (cs : List Cond) (none vs : List Name) → AreParts t row listed ps cs none vs → vs ≡ names_of (tree_of t)
own_names t row listed ps cs none vs asked = asked.names ∙ ap (λ ns. with_names ns (all_vars ps)) asked.empty ∙ ap (λ ps. with_names [] (all_vars ps)) (own_patterns t row listed ps cs none vs asked)

pub names_once : (vs none ws : List Name) → none ≡ [] → vs ≡ with_names none ws → EachOnce vs
names_once vs none ws empty names = subst EachOnce (sym (names ∙ ap (λ ns. with_names ns ws) empty)) (with_names_once [] ws tt)

pub values_once : (vs none ws : List Name) (ts : List Term) (z : Cells) (values : Pairs) → none ≡ [] → vs ≡ with_names none ws → values ≡ pairs vs ts z → NoRepeat values
values_once vs none ws ts z values empty names is = subst NoRepeat (sym is) (pairs_once vs ts z (names_once vs none ws empty names))

pub lost_node : (g : GraphValue) (t : Node) (row listed : Pairs) (ps : List Pattern) (cs : List Cond) (none vs : List Name) → IsNumbered g → AreParts t row listed ps cs none vs
    → HasLost vs g.terms (map (pattern_in (row_mapping listed)) ps) → NoValues (statements g) (row_mapping row) (tree_of t)
lost_node g t row listed ps cs none vs good asked lost =
    lost_values (row_mapping row) g (tree_of t) good
    (subst (λ vs. HasLost vs g.terms (map (pattern_in (row_mapping row)) (own_triples (tree_of t)))) (own_names t row listed ps cs none vs asked)
    (subst (λ ps. HasLost vs g.terms (map (pattern_in (row_mapping row)) ps)) (own_patterns t row listed ps cs none vs asked)
    (subst (λ row. HasLost vs g.terms (map (pattern_in (row_mapping row)) ps)) asked.pairs lost)))

shapes_node : (g : GraphValue) (t : Node) (row listed : Pairs) (ps : List Pattern) (cs : List Cond) (none vs : List Name) (shapes : List Shape) → AreParts t row listed ps cs none vs
    → AreShapes vs g.terms (map (pattern_in (row_mapping listed)) ps) shapes → AreShapes (names_of (tree_of t)) g.terms (map (pattern_in (row_mapping row)) (own_triples (tree_of t))) shapes
shapes_node g t row listed ps cs none vs shapes asked are =
    subst (λ vs. AreShapes vs g.terms (map (pattern_in (row_mapping row)) (own_triples (tree_of t))) shapes) (own_names t row listed ps cs none vs asked)
    (subst (λ ps. AreShapes vs g.terms (map (pattern_in (row_mapping row)) ps) shapes) (own_patterns t row listed ps cs none vs asked)
    (subst (λ row. AreShapes vs g.terms (map (pattern_in (row_mapping row)) ps) shapes) asked.pairs are))

-- the mappings that fit, for the node
fits_node : (g : GraphValue) (t : Node) (row listed : Pairs) (ps : List Pattern) (cs : List Cond) (none vs slice_names : List Name) (shapes slice : List Shape) (e z : Cells) → AreParts t row listed ps cs none vs
    → slice ≡ shapes → e ≡ blank (length slice_names) → slice_names ≡ vs
    → Fits (row_mapping listed) vs g cs slice e z ≡ Fits (row_mapping row) (names_of (tree_of t)) g (own_conds (tree_of t)) shapes (blank (length (names_of (tree_of t)))) z
fits_node g t row listed ps cs none vs slice_names shapes slice e z asked whole start all =
    let names = own_names t row listed ps cs none vs asked in
    let conds : cs ≡ own_conds (tree_of t) = asked.conds ∙ sym (ap own_conds (tree_out t)) in
    let from : e ≡ blank (length (names_of (tree_of t))) = start ∙ ap (λ ns. blank (length ns)) (all ∙ names) in
    λ i. Fits (row_mapping (asked.pairs i)) (names i) g (conds i) (whole i) (from i) z

pub none_node : (g : GraphValue) (t : Node) (row listed : Pairs) (ps : List Pattern) (cs : List Cond) (none vs slice_names : List Name) (shapes slice : List Shape) (e z : Cells) (b : Bool) → IsNumbered g → AreParts t row listed ps cs none vs
    → AreShapes vs g.terms (map (pattern_in (row_mapping listed)) ps) shapes → slice ≡ shapes → e ≡ blank (length slice_names) → slice_names ≡ vs → b ≡ false → IsFirst (Fits (row_mapping listed) vs g cs slice e) e b z
    → NoValues (statements g) (row_mapping row) (tree_of t)
none_node g t row listed ps cs none vs slice_names shapes slice e z b good asked are whole start all fails first =
    let never = subst (λ b. IsFirst (Fits (row_mapping listed) vs g cs slice e) e b z) fails first in
    no_values (row_mapping row) g (tree_of t) shapes good (shapes_node g t row listed ps cs none vs shapes asked are)
    (λ y f. never.1 y (subst (λ T. T) (sym (fits_node g t row listed ps cs none vs slice_names shapes slice e y asked whole start all)) f))

pub some_node : (g : GraphValue) (t : Node) (row listed : Pairs) (ps : List Pattern) (cs : List Cond) (none vs slice_names : List Name) (shapes slice : List Shape) (e z : Cells) (b : Bool) (values out : Pairs) → IsNumbered g
    → AreParts t row listed ps cs none vs → AreShapes vs g.terms (map (pattern_in (row_mapping listed)) ps) shapes → slice ≡ shapes → e ≡ blank (length slice_names) → slice_names ≡ vs → b ≡ true
    → IsFirst (Fits (row_mapping listed) vs g cs slice e) e b z → values ≡ pairs vs g.terms z → out ≡ values → AreValues (statements g) (row_mapping row) (tree_of t) (row_mapping out)
some_node g t row listed ps cs none vs slice_names shapes slice e z b values out good asked are whole start all fits first is same =
    let f = subst (λ b. IsFirst (Fits (row_mapping listed) vs g cs slice e) e b z) fits first in
    some_values (row_mapping row) g (tree_of t) shapes z out good (shapes_node g t row listed ps cs none vs shapes asked are)
    (subst (λ T. T) (fits_node g t row listed ps cs none vs slice_names shapes slice e z asked whole start all) f)
    (same ∙ is ∙ ap (λ vs. pairs vs g.terms z) (own_names t row listed ps cs none vs asked))
