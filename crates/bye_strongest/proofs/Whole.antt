-- The patterns of the candidates that hold in all rows are the common ones, and the node has them and the common conditions.
use Rattle.std.proofs.Common.{◌≡◌, refl, ◌<◌, List, [], ◌∷◌, map, Option, Some, None, inl, inr, ◌↔◌, sym, ap, subst, length, arith}
use Rattle.std.specs.List.{AllByRecursion, flat_map}
use Rattle.bye_terms.specs.declared.term.Term.{Term}
use Rattle.bye_terms.specs.Members.{EachOnce, In}
use Rattle.bye_terms.specs.Terms.{IsTriple, Statement}
use Rattle.bye_terms.proofs.Lists.{in_map, map_in}
use Rattle.bye_terms.proofs.Members.{all_from, all_in, flat_in, in_flat}
use Rattle.bye_table.specs.Cells.{cells_of}
use Rattle.bye_table.specs.Mappings.{Name, Pairs, row_mapping}
use Rattle.bye_pattern.specs.declared.cond.Cond.{Cond}
use Rattle.bye_pattern.specs.declared.level.Level.{Level}
use Rattle.bye_pattern.specs.declared.slot.Slot.{Slot}
use Rattle.bye_pattern.specs.declared.slot.Slot.TheVariants.{Var, Const}
use Rattle.bye_pattern.specs.Common.{IsCommon}
use Rattle.bye_pattern.specs.Patterns.{Meets, Pattern, slot_vars}
use Rattle.bye_pattern.specs.Starting.{AreInTrialOrder}
use Rattle.bye_pattern.specs.Trees.{Tree, leaf, node}
use Rattle.bye_pattern.specs.TrialOrder.{IsInStrictOrder}
use Rattle.bye_pattern.proofs.Solutions.{var_cases}
use Rattle.bye_pattern.proofs.Standing.{predicate_place, subject_place}
use Rattle.bye_graph.specs.Graphs.{GraphValue, IsNumbered, statements}
use Rattle.bye_strongest.specs.declared.shape.Place.{Place}
use Rattle.bye_strongest.specs.declared.shape.Place.TheVariants.{Hole, Fixed}
use Rattle.bye_strongest.specs.Candidates.{IsCandidate}
use Rattle.bye_strongest.specs.Conds as conditions
use Rattle.bye_strongest.specs.Numbers.{AreNumberedRows, AreNumbers, Cells, MeetsEach, MeetsShape, Shape}
use Rattle.bye_strongest.specs.Patterns.{listed, pattern_of, patterns_of}
use Rattle.bye_strongest.specs.Strongest.{AreCommon, IsStrongestTree}
use Rattle.bye_strongest.proofs.ConditionLists.{common_complete, common_sorted, common_sound}
use Rattle.bye_strongest.proofs.Finding.{candidate_for, candidate_hole, shape_variable}
use Rattle.bye_strongest.proofs.Places.{IsPlace, got_in, meets_shape, pattern_shape, shape_meets, shape_pattern}

-- a row and its numbers
row_for : (terms : List Term) (vs : List Name) (rows : List Pairs) (es : List Cells) (e : Cells) → AreNumberedRows terms vs rows es → In es e
    → (row : Pairs) × In rows row × AreNumbers terms (cells_of vs (row_mapping row)) e
row_for terms vs [] [] e all h = absurd h
row_for terms vs [] (f ∷ es) e all h = absurd all
row_for terms vs (row ∷ rows) [] e all h = absurd h
row_for terms vs (row ∷ rows) (f ∷ es) e all (inl same) = (row, inl refl, subst (AreNumbers terms (cells_of vs (row_mapping row))) same all.0)
row_for terms vs (row ∷ rows) (f ∷ es) e all (inr h) = let w = row_for terms vs rows es e all.1 h in (w.0, inr w.1, w.2)

numbers_for : (terms : List Term) (vs : List Name) (rows : List Pairs) (es : List Cells) (row : Pairs) → AreNumberedRows terms vs rows es → In rows row
    → (e : Cells) × In es e × AreNumbers terms (cells_of vs (row_mapping row)) e
numbers_for terms vs [] es row all h = absurd h
numbers_for terms vs (r ∷ rows) [] row all h = absurd all
numbers_for terms vs (r ∷ rows) (e ∷ es) row all (inl same) = (e, inl refl, subst (λ row. AreNumbers terms (cells_of vs (row_mapping row)) e) same all.0)
numbers_for terms vs (r ∷ rows) (e ∷ es) row all (inr h) = let w = numbers_for terms vs rows es row all.1 h in (w.0, inr w.1, w.2)

-- there is a numbered row where there is a row
pub some_numbered : (terms : List Term) (vs : List Name) (rows : List Pairs) (es slice : List Cells) → AreNumberedRows terms vs rows es → slice ≡ es → 0 < length rows → 0 < length slice
some_numbered terms vs [] es slice all same some = absurd (omega (arith, some))
some_numbered terms vs (row ∷ rows) [] slice all same some = absurd all
some_numbered terms vs (row ∷ rows) (e ∷ es) slice all same some = subst (λ es. 0 < length es) (sym same) (omega arith)

-- the variables of a pattern that has a shape are among those of the rows
slot_over : (vs : List Name) (terms : List Term) (s : Slot) (place : Place) (v : Name) → IsPlace vs terms s place → In (slot_vars s) v → In vs v
slot_over vs terms (Var w) (Hole i) v is (inl e) = subst (In vs) e (got_in vs i w is)
slot_over vs terms (Var w) (Hole i) v is (inr h) = absurd h
slot_over vs terms (Var w) (Fixed n) v is h = absurd is
slot_over vs terms (Const c) place v is h = absurd h

in_listed : (o : Option Pattern) (p : Pattern) → In (listed o) p → o ≡ Some p
in_listed None p h = absurd h
in_listed (Some q) p (inl e) = ap Some e
in_listed (Some q) p (inr h) = absurd h

-- what the steps of the search give
pub record AreFound (g : GraphValue) (vs : List Name) (rows : List Pairs) (es : List Cells) (first : Cells) (shapes kept : List Shape) (ps out : List Pattern) : Type 0 where
  pub good : IsNumbered g
  pub numbered : AreNumberedRows g.terms vs rows es
  pub there : In es first
  pub candidates : (shape : Shape) → In shapes shape ↔ IsCandidate g first shape
  pub common : (shape : Shape) → In kept shape ↔ (In shapes shape × MeetsEach g.keys es shape)
  pub patterns : ps ≡ flat_map (patterns_of vs g.terms) kept
  pub same : (p : Pattern) → In out p ↔ In ps p

found_sound : (g : GraphValue) (vs : List Name) (rows : List Pairs) (es : List Cells) (first : Cells) (shapes kept : List Shape) (ps out : List Pattern) → AreFound g vs rows es first shapes kept ps out
    → (p : Pattern) → In out p → IsCommon (statements g) vs (map row_mapping rows) p
found_sound g vs rows es first shapes kept ps out found p h =
    let (shape, inside, listed) = in_flat (patterns_of vs g.terms) kept p (subst (λ ps. In ps p) found.patterns ((found.same p).0 h)) in
    let class = pattern_shape vs g.terms shape p (in_listed (pattern_of vs g.terms shape) p listed) in
    let held = (found.common shape).0 inside in
    record {
      in_class = record {
        variable = shape_variable vs g.terms p shape class.is (candidate_hole g first shape ((found.candidates shape).0 held.0));
        subject = class.subject;
        predicate = class.predicate;
        object = class.object;
      };
      over = λ v k. var_cases p v k (slot_over vs g.terms p.s shape.s v class.is.s) (slot_over vs g.terms p.p shape.p v class.is.p) (slot_over vs g.terms p.o shape.o v class.is.o);
      holds = all_from (λ m. Meets (statements g) m p) (map row_mapping rows) (λ m k.
          let (row, there, is) = in_map row_mapping rows m k in
          let (e, listed, numbers) = numbers_for g.terms vs rows es row found.numbered there in
          subst (λ m. Meets (statements g) m p) is (shape_meets g (row_mapping row) vs e p shape numbers class.is (all_in (MeetsShape g.keys shape) es e held.1 listed)));
    }

found_complete : (g : GraphValue) (vs : List Name) (rows : List Pairs) (es : List Cells) (first : Cells) (shapes kept : List Shape) (ps out : List Pattern) → AreFound g vs rows es first shapes kept ps out
    → AllByRecursion IsTriple (statements g) → (p : Pattern) → IsCommon (statements g) vs (map row_mapping rows) p → In out p
found_complete g vs rows es first shapes kept ps out found triples p common =
    let at : (row : Pairs) → In rows row → Meets (statements g) (row_mapping row) p = λ row k. all_in (λ m. Meets (statements g) m p) (map row_mapping rows) (row_mapping row) common.holds (map_in row_mapping rows row k) in
    let (row, there, numbers) = row_for g.terms vs rows es first found.numbered found.there in
    let (shape, candidate, class) = candidate_for g (row_mapping row) vs first p found.good numbers common.in_class common.over (at row there) in
    let (f, inside, becomes) = at row there in
    let triple = all_in IsTriple (statements g) f triples inside in
    let held : MeetsEach g.keys es shape = all_from (MeetsShape g.keys shape) es (λ e k.
    let (row, there, numbers) = row_for g.terms vs rows es e found.numbered k in
    meets_shape g (row_mapping row) vs e p shape found.good numbers class.is (at row there)) in
    let is : pattern_of vs g.terms shape ≡ Some p =
    shape_pattern vs g.terms shape p class (subject_place (row_mapping row) p.s f.s common.in_class.subject triple.0 becomes.s) (predicate_place (row_mapping row) p.p f.p triple.1 becomes.p) in
    (found.same p).1 (subst (λ ps. In ps p) (sym found.patterns)
    (flat_in (patterns_of vs g.terms) kept shape p ((found.common shape).1 ((found.candidates shape).1 candidate, held)) (subst (λ o. In (listed o) p) (sym is) (inl refl))))

pub found_common : (g : GraphValue) (vs : List Name) (rows : List Pairs) (es : List Cells) (first : Cells) (shapes kept : List Shape) (ps out : List Pattern) → AreFound g vs rows es first shapes kept ps out
    → AllByRecursion IsTriple (statements g) → AreCommon (statements g) vs (map row_mapping rows) out
found_common g vs rows es first shapes kept ps out found triples p = (
  found_sound g vs rows es first shapes kept ps out found p,
  found_complete g vs rows es first shapes kept ps out found triples p,
)

-- the node
pub whole : (level : Level) (g : List Statement) (vs : List Name) (rows : List Pairs) (row : Pairs) (ps : List Pattern) (cs : List Cond) (t : Tree) → EachOnce vs → In rows row
    → (AllByRecursion IsTriple g → AreCommon g vs (map row_mapping rows) ps) → IsInStrictOrder ps → cs ≡ conditions.common level vs rows row → t ≡ node ps cs leaf
    → AllByRecursion IsTriple g → IsStrongestTree level g vs (map row_mapping rows) t
whole level g vs rows row ps cs t once there triples sorted is made valid =
    subst (IsStrongestTree level g vs (map row_mapping rows)) (sym made) (
      refl,
      record {
        triples = triples valid;
        sorted = sorted;
        conditions = λ c. (
          (λ h. common_sound level vs rows row c once (subst (λ cs. In cs c) is h)),
          (λ h. subst (λ cs. In cs c) (sym is) (common_complete level vs rows row c there h.0 h.1)),
        );
        conditions_sorted = subst (AreInTrialOrder vs) (sym is) (common_sorted level vs rows row);
      },
    )
