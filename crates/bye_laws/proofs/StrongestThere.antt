-- The strongest node over a header is there: it is decided which of finitely many patterns and conditions are common, and these have a list in order.
use Rattle.std.proofs.Common.{◌≡◌, refl, true, false, List, [], ◌∷◌, ◌++◌, Some, ◌⊎◌, inl, inr, ⊎_elim, sym, ◌∙◌, subst, ◌↔◌}
use Rattle.std.specs.List.{AllByRecursion, flat_map}
use Rattle.bye_terms.specs.Members.{EachOnce, In}
use Rattle.bye_terms.specs.Names.{is_name}
use Rattle.bye_terms.specs.Terms.{Statement, is_blank}
use Rattle.bye_terms.specs.Valid.{IsTerm}
use Rattle.bye_terms.specs.declared.term.Term.{Term}
use Rattle.bye_terms.proofs.Members.{all_from, all_in, in_left, in_right}
use Rattle.bye_table.specs.Domains.{IsBefore}
use Rattle.bye_table.specs.Mappings.{Mapping, Name}
use Rattle.bye_table.proofs.Merging.{in_or_not, some_same}
use Rattle.bye_pattern.specs.declared.cond.Cond.{Cond}
use Rattle.bye_pattern.specs.declared.cond.Cond.TheVariants as conds
use Rattle.bye_pattern.specs.declared.level.Level.{Level}
use Rattle.bye_pattern.specs.declared.level.Level.TheVariants.{One, Two}
use Rattle.bye_pattern.specs.declared.slot.Slot.{Slot}
use Rattle.bye_pattern.specs.declared.slot.Slot.TheVariants.{Var, Const}
use Rattle.bye_pattern.specs.Classes.{IsClassCond, IsClassTriple}
use Rattle.bye_pattern.specs.Common.{IsCommon, IsCommonCond}
use Rattle.bye_pattern.specs.Conditions.{Holds, cond_vars}
use Rattle.bye_pattern.specs.Conjuncts.{MeetsCond}
use Rattle.bye_pattern.specs.Patterns.{IsNamed, Meets, Pattern, slot_under, slot_vars, vars}
use Rattle.bye_pattern.specs.Starting.{AreInTrialOrder, IsInForm}
use Rattle.bye_pattern.specs.TrialOrder.{IsInStrictOrder}
use Rattle.bye_pattern.proofs.Standing.{predicate_place, subject_place}
use Rattle.bye_laws.specs.Ordering.{IsValidPattern, IsValidSlot}
use Rattle.bye_laws.specs.Strongest.{AreNames, IsStrongestNode, IsValidTriple}
use Rattle.bye_laws.proofs.AllConjuncts.{cond_in, cond_shapes, same_of, shape_in, shapes}
use Rattle.bye_laws.proofs.Decided.{all_or_not, both_or_not, each_or_not, either_or_not, meets_or_not, met_or_not, picked, same_decided, test_or_not}
use Rattle.bye_laws.proofs.DomainTrees.{same_or_not}
use Rattle.bye_laws.proofs.Examples.{some_row}
use Rattle.bye_laws.proofs.SortedLists.{ordered_conditions, strict_patterns}

-- a place is named or is not
named_or_not : (s : Slot) → IsNamed s ⊎ (IsNamed s → ⊥)
named_or_not (Var v) = inl tt
named_or_not (Const c) = test_or_not (is_blank c) false

-- some name is in a list or none is
some_name : (vs : List Name) → ((v : Name) × In vs v) ⊎ (((v : Name) × In vs v) → ⊥)
some_name [] = inr (λ h. h.1)
some_name (v ∷ vs) = inl (v, inl refl)

-- a pattern is of the class or is not
pub triple_or_not : (p : Pattern) → IsClassTriple p ⊎ (IsClassTriple p → ⊥)
triple_or_not p =
    same_decided (λ h. record { variable = h.0; subject = h.1.0; predicate = h.1.1.0; object = h.1.1.1 }) (λ c. (c.variable, (c.subject, (c.predicate, c.object))))
    (both_or_not (some_name (vars p)) (both_or_not (named_or_not p.s) (both_or_not (named_or_not p.p) (named_or_not p.o))))

-- and is common or is not
pub common_or_not : (g : List Statement) (header : List Name) (rows : List Mapping) (p : Pattern) → IsCommon g header rows p ⊎ (IsCommon g header rows p → ⊥)
common_or_not g header rows p =
    same_decided (λ h. record { in_class = h.0; over = h.1.0; holds = h.1.1 }) (λ c. (c.in_class, (c.over, c.holds)))
    (both_or_not (triple_or_not p) (both_or_not (each_or_not (In header) (in_or_not header) (vars p)) (all_or_not (λ m. Meets g m p) (λ m. meets_or_not g m p) rows)))

-- a condition is of the class or is not
pub class_or_not : (level : Level) (c : Cond) → IsClassCond level c ⊎ (IsClassCond level c → ⊥)
class_or_not level (conds.Bound v) = inl tt
class_or_not level (conds.SameVar v w) = ⊎_elim (λ e. inr (λ n. n e)) (λ n. inl n) (same_or_not v w)
class_or_not level (conds.SameConst v c) = test_or_not (is_blank c) false
class_or_not One (conds.KindOf kind v) = inr (λ h. h)
class_or_not Two (conds.KindOf kind v) = inl tt

-- a variable stands before another one or does not
before_or_not : (xs : List Name) (v w : Name) → IsBefore xs v w ⊎ (IsBefore xs v w → ⊥)
before_or_not [] v w = inr (λ h. h)
before_or_not (x ∷ xs) v w = either_or_not (both_or_not (same_or_not x v) (in_or_not xs w)) (before_or_not xs v w)

-- a condition is in form or is not
form_or_not : (header : List Name) (c : Cond) → IsInForm header c ⊎ (IsInForm header c → ⊥)
form_or_not header (conds.Bound v) = inl tt
form_or_not header (conds.SameVar v w) = before_or_not header v w
form_or_not header (conds.SameConst v c) = inl tt
form_or_not header (conds.KindOf kind v) = inl tt

-- and is common or is not
pub common_cond_or_not : (level : Level) (header : List Name) (rows : List Mapping) (c : Cond) → IsCommonCond level header rows c ⊎ (IsCommonCond level header rows c → ⊥)
common_cond_or_not level header rows c =
    same_decided (λ h. record { in_class = h.0; over = h.1.0; holds = h.1.1 }) (λ c. (c.in_class, (c.over, c.holds)))
    (both_or_not (class_or_not level c) (both_or_not (each_or_not (In header) (in_or_not header) (cond_vars c)) (all_or_not (λ m. MeetsCond m c) (λ m. met_or_not m c) rows)))

-- a place of a pattern that a row meets is valid
valid_slot : (m : Mapping) (s : Slot) (t : Term) → ((v : Name) → In (slot_vars s) v → is_name v ≡ true) → IsTerm t → slot_under m s ≡ Some t → IsValidSlot s
valid_slot m (Var v) t named valid e = named v (inl refl)
valid_slot m (Const c) t named valid e = subst IsTerm (sym (some_same e)) valid

-- and so is the pattern
valid_pattern : (g : List Statement) (header : List Name) (rows : List Mapping) (m : Mapping) (p : Pattern) → AreNames header → AllByRecursion IsValidTriple g → In rows m
    → IsCommon g header rows p → IsValidPattern p
valid_pattern g header rows m p names triples row common =
    let (f, there, is) = all_in (λ m. Meets g m p) rows m common.holds row in
    let t = all_in IsValidTriple g f triples there in
    let named : (v : Name) → In (vars p) v → is_name v ≡ true = λ v h. all_in (λ v. is_name v ≡ true) header v names (common.over v h) in
    record {
      subject = valid_slot m p.s f.s (λ v h. named v (in_left _ _ v (in_left _ _ v h))) t.subject is.s;
      predicate = valid_slot m p.p f.p (λ v h. named v (in_left _ _ v (in_right (slot_vars p.s) _ v h))) t.predicate is.p;
      object = valid_slot m p.o f.o (λ v h. named v (in_right (slot_vars p.s ++ slot_vars p.p) _ v h)) t.object is.o;
      subject_place = subject_place m p.s f.s common.in_class.subject t.triple.0 is.s;
      predicate_place = predicate_place m p.p f.p t.triple.1 is.p;
    }

-- the common patterns have a list in strict order
patterns_there : (g : List Statement) (header : List Name) (rows : List Mapping) (m : Mapping) → AreNames header → AllByRecursion IsValidTriple g → In rows m
    → (ps : List Pattern) × IsInStrictOrder ps × ((p : Pattern) → In ps p ↔ IsCommon g header rows p)
patterns_there g header rows m names triples row =
    let some = picked (IsCommon g header rows) (common_or_not g header rows) (flat_map (shapes header) g) in
    let w = strict_patterns some.0 (all_from IsValidPattern some.0 (λ p h. valid_pattern g header rows m p names triples row ((some.1 p).0 h).1)) in (
      w.0,
      w.1,
      λ p. (
        (λ h. ((some.1 p).0 ((w.2 p).0 h)).1),
        (λ common. (w.2 p).1 ((some.1 p).1 (shape_in header m g p common.over (all_in (λ m. Meets g m p) rows m common.holds row), common))),
      ),
    )

-- the common conditions have a list in the order of trial
conditions_there : (level : Level) (header : List Name) (rows : List Mapping) (m : Mapping) → EachOnce header → In rows m
    → (cs : List Cond) × AreInTrialOrder header cs × ((c : Cond) → In cs c ↔ (IsCommonCond level header rows c × IsInForm header c))
conditions_there level header rows m once row =
    let some = picked (λ c. IsCommonCond level header rows c × IsInForm header c) (λ c. both_or_not (common_cond_or_not level header rows c) (form_or_not header c)) (cond_shapes header m) in
    let met : (c : Cond) → In some.0 c → Holds m c = λ c h. (all_in (λ m. MeetsCond m c) rows m ((some.1 c).0 h).1.0.holds row).1 in
    let w = ordered_conditions header some.0 once (record {
      over = λ c h. ((some.1 c).0 h).1.0.over;
      one_constant = λ v s t h k. some_same (sym (same_of (m v) s (met (conds.SameConst v s) h)) ∙ same_of (m v) t (met (conds.SameConst v t) k));
    }) in (
      w.0,
      w.1,
      λ c. (
        (λ h. ((some.1 c).0 ((w.2 c).0 h)).1),
        (λ common. (w.2 c).1 ((some.1 c).1 (cond_in header m c common.0.over (all_in (λ m. MeetsCond m c) rows m common.0.holds row).1, common))),
      ),
    )

-- so there is the strongest node
pub strongest_there : (level : Level) (g : List Statement) (header : List Name) (rows : List Mapping) → EachOnce header → AreNames header → AllByRecursion IsValidTriple g
    → (rows ≡ [] → ⊥) → (ps : List Pattern) × (cs : List Cond) × IsStrongestNode level g header rows ps cs
strongest_there level g header rows once names triples some =
    let row = some_row rows some in
    let ps = patterns_there g header rows row.0 names triples row.1 in
    let cs = conditions_there level header rows row.0 once row.1 in
    (ps.0, cs.0, record { triples = ps.2; sorted = ps.1; conditions = cs.2; conditions_sorted = cs.1 })
