-- What the tests of meeting and of covering tell.
use Rattle.std.proofs.Common.{◌≡◌, refl, map, Bool, true, false, cond, not, ◌||◌, List, [], ◌∷◌, ◌++◌, Option, Some, None, inl, inr, ⊎_elim, sym, ◌∙◌, ap, subst, ◌↔◌}
use Rattle.std.specs.Prelude.{find}
use Rattle.std.specs.List.{AllByRecursion, filter}
use Rattle.std.proofs.lemmas.Slice.Eq.{bytes_eq-Decides}
use Rattle.bye_terms.specs.declared.term.Term.{Term}
use Rattle.bye_terms.specs.Terms.{Statement, IsTriple}
use Rattle.bye_terms.specs.Members.{In, EachOnce}
use Rattle.bye_terms.proofs.Tests.{both_parts, both, one_part, second, not_false}
use Rattle.bye_terms.proofs.Lists.{any_in, each_of, filtered, in_any, in_filtered, in_map, map_in, of_each}
use Rattle.bye_terms.proofs.Members.{in_cases, in_left, in_right, all_in, all_from}
use Rattle.bye_pattern.specs.declared.slot.Slot.{Slot}
use Rattle.bye_pattern.specs.declared.slot.Slot.TheVariants.{Var, Const}
use Rattle.bye_table.specs.Mappings.{Name, Mapping, Pairs, row_mapping, NoRepeat, Exactly}
use Rattle.bye_pattern.specs.Patterns.{Pattern, slot_under, slot_vars, vars, Becomes, Meets}
use Rattle.bye_pattern.specs.Candidates.{candidates}
use Rattle.bye_pattern.specs.Meeting as test
use Rattle.bye_pattern.specs.Covering.{is_named, contains, covers}
use Rattle.bye_pattern.specs.Common.{IsCovered, IsUncovered}
use Rattle.bye_pattern.specs.TrialOrder.{IsInTrialOrder}
use Rattle.bye_pattern.specs.Learning.{IsStrongest}
use Rattle.bye_pattern.proofs.SameTerms.{terms_same, same_self}
use Rattle.bye_pattern.proofs.Solutions.{meets_binds}
use Rattle.bye_pattern.proofs.Standing.{candidate_meets, meets_candidate}

-- the test of a row and a pattern
gives_some : (o : Option Term) (t : Term) → test.gives o t ≡ true → o ≡ Some t
gives_some None t e = cc
gives_some (Some s) t e = ap Some (terms_same s t e)

some_gives : (o : Option Term) (t : Term) → o ≡ Some t → test.gives o t ≡ true
some_gives o t e = ap (λ o. test.gives o t) e ∙ same_self t

becomes_true : (m : Mapping) (p : Pattern) (f : Statement) → test.becomes m p f ≡ true → Becomes m p f
becomes_true m p f e =
    let w = both_parts _ _ e in
    let u = both_parts _ _ w.0 in
    record { s = gives_some (slot_under m p.s) f.s u.0; p = gives_some (slot_under m p.p) f.p u.1; o = gives_some (slot_under m p.o) f.o w.1 }

true_becomes : (m : Mapping) (p : Pattern) (f : Statement) → Becomes m p f → test.becomes m p f ≡ true
true_becomes m p f h = both _ _ (both _ _ (some_gives _ _ h.s) (some_gives _ _ h.p)) (some_gives _ _ h.o)

pub meets_true : (g : List Statement) (p : Pattern) (row : Pairs) → test.meets g p row ≡ true → Meets g (row_mapping row) p
meets_true g p row e = let w = any_in (test.becomes (row_mapping row) p) g e in (w.0, w.1, becomes_true (row_mapping row) p w.0 w.2)

pub true_meets : (g : List Statement) (p : Pattern) (row : Pairs) → Meets g (row_mapping row) p → test.meets g p row ≡ true
true_meets g p row (f, inside, is) = in_any (test.becomes (row_mapping row) p) g f inside (true_becomes (row_mapping row) p f is)

-- the patterns that the learner keeps are those of the definition
pub strongest : (g : List Statement) (vs : List Name) (rows : List Pairs) (first : Pairs) (kept ps : List Pattern) → AllByRecursion IsTriple g → AllByRecursion (Exactly vs) (map row_mapping rows)
    → In rows first → NoRepeat first → kept ≡ filter (test.meets_all g rows) (candidates first g)
    → ((p : Pattern) → In ps p ↔ In kept p) → EachOnce ps → IsInTrialOrder ps → IsStrongest g vs (map row_mapping rows) ps
strongest g vs rows first kept ps triples bound inside no_repeat is same once sorted = record {
  members = λ p. (
    (λ h.
        let w = filtered (test.meets_all g rows) (candidates first g) p (subst (λ xs. In xs p) is ((same p).0 h)) in
        let c = candidate_meets first g p no_repeat w.0 in
        record {
          in_class = c.0;
          over = λ v k. ((all_in (Exactly vs) (map row_mapping rows) (row_mapping first) bound (map_in row_mapping rows first inside)) v).0 (meets_binds g (row_mapping first) p v c.1 k);
          holds = all_from (λ m. Meets g m p) (map row_mapping rows) (λ m k.
              let r = in_map row_mapping rows m k in
              subst (λ m. Meets g m p) r.2 (meets_true g p r.0 (each_of (test.meets g p) rows w.1 r.0 r.1)));
        }),
    (λ h. (same p).1 (subst (λ xs. In xs p) (sym is) (in_filtered (test.meets_all g rows) (candidates first g) p
        (meets_candidate first g p triples h.in_class (all_in (λ m. Meets g m p) (map row_mapping rows) (row_mapping first) h.holds (map_in row_mapping rows first inside)))
        (of_each (test.meets g p) rows (λ row k. true_meets g p row (all_in (λ m. Meets g m p) (map row_mapping rows) (row_mapping row) h.holds (map_in row_mapping rows row k))))))),
  );
  once = once;
  sorted = sorted;
}

-- the test of a variable in a pattern
named_in : (s : Slot) (v : Name) → is_named s v ≡ true → In (slot_vars s) v
named_in (Var w) v e = inl ((bytes_eq-Decides w v).0 e)
named_in (Const c) v e = cc

in_named : (s : Slot) (v : Name) → In (slot_vars s) v → is_named s v ≡ true
in_named (Var w) v (inl e) = (bytes_eq-Decides w v).1 e
in_named (Var w) v (inr h) = absurd h
in_named (Const c) v h = absurd h

pub contains_in_vars : (p : Pattern) (v : Name) → contains v p ≡ true → In (vars p) v
contains_in_vars p v e =
    ⊎_elim (λ e. ⊎_elim (λ e. in_left _ _ v (in_left _ _ v (named_in p.s v e))) (λ e. in_left _ _ v (in_right (slot_vars p.s) _ v (named_in p.p v e))) (one_part _ _ e))
    (λ e. in_right (slot_vars p.s ++ slot_vars p.p) _ v (named_in p.o v e)) (one_part _ _ e)

pub in_vars_contains : (p : Pattern) (v : Name) → In (vars p) v → contains v p ≡ true
in_vars_contains p v h =
    ⊎_elim (λ h. ⊎_elim (λ h. ap (λ b. b || is_named p.p v || is_named p.o v) (in_named p.s v h)) (λ h. ap (λ b. b || is_named p.o v) (second (is_named p.s v) _ (in_named p.p v h))) (in_cases (slot_vars p.s) _ v h))
    (λ h. second (is_named p.s v || is_named p.p v) _ (in_named p.o v h)) (in_cases (slot_vars p.s ++ slot_vars p.p) _ v h)

pub covered_by : (g : List Statement) (vs : List Name) (rows : List Mapping) (ps : List Pattern) (v : Name) → IsStrongest g vs rows ps → covers ps v ≡ true → IsCovered g vs rows v
covered_by g vs rows ps v all e = let w = any_in (contains v) ps e in (w.0, (all.members w.0).0 w.1, contains_in_vars w.0 v w.2)

pub uncovered_by : (g : List Statement) (vs : List Name) (rows : List Mapping) (ps : List Pattern) (v : Name) → IsStrongest g vs rows ps → covers ps v ≡ false → IsUncovered g vs rows v
uncovered_by g vs rows ps v all e p common h =
    let there = in_any (contains v) ps p ((all.members p).1 common) (in_vars_contains p v h) in cc

-- where no variable is found that the patterns lack, they contain each
none_here : (f : Name → Bool) (y : Name) (xs : List Name) (x : Name) (b : Bool) → f y ≡ b → (find f xs ≡ None → In xs x → f x ≡ false) → cond b (Some y) (find f xs) ≡ None → In (y ∷ xs) x → f x ≡ false
none_here f y xs x true k later e h = cc
none_here f y xs x false k later e (inl same) = sym (ap f same) ∙ k
none_here f y xs x false k later e (inr h) = later e h

pub none_found : (f : Name → Bool) (xs : List Name) → find f xs ≡ None → (x : Name) → In xs x → f x ≡ false
none_found f [] e x h = absurd h
none_found f (y ∷ xs) e x h = none_here f y xs x (f y) refl (λ e. none_found f xs e x) e h

pub all_covered : (g : List Statement) (vs : List Name) (rows : List Mapping) (ps : List Pattern) → IsStrongest g vs rows ps → find (λ v. not (covers ps v)) vs ≡ None
    → (x : Name) → In vs x → IsCovered g vs rows x
all_covered g vs rows ps all e x h = covered_by g vs rows ps x all (not_false (covers ps x) (none_found (λ v. not (covers ps v)) vs e x h))
