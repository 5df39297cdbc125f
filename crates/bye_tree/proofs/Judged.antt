-- What the judging of a group tells of its four rules.
use Rattle.std.proofs.Common.{◌≡◌, refl, Bool, true, false, not, cond, ◌&&◌, ◌||◌, List, [], ◌∷◌, ◌++◌, Option, Some, None, ◌⊎◌, inl, inr, ⊎_elim, sym, ◌∙◌, ap, subst}
use Rattle.std.specs.List.{AllByRecursion, list_any, list_all}
use Rattle.bye_terms.specs.Members.{In}
use Rattle.bye_terms.proofs.Lists.{any_in, none_of, each_of, of_each}
use Rattle.bye_terms.proofs.Members.{all_from, all_in, in_cases, in_left, in_right}
use Rattle.bye_terms.proofs.Tests.{bool_cases, both_parts, both, not_both, not_true, not_false, one_part, second}
use Rattle.bye_table.specs.Mappings.{Name, is_in}
use Rattle.bye_table.proofs.Merging.{in_is, is_in_in, in_or_not}
use Rattle.bye_pattern.specs.declared.cond.Cond.{Cond}
use Rattle.bye_pattern.specs.declared.rule.Rule.{Rule}
use Rattle.bye_pattern.specs.declared.rule.Rule.TheVariants.{NoTriples, NoNewVariable, NotWellDesigned, UnsafeCondition}
use Rattle.bye_pattern.specs.Patterns.{Pattern, all_vars}
use Rattle.bye_pattern.specs.Conditions.{cond_vars}
use Rattle.bye_pattern.specs.Designed.{IsSafe, Keeps, IsFirstBroken, rules}
use Rattle.bye_pattern.specs.Gathered.{KeepsEach}
use Rattle.bye_tree.specs.Judging.{Alike, Stands, first_broken, has_new, is_safe, judged, may_stay, shares, stays}
use Rattle.bye_tree.specs.Names.{with_names}
use Rattle.bye_tree.proofs.Joining.{alike_names}

pub out_of : (vs : List Name) (v : Name) → is_in vs v ≡ false → In vs v → ⊥
out_of vs v e h = not_both (is_in vs v) (in_is vs v h) e

pub is_out : (vs : List Name) (v : Name) → (In vs v → ⊥) → is_in vs v ≡ false
is_out vs v n = ⊎_elim (λ e. absurd (n (is_in_in vs v e))) (λ e. e) (bool_cases (is_in vs v))

-- what the two flags and the set of a group say of it
pub record Told (empty safe : Bool) (own p : List Name) (ps : List Pattern) (cs : List Cond) : Type 0 where
  pub own_is : Alike own (all_vars ps)
  pub some : empty ≡ false → ps ≡ [] → ⊥
  pub none : empty ≡ true → ps ≡ []
  pub safe_is : safe ≡ true → AllByRecursion (IsSafe p ps) cs
  pub unsafe_is : safe ≡ false → AllByRecursion (IsSafe p ps) cs → ⊥

-- four tests that decide the rules
record Judges (K : Rule → Type 0) (empty new stay safe : Bool) : Type 0 where
  some : empty ≡ false → K NoTriples
  none : empty ≡ true → K NoTriples → ⊥
  new_is : new ≡ true → K NoNewVariable
  not_new : new ≡ false → K NoNewVariable → ⊥
  stay_is : stay ≡ true → K NotWellDesigned
  not_stay : stay ≡ false → K NotWellDesigned → ⊥
  safe_is : safe ≡ true → K UnsafeCondition
  not_safe : safe ≡ false → K UnsafeCondition → ⊥

abbrev first_of : Bool → Bool → Bool → Bool → Option Rule
first_of empty new stay safe = cond empty (Some NoTriples) (cond new (cond stay (cond safe None (Some UnsafeCondition)) (Some NotWellDesigned)) (Some NoNewVariable))

first_breaks : (K : Rule → Type 0) (empty new stay safe : Bool) (rule : Rule) → Judges K empty new stay safe → first_of empty new stay safe ≡ Some rule → IsFirstBroken K rules rule
first_breaks K true new stay safe rule j e = inl (cc, j.none refl)
first_breaks K false false stay safe rule j e = inr (j.some refl, inl (cc, j.not_new refl))
first_breaks K false true false safe rule j e = inr (j.some refl, inr (j.new_is refl, inl (cc, j.not_stay refl)))
first_breaks K false true true false rule j e = inr (j.some refl, inr (j.new_is refl, inr (j.stay_is refl, inl (cc, j.not_safe refl))))
first_breaks K false true true true rule j e = cc

all_kept : (K : Rule → Type 0) (empty new stay safe : Bool) → Judges K empty new stay safe → first_of empty new stay safe ≡ None → (rule : Rule) → K rule
all_kept K true new stay safe j e rule = cc
all_kept K false false stay safe j e rule = cc
all_kept K false true false safe j e rule = cc
all_kept K false true true false j e rule = cc
all_kept K false true true true j e NoTriples = j.some refl
all_kept K false true true true j e NoNewVariable = j.new_is refl
all_kept K false true true true j e NotWellDesigned = j.stay_is refl
all_kept K false true true true j e UnsafeCondition = j.safe_is refl

-- the tests by the sets decide them
chosen : (b c d : Bool) → b ≡ true → cond b c d ≡ true → c ≡ true
chosen b c d x e = sym (ap (λ b. cond b c d) x) ∙ e

other : (b c d : Bool) → b ≡ false → cond b c d ≡ true → d ≡ true
other b c d x e = sym (ap (λ b. cond b c d) x) ∙ e

designed : (parent above seen p a b own : List Name) (ps : List Pattern) (cs : List Cond) → Stands parent above seen p a b → Alike own (all_vars ps)
    → stays parent above seen own ≡ true → Keeps p a b ps cs NotWellDesigned
designed parent above seen p a b own ps cs s o e = (
  (λ v h k. s.parent_is.to v (is_in_in parent v
      (chosen (is_in above v) (is_in parent v) (not (is_in seen v)) (in_is above v (s.above_is.back v k)) (each_of (may_stay parent above seen) own e v (o.back v h))))),
  (λ v new k. out_of seen v
      (not_true (is_in seen v) (other (is_in above v) (is_in parent v) (not (is_in seen v)) (is_out above v (λ h. new.1 (s.above_is.to v h))) (each_of (may_stay parent above seen) own e v (o.back v new.0))))
      (s.seen_is.back v (in_right a b v k))),
)

test_kept : (parent above seen p a b : List Name) (ps : List Pattern) (cs : List Cond) → Stands parent above seen p a b → Keeps p a b ps cs NotWellDesigned
    → (v : Name) → In (all_vars ps) v → cond (is_in above v) (is_in parent v) (not (is_in seen v)) ≡ true
test_kept parent above seen p a b ps cs s k v h0 =
    ⊎_elim
    (λ e. ap (λ x. cond x (is_in parent v) (not (is_in seen v))) e ∙ in_is parent v (s.parent_is.back v (k.0 v h0 (s.above_is.to v (is_in_in above v e)))))
    (λ e. let fresh : In a v → ⊥ = λ h. out_of above v e (s.above_is.back v h) in
    ap (λ x. cond x (is_in parent v) (not (is_in seen v))) e
    ∙ ap not (is_out seen v (λ h. ⊎_elim fresh (λ h. k.1 v (h0, fresh) h) (in_cases a b v (s.seen_is.to v h)))))
    (bool_cases (is_in above v))

judges : (parent above seen p a b own : List Name) (empty safe : Bool) (ps : List Pattern) (cs : List Cond) → Stands parent above seen p a b → Told empty safe own p ps cs
    → Judges (Keeps p a b ps cs) empty (has_new above own) (stays parent above seen own) safe
judges parent above seen p a b own empty safe ps cs s t = record {
  some = t.some;
  none = λ e k. k (t.none e);
  new_is = λ e. let w = any_in (λ v. not (is_in above v)) own e in (w.0, (t.own_is.to w.0 w.1, λ h. out_of above w.0 (not_true (is_in above w.0) w.2) (s.above_is.back w.0 h)));
  not_new = λ e k. k.1.1 (s.above_is.to k.0 (is_in_in above k.0 (not_false (is_in above k.0) (none_of (λ v. not (is_in above v)) own e k.0 (t.own_is.back k.0 k.1.0)))));
  stay_is = λ e. designed parent above seen p a b own ps cs s t.own_is e;
  not_stay = λ e k. not_both (stays parent above seen own) (of_each (may_stay parent above seen) own (λ v h. test_kept parent above seen p a b ps cs s k v (t.own_is.to v h))) e;
  safe_is = t.safe_is;
  not_safe = t.unsafe_is;
}

some_pattern : (ps : List Pattern) (v : Name) → In (all_vars ps) v → ps ≡ [] → ⊥
some_pattern [] v h e = h
some_pattern (p ∷ ps) v h e = cc

-- the first test
fast_kept : (parent above seen p a b own : List Name) (empty : Bool) (ps : List Pattern) (cs : List Cond) → Stands parent above seen p a b → Told empty true own p ps cs
    → has_new seen own ≡ true → shares parent seen own ≡ true → KeepsEach p a b ps cs
fast_kept parent above seen p a b own empty ps cs s t new shared =
    let w = any_in (λ v. not (is_in seen v)) own new in
    let fresh : In seen w.0 → ⊥ = out_of seen w.0 (not_true (is_in seen w.0) w.2) in
    let share : (v : Name) → In (all_vars ps) v → In seen v → In p v = λ v h k. ⊎_elim (λ e. absurd (out_of seen v (not_true (is_in seen v) e) k)) (λ e. s.parent_is.to v (is_in_in parent v e))
    (one_part (not (is_in seen v)) (is_in parent v) (each_of (λ v. not (is_in seen v) || is_in parent v) own shared v (t.own_is.back v h))) in
    λ rule. elim rule as (λ rule. Keeps p a b ps cs rule) [
      | NoTriples ↦ some_pattern ps w.0 (t.own_is.to w.0 w.1)
      | NoNewVariable ↦ (w.0, (t.own_is.to w.0 w.1, λ h. fresh (s.seen_is.back w.0 (in_left a b w.0 h))))
      | NotWellDesigned ↦ ((λ v h k. share v h (s.seen_is.back v (in_left a b v k))), (λ v n k. n.1 (s.near v (share v n.0 (s.seen_is.back v (in_right a b v k))))))
      | UnsafeCondition ↦ t.safe_is refl
    ]

slowly : (parent above seen p a b : List Name) → Stands parent above seen p a b → Stands parent (with_names [] above) seen p a b
slowly parent above seen p a b s = record {
  near = s.near;
  parent_is = s.parent_is;
  above_is = record { to = λ v h. s.above_is.to v ((alike_names above).to v h); back = λ v h. (alike_names above).back v (s.above_is.back v h) };
  seen_is = s.seen_is;
}

pub judged_kept : (parent above seen p a b own : List Name) (empty safe : Bool) (ps : List Pattern) (cs : List Cond) → Stands parent above seen p a b → Told empty safe own p ps cs
    → judged empty safe own parent (with_names [] above) seen ≡ None → KeepsEach p a b ps cs
judged_kept parent above seen p a b own empty false ps cs s t e =
    all_kept (Keeps p a b ps cs) empty (has_new (with_names [] above) own) (stays parent (with_names [] above) seen own) false
    (judges parent (with_names [] above) seen p a b own empty false ps cs (slowly parent above seen p a b s) t) e
judged_kept parent above seen p a b own empty true ps cs s t e =
    ⊎_elim
    (λ q. let w = both_parts (has_new seen own) (shares parent seen own) q in fast_kept parent above seen p a b own empty ps cs s t w.0 w.1)
    (λ q. all_kept (Keeps p a b ps cs) empty (has_new (with_names [] above) own) (stays parent (with_names [] above) seen own) true
    (judges parent (with_names [] above) seen p a b own empty true ps cs (slowly parent above seen p a b s) t)
    (sym (ap (λ x. cond x None (first_broken empty true own parent (with_names [] above) seen)) q) ∙ e))
    (bool_cases (has_new seen own && shares parent seen own))

not_fast : (x : Bool) (first : Option Rule) (rule : Rule) → cond x None first ≡ Some rule → first ≡ Some rule
not_fast true first rule e = cc
not_fast false first rule e = e

pub judged_broken : (parent above seen p a b own : List Name) (empty safe : Bool) (ps : List Pattern) (cs : List Cond) (rule : Rule) → Stands parent above seen p a b → Told empty safe own p ps cs
    → judged empty safe own parent (with_names [] above) seen ≡ Some rule → IsFirstBroken (Keeps p a b ps cs) rules rule
judged_broken parent above seen p a b own empty safe ps cs rule s t e =
    first_breaks (Keeps p a b ps cs) empty (has_new (with_names [] above) own) (stays parent (with_names [] above) seen own) safe rule
    (judges parent (with_names [] above) seen p a b own empty safe ps cs (slowly parent above seen p a b s) t)
    (not_fast (safe && (has_new seen own && shares parent seen own)) (first_broken empty safe own parent (with_names [] above) seen) rule e)

-- the conditions, as they are tested
test_safe : (parent p own : List Name) (ps : List Pattern) (c : Cond) → Alike parent p → Alike own (all_vars ps) → is_safe parent own c ≡ true → IsSafe p ps c
test_safe parent p own ps c q o e v h =
    ⊎_elim (λ k. inl (o.to v (is_in_in own v k))) (λ k. inr (q.to v (is_in_in parent v k)))
    (one_part (is_in own v) (is_in parent v) (each_of (λ v. is_in own v || is_in parent v) (cond_vars c) e v h))

safe_test : (parent p own : List Name) (ps : List Pattern) (c : Cond) → Alike parent p → Alike own (all_vars ps) → IsSafe p ps c → is_safe parent own c ≡ true
safe_test parent p own ps c q o s = of_each (λ v. is_in own v || is_in parent v) (cond_vars c) (λ v h.
    ⊎_elim (λ k. ap (λ x. x || is_in parent v) (in_is own v (o.back v k))) (λ k. second (is_in own v) (is_in parent v) (in_is parent v (q.back v k))) (s v h))

-- a group whose conditions are tested
pub tested : (empty : Bool) (parent own p : List Name) (ps : List Pattern) (cs : List Cond) → Alike parent p → Alike own (all_vars ps)
    → (empty ≡ false → ps ≡ [] → ⊥) → (empty ≡ true → ps ≡ []) → Told empty (list_all (is_safe parent own) cs) own p ps cs
tested empty parent own p ps cs q o some none = record {
  own_is = o;
  some = some;
  none = none;
  safe_is = λ e. all_from (IsSafe p ps) cs (λ c h. test_safe parent p own ps c q o (each_of (is_safe parent own) cs e c h));
  unsafe_is = λ e all. not_both (list_all (is_safe parent own) cs) (of_each (is_safe parent own) cs (λ c h. safe_test parent p own ps c q o (all_in (IsSafe p ps) cs c all h))) e;
}
