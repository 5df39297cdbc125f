-- The walk over the elements of a written group, and what it tells of the group.
use Rattle.std.proofs.Common.{◌≡◌, refl, ℕ, ◌+◌, Bool, true, false, ◌||◌, List, [], ◌∷◌, ◌++◌, Option, Some, None, ⊎_elim, inl, inr, sym, ◌∙◌, ap, subst, reverse}
use Rattle.std.specs.List.{AllByRecursion, list_all}
use Rattle.std.proofs.lemmas.List.{append_assoc, reverse-append}
use Rattle.bye_terms.specs.Members.{In}
use Rattle.bye_terms.proofs.Members.{in_cases, in_left, in_right}
use Rattle.bye_table.specs.Mappings.{Name}
use Rattle.bye_pattern.specs.declared.rule.Rule.{Rule}
use Rattle.bye_pattern.specs.Patterns.{Pattern, all_vars, vars}
use Rattle.bye_pattern.specs.Trees.{forest_vars, tree_vars}
use Rattle.bye_pattern.specs.Conditions.{Expr}
use Rattle.bye_pattern.specs.Written.{Block, Filter, Group, Optional, also, done, triples}
use Rattle.bye_pattern.specs.Gathered.{AreDesignedEarly, BreaksEarly, BreaksHere, KeepsEach, optional_tree, optionals, plain_tests, root_tests, tests}
use Rattle.bye_tree.specs.declared.shape.ShapeErr.{ShapeErr}
use Rattle.bye_tree.specs.declared.shape.ShapeErr.TheVariants.{Broken, Memory}
use Rattle.bye_tree.specs.Judging.{Alike, IsRefused, Stands, is_safe, judged}
use Rattle.bye_tree.specs.Names.{with_names}
use Rattle.bye_tree.specs.Checking.{IsUnder, NamesUp}
use Rattle.bye_tree.specs.Written.{GroupBreaks, IsGroupDesigned, group_tests, no_triples, tests_safe}
use Rattle.bye_tree.proofs.Joining.{alike_names, from_names, into, new_names, old_names, past}
use Rattle.bye_tree.proofs.Judged.{Told, judged_broken, judged_kept, tested}
use Rattle.bye_tree.proofs.Truths.{root_safe, tests_are}

pub all_vars_join : (ps qs : List Pattern) → all_vars (ps ++ qs) ≡ all_vars ps ++ all_vars qs
all_vars_join [] qs = refl
all_vars_join (p ∷ ps) qs = ap (λ vs. vars p ++ vs) (all_vars_join ps qs) ∙ sym (append_assoc (vars p) (all_vars ps) (all_vars qs))

-- whether there are triples
pub no_triples_is : (g : Group) → no_triples g ≡ true → triples g ≡ []
no_triples_is done e = refl
no_triples_is (also (Block []) g) e = no_triples_is g e
no_triples_is (also (Block (p ∷ ps)) g) e = cc
no_triples_is (also (Optional h) g) e = no_triples_is g e
no_triples_is (also (Filter x) g) e = no_triples_is g e

pub some_triples : (g : Group) → no_triples g ≡ false → triples g ≡ [] → ⊥
some_triples done e n = cc
some_triples (also (Block []) g) e n = some_triples g e n
some_triples (also (Block (p ∷ ps)) g) e n = cc
some_triples (also (Optional h) g) e n = some_triples g e n
some_triples (also (Filter x) g) e n = some_triples g e n

-- what is found in the rest of a group, the n-th OPTIONAL and on, holds of the group; e are the early variables by then, and c those of
-- the groups beside
pub record Onward (a b : List Name) (g : Group) (e c : List Name) (n : ℕ) (rest : Group) : Type 0 where
  pub designed : AreDesignedEarly e a c rest → AreDesignedEarly [] a b g
  pub breaks : (path : List ℕ) (rule : Rule) → BreaksEarly e a c n rest path rule → BreaksEarly [] a b 1 g path rule
  pub rest_in : (v : Name) → In (all_vars (triples rest)) v → In a v

pub record Walked (above start early seen : List Name) (g : Group) (n : ℕ) (rest : Group) : Type 0 where
  pub so_far : (a b : List Name) → Stands [] above start [] a b → ((v : Name) → In (all_vars (triples g)) v → In a v)
      → (e c : List Name) × Stands early above seen e a c × Onward a b g e c n rest

pub walk_begins : (above start : List Name) (g : Group) → Walked above start [] start g 1 g
walk_begins above start g = record { so_far = λ a b s all. ([], b, s, record { designed = λ d. d; breaks = λ path rule h. h; rest_in = all }) }

pub past_block : (above start early seen : List Name) (g : Group) (n : ℕ) (ps : List Pattern) (rest : Group) → Walked above start early seen g n (also (Block ps) rest)
    → Walked above start (with_names early (all_vars ps)) seen g n rest
past_block above start early seen g n ps rest w = record {
  so_far = λ a b s all. let k = w.so_far a b s all in
      let st = k.2 in let on = k.3 in
      let own_in : (v : Name) → In (all_vars ps) v → In a v = λ v h. on.rest_in v (subst (λ (vs : List Name). In vs v) (sym (all_vars_join ps (triples rest))) (in_left (all_vars ps) (all_vars (triples rest)) v h)) in (
        k.0 ++ all_vars ps,
        k.1,
        record {
          near = λ v h. ⊎_elim (λ x. st.near v x) (λ x. own_in v x) (in_cases k.0 (all_vars ps) v h);
          parent_is = record {
            to = λ v h. ⊎_elim (λ x. in_left k.0 (all_vars ps) v (st.parent_is.to v x)) (λ x. in_right k.0 (all_vars ps) v x) (from_names early (all_vars ps) v h);
            back = λ v h. ⊎_elim (λ x. old_names early (all_vars ps) v (st.parent_is.back v x)) (λ x. new_names early (all_vars ps) v x) (in_cases k.0 (all_vars ps) v h);
          };
          above_is = st.above_is;
          seen_is = st.seen_is;
        },
        record {
          designed = on.designed;
          breaks = on.breaks;
          rest_in = λ v h. on.rest_in v (subst (λ (vs : List Name). In vs v) (sym (all_vars_join ps (triples rest))) (in_right (all_vars ps) (all_vars (triples rest)) v h));
        },
      );
}

pub past_filter : (above start early seen : List Name) (g : Group) (n : ℕ) (x : Expr) (rest : Group) → Walked above start early seen g n (also (Filter x) rest)
    → Walked above start early seen g n rest
past_filter above start early seen g n x rest w = record {
  so_far = λ a b s all. let k = w.so_far a b s all in
      (k.0, k.1, k.2, record { designed = k.3.designed; breaks = k.3.breaks; rest_in = k.3.rest_in });
}

pub past_optional : (above start early seen : List Name) (g : Group) (n : ℕ) (h rest : Group) → Walked above start early seen g n (also (Optional h) rest)
    → IsGroupDesigned false early above seen h → Walked above start early (with_names seen (tree_vars (optional_tree h))) g (n + 1) rest
past_optional above start early seen g n h rest w d = record {
  so_far = λ a b s all. let k = w.so_far a b s all in
      let here = d k.0 a k.1 k.2 in (
        k.0,
        k.1 ++ tree_vars (optional_tree h),
        past early above seen k.0 a k.1 (tree_vars (optional_tree h)) k.2,
        record { designed = λ r. k.3.designed (here.0, here.1, r); breaks = λ path rule x. k.3.breaks path rule (inr (here.0, here.1, x)); rest_in = k.3.rest_in },
      );
}

walk_breaks : (above start early seen : List Name) (g : Group) (n : ℕ) (h rest : Group) (path : List ℕ) (rule : Rule) → Walked above start early seen g n (also (Optional h) rest)
    → GroupBreaks false early above seen h path rule → (a b : List Name) → Stands [] above start [] a b → ((v : Name) → In (all_vars (triples g)) v → In a v)
    → BreaksEarly [] a b 1 g (n ∷ path) rule
walk_breaks above start early seen g n h rest path rule w x a b s all = let k = w.so_far a b s all in k.3.breaks (n ∷ path) rule (inl (path, refl, x k.0 a k.1 k.2))

-- a group whose own rules are judged
own_alike : (own ws : List Name) → own ≡ with_names [] ws → Alike own ws
own_alike own ws e = subst (λ vs. Alike vs ws) (sym e) (alike_names ws)

group_told : (root : Bool) (parent own p : List Name) (g : Group) → Alike parent p → own ≡ with_names [] (all_vars (triples g))
    → Told (no_triples g) (root || tests_safe parent own g) own p (triples g) (group_tests root g)
group_told true parent own p g q o = record {
  own_is = own_alike own (all_vars (triples g)) o;
  some = some_triples g;
  none = no_triples_is g;
  safe_is = λ e. root_safe p (triples g) (tests g);
  unsafe_is = λ e. cc;
}
group_told false parent own p g q o =
    subst (λ (safe : Bool). Told (no_triples g) safe own p (triples g) (plain_tests g)) (sym (tests_are parent own g))
    (tested (no_triples g) parent own p (triples g) (plain_tests g) q (own_alike own (all_vars (triples g)) o) (some_triples g) (no_triples_is g))

group_kept : (root : Bool) (own parent above seen p a b : List Name) (g : Group) → own ≡ with_names [] (all_vars (triples g))
    → judged (no_triples g) (root || tests_safe parent own g) own parent (with_names [] above) seen ≡ None → Stands parent above seen p a b → KeepsEach p a b (triples g) (group_tests root g)
group_kept root own parent above seen p a b g o j s =
    judged_kept parent above seen p a b own (no_triples g) (root || tests_safe parent own g) (triples g) (group_tests root g) s (group_told root parent own p g s.parent_is o) j

-- the code's lists for the OPTIONALs of the group, before any block
no_block : (own above seen p a b : List Name) → Stands own above seen p a b → Stands [] above seen [] a b
no_block own above seen p a b s = record {
  near = λ v h. absurd h;
  parent_is = record { to = λ v h. h; back = λ v h. h };
  above_is = s.above_is;
  seen_is = s.seen_is;
}

pub group_designed : (root : Bool) (own parent above seen early last : List Name) (g : Group) (n : ℕ) → own ≡ with_names [] (all_vars (triples g))
    → judged (no_triples g) (root || tests_safe parent own g) own parent (with_names [] above) seen ≡ None → Walked (above ++ own) (with_names seen own) early last g n done
    → IsGroupDesigned root parent above seen g
group_designed root own parent above seen early last g n o j w p a b s =
    let ws : List Name = all_vars (triples g) in
    let k = w.so_far (a ++ ws) b (no_block own (above ++ own) (with_names seen own) ws (a ++ ws) b (into parent above seen p a b own ws s (own_alike own ws o))) (λ v h. in_right a ws v h) in
    (group_kept root own parent above seen p a b g o j s, k.3.designed tt)

pub group_refused : (e : ShapeErr) (root : Bool) (own parent above seen : List Name) (g : Group) → own ≡ with_names [] (all_vars (triples g))
    → IsRefused (judged (no_triples g) (root || tests_safe parent own g) own parent (with_names [] above) seen) e → NamesUp (GroupBreaks root parent above seen g) e
group_refused (Broken e) root own parent above seen g o h = λ p a b s.
    inl (ap reverse h.1, judged_broken parent above seen p a b own (no_triples g) (root || tests_safe parent own g) (triples g) (group_tests root g) e.rule s (group_told root parent own p g s.parent_is o) h.0)
group_refused Memory root own parent above seen g o h = tt

pub optional_refused : (e r : ShapeErr) (index : ℕ) (root : Bool) (own parent above seen early now : List Name) (g h rest : Group) → own ≡ with_names [] (all_vars (triples g))
    → judged (no_triples g) (root || tests_safe parent own g) own parent (with_names [] above) seen ≡ None
    → Walked (above ++ own) (with_names seen own) early now g (index + 1) (also (Optional h) rest) → NamesUp (GroupBreaks false early (above ++ own) now h) e → IsUnder index e r
    → NamesUp (GroupBreaks root parent above seen g) r
optional_refused (Broken e) (Broken r) index root own parent above seen early now g h rest o j w x u = λ p a b s.
    let ws : List Name = all_vars (triples g) in
    let path : reverse r.path.items ≡ (index + 1) ∷ reverse e.path.items = ap reverse u.0 ∙ reverse-append e.path.items ((index + 1) ∷ []) in
    let below = walk_breaks (above ++ own) (with_names seen own) early now g (index + 1) h rest (reverse e.path.items) e.rule w x (a ++ ws) b
    (no_block own (above ++ own) (with_names seen own) ws (a ++ ws) b (into parent above seen p a b own ws s (own_alike own ws o))) (λ v h. in_right a ws v h) in
    inr (
      group_kept root own parent above seen p a b g o j s,
      subst (λ (x : List ℕ). BreaksEarly [] (a ++ ws) b 1 g x r.rule) (sym path)
          (subst (λ (x : Rule). BreaksEarly [] (a ++ ws) b 1 g ((index + 1) ∷ reverse e.path.items) x) (sym u.1) below),
    )
optional_refused Memory (Broken r) index root own parent above seen early now g h rest o j w x u = absurd u
optional_refused e Memory index root own parent above seen early now g h rest o j w x u = tt
