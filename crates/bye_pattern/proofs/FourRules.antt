-- Well-designed trees: the four rules at once, and the first that is broken.
use Rattle.std.proofs.Common.{◌≡◌, refl, ℕ, ◌+◌, List, [], ◌∷◌, ◌++◌, ◌⊎◌, inl, inr, ⊎_elim, sym, ◌∙◌, ap, subst, ◌↔◌}
use Rattle.std.specs.List.{AllByRecursion}
use Rattle.bye_terms.specs.Members.{In}
use Rattle.bye_terms.proofs.Members.{in_cases, in_left, in_right}
use Rattle.bye_pattern.specs.declared.cond.Cond.{Cond}
use Rattle.bye_pattern.specs.declared.rule.Rule.{Rule}
use Rattle.bye_pattern.specs.declared.rule.Rule.TheVariants.{NoTriples, NoNewVariable, NotWellDesigned, UnsafeCondition}
use Rattle.bye_table.specs.Mappings.{Name}
use Rattle.bye_pattern.specs.Patterns.{Pattern, all_vars}
use Rattle.bye_pattern.specs.Conditions.{cond_vars}
use Rattle.bye_pattern.specs.Trees.{Tree, node, Forest, leaf, more, tree_vars}
use Rattle.bye_pattern.specs.Designed.{IsSafe, Keeps, IsDesigned, AreDesigned, IsWellDesigned, IsFirstBroken, rules, BreaksAt, BreaksIn, IsBroken, IsGroup, IsTree, IsForest}
use Rattle.bye_table.proofs.Merging.{in_or_not}

-- the variables of all earlier nodes are those above and those beside, and the parent's are above
pub record Earlier (parent above beside seen : List Name) : Type 0 where
  pub near : (v : Name) → In parent v → In above v
  pub splits : (v : Name) → In seen v → In above v ⊎ In beside v
  pub above_seen : (v : Name) → In above v → In seen v
  pub beside_seen : (v : Name) → In beside v → In seen v

-- for the children of a node, and for the next of them
into : (parent above beside seen own : List Name) → Earlier parent above beside seen → Earlier own (above ++ own) beside (seen ++ own)
into parent above beside seen own e = record {
  near = λ v h. in_right above own v h;
  splits = λ v h. ⊎_elim (λ h. ⊎_elim (λ a. inl (in_left above own v a)) inr (e.splits v h)) (λ h. inl (in_right above own v h)) (in_cases seen own v h);
  above_seen = λ v h. ⊎_elim (λ h. in_left seen own v (e.above_seen v h)) (λ h. in_right seen own v h) (in_cases above own v h);
  beside_seen = λ v h. in_left seen own v (e.beside_seen v h);
}

past : (parent above beside seen here : List Name) → Earlier parent above beside seen → Earlier parent above (beside ++ here) (seen ++ here)
past parent above beside seen here e = record {
  near = e.near;
  splits = λ v h. ⊎_elim (λ h. ⊎_elim inl (λ b. inr (in_left beside here v b)) (e.splits v h)) (λ h. inr (in_right beside here v h)) (in_cases seen here v h);
  above_seen = λ v h. in_left seen here v (e.above_seen v h);
  beside_seen = λ v h. ⊎_elim (λ h. in_left seen here v (e.beside_seen v h)) (λ h. in_right seen here v h) (in_cases beside here v h);
}

some_pattern : (ps : List Pattern) (v : Name) → In (all_vars ps) v → ps ≡ [] → ⊥
some_pattern [] v h e = h
some_pattern (p ∷ ps) v h e = cc

group_from : (parent above beside seen : List Name) (ps : List Pattern) (cs : List Cond) → Earlier parent above beside seen
    → ((rule : Rule) → Keeps parent above beside ps cs rule) → IsGroup parent seen ps cs
group_from parent above beside seen ps cs e keeps =
    let new = keeps NoNewVariable in
    let designed = keeps NotWellDesigned in
    record {
      shared = λ v h s. ⊎_elim (λ a. designed.0 v h a)
          (λ b. ⊎_elim (λ a. designed.0 v h a) (λ out. absurd (designed.1 v (h, out) b)) (in_or_not above v)) (e.splits v s);
      new = (new.0, new.1.0, (λ s. ⊎_elim new.1.1 (λ b. designed.1 new.0 new.1 b) (e.splits new.0 s)));
      safe = keeps UnsafeCondition;
    }

group_keeps : (parent above beside seen : List Name) (ps : List Pattern) (cs : List Cond) → Earlier parent above beside seen
    → IsGroup parent seen ps cs → (rule : Rule) → Keeps parent above beside ps cs rule
group_keeps parent above beside seen ps cs e group NoTriples = some_pattern ps group.new.0 group.new.1
group_keeps parent above beside seen ps cs e group NoNewVariable = (group.new.0, (group.new.1, λ a. group.new.2 (e.above_seen group.new.0 a)))
group_keeps parent above beside seen ps cs e group NotWellDesigned =
    ((λ v h a. group.shared v h (e.above_seen v a)), λ v new b. new.1 (e.near v (group.shared v new.0 (e.beside_seen v b))))
group_keeps parent above beside seen ps cs e group UnsafeCondition = group.safe

mutual
  pub designed_tree : (parent above beside seen : List Name) (t : Tree) → Earlier parent above beside seen → IsDesigned parent above beside t → IsTree parent seen t
  designed_tree parent above beside seen (node ps cs f) e h =
      (group_from parent above beside seen ps cs e h.0, designed_forest (all_vars ps) (above ++ all_vars ps) beside (seen ++ all_vars ps) f (into parent above beside seen (all_vars ps) e) h.1)

  designed_forest : (parent above beside seen : List Name) (f : Forest) → Earlier parent above beside seen → AreDesigned parent above beside f → IsForest parent seen f
  designed_forest parent above beside seen leaf e h = tt
  designed_forest parent above beside seen (more t f) e h =
      (designed_tree parent above beside seen t e h.0, designed_forest parent above (beside ++ tree_vars t) (seen ++ tree_vars t) f (past parent above beside seen (tree_vars t) e) h.1)

mutual
  tree_designed : (parent above beside seen : List Name) (t : Tree) → Earlier parent above beside seen → IsTree parent seen t → IsDesigned parent above beside t
  tree_designed parent above beside seen (node ps cs f) e h =
      (group_keeps parent above beside seen ps cs e h.0, forest_designed (all_vars ps) (above ++ all_vars ps) beside (seen ++ all_vars ps) f (into parent above beside seen (all_vars ps) e) h.1)

  forest_designed : (parent above beside seen : List Name) (f : Forest) → Earlier parent above beside seen → IsForest parent seen f → AreDesigned parent above beside f
  forest_designed parent above beside seen leaf e h = tt
  forest_designed parent above beside seen (more t f) e h =
      (tree_designed parent above beside seen t e h.0, forest_designed parent above (beside ++ tree_vars t) (seen ++ tree_vars t) f (past parent above beside seen (tree_vars t) e) h.1)

at_root : Earlier [] [] [] []
at_root = record { near = λ v h. h; splits = λ v h. absurd h; above_seen = λ v h. h; beside_seen = λ v h. h }

pub at_once : (t : Tree) → IsWellDesigned t ↔ IsTree [] [] t
at_once t = (designed_tree [] [] [] [] t at_root, tree_designed [] [] [] [] t at_root)

-- each rule is kept or not
all_or_not : (P : Name → Type 0) → ((v : Name) → P v ⊎ (P v → ⊥)) → (vs : List Name) → ((v : Name) → In vs v → P v) ⊎ ((v : Name) × (In vs v × (P v → ⊥)))
all_or_not P test [] = inl (λ v h. absurd h)
all_or_not P test (x ∷ vs) =
    ⊎_elim
    (λ p. ⊎_elim (λ all. inl (λ v h. ⊎_elim (λ e. subst P e p) (λ k. all v k) h)) (λ w. inr (w.0, (inr w.1.0, w.1.1))) (all_or_not P test vs))
    (λ n. inr (x, (inl refl, n)))
    (test x)

either_in : (xs ys : List Name) (v : Name) → (In xs v ⊎ In ys v) ⊎ ((In xs v ⊎ In ys v) → ⊥)
either_in xs ys v =
    ⊎_elim (λ a. inl (inl a)) (λ na. ⊎_elim (λ b. inl (inr b)) (λ nb. inr (λ h. ⊎_elim na nb h)) (in_or_not ys v)) (in_or_not xs v)

safe_or_not : (parent : List Name) (ps : List Pattern) (cs : List Cond) → AllByRecursion (IsSafe parent ps) cs ⊎ (AllByRecursion (IsSafe parent ps) cs → ⊥)
safe_or_not parent ps [] = inl tt
safe_or_not parent ps (c ∷ cs) =
    ⊎_elim
    (λ one. ⊎_elim (λ all. inl (one, all)) (λ n. inr (λ h. n h.1)) (safe_or_not parent ps cs))
    (λ w. inr (λ h. w.1.1 (h.0 w.0 w.1.0)))
    (all_or_not (λ v. In (all_vars ps) v ⊎ In parent v) (λ v. either_in (all_vars ps) parent v) (cond_vars c))

-- a variable that is above is the parent's, and one that is not above is not beside
Fits : List Name → List Name → List Name → Name → Type 0
Fits parent above beside v = (In above v → In parent v) × ((In above v → ⊥) → In beside v → ⊥)

fits_or_not : (parent above beside : List Name) (v : Name) → Fits parent above beside v ⊎ (Fits parent above beside v → ⊥)
unfolding Fits
fits_or_not parent above beside v =
    ⊎_elim
    (λ a. ⊎_elim (λ p. inl ((λ k. p), λ out b. out a)) (λ n. inr (λ h. n (h.0 a))) (in_or_not parent v))
    (λ out. ⊎_elim (λ b. inr (λ h. h.1 out b)) (λ n. inl ((λ a. absurd (out a)), λ k b. n b)) (in_or_not beside v))
    (in_or_not above v)

empty_or_not : (ps : List Pattern) → (ps ≡ [] → ⊥) ⊎ ((ps ≡ [] → ⊥) → ⊥)
empty_or_not [] = inr (λ h. h refl)
empty_or_not (p ∷ ps) = inl (λ e. cc)

pub keeps_or_not : (parent above beside : List Name) (ps : List Pattern) (cs : List Cond) (rule : Rule)
    → Keeps parent above beside ps cs rule ⊎ (Keeps parent above beside ps cs rule → ⊥)
unfolding Fits
keeps_or_not parent above beside ps cs NoTriples = empty_or_not ps
keeps_or_not parent above beside ps cs NoNewVariable =
    ⊎_elim
    (λ all. inr (λ new. new.1.1 (all new.0 new.1.0)))
    (λ w. inl (w.0, (w.1.0, w.1.1)))
    (all_or_not (In above) (in_or_not above) (all_vars ps))
keeps_or_not parent above beside ps cs NotWellDesigned =
    ⊎_elim
    (λ all. inl ((λ v h a. (all v h).0 a), λ v new b. (all v new.0).1 new.1 b))
    (λ w. inr (λ h. w.1.1 ((λ a. h.0 w.0 w.1.0 a), λ out b. h.1 w.0 (w.1.0, out) b)))
    (all_or_not (Fits parent above beside) (fits_or_not parent above beside) (all_vars ps))
keeps_or_not parent above beside ps cs UnsafeCondition = safe_or_not parent ps cs

-- the first broken rule of a list, or none
pub first_or_all : (K : Rule → Type 0) → ((rule : Rule) → K rule ⊎ (K rule → ⊥)) → (rs : List Rule) → ((rule : Rule) → In rs rule → K rule) ⊎ ((rule : Rule) × IsFirstBroken K rs rule)
first_or_all K test [] = inl (λ rule h. absurd h)
first_or_all K test (r ∷ rs) =
    ⊎_elim
    (λ k. ⊎_elim (λ all. inl (λ rule h. ⊎_elim (λ e. subst K e k) (λ h. all rule h) h)) (λ w. inr (w.0, inr (k, w.1))) (first_or_all K test rs))
    (λ n. inr (r, inl (refl, n)))
    (test r)

pub in_rules : (rule : Rule) → In rules rule
in_rules NoTriples = inl refl
in_rules NoNewVariable = inr (inl refl)
in_rules NotWellDesigned = inr (inr (inl refl))
in_rules UnsafeCondition = inr (inr (inr (inl refl)))

pub broken_not_kept : (K : Rule → Type 0) (rs : List Rule) (rule : Rule) → IsFirstBroken K rs rule → K rule → ⊥
broken_not_kept K [] rule h k = h
broken_not_kept K (r ∷ rs) rule (inl h) k = h.1 (subst K (sym h.0) k)
broken_not_kept K (r ∷ rs) rule (inr h) k = broken_not_kept K rs rule h.1 k

pub one_broken : (K : Rule → Type 0) (rs : List Rule) (rule next : Rule) → IsFirstBroken K rs rule → IsFirstBroken K rs next → rule ≡ next
one_broken K [] rule next h k = absurd h
one_broken K (r ∷ rs) rule next (inl h) (inl k) = sym h.0 ∙ k.0
one_broken K (r ∷ rs) rule next (inl h) (inr k) = absurd (h.1 k.0)
one_broken K (r ∷ rs) rule next (inr h) (inl k) = absurd (k.1 h.0)
one_broken K (r ∷ rs) rule next (inr h) (inr k) = one_broken K rs rule next h.1 k.1

mutual
  designed_or_broken : (parent above beside : List Name) (t : Tree) → IsDesigned parent above beside t ⊎ ((path : List ℕ) × ((rule : Rule) × BreaksAt parent above beside t path rule))
  designed_or_broken parent above beside (node ps cs f) =
      ⊎_elim
      (λ all. let keeps : (rule : Rule) → Keeps parent above beside ps cs rule = λ rule. all rule (in_rules rule) in
      ⊎_elim
      (λ below. inl (keeps, below))
      (λ w. inr (w.0, (w.1.0, inr (keeps, w.1.1))))
      (designed_or_in (all_vars ps) (above ++ all_vars ps) beside 1 f))
      (λ w. inr ([], (w.0, inl (refl, w.1))))
      (first_or_all (Keeps parent above beside ps cs) (keeps_or_not parent above beside ps cs) rules)

  designed_or_in : (parent above beside : List Name) (n : ℕ) (f : Forest) → AreDesigned parent above beside f ⊎ ((path : List ℕ) × ((rule : Rule) × BreaksIn parent above beside n f path rule))
  designed_or_in parent above beside n leaf = inl tt
  designed_or_in parent above beside n (more t f) =
      ⊎_elim
      (λ here. ⊎_elim (λ rest. inl (here, rest)) (λ w. inr (w.0, (w.1.0, inr (here, w.1.1)))) (designed_or_in parent above (beside ++ tree_vars t) (n + 1) f))
      (λ w. inr (n ∷ w.0, (w.1.0, inl (w.0, refl, w.1.1))))
      (designed_or_broken parent above beside t)

mutual
  not_both_here : (parent above beside : List Name) (t : Tree) (path : List ℕ) (rule : Rule) → IsDesigned parent above beside t → BreaksAt parent above beside t path rule → ⊥
  not_both_here parent above beside (node ps cs f) path rule h (inl b) = broken_not_kept (Keeps parent above beside ps cs) rules rule b.1 (h.0 rule)
  not_both_here parent above beside (node ps cs f) path rule h (inr b) = not_both_in (all_vars ps) (above ++ all_vars ps) beside 1 f path rule h.1 b.1

  not_both_in : (parent above beside : List Name) (n : ℕ) (f : Forest) (path : List ℕ) (rule : Rule) → AreDesigned parent above beside f → BreaksIn parent above beside n f path rule → ⊥
  not_both_in parent above beside n leaf path rule h b = b
  not_both_in parent above beside n (more t f) path rule h (inl b) = not_both_here parent above beside t b.0 rule h.0 b.2
  not_both_in parent above beside n (more t f) path rule h (inr b) = not_both_in parent above (beside ++ tree_vars t) (n + 1) f path rule h.1 b.1

mutual
  one_place : (parent above beside : List Name) (t : Tree) (path other : List ℕ) (rule next : Rule) → BreaksAt parent above beside t path rule → BreaksAt parent above beside t other next
      → (path ≡ other) × (rule ≡ next)
  one_place parent above beside (node ps cs f) path other rule next (inl h) (inl k) = (h.0 ∙ sym k.0, one_broken (Keeps parent above beside ps cs) rules rule next h.1 k.1)
  one_place parent above beside (node ps cs f) path other rule next (inl h) (inr k) = absurd (broken_not_kept (Keeps parent above beside ps cs) rules rule h.1 (k.0 rule))
  one_place parent above beside (node ps cs f) path other rule next (inr h) (inl k) = absurd (broken_not_kept (Keeps parent above beside ps cs) rules next k.1 (h.0 next))
  one_place parent above beside (node ps cs f) path other rule next (inr h) (inr k) = one_place_in (all_vars ps) (above ++ all_vars ps) beside 1 f path other rule next h.1 k.1

  one_place_in : (parent above beside : List Name) (n : ℕ) (f : Forest) (path other : List ℕ) (rule next : Rule) → BreaksIn parent above beside n f path rule → BreaksIn parent above beside n f other next
      → (path ≡ other) × (rule ≡ next)
  one_place_in parent above beside n leaf path other rule next h k = absurd h
  one_place_in parent above beside n (more t f) path other rule next (inl h) (inl k) =
      let w = one_place parent above beside t h.0 k.0 rule next h.2 k.2 in (h.1 ∙ ap (λ r. n ∷ r) w.0 ∙ sym k.1, w.1)
  one_place_in parent above beside n (more t f) path other rule next (inl h) (inr k) = absurd (not_both_here parent above beside t h.0 rule k.0 h.2)
  one_place_in parent above beside n (more t f) path other rule next (inr h) (inl k) = absurd (not_both_here parent above beside t k.0 next h.0 k.2)
  one_place_in parent above beside n (more t f) path other rule next (inr h) (inr k) =
      one_place_in parent above (beside ++ tree_vars t) (n + 1) f path other rule next h.1 k.1

pub either : (t : Tree) → IsWellDesigned t ⊎ ((path : List ℕ) × (rule : Rule) × IsBroken t path rule)
either t = ⊎_elim (λ h. inl h) (λ w. inr (w.0, w.1.0, w.1.1)) (designed_or_broken [] [] [] t)

pub not_both : (t : Tree) (path : List ℕ) (rule : Rule) → IsWellDesigned t → IsBroken t path rule → ⊥
not_both t path rule h b = not_both_here [] [] [] t path rule h b

pub one_first : (t : Tree) (path other : List ℕ) (rule next : Rule) → IsBroken t path rule → IsBroken t other next → (path ≡ other) × (rule ≡ next)
one_first t path other rule next h k = one_place [] [] [] t path other rule next h k
