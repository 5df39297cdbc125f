-- The four rules for written queries: they are those of trees where more is seen of the parent, and one is the first that is broken.
use Rattle.std.proofs.Common.{◌≡◌, refl, ℕ, ◌+◌, List, [], ◌∷◌, ◌++◌, ◌⊎◌, inl, inr, ⊎_elim, sym, ◌∙◌, ap}
use Rattle.std.specs.List.{AllByRecursion}
use Rattle.bye_terms.specs.Members.{In}
use Rattle.bye_terms.proofs.Members.{in_cases, in_left, in_right}
use Rattle.bye_table.specs.Mappings.{Name}
use Rattle.bye_pattern.specs.declared.cond.Cond.{Cond}
use Rattle.bye_pattern.specs.declared.rule.Rule.{Rule}
use Rattle.bye_pattern.specs.declared.rule.Rule.TheVariants.{NoTriples, NoNewVariable, NotWellDesigned, UnsafeCondition}
use Rattle.bye_pattern.specs.Patterns.{Pattern, all_vars, vars}
use Rattle.bye_pattern.specs.Trees.{tree_vars}
use Rattle.bye_pattern.specs.Designed.{AreDesigned, IsSafe, IsWellDesigned, Keeps, rules}
use Rattle.bye_pattern.specs.Written.{Block, Filter, Group, Optional, Written, also, done, triples}
use Rattle.bye_pattern.specs.Gathered.{AreDesignedEarly, BreaksEarly, BreaksHere, IsBrokenEarly, IsDesignedEarly, KeepsEach, gather, optional_tree, optionals, plain_tests, root_tests}
use Rattle.bye_pattern.proofs.FourRules.{broken_not_kept, first_or_all, in_rules, keeps_or_not, one_broken}

-- the variables of two lists of triple patterns
pub vars_left : (ps qs : List Pattern) (v : Name) → In (all_vars ps) v → In (all_vars (ps ++ qs)) v
vars_left [] qs v h = absurd h
vars_left (p ∷ ps) qs v h = ⊎_elim (λ k. in_left (vars p) _ v k) (λ k. in_right (vars p) _ v (vars_left ps qs v k)) (in_cases (vars p) _ v h)

pub vars_right : (ps qs : List Pattern) (v : Name) → In (all_vars qs) v → In (all_vars (ps ++ qs)) v
vars_right [] qs v h = h
vars_right (p ∷ ps) qs v h = in_right (vars p) _ v (vars_right ps qs v h)

-- early variables, and those of the next block
pub grown : (early : List Name) (ps qs : List Pattern) (all : List Name) → ((v : Name) → In early v → In all v) → ((v : Name) → In (all_vars (ps ++ qs)) v → In all v)
    → (v : Name) → In (early ++ all_vars ps) v → In all v
grown early ps qs all x y v h = ⊎_elim (λ k. x v k) (λ k. y v (vars_left ps qs v k)) (in_cases early (all_vars ps) v h)

-- a rule that is kept by what stands before is kept by all of the parent's triples
safe_more : (early parent : List Name) (ps : List Pattern) (cs : List Cond) → ((v : Name) → In early v → In parent v) → AllByRecursion (IsSafe early ps) cs → AllByRecursion (IsSafe parent ps) cs
safe_more early parent ps [] x all = tt
safe_more early parent ps (c ∷ cs) x all = ((λ v h. ⊎_elim inl (λ k. inr (x v k)) (all.0 v h)), safe_more early parent ps cs x all.1)

keeps_more : (early parent above beside : List Name) (ps : List Pattern) (cs : List Cond) → ((v : Name) → In early v → In parent v) → KeepsEach early above beside ps cs
    → (rule : Rule) → Keeps parent above beside ps cs rule
keeps_more early parent above beside ps cs x each NoTriples = each NoTriples
keeps_more early parent above beside ps cs x each NoNewVariable = each NoNewVariable
keeps_more early parent above beside ps cs x each NotWellDesigned = let k = each NotWellDesigned in ((λ v h a. x v (k.0 v h a)), k.1)
keeps_more early parent above beside ps cs x each UnsafeCondition = safe_more early parent ps cs x (each UnsafeCondition)

pub early_designed : (early parent above beside : List Name) (g : Group) → ((v : Name) → In early v → In parent v) → ((v : Name) → In (all_vars (triples g)) v → In parent v)
    → AreDesignedEarly early above beside g → AreDesigned parent above beside (optionals g)
early_designed early parent above beside done x y d = tt
early_designed early parent above beside (also (Block ps) g) x y d =
    early_designed (early ++ all_vars ps) parent above beside g (grown early ps (triples g) parent x y) (λ v h. y v (vars_right ps (triples g) v h)) d
early_designed early parent above beside (also (Optional h) g) x y d = (
  (
    keeps_more early parent above beside (triples h) (plain_tests h) x d.0,
    early_designed [] (all_vars (triples h)) (above ++ all_vars (triples h)) beside h (λ v k. absurd k) (λ v k. k) d.1,
  ),
  early_designed early parent above (beside ++ tree_vars (optional_tree h)) g x y d.2,
)
early_designed early parent above beside (also (Filter e) g) x y d = early_designed early parent above beside g x y d

pub whole_designed : (w : Written) → IsDesignedEarly w → IsWellDesigned (gather w).tree
whole_designed w d = (d.root, early_designed [] (all_vars (triples w.group)) (all_vars (triples w.group)) [] w.group (λ v k. absurd k) (λ v k. k) d.below)

-- each node keeps each rule, or one is the first that does not
each_or_first : (parent above beside : List Name) (ps : List Pattern) (cs : List Cond) → KeepsEach parent above beside ps cs ⊎ ((rule : Rule) × BreaksHere parent above beside ps cs [] rule)
each_or_first parent above beside ps cs =
    ⊎_elim (λ all. inl (λ rule. all rule (in_rules rule))) (λ w. inr (w.0, (refl, w.1))) (first_or_all (Keeps parent above beside ps cs) (keeps_or_not parent above beside ps cs) rules)

designed_or_breaks : (early above beside : List Name) (n : ℕ) (g : Group) → AreDesignedEarly early above beside g ⊎ ((path : List ℕ) × (rule : Rule) × BreaksEarly early above beside n g path rule)
designed_or_breaks early above beside n done = inl tt
designed_or_breaks early above beside n (also (Block ps) g) = designed_or_breaks (early ++ all_vars ps) above beside n g
designed_or_breaks early above beside n (also (Optional h) g) =
    ⊎_elim
    (λ each. ⊎_elim
    (λ below. ⊎_elim
    (λ rest. inl (each, below, rest))
    (λ w. inr (w.0, w.1, inr (each, below, w.2)))
    (designed_or_breaks early above (beside ++ tree_vars (optional_tree h)) (n + 1) g))
    (λ w. inr (n ∷ w.0, w.1, inl (w.0, refl, inr (each, w.2))))
    (designed_or_breaks [] (above ++ all_vars (triples h)) beside 1 h))
    (λ w. inr (n ∷ [], w.0, inl ([], refl, inl w.1)))
    (each_or_first early above beside (triples h) (plain_tests h))
designed_or_breaks early above beside n (also (Filter e) g) = designed_or_breaks early above beside n g

pub early_or_broken : (w : Written) → IsDesignedEarly w ⊎ ((path : List ℕ) × (rule : Rule) × IsBrokenEarly w path rule)
early_or_broken w =
    ⊎_elim
    (λ each. ⊎_elim
    (λ below. inl (record { root = each; below = below }))
    (λ b. inr (b.0, b.1, inr (each, b.2)))
    (designed_or_breaks [] (all_vars (triples w.group)) [] 1 w.group))
    (λ b. inr ([], b.0, inl b.1))
    (each_or_first [] [] [] (triples w.group) (root_tests w.group))

-- not both
breaks_not_kept : (parent above beside : List Name) (ps : List Pattern) (cs : List Cond) (path : List ℕ) (rule : Rule) → KeepsEach parent above beside ps cs → BreaksHere parent above beside ps cs path rule → ⊥
breaks_not_kept parent above beside ps cs path rule each b = broken_not_kept (Keeps parent above beside ps cs) rules rule b.1 (each rule)

not_both_below : (early above beside : List Name) (n : ℕ) (g : Group) (path : List ℕ) (rule : Rule) → AreDesignedEarly early above beside g → BreaksEarly early above beside n g path rule → ⊥
not_both_below early above beside n done path rule d b = b
not_both_below early above beside n (also (Block ps) g) path rule d b = not_both_below (early ++ all_vars ps) above beside n g path rule d b
not_both_below early above beside n (also (Optional h) g) path rule d (inl (rest, e, inl b)) = breaks_not_kept early above beside (triples h) (plain_tests h) rest rule d.0 b
not_both_below early above beside n (also (Optional h) g) path rule d (inl (rest, e, inr b)) = not_both_below [] (above ++ all_vars (triples h)) beside 1 h rest rule d.1 b.1
not_both_below early above beside n (also (Optional h) g) path rule d (inr b) = not_both_below early above (beside ++ tree_vars (optional_tree h)) (n + 1) g path rule d.2 b.2
not_both_below early above beside n (also (Filter e) g) path rule d b = not_both_below early above beside n g path rule d b

pub early_not_broken : (w : Written) (path : List ℕ) (rule : Rule) → IsDesignedEarly w → IsBrokenEarly w path rule → ⊥
early_not_broken w path rule d (inl b) = breaks_not_kept [] [] [] (triples w.group) (root_tests w.group) path rule d.root b
early_not_broken w path rule d (inr b) = not_both_below [] (all_vars (triples w.group)) [] 1 w.group path rule d.below b.1

-- one place and one rule
one_here : (parent above beside : List Name) (ps : List Pattern) (cs : List Cond) (path other : List ℕ) (rule next : Rule) → BreaksHere parent above beside ps cs path rule
    → BreaksHere parent above beside ps cs other next → (path ≡ other) × (rule ≡ next)
one_here parent above beside ps cs path other rule next b k = (b.0 ∙ sym k.0, one_broken (Keeps parent above beside ps cs) rules rule next b.1 k.1)

under : (n : ℕ) (path other a b : List ℕ) (rule next : Rule) → path ≡ n ∷ a → other ≡ n ∷ b → (a ≡ b) × (rule ≡ next) → (path ≡ other) × (rule ≡ next)
under n path other a b rule next e f w = (e ∙ ap (λ r. n ∷ r) w.0 ∙ sym f, w.1)

one_below : (early above beside : List Name) (n : ℕ) (g : Group) (path other : List ℕ) (rule next : Rule) → BreaksEarly early above beside n g path rule → BreaksEarly early above beside n g other next
    → (path ≡ other) × (rule ≡ next)
one_below early above beside n done path other rule next b k = absurd b
one_below early above beside n (also (Block ps) g) path other rule next b k = one_below (early ++ all_vars ps) above beside n g path other rule next b k
one_below early above beside n (also (Optional h) g) path other rule next (inl (x, e, inl b)) (inl (y, f, inl k)) =
    under n path other x y rule next e f (one_here early above beside (triples h) (plain_tests h) x y rule next b k)
one_below early above beside n (also (Optional h) g) path other rule next (inl (x, e, inl b)) (inl (y, f, inr k)) =
    absurd (breaks_not_kept early above beside (triples h) (plain_tests h) x rule k.0 b)
one_below early above beside n (also (Optional h) g) path other rule next (inl (x, e, inl b)) (inr k) = absurd (breaks_not_kept early above beside (triples h) (plain_tests h) x rule k.0 b)
one_below early above beside n (also (Optional h) g) path other rule next (inl (x, e, inr b)) (inl (y, f, inl k)) =
    absurd (breaks_not_kept early above beside (triples h) (plain_tests h) y next b.0 k)
one_below early above beside n (also (Optional h) g) path other rule next (inl (x, e, inr b)) (inl (y, f, inr k)) =
    under n path other x y rule next e f (one_below [] (above ++ all_vars (triples h)) beside 1 h x y rule next b.1 k.1)
one_below early above beside n (also (Optional h) g) path other rule next (inl (x, e, inr b)) (inr k) =
    absurd (not_both_below [] (above ++ all_vars (triples h)) beside 1 h x rule k.1 b.1)
one_below early above beside n (also (Optional h) g) path other rule next (inr b) (inl (y, f, inl k)) = absurd (breaks_not_kept early above beside (triples h) (plain_tests h) y next b.0 k)
one_below early above beside n (also (Optional h) g) path other rule next (inr b) (inl (y, f, inr k)) =
    absurd (not_both_below [] (above ++ all_vars (triples h)) beside 1 h y next b.1 k.1)
one_below early above beside n (also (Optional h) g) path other rule next (inr b) (inr k) =
    one_below early above (beside ++ tree_vars (optional_tree h)) (n + 1) g path other rule next b.2 k.2
one_below early above beside n (also (Filter e) g) path other rule next b k = one_below early above beside n g path other rule next b k

pub one_broken_early : (w : Written) (path other : List ℕ) (rule next : Rule) → IsBrokenEarly w path rule → IsBrokenEarly w other next → (path ≡ other) × (rule ≡ next)
one_broken_early w path other rule next (inl b) (inl k) = one_here [] [] [] (triples w.group) (root_tests w.group) path other rule next b k
one_broken_early w path other rule next (inl b) (inr k) = absurd (breaks_not_kept [] [] [] (triples w.group) (root_tests w.group) path rule k.0 b)
one_broken_early w path other rule next (inr b) (inl k) = absurd (breaks_not_kept [] [] [] (triples w.group) (root_tests w.group) other next b.0 k)
one_broken_early w path other rule next (inr b) (inr k) = one_below [] (all_vars (triples w.group)) [] 1 w.group path other rule next b.1 k.1
