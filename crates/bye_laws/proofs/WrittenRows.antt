-- The rows of a written group, block by block, are those of its node: each OPTIONAL moves past the blocks that come after it.
use Rattle.std.proofs.Common.{◌≡◌, List, [], ◌∷◌, ◌++◌, map, Some, ◌⊎◌, inl, inr, ⊎_elim, sym, ◌∙◌, subst, ◌↔◌}
use Rattle.std.specs.List.{AllByRecursion}
use Rattle.std.proofs.lemmas.List.{append-nil, append_assoc}
use Rattle.bye_terms.specs.declared.term.Term.{Term}
use Rattle.bye_terms.specs.Terms.{Statement}
use Rattle.bye_terms.specs.Members.{In}
use Rattle.bye_terms.proofs.Members.{in_cases, in_left, in_right}
use Rattle.bye_table.specs.Mappings.{Binds, Compatible, Mapping, Name, merge}
use Rattle.bye_table.proofs.Merging.{binds, bound, merge_left, merge_right}
use Rattle.bye_pattern.specs.declared.cond.Cond.{Cond}
use Rattle.bye_pattern.specs.Patterns.{Pattern, all_vars}
use Rattle.bye_pattern.specs.Conditions.{AllHold, AllHoldExpr, Expr, HoldsExpr, cond_expr}
use Rattle.bye_pattern.specs.Algebra.{Alg, Bgp, IsAnswer, IsBgpRow, IsJoin, IsRow, Join, LeftJoin}
use Rattle.bye_pattern.specs.Trees.{Forest, Tree, alg, body, joined, leaf, more, node, own_conds, own_vars, tree_vars}
use Rattle.bye_pattern.specs.Designed.{IsSafe, IsTree}
use Rattle.bye_pattern.specs.Written.{Block, Filter, Group, Optional, Written, also, done, filters, triples, walk, walk_on, with_block}
use Rattle.bye_pattern.specs.Gathered.{AreDesignedEarly, HasPlainOptionals, IsDesignedEarly, IsWrittenAnswer, KeepsEach, gather, optional_tree, optionals, plain_tests}
use Rattle.bye_pattern.proofs.FourRules.{Earlier, designed_tree}
use Rattle.bye_pattern.proofs.Reaching.{Stays, body_stays}
use Rattle.bye_pattern.proofs.Solutions.{row_meets}
use Rattle.bye_terms.proofs.Lists.{all_map, map_all}
use Rattle.bye_laws.proofs.Commuting.{Apart, Same, blocks_joined, from_parts, join_assoc, join_moves, join_same, joined_nothing, left_same, nothing_joined, same_self, same_then, same_turned, turned}
use Rattle.bye_laws.proofs.Conjoined.{optional_tests, whole_tests}
use Rattle.bye_laws.proofs.EarlyRules.{early_designed, grown, vars_right}
use Rattle.bye_laws.proofs.Reached.{shared_tree}
use Rattle.bye_laws.proofs.Telling.{holds_told, merge_tells}

-- the rows of two expressions are the same
abbrev pub SameRows : List Statement → Alg → Alg → Type 0
SameRows g a b = Same (IsRow g a) (IsRow g b)

rows_then : (g : List Statement) (a b c : Alg) → SameRows g a b → SameRows g b c → SameRows g a c
rows_then g a b c s t = same_then (IsRow g a) (IsRow g b) (IsRow g c) s t

rows_turned : (g : List Statement) (a b : Alg) → SameRows g a b → SameRows g b a
rows_turned g a b s = same_turned (IsRow g a) (IsRow g b) s

-- each row of an expression binds these variables
Binding : List Statement → Alg → List Name → Type 0
Binding g a vs = (m : Mapping) → IsRow g a m → (v : Name) → In vs v → Binds m v

-- the children of a node over the same rows
joined_same : (g : List Statement) (a b : Alg) (f : Forest) → SameRows g a b → SameRows g (joined a f) (joined b f)
joined_same g a b leaf s = s
joined_same g a b (more t f) s =
    joined_same g (LeftJoin a (body t) (map cond_expr (own_conds t))) (LeftJoin b (body t) (map cond_expr (own_conds t))) f
    (left_same (IsRow g a) (IsRow g (body t)) (IsRow g b) (IsRow g (body t)) (map cond_expr (own_conds t)) (map cond_expr (own_conds t))
    s (same_self (IsRow g (body t))) (same_self (AllHoldExpr (map cond_expr (own_conds t)))))

-- a merge binds what either side binds
merge_binds : (a b : Mapping) (v : Name) → Compatible a b → Binds a v ⊎ Binds b v → Binds (merge a b) v
merge_binds a b v same (inl h) = let w = bound (a v) h in binds (merge a b v) w.0 (merge_left a b v w.0 w.1)
merge_binds a b v same (inr h) = let w = bound (b v) h in binds (merge a b v) w.0 (merge_right a b v w.0 same w.1)

-- the rows of the children bind what the node's rows bind
left_binds : (g : List Statement) (a b : Alg) (es : List Expr) (vs : List Name) → Binding g a vs → Binding g (LeftJoin a b es) vs
unfolding Binding
left_binds g a b es vs all m (x, row, inl (y, extra, same, hold, e)) v h = subst (λ m. Binds m v) (sym e) (merge_binds x y v same (inl (all x row v h)))
left_binds g a b es vs all m (x, row, inr (e, none)) v h = subst (λ m. Binds m v) (sym e) (all x row v h)

joined_binds : (g : List Statement) (a : Alg) (f : Forest) (vs : List Name) → Binding g a vs → Binding g (joined a f) vs
joined_binds g a leaf vs all = all
joined_binds g a (more t f) vs all =
    joined_binds g (LeftJoin a (body t) (map cond_expr (own_conds t))) f vs (left_binds g a (body t) (map cond_expr (own_conds t)) vs all)

body_binds : (g : List Statement) (t : Tree) → Binding g (body t) (own_vars t)
unfolding Binding
body_binds g (node ps cs f) = joined_binds g (Bgp ps) f (all_vars ps) (λ m row v h. ((row_meets g ps m row).0 v).1 h)

join_binds : (g : List Statement) (a : Alg) (ps : List Pattern) (vs : List Name) → Binding g a vs → Binding g (Join a (Bgp ps)) (vs ++ all_vars ps)
unfolding Binding
join_binds g a ps vs all m (x, y, row, block, same, e) v h =
    subst (λ m. Binds m v) (sym e)
    (merge_binds x y v same (⊎_elim (λ k. inl (all x row v k)) (λ k. inr (((row_meets g ps y block).0 v).1 k)) (in_cases vs (all_vars ps) v h)))

same_binds : (g : List Statement) (a b : Alg) (vs : List Name) → SameRows g a b → Binding g a vs → Binding g b vs
unfolding Binding
same_binds g a b vs s all m row v h = all m ((s m).1 row) v h

no_binding : (g : List Statement) (a : Alg) → Binding g a []
unfolding Binding
no_binding g a m row v h = absurd h

-- a block that stands there, or none
block_rows : (g : List Statement) (a : Alg) (ps : List Pattern) → SameRows g (with_block a ps) (Join a (Bgp ps))
block_rows g a [] = same_turned (IsRow g (Join a (Bgp []))) (IsRow g a) (joined_nothing (IsRow g a))
block_rows g a (p ∷ ps) = same_self (IsRow g (Join a (Bgp (p ∷ ps))))

-- one block and a further one
two_blocks : (g : List Statement) (a : Alg) (ps qs : List Pattern) → SameRows g (Join (Join a (Bgp ps)) (Bgp qs)) (Join a (Bgp (ps ++ qs)))
two_blocks g a ps qs =
    rows_then g (Join (Join a (Bgp ps)) (Bgp qs)) (Join a (Join (Bgp ps) (Bgp qs))) (Join a (Bgp (ps ++ qs)))
    (join_assoc (IsRow g a) (IsBgpRow g ps) (IsBgpRow g qs))
    (join_same (IsRow g a) (IsJoin (IsBgpRow g ps) (IsBgpRow g qs)) (IsRow g a) (IsBgpRow g (ps ++ qs)) (same_self (IsRow g a))
    (same_turned (IsBgpRow g (ps ++ qs)) (IsJoin (IsBgpRow g ps) (IsBgpRow g qs)) (blocks_joined g ps qs)))

-- safe conditions on the merge of a row with an OPTIONAL's row, with a later block's row between and without
safe_told : (early : List Name) (m n : Mapping) (ps : List Pattern) (cs : List Cond) → AllByRecursion (IsSafe early ps) cs
    → ((v : Name) (u : Term) → In (all_vars ps) v ⊎ In early v → m v ≡ Some u → n v ≡ Some u) → AllHold cs m → AllHold cs n
safe_told early m n ps [] safe tells all = tt
safe_told early m n ps (c ∷ cs) safe tells all =
    (holds_told m n c (λ v u h e. tells v u (safe.0 v h) e) all.0, safe_told early m n ps cs safe.1 tells all.1)

later_tells : (a b c : Mapping) → Compatible a b → Compatible b c → (v : Name) (u : Term) → merge a b v ≡ Some u → merge (merge a c) b v ≡ Some u
later_tells a b c a_b b_c v u e =
    ⊎_elim (λ h. merge_left (merge a c) b v u (merge_left a c v u h)) (λ h. merge_right (merge a c) b v u (from_parts a c b a_b (turned b c b_c)) h) (merge_tells a b v u e)

-- an OPTIONAL's rows and those of a later block, by the rules
apart : (g : List Statement) (x : Alg) (early seen : List Name) (ps : List Pattern) (cs : List Cond) (f : Forest) (qs : List Pattern) → IsTree early seen (node ps cs f)
    → Binding g x early → ((v : Name) → In (all_vars qs) v → In seen v) → Apart (IsRow g x) (IsRow g (body (node ps cs f))) (IsBgpRow g qs) (map cond_expr cs)
unfolding Binding Stays
apart g x early seen ps cs f qs d all later = record {
  shared = λ a b c v row extra block h k.
      all a row v (shared_tree early seen (node ps cs f) d v (body_stays g (node ps cs f) b v extra h) (later v (((row_meets g qs c block).0 v).0 k))).0;
  holds = λ a b c row extra block a_b a_c b_c.
      let there : (v : Name) → In (all_vars ps) v ⊎ In early v → Binds (merge a b) v = λ v h.
      merge_binds a b v a_b (⊎_elim (λ k. inr (body_binds g (node ps cs f) b extra v k)) (λ k. inl (all a row v k)) h) in (
        (λ hold. all_map (HoldsExpr (merge (merge a c) b)) cond_expr cs
            (safe_told early (merge a b) (merge (merge a c) b) ps cs d.0.safe (λ v u h e. later_tells a b c a_b b_c v u e) (map_all (HoldsExpr (merge a b)) cond_expr cs hold))),
        (λ hold. all_map (HoldsExpr (merge a b)) cond_expr cs
            (safe_told early (merge (merge a c) b) (merge a b) ps cs d.0.safe
            (λ v u h e. let w = bound (merge a b v) (there v h) in w.1 ∙ sym (later_tells a b c a_b b_c v w.0 w.1) ∙ e)
            (map_all (HoldsExpr (merge (merge a c) b)) cond_expr cs hold))),
      );
}

-- where it stands in the group, an OPTIONAL sees all nodes above and beside
earlier : (early above beside : List Name) → ((v : Name) → In early v → In above v) → Earlier early above beside (above ++ beside)
earlier early above beside x =
    record { near = x; splits = λ v h. in_cases above beside v h; above_seen = λ v h. in_left above beside v h; beside_seen = λ v h. in_right above beside v h }

early_tree : (early above beside : List Name) (h : Group) → ((v : Name) → In early v → In above v) → KeepsEach early above beside (triples h) (plain_tests h)
    → AreDesignedEarly [] (above ++ all_vars (triples h)) beside h → IsTree early (above ++ beside) (optional_tree h)
early_tree early above beside h x each below =
    designed_tree early above beside (above ++ beside) (optional_tree h) (earlier early above beside x)
    (each, early_designed [] (all_vars (triples h)) (above ++ all_vars (triples h)) beside h (λ v k. absurd k) (λ v k. k) below)

-- a step of the walk that moves past the later blocks: LeftJoin, and then Join with them
optional_moves : (g : List Statement) (a step : Alg) (ps qs : List Pattern) (t : Tree) (es : List Expr) → SameRows g step (LeftJoin (Join a (Bgp ps)) (body t) es)
    → Apart (IsRow g (Join a (Bgp ps))) (IsRow g (body t)) (IsBgpRow g qs) es → SameRows g (Join step (Bgp qs)) (LeftJoin (Join a (Bgp (ps ++ qs))) (body t) es)
optional_moves g a step ps qs t es here far =
    let x = Join a (Bgp ps) in
    rows_then g (Join step (Bgp qs)) (Join (LeftJoin x (body t) es) (Bgp qs)) (LeftJoin (Join a (Bgp (ps ++ qs))) (body t) es)
    (join_same (IsRow g step) (IsBgpRow g qs) (IsRow g (LeftJoin x (body t) es)) (IsBgpRow g qs) here (same_self (IsBgpRow g qs)))
    (rows_then g (Join (LeftJoin x (body t) es) (Bgp qs)) (LeftJoin (Join x (Bgp qs)) (body t) es) (LeftJoin (Join a (Bgp (ps ++ qs))) (body t) es)
    (join_moves (IsRow g x) (IsRow g (body t)) (IsBgpRow g qs) es far)
    (left_same (IsRow g (Join x (Bgp qs))) (IsRow g (body t)) (IsRow g (Join a (Bgp (ps ++ qs)))) (IsRow g (body t)) es es
    (two_blocks g a ps qs) (same_self (IsRow g (body t))) (same_self (AllHoldExpr es))))

-- a group begins with the pattern of no triples, which adds nothing
from_nothing : (g : List Statement) (h : Group) → SameRows g (walk h) (joined (Join (Bgp []) (Bgp (triples h))) (optionals h)) → SameRows g (walk h) (joined (Bgp (triples h)) (optionals h))
from_nothing g h rows =
    rows_then g (walk h) (joined (Join (Bgp []) (Bgp (triples h))) (optionals h)) (joined (Bgp (triples h)) (optionals h)) rows
    (joined_same g (Join (Bgp []) (Bgp (triples h))) (Bgp (triples h)) (optionals h) (nothing_joined (IsBgpRow g (triples h))))

-- the rest of a group after a and the block ps: all blocks that are still to come, and then the OPTIONALs
rest_rows : (g : List Statement) (h : Group) (early above beside : List Name) (a : Alg) (ps : List Pattern) → Binding g (Join a (Bgp ps)) early
    → ((v : Name) → In early v → In above v) → ((v : Name) → In (all_vars (triples h)) v → In above v) → AreDesignedEarly early above beside h → HasPlainOptionals h
    → SameRows g (walk_on a ps h) (joined (Join a (Bgp (ps ++ triples h))) (optionals h))
rest_rows g done early above beside a ps all x y d plain = subst (λ qs. SameRows g (with_block a ps) (Join a (Bgp qs))) (sym (append-nil ps)) (block_rows g a ps)
rest_rows g (also (Block qs) k) early above beside a ps all x y d plain =
    subst (λ rs. SameRows g (walk_on a (ps ++ qs) k) (joined (Join a (Bgp rs)) (optionals k))) (append_assoc ps qs (triples k))
    (rest_rows g k (early ++ all_vars qs) above beside a (ps ++ qs)
    (same_binds g (Join (Join a (Bgp ps)) (Bgp qs)) (Join a (Bgp (ps ++ qs))) (early ++ all_vars qs) (two_blocks g a ps qs) (join_binds g (Join a (Bgp ps)) qs early all))
    (grown early qs (triples k) above x y) (λ v j. y v (vars_right qs (triples k) v j)) d plain)
rest_rows g (also (Optional h) k) early above beside a ps all x y d plain =
    let t = optional_tree h in
    let es = map cond_expr (plain_tests h) in
    let step = LeftJoin (with_block a ps) (walk h) (filters h) in
    let inner : SameRows g (walk h) (body t) =
    from_nothing g h (rest_rows g h [] (above ++ all_vars (triples h)) beside (Bgp []) [] (no_binding g (Join (Bgp []) (Bgp []))) (λ v j. absurd j) (λ v j. in_right above _ v j) d.1 plain.1) in
    let here : SameRows g step (LeftJoin (Join a (Bgp ps)) (body t) es) =
    left_same (IsRow g (with_block a ps)) (IsRow g (walk h)) (IsRow g (Join a (Bgp ps))) (IsRow g (body t)) (filters h) es (block_rows g a ps) inner (optional_tests h plain.0) in
    let binding : Binding g step early =
    same_binds g (LeftJoin (Join a (Bgp ps)) (body t) es) step early (rows_turned g step (LeftJoin (Join a (Bgp ps)) (body t) es) here) (left_binds g (Join a (Bgp ps)) (body t) es early all) in
    rows_then g (walk_on step [] k) (joined (Join step (Bgp (triples k))) (optionals k)) (joined (LeftJoin (Join a (Bgp (ps ++ triples k))) (body t) es) (optionals k))
    (rest_rows g k early above (beside ++ tree_vars t) step [] (same_binds g step (Join step (Bgp [])) early (block_rows g step []) binding) x y d.2 plain.2)
    (joined_same g (Join step (Bgp (triples k))) (LeftJoin (Join a (Bgp (ps ++ triples k))) (body t) es) (optionals k)
    (optional_moves g a step ps (triples k) t es here
    (apart g (Join a (Bgp ps)) early (above ++ beside) (triples h) (plain_tests h) (optionals h) (triples k) (early_tree early above beside h x d.0 d.1) all
    (λ v j. in_left above beside v (y v j)))))
rest_rows g (also (Filter e) k) early above beside a ps all x y d plain = rest_rows g k early above beside a ps all x y d plain

-- with the FILTERs of the outermost group, and restricted to what is selected
pub written_answers : (g : List Statement) (w : Written) (m : Mapping) → IsDesignedEarly w → HasPlainOptionals w.group → IsWrittenAnswer g w m ↔ IsAnswer g (gather w).vars (alg (gather w)) m
written_answers g w m d plain =
    let rows = from_nothing g w.group
    (rest_rows g w.group [] (all_vars (triples w.group)) [] (Bgp []) [] (no_binding g (Join (Bgp []) (Bgp []))) (λ v j. absurd j) (λ v j. j) d.below plain) in (
      (λ h. (h.0, ((rows h.0).0 h.1.0, (whole_tests w.group h.0).0 h.1.1), h.2)),
      (λ h. (h.0, ((rows h.0).1 h.1.0, (whole_tests w.group h.0).1 h.1.1), h.2)),
    )
