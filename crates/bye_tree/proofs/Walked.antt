-- The walk over the children of a node, and what it tells of the node.
use Rattle.std.proofs.Common.{◌≡◌, refl, ℕ, ◌+◌, Bool, true, false, cond, List, [], ◌∷◌, ◌++◌, Option, Some, None, inl, inr, sym, ◌∙◌, ap, subst, reverse}
use Rattle.std.specs.List.{list_all}
use Rattle.std.proofs.lemmas.List.{reverse-append}
use Rattle.bye_table.specs.Mappings.{Name}
use Rattle.bye_pattern.specs.declared.cond.Cond.{Cond}
use Rattle.bye_pattern.specs.declared.rule.Rule.{Rule}
use Rattle.bye_pattern.specs.Patterns.{Pattern, all_vars}
use Rattle.bye_pattern.specs.Trees.{Tree, node, Forest, leaf, more, tree_vars}
use Rattle.bye_pattern.specs.Designed.{AreDesigned, BreaksIn}
use Rattle.bye_pattern.specs.Gathered.{KeepsEach}
use Rattle.bye_tree.specs.declared.shape.ShapeErr.{ShapeErr}
use Rattle.bye_tree.specs.declared.shape.ShapeErr.TheVariants.{Broken, Memory}
use Rattle.bye_tree.specs.Judging.{Alike, IsRefused, Stands, is_safe, judged}
use Rattle.bye_tree.specs.Names.{with_names}
use Rattle.bye_tree.specs.Checking.{BreaksHere, IsDesignedHere, IsUnder, NamesUp}
use Rattle.bye_tree.proofs.Joining.{alike_names, into, past}
use Rattle.bye_tree.proofs.Judged.{Told, judged_broken, judged_kept, tested}

-- what is found in the rest of a forest, the n-th child and on, holds of the forest; c are the variables of the groups beside by then
pub record Onward (p a b : List Name) (f : Forest) (c : List Name) (n : ℕ) (rest : Forest) : Type 0 where
  pub designed : AreDesigned p a c rest → AreDesigned p a b f
  pub breaks : (path : List ℕ) (rule : Rule) → BreaksIn p a c n rest path rule → BreaksIn p a b 1 f path rule

pub record Walked (own above start seen : List Name) (f : Forest) (n : ℕ) (rest : Forest) : Type 0 where
  pub so_far : (p a b : List Name) → Stands own above start p a b → (c : List Name) × Stands own above seen p a c × Onward p a b f c n rest

pub walk_begins : (own above start : List Name) (f : Forest) → Walked own above start start f 1 f
walk_begins own above start f = record { so_far = λ p a b s. (b, s, record { designed = λ d. d; breaks = λ path rule h. h }) }

pub walk_goes_on : (own above start seen : List Name) (f : Forest) (n : ℕ) (t : Tree) (rest : Forest) → Walked own above start seen f n (more t rest) → IsDesignedHere own above seen t
    → Walked own above start (with_names seen (tree_vars t)) f (n + 1) rest
walk_goes_on own above start seen f n t rest w d = record {
  so_far = λ p a b s. let k = w.so_far p a b s in (
    k.0 ++ tree_vars t,
    past own above seen p a k.0 (tree_vars t) k.1,
    record { designed = λ r. k.2.designed (d p a k.0 k.1, r); breaks = λ path rule h. k.2.breaks path rule (inr (d p a k.0 k.1, h)) },
  );
}

walk_breaks : (own above start seen : List Name) (f : Forest) (n : ℕ) (t : Tree) (rest : Forest) (path : List ℕ) (rule : Rule) → Walked own above start seen f n (more t rest)
    → BreaksHere own above seen t path rule → (p a b : List Name) → Stands own above start p a b → BreaksIn p a b 1 f (n ∷ path) rule
walk_breaks own above start seen f n t rest path rule w h p a b s = let k = w.so_far p a b s in k.2.breaks (n ∷ path) rule (inl (path, refl, h p a k.0 k.1))

-- a node whose own rules are judged
pub record Judged (empty : Bool) (own parent above seen : List Name) (ps : List Pattern) (cs : List Cond) : Type 0 where
  pub own_is : own ≡ with_names [] (all_vars ps)
  pub some : empty ≡ false → ps ≡ [] → ⊥
  pub none : empty ≡ true → ps ≡ []
  pub verdict : judged empty (list_all (is_safe parent own) cs) own parent (with_names [] above) seen ≡ None

own_alike : (own ws : List Name) → own ≡ with_names [] ws → Alike own ws
own_alike own ws e = subst (λ vs. Alike vs ws) (sym e) (alike_names ws)

kept_here : (empty : Bool) (own parent above seen p a b : List Name) (ps : List Pattern) (cs : List Cond) → Judged empty own parent above seen ps cs → Stands parent above seen p a b
    → KeepsEach p a b ps cs
kept_here empty own parent above seen p a b ps cs j s =
    judged_kept parent above seen p a b own empty (list_all (is_safe parent own) cs) ps cs s
    (tested empty parent own p ps cs s.parent_is (own_alike own (all_vars ps) j.own_is) j.some j.none) j.verdict

pub node_designed : (empty : Bool) (own parent above seen last : List Name) (ps : List Pattern) (cs : List Cond) (f : Forest) (n : ℕ) → Judged empty own parent above seen ps cs
    → Walked own (above ++ own) (with_names seen own) last f n leaf → IsDesignedHere parent above seen (node ps cs f)
node_designed empty own parent above seen last ps cs f n j w p a b s =
    let o = own_alike own (all_vars ps) j.own_is in
    (kept_here empty own parent above seen p a b ps cs j s, (w.so_far (all_vars ps) (a ++ all_vars ps) b (into parent above seen p a b own (all_vars ps) s o)).2.designed tt)

-- a refusal of the node itself
pub node_refused : (e : ShapeErr) (empty : Bool) (own parent above seen : List Name) (ps : List Pattern) (cs : List Cond) (f : Forest) → own ≡ with_names [] (all_vars ps)
    → (empty ≡ false → ps ≡ [] → ⊥) → (empty ≡ true → ps ≡ []) → IsRefused (judged empty (list_all (is_safe parent own) cs) own parent (with_names [] above) seen) e
    → NamesUp (BreaksHere parent above seen (node ps cs f)) e
node_refused (Broken e) empty own parent above seen ps cs f o some none h = λ p a b s.
    inl (
      ap reverse h.1,
      judged_broken parent above seen p a b own empty (list_all (is_safe parent own) cs) ps cs e.rule s
          (tested empty parent own p ps cs s.parent_is (own_alike own (all_vars ps) o) some none) h.0,
    )
node_refused Memory empty own parent above seen ps cs f o some none h = tt

-- the refusal of a child is one of its parent
one_more : (xs : List ℕ) (k : ℕ) → reverse (xs ++ k ∷ []) ≡ k ∷ reverse xs
one_more xs k = reverse-append xs (k ∷ [])

pub child_refused : (e r : ShapeErr) (index : ℕ) (empty : Bool) (own parent above seen now : List Name) (ps : List Pattern) (cs : List Cond) (f : Forest) (t : Tree) (rest : Forest)
    → Judged empty own parent above seen ps cs → Walked own (above ++ own) (with_names seen own) now f (index + 1) (more t rest) → NamesUp (BreaksHere own (above ++ own) now t) e → IsUnder index e r
    → NamesUp (BreaksHere parent above seen (node ps cs f)) r
child_refused (Broken e) (Broken r) index empty own parent above seen now ps cs f t rest j w h u = λ p a b s.
    let o = own_alike own (all_vars ps) j.own_is in
    let path : reverse r.path.items ≡ (index + 1) ∷ reverse e.path.items = ap reverse u.0 ∙ one_more e.path.items (index + 1) in
    let below = walk_breaks own (above ++ own) (with_names seen own) now f (index + 1) t rest (reverse e.path.items) e.rule w h (all_vars ps) (a ++ all_vars ps) b (into parent above seen p a b own (all_vars ps) s o) in
    inr (
      kept_here empty own parent above seen p a b ps cs j s,
      subst (λ (x : List ℕ). BreaksIn (all_vars ps) (a ++ all_vars ps) b 1 f x r.rule) (sym path)
          (subst (λ (x : Rule). BreaksIn (all_vars ps) (a ++ all_vars ps) b 1 f ((index + 1) ∷ reverse e.path.items) x) (sym u.1) below),
    )
child_refused Memory (Broken r) index empty own parent above seen now ps cs f t rest j w h u = absurd u
child_refused e Memory index empty own parent above seen now ps cs f t rest j w h u = tt
