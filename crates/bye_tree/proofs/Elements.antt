-- The walk over the elements of a written group of the program, by the facts that its code has.
use Rattle.std.proofs.Common.{◌≡◌, refl, ℕ, ◌+◌, ◌<◌, ◌≤◌, Bool, true, false, ◌||◌, List, [], ◌∷◌, ◌++◌, Option, None, length, get_or, drop, map, sym, ◌∙◌, ap, subst, reverse}
use Rattle.std.proofs.lemmas.List.{drop_all}
use Rattle.bye_table.specs.Mappings.{Name}
use Rattle.bye_pattern.specs.declared.rule.Rule.{Rule}
use Rattle.bye_pattern.specs.Patterns.{Pattern, all_vars}
use Rattle.bye_pattern.specs.Conditions.{Expr}
use Rattle.bye_pattern.specs.Trees.{forest_vars, tree_vars}
use Rattle.bye_pattern.specs.Written as plain
use Rattle.bye_pattern.specs.Written.{Group, group_of, triples, also, done}
use Rattle.bye_pattern.specs.Gathered.{firsts, optional_tree, optionals}
use Rattle.bye_tree.specs.declared.written.Element.{Element}
use Rattle.bye_tree.specs.declared.shape.ShapeErr.{ShapeErr}
use Rattle.bye_tree.specs.declared.shape.ShapeErr.TheVariants.{Broken, Memory}
use Rattle.bye_tree.specs.Judging.{IsRefused, judged}
use Rattle.bye_tree.specs.Names.{with_names}
use Rattle.bye_tree.specs.Checking.{IsTurned, IsUnder, NamesUp}
use Rattle.bye_tree.specs.Checking
use Rattle.bye_tree.specs.Written.{BreaksAsWritten, GroupBreaks, IsEarly, IsGroupDesigned, block_triples, element_of, elements_of, no_triples, tests_safe}
use Rattle.bye_tree.proofs.Joining.{names_again, names_join}
use Rattle.bye_tree.proofs.Narrow.{from_item}
use Rattle.bye_tree.proofs.Nodes.{at_root, subst3, turned}
use Rattle.bye_tree.proofs.Selected.{first_names}
use Rattle.bye_tree.proofs.Groups.{Walked, all_vars_join, group_designed, group_refused, optional_refused, past_block, past_filter, past_optional}

-- the rest from an element on
pub at_element : (es : List Element) (i : ℕ) (m : Element) (e : plain.Element) → i < length es → m ≡ get_or es i m → element_of m ≡ e → elements_of (drop i es) ≡ also e (elements_of (drop (i + 1) es))
at_element es i m e l is f = ap elements_of (from_item es i m l is) ∙ ap (λ e. also e (elements_of (drop (i + 1) es))) f

block_step : (e : plain.Element) (g : Group) → all_vars (triples (also e g)) ≡ all_vars (block_triples e) ++ all_vars (triples g)
block_step (plain.Block ps) g = all_vars_join ps (triples g)
block_step (plain.Optional h) g = refl
block_step (plain.Filter x) g = refl

pub names_on : (es : List Element) (i : ℕ) (m : Element) (names new end : List Name) → i < length es → m ≡ get_or es i m → with_names names (all_vars (triples (elements_of (drop i es)))) ≡ end
    → new ≡ with_names names (all_vars (block_triples (element_of m))) → with_names new (all_vars (triples (elements_of (drop (i + 1) es)))) ≡ end
names_on es i m names new end l is e f =
    ap (λ vs. with_names vs (all_vars (triples (elements_of (drop (i + 1) es))))) f ∙ names_join names (all_vars (block_triples (element_of m))) (all_vars (triples (elements_of (drop (i + 1) es))))
    ∙ ap (with_names names) (sym (ap (λ g. all_vars (triples g)) (at_element es i m (element_of m) l is refl) ∙ block_step (element_of m) (elements_of (drop (i + 1) es)))) ∙ e

-- what the code knows of a group when it judges it
pub record Told (g : Group) (own parent above shown entered seen start : List Name) (root empty safe : Bool) : Type 0 where
  pub own_is : own ≡ with_names [] (all_vars (triples g))
  pub safe_is : safe ≡ (root || tests_safe parent own g)
  pub empty_is : empty ≡ no_triples g
  pub shown_is : shown ≡ above
  pub verdict : judged empty safe own parent (with_names [] shown) seen ≡ None
  pub entered_is : entered ≡ above ++ own
  pub start_is : start ≡ with_names seen own

judged_is : (g : Group) (own parent above shown seen : List Name) (root empty safe : Bool) → safe ≡ (root || tests_safe parent own g) → empty ≡ no_triples g → shown ≡ above
    → judged empty safe own parent (with_names [] shown) seen ≡ judged (no_triples g) (root || tests_safe parent own g) own parent (with_names [] above) seen
judged_is g own parent above shown seen root empty safe s e h = (λ i. judged (e i) (s i) own parent (with_names [] (h i)) seen)

pub refused_group : (e : ShapeErr) (g : Group) (own parent above shown seen : List Name) (root empty safe : Bool) → own ≡ with_names [] (all_vars (triples g)) → safe ≡ (root || tests_safe parent own g)
    → empty ≡ no_triples g → shown ≡ above → IsRefused (judged empty safe own parent (with_names [] shown) seen) e → NamesUp (GroupBreaks root parent above seen g) e
refused_group e g own parent above shown seen root empty safe o s n h r =
    group_refused e root own parent above seen g o (subst (λ (x : Option Rule). IsRefused x e) (judged_is g own parent above shown seen root empty safe s n h) r)

moved : (above start early seen above2 start2 : List Name) (g : Group) (n : ℕ) (rest : Group) → above ≡ above2 → start ≡ start2 → Walked above start early seen g n rest → Walked above2 start2 early seen g n rest
moved above start early seen above2 start2 g n rest a s w = subst (λ (x : List Name). Walked above2 x early seen g n rest) s (subst (λ (x : List Name). Walked x start early seen g n rest) a w)

pub refused_optional : (e r : ShapeErr) (g h rest now_rest : Group) (n : ℕ) (own parent above shown entered seen start early now at : List Name) (root empty safe : Bool) → Told g own parent above shown entered seen start root empty safe
    → now_rest ≡ also (plain.Optional h) rest → Walked entered start early now g (n + 1) now_rest → at ≡ entered → NamesUp (GroupBreaks false early at now h) e → IsUnder n e r
    → NamesUp (GroupBreaks root parent above seen g) r
refused_optional e r g h rest now_rest n own parent above shown entered seen start early now at root empty safe t is w ab x u =
    optional_refused e r n root own parent above seen early now g h rest t.own_is
    (sym (judged_is g own parent above shown seen root empty safe t.safe_is t.empty_is t.shown_is) ∙ t.verdict)
    (moved entered start early now (above ++ own) (with_names seen own) g (n + 1) (also (plain.Optional h) rest) t.entered_is t.start_is (subst (λ (rest : Group). Walked entered start early now g (n + 1) rest) is w))
    (subst (λ (x : List Name). NamesUp (GroupBreaks false early x now h) e) (ab ∙ t.entered_is) x) u

pub designed_group : (g now_rest : Group) (n : ℕ) (own parent above shown entered seen start early last : List Name) (root empty safe : Bool) → Told g own parent above shown entered seen start root empty safe
    → now_rest ≡ done → Walked entered start early last g n now_rest → IsGroupDesigned root parent above seen g
designed_group g now_rest n own parent above shown entered seen start early last root empty safe t is w =
    group_designed root own parent above seen early last g n t.own_is
    (sym (judged_is g own parent above shown seen root empty safe t.safe_is t.empty_is t.shown_is) ∙ t.verdict)
    (moved entered start early last (above ++ own) (with_names seen own) g n done t.entered_is t.start_is (subst (λ (rest : Group). Walked entered start early last g n rest) is w))

pub seen_group : (g now_rest : Group) (own parent above shown entered seen start last : List Name) (root empty safe : Bool) → Told g own parent above shown entered seen start root empty safe
    → now_rest ≡ done → with_names last (forest_vars (optionals now_rest)) ≡ with_names start (forest_vars (optionals g)) → last ≡ with_names seen (tree_vars (optional_tree g))
seen_group g now_rest own parent above shown entered seen start last root empty safe t is e =
    ap (λ rest. with_names last (forest_vars (optionals rest))) (sym is) ∙ e ∙ ap (λ vs. with_names vs (forest_vars (optionals g))) (t.start_is ∙ ap (with_names seen) t.own_is)
    ∙ names_again seen (all_vars (triples g)) (forest_vars (optionals g))

-- an OPTIONAL is passed
pub optional_seen : (h rest now_rest : Group) (seen new end : List Name) → now_rest ≡ also (plain.Optional h) rest → with_names seen (forest_vars (optionals now_rest)) ≡ end
    → new ≡ with_names seen (tree_vars (optional_tree h)) → with_names new (forest_vars (optionals rest)) ≡ end
optional_seen h rest now_rest seen new end is e f =
    ap (λ vs. with_names vs (forest_vars (optionals rest))) f ∙ names_join seen (tree_vars (optional_tree h)) (forest_vars (optionals rest)) ∙ ap (λ g. with_names seen (forest_vars (optionals g))) (sym is) ∙ e

pub optional_walked : (h g rest now_rest : Group) (n : ℕ) (entered start early seen new at : List Name) → now_rest ≡ also (plain.Optional h) rest → Walked entered start early seen g n now_rest → at ≡ entered
    → new ≡ with_names seen (tree_vars (optional_tree h)) → IsGroupDesigned false early at seen h → Walked entered start early new g (n + 1) rest
optional_walked h g rest now_rest n entered start early seen new at is w ab f d =
    subst (λ (x : List Name). Walked entered start early x g (n + 1) rest) (sym f)
    (past_optional entered start early seen g n h rest (subst (λ (rest : Group). Walked entered start early seen g n rest) is w) (subst (λ (x : List Name). IsGroupDesigned false early x seen h) ab d))

-- a block is passed, or a FILTER
pub block_walked : (g rest now_rest : Group) (ps : List Pattern) (n : ℕ) (entered start early new seen : List Name) → now_rest ≡ also (plain.Block ps) rest → Walked entered start early seen g n now_rest
    → new ≡ with_names early (all_vars ps) → Walked entered start new seen g n rest
block_walked g rest now_rest ps n entered start early new seen is w f =
    subst (λ (x : List Name). Walked entered start x seen g n rest) (sym f) (past_block entered start early seen g n ps rest (subst (λ (rest : Group). Walked entered start early seen g n rest) is w))

pub filter_walked : (g rest now_rest : Group) (x : Expr) (n : ℕ) (entered start early seen : List Name) → now_rest ≡ also (plain.Filter x) rest → Walked entered start early seen g n now_rest → Walked entered start early seen g n rest
filter_walked g rest now_rest x n entered start early seen is w = past_filter entered start early seen g n x rest (subst (λ (rest : Group). Walked entered start early seen g n rest) is w)

-- the OPTIONALs after a block or a FILTER are the same
pub block_optionals : (rest now_rest : Group) (ps : List Pattern) (seen end : List Name) → now_rest ≡ also (plain.Block ps) rest → with_names seen (forest_vars (optionals now_rest)) ≡ end → with_names seen (forest_vars (optionals rest)) ≡ end
block_optionals rest now_rest ps seen end is e = ap (λ g. with_names seen (forest_vars (optionals g))) (sym is) ∙ e

pub filter_optionals : (rest now_rest : Group) (x : Expr) (seen end : List Name) → now_rest ≡ also (plain.Filter x) rest → with_names seen (forest_vars (optionals now_rest)) ≡ end → with_names seen (forest_vars (optionals rest)) ≡ end
filter_optionals rest now_rest x seen end is e = ap (λ g. with_names seen (forest_vars (optionals g))) (sym is) ∙ e

pub no_rest : (es : List Element) (i : ℕ) → length es ≤ i → elements_of (drop i es) ≡ done
no_rest es i l = ap elements_of (drop_all i es l)

-- the outermost group
pub root_early : (parent above seen : List Name) (g : Group) → parent ≡ [] → above ≡ [] → seen ≡ [] → IsGroupDesigned true parent above seen g → IsEarly g
root_early parent above seen g p a s d w is =
    let k : IsGroupDesigned true [] [] [] w.group = subst (λ (g : Group). IsGroupDesigned true [] [] [] g) (sym is) (subst3 (λ p a s. IsGroupDesigned true p a s g) p a s d) in
    let h = k [] [] [] at_root in record { root = h.0; below = h.1 }

breaks_early : (e : ShapeErr) (g : Group) → NamesUp (GroupBreaks true [] [] [] g) e → NamesUp (BreaksAsWritten g) e
breaks_early (Broken e) g h = λ w is.
    let k : GroupBreaks true [] [] [] w.group (reverse e.path.items) e.rule = subst (λ (g : Group). GroupBreaks true [] [] [] g (reverse e.path.items) e.rule) (sym is) h in k [] [] [] at_root
breaks_early Memory g h = tt

pub root_late : (e r : ShapeErr) (parent above seen : List Name) (g : Group) → parent ≡ [] → above ≡ [] → seen ≡ [] → NamesUp (GroupBreaks true parent above seen g) e → IsTurned e r → Checking.Names (BreaksAsWritten g) r
root_late e r parent above seen g p a s h u = turned (BreaksAsWritten g) e r (breaks_early e g (subst3 (λ p a s. NamesUp (GroupBreaks true p a s g) e) p a s h)) u

pub names_seen : (g : Group) (seen last : List Name) → seen ≡ [] → last ≡ with_names seen (tree_vars (optional_tree g)) → last ≡ firsts (tree_vars (optional_tree g))
names_seen g seen last s e = e ∙ ap (λ vs. with_names vs (tree_vars (optional_tree g))) s ∙ first_names (tree_vars (optional_tree g))
