-- The tokens of groups.
use Rattle.std.proofs.Common.{◌≡◌, refl, ℕ, List, ◌∷◌, [], ◌++◌, Some, map, sym, ◌∙◌, ap, subst, append_assoc}
use Rattle.std.specs.List.{flat_map, AllByRecursion}
use Rattle.bye_pattern.specs.declared.cond.Cond.{Cond}
use Rattle.bye_pattern.specs.declared.rule.Rule.TheVariants.{NoTriples}
use Rattle.bye_pattern.specs.Patterns.{Pattern, all_vars}
use Rattle.bye_pattern.specs.Conditions.{Expr, cond_expr}
use Rattle.bye_pattern.specs.Trees.{Tree, node, Forest, leaf, more, tree_vars}
use Rattle.bye_pattern.specs.Designed.{IsDesigned, AreDesigned, IsWellDesigned}
use Rattle.bye_pattern.specs.Written.{Element, Block, Optional, Group, done, also, group_of}
use Rattle.bye_pattern.specs.AsWritten.{with_filters, tree_group, forest_group}
use Rattle.bye_table.specs.Mappings.{Name}
use Rattle.bye_tokens.specs.declared.token.Placed.{Placed}
use Rattle.bye_tokens.specs.declared.token.Token.{Token}
use Rattle.bye_tokens.specs.declared.token.Token.TheVariants.{Keyword, Mark}
use Rattle.bye_tokens.specs.declared.sign.Sign.TheVariants as signs
use Rattle.bye_tokens.specs.declared.word.Word.TheVariants as words
use Rattle.bye_parts.specs.Parts.{Part, repeated}
use Rattle.bye_grammar.specs.declared.place.Place.{Place}
use Rattle.bye_grammar.specs.declared.place.Place.TheVariants.{Outer, Inner}
use Rattle.bye_grammar.specs.Fits as fits
use Rattle.bye_grammar.specs.Values.{joined, block_of}
use Rattle.bye_grammar.specs.Grammar.{braced, filter, optional_group, element, body, group}
use Rattle.bye_grammar.specs.Valid.{IsPattern, IsExpr}
use Rattle.bye_grammar.specs.ValidSelects.{IsValidTree, AreValidTrees}
use Rattle.bye_written.specs.Written.{pattern_tokens, filter_tokens, tree_tokens, forest_tokens}
use Rattle.bye_readback.proofs.Writes.{Writes, writes_as, writes_then, writes_first, writes_last, writes_yield, writes_left, writes_right, writes_none, writes_some, writes_no_rounds, writes_round, writes_between}
use Rattle.bye_readback.proofs.Slots.{writes_word}
use Rattle.bye_readback.proofs.Blocks.{block_writes}
use Rattle.bye_readback.proofs.Depths.{Later, at_once, both_later, deeper}
use Rattle.bye_readback.proofs.Filters.{IsFiltered, expr_filtered, cond_filtered}

-- between `{` and `}`
abbrev pub in_braces : List Token → List Token
in_braces xs = Mark signs.OpenGroup ∷ (xs ++ Mark signs.CloseGroup ∷ [])

braces_write : {V : Type 0} {P : Part Placed V} {xs : List Token} {v : V} → Writes P xs v → Writes (braced P) (in_braces xs) v
braces_write f = writes_between (fits.is_sign signs.OpenGroup) (fits.is_sign signs.CloseGroup) (Mark signs.OpenGroup) (Mark signs.CloseGroup) tt tt refl refl f

-- an OPTIONAL or a FILTER in a group
abbrev an_element : Place → ℕ → Part Placed (List Element)
an_element place d = element [] (optional_group (group [] Inner d)) (filter [] place d)

filter_element : (place : Place) (d : ℕ) {xs : List Token} {e : Element} → Writes (filter [] place d) xs e → Writes (an_element place d) xs (e ∷ [])
filter_element place d {e = e} f = writes_first (writes_right f) (writes_then writes_none (writes_then writes_none (writes_yield (e ∷ []))))

optional_element : (place : Place) (d : ℕ) {xs : List Token} {g : Group} → Writes (group [] Inner d) xs g → Writes (an_element place d) (Keyword words.Optional ∷ xs) (Optional g ∷ [])
optional_element place d {g = g} f = writes_first (writes_left (writes_then (writes_word words.Optional) (writes_last Optional f))) (writes_then writes_none (writes_then writes_none (writes_yield (Optional g ∷ []))))

-- what follows the first block of a group: its elements, and the rest of the group that they are
record IsRest (place : Place) (d : ℕ) (xs : List Token) (g : Group) : Type 0 where
  values : List (List Element)
  writes : Writes (repeated (an_element place d)) xs values
  is : group_of (flat_map (λ es. es) values) ≡ g

-- such a rest, from some depth on
abbrev Rests : Place → List Token → Group → Type 0
Rests place xs g = Later (λ d. IsRest place d xs g)

no_rest : (place : Place) → Rests place [] done
no_rest place = at_once (λ d. record { values = []; writes = writes_no_rounds; is = refl })

one_more : (place : Place) (d : ℕ) {xs ys : List Token} {e : Element} {g : Group} → Writes (an_element place d) xs (e ∷ []) → IsRest place d ys g → IsRest place d (xs ++ ys) (also e g)
one_more place d {e = e} f r = record { values = (e ∷ []) ∷ r.values; writes = writes_round f r.writes; is = ap (λ g. also e g) r.is }

filters_rest : (place : Place) (es : List Expr) (xs : List Token) (g : Group) → AllByRecursion (IsFiltered place) es → Rests place xs g → Rests place (flat_map filter_tokens es ++ xs) (with_filters es g)
filters_rest place [] xs g h r = r
filters_rest place (e ∷ es) xs g h r =
    subst (λ xs. Rests place xs (with_filters (e ∷ es) g)) (sym (append_assoc (filter_tokens e) (flat_map filter_tokens es) xs))
    (both_later (λ d f r. one_more place d (filter_element place d f) r) h.0 (filters_rest place es xs g h.1 r))

-- the conditions of a node, and the outer expressions
all_filtered : (place : Place) (cs : List Cond) (outer : List Expr) → AllByRecursion (λ c. IsExpr (cond_expr c)) cs → AllByRecursion (IsFiltered place) outer → AllByRecursion (IsFiltered place) (map cond_expr cs ++ outer)
all_filtered place [] outer h k = k
all_filtered place (c ∷ cs) outer h k = (cond_filtered place c h.0, all_filtered place cs outer h.1 k)

filters_are : (cs : List Cond) (outer : List Expr) → flat_map filter_tokens (map cond_expr cs ++ outer) ≡ flat_map (λ c. filter_tokens (cond_expr c)) cs ++ flat_map filter_tokens outer
filters_are [] outer = refl
filters_are (c ∷ cs) outer =
    ap (λ xs. filter_tokens (cond_expr c) ++ xs) (filters_are cs outer) ∙ sym (append_assoc (filter_tokens (cond_expr c)) (flat_map (λ c. filter_tokens (cond_expr c)) cs) (flat_map filter_tokens outer))

body_writes : (place : Place) (d : ℕ) (p : Pattern) (ps : List Pattern) (xs : List Token) (g : Group) → AllByRecursion IsPattern (p ∷ ps) → IsRest place d xs g
    → Writes (body [] (optional_group (group [] Inner d)) (filter [] place d)) (flat_map pattern_tokens (p ∷ ps) ++ xs) (also (Block (p ∷ ps)) g)
body_writes place d p ps xs g h r =
    subst (λ g. Writes (body [] (optional_group (group [] Inner d)) (filter [] place d)) (flat_map pattern_tokens (p ∷ ps) ++ xs) (also (Block (p ∷ ps)) g)) r.is
    (writes_then (writes_some (block_writes p ps h)) (writes_last (λ es. group_of (joined (block_of (Some (p ∷ ps))) es)) r.writes))

parts_in_order : (ps : List Pattern) (cs : List Cond) (outer : List Expr) (f : Forest) → flat_map pattern_tokens ps ++ (flat_map filter_tokens (map cond_expr cs ++ outer) ++ forest_tokens f) ≡ tree_tokens outer (node ps cs f)
parts_in_order ps cs outer f =
    let own = flat_map pattern_tokens ps in
    let tests = flat_map (λ c. filter_tokens (cond_expr c)) cs in
    ap (λ xs. own ++ (xs ++ forest_tokens f)) (filters_are cs outer)
    ∙ sym (append_assoc own (tests ++ flat_map filter_tokens outer) (forest_tokens f))
    ∙ ap (λ xs. xs ++ forest_tokens f) (sym (append_assoc own tests (flat_map filter_tokens outer)))

-- the group of a tree is written so in this place, from some depth on
abbrev pub IsGroupWritten : Place → List Expr → Tree → Type 0
IsGroupWritten place outer t = Later (λ d. Writes (group [] place d) (in_braces (tree_tokens outer t)) (tree_group outer t))

node_written : (place : Place) (ps : List Pattern) (cs : List Cond) (outer : List Expr) (f : Forest) → (ps ≡ [] → ⊥) → AllByRecursion IsPattern ps → AllByRecursion (IsFiltered place) (map cond_expr cs ++ outer)
    → Rests place (forest_tokens f) (forest_group f) → IsGroupWritten place outer (node ps cs f)
node_written place [] cs outer f some h k r = absurd (some refl)
node_written place (p ∷ ps) cs outer f some h k r =
    deeper (λ d rest. braces_write (writes_as (parts_in_order (p ∷ ps) cs outer f) (body_writes place d p ps _ _ h rest)))
    (filters_rest place (map cond_expr cs ++ outer) (forest_tokens f) (forest_group f) k r)

optional_and_rest : (t : Tree) (f : Forest) → (Keyword words.Optional ∷ in_braces (tree_tokens [] t)) ++ forest_tokens f ≡ forest_tokens (more t f)
optional_and_rest t f = ap (λ xs. Keyword words.Optional ∷ Mark signs.OpenGroup ∷ xs) (append_assoc (tree_tokens [] t) (Mark signs.CloseGroup ∷ []) (forest_tokens f))

mutual
  tree_written : (parent above beside : List Name) (t : Tree) → IsDesigned parent above beside t → IsValidTree t → IsGroupWritten Inner [] t
  tree_written parent above beside (node ps cs f) h k =
      node_written Inner ps cs [] f (h.0 NoTriples) k.0 (all_filtered Inner cs [] k.1 tt) (forest_written Inner (all_vars ps) (above ++ all_vars ps) beside f h.1 k.2)

  forest_written : (place : Place) (parent above beside : List Name) (f : Forest) → AreDesigned parent above beside f → AreValidTrees f → Rests place (forest_tokens f) (forest_group f)
  forest_written place parent above beside leaf h k = no_rest place
  forest_written place parent above beside (more t f) h k =
      subst (λ xs. Rests place xs (forest_group (more t f))) (optional_and_rest t f)
      (both_later (λ d g r. one_more place d (optional_element place d g) r) (tree_written parent above beside t h.0 k.0) (forest_written place parent above (beside ++ tree_vars t) f h.1 k.1))

-- the outermost group
pub root_written : (t : Tree) (outer : List Expr) → IsWellDesigned t → IsValidTree t → AllByRecursion IsExpr outer → IsGroupWritten Outer outer t
root_written (node ps cs f) outer h k exprs = node_written Outer ps cs outer f (h.0 NoTriples) k.0 (all_filtered Outer cs outer k.1 (each outer exprs)) (forest_written Outer (all_vars ps) ([] ++ all_vars ps) [] f h.1 k.2)
  where
    each : (es : List Expr) → AllByRecursion IsExpr es → AllByRecursion (IsFiltered Outer) es
    each [] h = tt
    each (e ∷ es) h = (expr_filtered e h.0, each es h.1)
