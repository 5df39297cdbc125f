-- Groups as they are written.
use Rattle.std.proofs.Common.{◌≡◌, refl, ℕ, false, List, [], ◌++◌, ◌∙◌, ap, append_assoc, codes}
use Rattle.std.specs.List.{AllByRecursion}
use Rattle.bye_pattern.specs.Conditions.{Expr, cond_expr}
use Rattle.bye_pattern.specs.Patterns.{Pattern}
use Rattle.bye_pattern.specs.Printed.{pattern_text, triple_line, filter_line, tree_lines, forest_lines}
use Rattle.bye_pattern.specs.Trees.{Tree, node, Forest, leaf, more}
use Rattle.bye_pattern.specs.declared.cond.Cond.{Cond}
use Rattle.bye_grammar.specs.Valid.{IsPattern, IsExpr}
use Rattle.bye_grammar.specs.ValidSelects.{IsValidTree, AreValidTrees}
use Rattle.bye_tokens.specs.Splitting.{skip}
use Rattle.bye_tokens.specs.declared.token.Token.{Token}
use Rattle.bye_written.specs.Written.{pattern_tokens, filter_tokens, tree_tokens, forest_tokens}
use Rattle.bye_written.proofs.Expressions.{expression}
use Rattle.bye_written.proofs.Joined.{Spells, Any, Ends, joined, and_then, trailed, between, nothing, blank, space, line_end, for_each}
use Rattle.bye_written.proofs.Keywords.{filter_of, optional_group}
use Rattle.bye_written.proofs.Signs.{close_bracket, close_group, dot}
use Rattle.bye_written.proofs.Terms.{slot}

-- a margin is skipped
abbrev pub IsMargin : List ℕ → Type 0
IsMargin margin = (rest : List ℕ) → skip false (margin ++ rest) ≡ skip false rest

further_in : (margin : List ℕ) → IsMargin margin → IsMargin (margin ++ codes "  ")
further_in margin m rest = ap (skip false) (append_assoc margin (codes "  ") rest) ∙ m (codes "  " ++ rest)

spaced : {text : List ℕ} {ts : List Token} → Spells Ends text ts → Spells Any (text ++ codes " ") ts
spaced x = trailed x space (λ rest. refl)

pattern : (p : Pattern) → IsPattern p → Spells Ends (pattern_text p) (pattern_tokens p)
pattern p valid = joined (and_then (spaced (and_then (spaced (slot p.s valid.s.0)) (slot p.p valid.p.0))) (slot p.o valid.o)) dot (λ rest q. refl)

line_of_triple : (margin : List ℕ) → IsMargin margin → (p : Pattern) → IsPattern p → Spells Any (triple_line margin p) (pattern_tokens p)
line_of_triple margin m p valid = trailed (and_then (blank margin m) (pattern p valid)) line_end (λ rest. refl)

line_of_filter : (margin : List ℕ) → IsMargin margin → (e : Expr) → IsExpr e → Spells Any (filter_line margin e) (filter_tokens e)
line_of_filter margin m e valid = and_then (and_then (and_then (blank margin m) filter_of) (expression e valid)) (and_then close_bracket line_end)

mutual
  pub tree_of : (margin : List ℕ) → IsMargin margin → (outer : List Expr) (t : Tree) → AllByRecursion IsExpr outer → IsValidTree t → Spells Any (tree_lines margin outer t) (tree_tokens outer t)
  tree_of margin m outer (node ps cs f) others valid =
      and_then
      (and_then
      (and_then (for_each IsPattern (triple_line margin) pattern_tokens (line_of_triple margin m) ps valid.0)
      (for_each (λ (c : Cond). IsExpr (cond_expr c)) (λ c. filter_line margin (cond_expr c)) (λ c. filter_tokens (cond_expr c)) (λ c. line_of_filter margin m (cond_expr c)) cs valid.1))
      (for_each IsExpr (filter_line margin) filter_tokens (line_of_filter margin m) outer others))
      (forest_of margin m f valid.2)

  forest_of : (margin : List ℕ) → IsMargin margin → (f : Forest) → AreValidTrees f → Spells Any (forest_lines margin f) (forest_tokens f)
  forest_of margin m leaf valid = nothing
  forest_of margin m (more t f) valid =
      let group = and_then (and_then (blank margin m) optional_group) (tree_of (margin ++ codes "  ") (further_in margin m) [] t tt valid.0) in
      between (trailed group (blank margin m) (λ rest. tt)) close_group (forest_of margin m f valid.1) (λ rest. tt)
