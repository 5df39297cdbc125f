-- What the search through a tree tells of the answers of its query.
use Rattle.std.proofs.Common.{◌≡◌, refl, ℕ, suc, ◌<◌, ◌≤◌, Bool, true, false, List, [], ◌∷◌, map, length, Some, Result, Ok, Err, IfOk, IsTrue, inl, inr, ◌↔◌, sym, ◌∙◌, ap, subst, arith}
use Rattle.bye_terms.specs.Members.{EachOnce, In}
use Rattle.bye_table.specs.Mappings.{Mapping, Name, nothing}
use Rattle.bye_table.specs.Sorted.{mappings}
use Rattle.bye_table.specs.Tables.{TableValue}
use Rattle.bye_pattern.specs.Algebra.{IsAnswer, IsRow}
use Rattle.bye_pattern.specs.Conditions.{Expr as PlainExpr}
use Rattle.bye_pattern.specs.Designed.{IsWellDesigned}
use Rattle.bye_pattern.specs.Trees.{Select, Tree, alg, plain_select, tree_vars}
use Rattle.bye_laws.proofs.Restricting.{answer_row, row_answer}
use Rattle.bye_graph.specs.Graphs.{GraphValue, IsNumbered, statements}
use Rattle.bye_tree.specs.Exprs.{expr_of}
use Rattle.bye_tree.specs.declared.expr.Expr.{Expr}
use Rattle.bye_node.specs.Envs.{Cells, cell}
use Rattle.bye_node.specs.Pins.{pin_at}
use Rattle.bye_node.specs.Steps.{AreListed, decode}
use Rattle.bye_node.specs.declared.pin.Pin.{Pin}
use Rattle.bye_node.specs.declared.pin.Pin.TheVariants.{Free, Must}
use Rattle.bye_node.proofs.Cells.{some_in}
use Rattle.bye_member.specs.Answers.{AreAnswers, AreOf, ArePlaces, AreRowsBy, Asks, HasMore, HasOver, IsNoRow, IsStop, IsWay, most_rows, over}
use Rattle.bye_member.specs.Downs.{DescendsBy}
use Rattle.bye_member.specs.Lines.{project}
use Rattle.bye_member.specs.Searches.{IsPinned, Task}
use Rattle.bye_member.specs.declared.answering.AnsErr.{AnsErr}
use Rattle.bye_member.specs.declared.answering.AnsErr.TheVariants as errors
use Rattle.bye_member.specs.declared.lines.Stop.{Stop}
use Rattle.bye_member.specs.declared.lines.Stop.TheVariants as stops
use Rattle.bye_member.proofs.Pinning.{answer_known, answers_pinned}
use Rattle.bye_member.proofs.Projecting.{all_answers, answers_once, only_answers}
use Rattle.bye_member.proofs.Rowing.{rows_by}

-- what is told of some value
pub tells_no : {X : Type 0} → (X → ⊥) → IsTrue false ↔ X
tells_no none = ((λ t. let c = t in cc), (λ x. absurd (none x)))

pub tells_yes : {X : Type 0} → X → IsTrue true ↔ X
tells_yes x = ((λ t. x), (λ t. refl))

pub if_ok : {A E : Type 0} (P Q : A → Type 0) (r : Result A E) → ((a : A) → P a → Q a) → IfOk r P → IfOk r Q
if_ok P Q (Ok a) f h = f a h
if_ok P Q (Err e) f h = tt

-- without room for a row there is none, and with a row too many there is one
pub none_way : (task : Task) (t : Tree) (rows : List Cells) → ((y : Cells) → IsWay task t y → In rows (project task.selected y)) → length rows ≤ 0 → ((y : Cells) × IsWay task t y) → ⊥
none_way task t [] whole few (y, way) = whole y way
none_way task t (r ∷ rows) whole few w = omega (arith, few)

way_of : (task : Task) (t : Tree) (rows : List Cells) → 0 < length rows → AreOf task.selected (IsWay task t) rows → (y : Cells) × IsWay task t y
way_of task t [] some of = absurd (omega (arith, some))
way_of task t (r ∷ rows) some of = let w = of r (inl refl) in (w.0, w.1)

pub some_way : (task : Task) (t : Tree) → HasOver task t 0 → (y : Cells) × IsWay task t y
some_way task t h = way_of task t h.0 h.2 h.3

-- without pins each mapping is pinned
none_pinned : (y : Cells) → IsPinned [] y
none_pinned y = record { agrees = record { allowed = λ i n h. tt }; bound = λ i n h. free i n h }
  where
    free : (i n : ℕ) → pin_at [] i ≡ Must n → cell y i ≡ Some n
    free i n h = let c : Free ≡ Must n = h in cc

pub mapped : {X Y : Type 0} (f : X → Y) (xs : List X) → length (map f xs) ≡ length xs
mapped f [] = refl
mapped f (x ∷ xs) = ap suc (mapped f xs)

-- the variables of a tree, each once, are listed
pub tree_listed : (vs : List Name) (t : Tree) → EachOnce vs → ((v : Name) → In vs v ↔ In (tree_vars t) v) → AreListed nothing vs (tree_vars t)
tree_listed vs t once same = record { once = once; has = λ v i. inr ((same v).1 i) }

module _ (vs : List Name) (g : GraphValue) (t : Tree) (outer : List Expr) (good : IsNumbered g) (designed : IsWellDesigned t) (listed : AreListed nothing vs (tree_vars t)) where
  -- the query of these parts
  abbrev asked : Bool → List Name → Select
  asked distinct sel = record { distinct = distinct; vars = sel; tree = t; outer = map expr_of outer }

  rows : (distinct : Bool) (sel : List Name) → AreRowsBy vs g (asked distinct sel) (DescendsBy vs g (asked distinct sel))
  rows distinct sel = rows_by vs g (asked distinct sel) good designed listed

  abbrev task : List Pin → List ℕ → Task
  task pins selected = record { graph = g; vars = vs; outer = outer; pins = pins; selected = selected }

  -- a row that cannot be one is no answer
  pub no_answer : (sel : List Name) (m : Mapping) → IsNoRow g.terms vs sel m → IsAnswer (statements g) sel (alg (over t outer)) m → ⊥
  no_answer sel m none answer =
      none (λ v binds.
      let w = some_in (m v) binds in
      let k = answer_known vs g (asked true sel) (DescendsBy vs g (asked true sel)) m v w.0 listed.once (rows true sel) answer w.1 in
      (k.0, k.1, λ u e. (answer_known vs g (asked true sel) (DescendsBy vs g (asked true sel)) m v u listed.once (rows true sel) answer e).2))

  -- a row is an answer exactly where there is a way to it
  pub answer_ways : (sel : List Name) (m : Mapping) (pins : List Pin) (selected : List ℕ) → Asks g.terms vs sel m pins
      → ((y : Cells) × IsWay (task pins selected) t y) ↔ IsAnswer (statements g) sel (alg (over t outer)) m
  answer_ways sel m pins selected asks =
      let law = answers_pinned vs g (asked true sel) (DescendsBy vs g (asked true sel)) m pins listed.once good.terms (rows true sel) asks.are asks.known in (
        (λ w. law.1 (w.0, w.1.down, w.1.pinned)),
        (λ a. let w = law.0 a in (w.0, record { down = w.1; pinned = w.2 })),
      )

  -- the rows that were found, as answers
  down_rows : (distinct : Bool) (sel : List Name) (selected : List ℕ) (found : List Cells) → AreOf selected (IsWay (task [] selected) t) found → AreOf selected (DescendsBy vs g (asked distinct sel)) found
  down_rows distinct sel selected found of r h = let w = of r h in (w.0, w.1.down, w.2)

  -- more of them than may be
  pub more_found : (distinct : Bool) (sel : List Name) (selected : List ℕ) → EachOnce sel → ArePlaces vs sel selected → HasOver (task [] selected) t most_rows → HasMore (statements g) (asked distinct sel)
  more_found distinct sel selected once are (found, alone, many, of) =
      let down = down_rows distinct sel selected found of in
      let size = mapped (decode sel g.terms) found in (
        map (decode sel g.terms) found,
        answers_once vs g (asked distinct sel) (DescendsBy vs g (asked distinct sel)) selected found once good.terms (rows distinct sel) are down alone,
        subst (λ n. most_rows < n) (sym size) many,
        λ m h. only_answers vs g (asked distinct sel) (DescendsBy vs g (asked distinct sel)) selected found listed.once (rows distinct sel) are down m h,
      )

  -- and all of them
  pub all_found : (distinct : Bool) (sel : List Name) (selected : List ℕ) (found : List Cells) (table : TableValue) → EachOnce sel → ArePlaces vs sel selected → AreOf selected (IsWay (task [] selected) t) found
      → ((y : Cells) → IsWay (task [] selected) t y → In found (project selected y)) → EachOnce found → length found ≤ most_rows → table.vars ≡ sel → length table.rows ≡ length found
      → mappings table ≡ map (decode sel g.terms) found → AreAnswers (statements g) (asked distinct sel) table
  all_found distinct sel selected found table once are of whole alone few vars size same =
      let down = down_rows distinct sel selected found of in record {
        vars = vars;
        only = λ m h. only_answers vs g (asked distinct sel) (DescendsBy vs g (asked distinct sel)) selected found listed.once (rows distinct sel) are down m (subst (λ ms. In ms m) same h);
        whole = λ m h. subst (λ ms. In ms m) (sym same)
            (all_answers vs g (asked distinct sel) (DescendsBy vs g (asked distinct sel)) selected found listed.once (rows distinct sel) are
            (λ y d. whole y (record { down = d; pinned = none_pinned y })) m h);
        once = subst EachOnce (sym same) (answers_once vs g (asked distinct sel) (DescendsBy vs g (asked distinct sel)) selected found once good.terms (rows distinct sel) are down alone);
        few = subst (λ n. n ≤ most_rows) (sym size) few;
      }

-- where all variables are selected, the answers are the rows
pub all_selected : (g : GraphValue) (t : Tree) (outer : List Expr) (names : List Name) (m : Mapping) → outer ≡ [] → ((v : Name) → In names v ↔ In (tree_vars t) v)
    → IsAnswer (statements g) names (alg (over t outer)) m ↔ IsRow (statements g) (alg (plain_select [] t)) m
all_selected g t outer names m none same =
    subst (λ outer. IsAnswer (statements g) names (alg (over t outer)) m ↔ IsRow (statements g) (alg (plain_select [] t)) m) (sym none)
    (answer_row (statements g) (plain_select names t) m (λ v. (same v).1), row_answer (statements g) (plain_select names t) m (λ v. (same v).1))

-- the stop that became this error
pub stopped_full : (stop : Stop) (error : AnsErr) → IsStop stop error → error ≡ errors.TooManyRows → stop ≡ stops.Full
stopped_full stops.Full error h e = refl
stopped_full stops.Memory error h e = let c = sym h ∙ e in cc

-- the query of parts that are those of a query
pub of_parts : (q : Select) (sel : List Name) (t : Tree) (outer : List PlainExpr) → sel ≡ q.vars → t ≡ q.tree → outer ≡ q.outer → record { distinct = q.distinct; vars = sel; tree = t; outer = outer } ≡ q
of_parts q sel t outer a b c = λ i. record { distinct = q.distinct; vars = a i; tree = b i; outer = c i }
