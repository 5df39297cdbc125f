-- Expressions of the program, read as plain data.
use Rattle.std.specs.Prelude.{List, [], ◌∷◌, box_value}
use Rattle.bye_tree.specs.declared.expr.Expr.{Expr}
use Rattle.bye_tree.specs.declared.expr.Expr.TheOpen.{Expr-F, Bound, Same, KindOf, Not, And, Or}
use Rattle.bye_tree.specs.declared.expr.Expr.TheFolds.{fold-Expr}
use Rattle.bye_pattern.specs.Conditions as plain

-- the expression and the later ones, joined from the left
abbrev pub joined : (plain.Expr → plain.Expr → plain.Expr) → plain.Expr → List plain.Expr → plain.Expr
joined op e [] = e
joined op e (d ∷ ds) = joined op (op e d) ds

-- an expression whose parts are read already
abbrev pub expr_step : Expr-F plain.Expr → plain.Expr
expr_step (Bound v) = plain.IsBound v
expr_step (Same s t) = plain.Same s t
expr_step (KindOf kind s) = plain.KindOf kind s
expr_step (Not e) = plain.Not (box_value e)
expr_step (And e es) = joined plain.And (box_value e) es.items
expr_step (Or e es) = joined plain.Or (box_value e) es.items

-- the plain expression that an expression is
abbrev pub expr_of : Expr → plain.Expr
expr_of = fold-Expr plain.Expr expr_step
