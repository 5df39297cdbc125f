-- The text of expressions that are joined from the left, as it is written from left to right.
use Rattle.std.specs.Prelude.{ℕ, List, ◌++◌, codes}
use Rattle.std.specs.List.{flat_map}
use Rattle.bye_pattern.specs.Conditions.{Expr}
use Rattle.bye_pattern.specs.Printed.{bracketed, expr_text, is_call}

-- an expression within another one
abbrev pub inner_text : Expr → List ℕ
inner_text e = bracketed (is_call e) (expr_text e)

-- the brackets that are opened for these expressions
abbrev pub opened : List Expr → List ℕ
opened es = flat_map (λ e. codes "(") es

-- the sign, an expression, and the bracket that is closed after it
abbrev pub closed : List ℕ → Expr → List ℕ
closed sign e = sign ++ inner_text e ++ codes ")"

-- an expression and later ones, within another expression
abbrev pub joined_text : List ℕ → Expr → List Expr → List ℕ
joined_text sign e ds = opened ds ++ inner_text e ++ flat_map (closed sign) ds
