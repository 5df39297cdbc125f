-- Chains of expressions and bodies of groups, as the program puts them together and as the grammar does.
use Rattle.std.proofs.Common.{◌≡◌, refl, List, [], ◌∷◌, ◌++◌}
use Rattle.std.specs.List.{flat_map}
use Rattle.bye_tokens.specs.declared.token.Placed.{Placed}
use Rattle.bye_parts.specs.Readers.{Outcome, Got, Wrong, Deep, onward, seen_as}
use Rattle.bye_pattern.specs.Conditions.{Expr}
use Rattle.bye_pattern.specs.Written.{Element, group_of}
use Rattle.bye_grammar.specs.Values.{grouped, joined as all_joined}
use Rattle.bye_tree.specs.Exprs.{joined}

pub joined_grouped : (op : Expr → Expr → Expr) (e : Expr) (ds : List Expr) → joined op e ds ≡ grouped op e ds
joined_grouped op e [] = refl
joined_grouped op e (d ∷ ds) = joined_grouped op (op e d) ds

-- a value that is made of another
pub body_of : (es : List Element) (o : Outcome Placed (List (List Element)))
    → onward o (λ more rest. Got (group_of (all_joined es more)) rest) ≡ seen_as group_of (onward o (λ more rest. Got (es ++ flat_map (λ e. e) more) rest))
body_of es (Got v rest) = refl
body_of es (Wrong rest) = refl
body_of es (Deep rest) = refl

-- what comes after a value that is seen as another
pub declared : {A B C : Type 0} (f : A → B) (q : B → List Placed → Outcome Placed C) (o : Outcome Placed A) → onward o (λ v. q (f v)) ≡ onward (seen_as f o) q
declared f q (Got v rest) = refl
declared f q (Wrong rest) = refl
declared f q (Deep rest) = refl
