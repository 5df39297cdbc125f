-- Sets of names, as lists without repeats in the order in which the names came.
use Rattle.std.specs.Prelude.{List, [], ◌∷◌, ◌++◌, cond}
use Rattle.bye_table.specs.Mappings.{Name, is_in}

-- the names, and this one last where it is not among them
abbrev pub with_name : List Name → Name → List Name
with_name vs v = cond (is_in vs v) vs (vs ++ v ∷ [])

-- the names, and each of these in turn
abbrev pub with_names : List Name → List Name → List Name
with_names vs [] = vs
with_names vs (w ∷ ws) = with_names (with_name vs w) ws
