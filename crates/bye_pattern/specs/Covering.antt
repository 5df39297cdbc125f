-- Whether patterns contain a variable, as a test.
use Rattle.std.specs.Prelude.{Bool, false, ◌||◌, List}
use Rattle.std.specs.List.{list_any}
use Rattle.std.specs.Str.{bytes_eq}
use Rattle.bye_pattern.specs.declared.slot.Slot.{Slot}
use Rattle.bye_pattern.specs.declared.slot.Slot.TheVariants.{Var, Const}
use Rattle.bye_table.specs.Mappings.{Name}
use Rattle.bye_pattern.specs.Patterns.{Pattern}

-- whether the place is this variable
abbrev pub is_named : Slot → Name → Bool
is_named (Var v) name = bytes_eq v name
is_named (Const c) name = false

-- whether the pattern contains the variable
abbrev pub contains : Name → Pattern → Bool
contains name p = is_named p.s name || is_named p.p name || is_named p.o name

-- whether some of the patterns contains it
abbrev pub covers : List Pattern → Name → Bool
covers ps name = list_any (contains name) ps
