use Rattle.std.proofs.Common.{◌≡◌, ◌∷◌, ◌++◌, map, take}
use Rattle.std.specs.List.{flat_map}
use Rattle.bye_tsv.specs.WrittenFields.{name_bytes}
use Rattle.bye_tsv.proofs.tsv_writer.push_further_names.Given as goal

abbrev pub invariant-loop-variable : goal.invariant-loop-variable
invariant-loop-variable l = l.out.items ≡ l.initial.out.items ++ flat_map (λ y. 9 ∷ y) (map name_bytes (take l.variable-index l.variables))
