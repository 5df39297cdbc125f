-- The strings of a term object as they stand in a tree.
use Rattle.std.specs.Prelude.{option_map}
use Rattle.bye_json.specs.TermObjects as spec
use Rattle.bye_json.specs.declared.term_object.Strings.{Strings}

abbrev pub strings_at : Strings → spec.Strings
strings_at s = record { kind = s.kind.now; value = s.value.now; datatype = option_map (λ t. t.now) s.datatype; language = option_map (λ t. t.now) s.language }
