-- The worked documents, by computation.
use Rattle.std.proofs.Common.{refl}
use Rattle.bye_parts.specs.Readers.{read_repeated, read_trailing}
use Rattle.bye_grammar.specs.Reading.{read_suffix, read_string, read_object, read_objects, read_property, read_same, read_block, read_constant, read_arguments, read_call, read_unary, read_conjunction, read_disjunction, read_primary, read_filter, read_element, read_body, read_group, read_declaration, read_names, read_selection, read_document}
use Rattle.bye_grammar.specs.Worked.{AWholeDocument, ADeepBracket, ARepeatedName, AnUnknownPrefix, ANarrowFilter, AnEarlyEnd}

-- all of them, in the order of their definitions
pub worked : AWholeDocument × ADeepBracket × ARepeatedName × AnUnknownPrefix × ANarrowFilter × AnEarlyEnd
unfolding read_repeated read_trailing read_suffix read_string read_object read_objects read_property read_same read_block read_constant read_arguments read_call read_unary read_conjunction read_disjunction read_primary read_filter read_element read_body read_group read_declaration read_names read_selection read_document
worked = (refl, refl, refl, refl, refl, refl)
