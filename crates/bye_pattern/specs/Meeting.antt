-- Whether a row meets a pattern, as a test over the list of a graph's triples.
use Rattle.std.specs.Prelude.{Bool, false, ◌&&◌, List, Option, Some, None}
use Rattle.std.specs.List.{list_any, list_all}
use Rattle.bye_terms.specs.declared.term.Term.{Term}
use Rattle.bye_terms.specs.Terms.{Statement}
use Rattle.bye_table.specs.Mappings.{Mapping, Pairs, row_mapping}
use Rattle.bye_pattern.specs.Patterns.{Pattern, slot_under}
use Rattle.bye_pattern.specs.Conditions.{same_term}

-- whether there is a term, and it is this one
abbrev pub gives : Option Term → Term → Bool
gives None t = false
gives (Some s) t = same_term s t

-- whether the pattern under the mapping is the triple
abbrev pub becomes : Mapping → Pattern → Statement → Bool
becomes m p f = gives (slot_under m p.s) f.s && gives (slot_under m p.p) f.p && gives (slot_under m p.o) f.o

-- whether the pattern under the row is a triple of the graph
abbrev pub meets : List Statement → Pattern → Pairs → Bool
meets g p row = list_any (becomes (row_mapping row) p) g

-- whether it is so under each row
abbrev pub meets_all : List Statement → List Pairs → Pattern → Bool
meets_all g rows p = list_all (meets g p) rows
