use Rattle.std.proofs.Common.{◌≡◌}
use Rattle.std.specs.List.{list_all}
use Rattle.serde_json.specs.View.{members_view}
use Rattle.bye_table.specs.Mappings.{is_in}
use Rattle.bye_json.specs.Trees.{names_of}
use Rattle.bye_json.proofs.rows.are_listed.Given as goal

abbrev pub invariant-loop-name : goal.invariant-loop-name
invariant-loop-name l =
    list_all (is_in l.vars) (names_of (members_view l.name-iterator)) ≡ list_all (is_in l.vars) (names_of (members_view l.initial.name-iterator))
