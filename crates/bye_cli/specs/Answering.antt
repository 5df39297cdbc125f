-- What is made of a graph's triples and a query.
use Rattle.std.specs.Prelude.{◌≡◌, ℕ, List, ⊤, ◌↔◌, Result, Ok, Err}
use Rattle.std.specs.List.Sorted.{IsStrictlySortedBy}
use Rattle.bye_terms.specs.Members.{In}
use Rattle.bye_terms.specs.Terms.{Statement}
use Rattle.bye_table.specs.Mappings.{Mapping}
use Rattle.bye_table.specs.Sorted.{mapping_cmp, mappings}
use Rattle.bye_table.specs.Tables.{TableValue}
use Rattle.bye_pattern.specs.Algebra.{IsAnswer}
use Rattle.bye_pattern.specs.Trees.{Select, alg}
use Rattle.bye_member.specs.Answers.{HasMore}
use Rattle.bye_words.specs.declared.refusal.Refusal.{Refusal}
use Rattle.bye_words.specs.declared.refusal.Refusal.TheVariants as refusals

-- the sorted set of the answers, which are no more than may be
pub record IsAnswerTable (graph : List Statement) (query : Select) (table : TableValue) : Type 0 where
  pub vars : table.vars ≡ query.vars
  pub exactly : (m : Mapping) → In (mappings table) m ↔ IsAnswer graph query.vars (alg query) m
  pub rises : IsStrictlySortedBy (mapping_cmp table.vars) (mappings table)
  pub few : HasMore graph query → ⊥

-- why there is none: there are too many answers, or memory was refused
abbrev pub IsNoTable : List Statement → Select → Refusal → Type 0
IsNoTable graph query refusals.Answers = HasMore graph query
IsNoTable graph query refusals.Memory = ⊤
IsNoTable graph query _ = ⊥
