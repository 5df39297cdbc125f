use Rattle.std.proofs.Common.{◌≡◌, true, ◌++◌, take}
use Rattle.std.specs.List.{AllByRecursion}
use Rattle.bye_terms.specs.Names.{is_name}
use Rattle.bye_pattern.specs.Printed.{names_text}
use Rattle.bye_printer.proofs.patterns.push_names.Given as goal

abbrev pub invariant-loop-var : goal.invariant-loop-var
invariant-loop-var l = record {
  text : l.out ≡ l.initial.out ++ names_text (take l.var-index l.vars);
  valid : AllByRecursion (λ v. is_name v ≡ true) (take l.var-index l.vars);
}
