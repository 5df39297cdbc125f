use Rattle.std.proofs.Common.{◌≡◌, ◌++◌, map, take}
use Rattle.bye_tree.specs.Exprs.{expr_of}
use Rattle.bye_printer.specs.Joined.{opened}
use Rattle.bye_printer.proofs.exprs.push_opened.Given as goal

abbrev pub invariant-loop-bracket : goal.invariant-loop-bracket
invariant-loop-bracket l = l.out ≡ l.initial.out ++ opened (map expr_of (take l._bracket-index l.later))
