use Rattle.std.proofs.Common.{sym, subst}
use Rattle.bye_lex.specs.StringSteps.{longest}
use Rattle.bye_lex.specs.declared.string.StringAt.TheVariants.{Escape}
use Rattle.bye_lex.proofs.Growing.{StringsGrow, strings_grow}
use Rattle.bye_lex.proofs.string.StringAtMachine.step.Goals as goal

pub returns-in-Escape-clause-longest : goal.returns-in-Escape-clause-longest
returns-in-Escape-clause-longest c = subst (λ s. StringsGrow (longest s) c.in_escape.result) (sym c.in-Escape.is) (strings_grow c.args.style (Escape c.in-Escape.quoting c.in-Escape.at c.in-Escape.text) c.args.c c.in_escape.result c.in_escape.ensures)
