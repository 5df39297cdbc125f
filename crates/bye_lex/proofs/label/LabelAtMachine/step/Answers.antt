use Rattle.std.proofs.Common.{sym, subst}
use Rattle.bye_lex.specs.LabelSteps.{longest}
use Rattle.bye_lex.specs.declared.label.LabelAt.TheVariants.{In, Dotted}
use Rattle.bye_lex.proofs.Growing.{LabelsGrow, labels_grow}
use Rattle.bye_lex.proofs.label.LabelAtMachine.step.Goals as goal

pub returns-in-In-clause-longest : goal.returns-in-In-clause-longest
returns-in-In-clause-longest c = subst (λ s. LabelsGrow (longest s) c.in_label.result) (sym c.in-In.is) (labels_grow (In c.in-In.label) c.args.c c.in_label.result c.in_label.ensures)

pub returns-in-Dotted-clause-longest : goal.returns-in-Dotted-clause-longest
returns-in-Dotted-clause-longest c = subst (λ s. LabelsGrow (longest s) c.after_dots.result) (sym c.in-Dotted.is) (labels_grow (Dotted c.in-Dotted.label c.in-Dotted.dots) c.args.c c.after_dots.result c.after_dots.ensures)
