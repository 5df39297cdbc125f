use Rattle.std.proofs.Common.{◌∙◌}
use Rattle.bye_lex.specs.NumberSteps.{step, form}
use Rattle.bye_lex.specs.declared.number.NumberAt.TheVariants.{Start}
use Rattle.bye_tokens.proofs.Ending.{found_ends_at}
use Rattle.bye_tokens.proofs.fronts.number.Goals as goal

pub before-requires : goal.before-requires
before-requires c = found_ends_at step form Start c.args.rest.now c.new.result _ c.in-Some.after (c.new.ensures ∙ c.rest.ensures) c.in-Some.ensures c.in-Some.after-is
