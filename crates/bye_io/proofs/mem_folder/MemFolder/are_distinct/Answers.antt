use Rattle.std.proofs.Common.{sym, ◌∙◌}
use Rattle.bye_io.proofs.Files.{found_again, not_again, not_yes}
use Rattle.bye_io.proofs.mem_folder.MemFolder.are_distinct.Goals as goal

pub returns-then-is_some : goal.returns-then-is_some
returns-then-is_some c = (
  λ true_one. absurd (not_yes true_one),
  λ distinct. absurd
      (found_again c.find_file.result c.loop-file.rest.now c.in-Some.after.now c.in-Some.file.now c.in-Some.ensures.cases.0 c.find_file.ensures (sym c.is_some.ensures ∙ c.if-is_some.true)
      (c.loop-file.invariant.0 distinct)),
)

pub loop-file-preserved : goal.loop-file-preserved
loop-file-preserved c =
    let step = not_again c.find_file.result c.loop-file.rest.now c.in-Some.after.now c.in-Some.file.now c.in-Some.ensures.cases.0 c.find_file.ensures (sym c.is_some.ensures ∙ c.if-is_some.false) in
    (λ distinct. step.0 (c.loop-file.invariant.0 distinct), λ distinct. c.loop-file.invariant.1 (step.1 distinct))
