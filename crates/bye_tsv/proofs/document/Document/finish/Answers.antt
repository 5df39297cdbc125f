use Rattle.std.proofs.Common.{subst}
use Rattle.bye_tsv.specs.DocSteps.{Ends, final, table_of}
use Rattle.bye_tsv.proofs.Sound.{sound_final}
use Rattle.bye_tsv.proofs.document.Document.finish.Goals as goal

pub give-requires : goal.give-requires
give-requires c t = sound_final c.args.self (table_of c.end.new.self) c.requires (subst (λ b. Ends b (table_of c.end.new.self) (final c.args.self)) t c.in_ok-ended.ensures)
