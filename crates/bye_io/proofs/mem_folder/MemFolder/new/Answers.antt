use Rattle.bye_io.proofs.Files.{lookup_each}
use Rattle.bye_io.proofs.mem_folder.MemFolder.new.Goals as goal

pub returns-clause-each : goal.returns-clause-each
returns-clause-each c = lookup_each c.args.files.items c.requires.distinct
