use Rattle.std.proofs.Common.{◌≡◌, drop}
use Rattle.bye_io.specs.MemFolder.{lookup}
use Rattle.bye_io.proofs.mem_folder.find_file.Given as goal

abbrev pub invariant-loop-i : goal.invariant-loop-i
invariant-loop-i l = lookup l.files l.name ≡ lookup (drop l.i l.files) l.name
