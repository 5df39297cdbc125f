use Rattle.std.proofs.Common.{◌↔◌, length}
use Rattle.bye_io.specs.MemFolder.{AreDistinct}
use Rattle.bye_io.proofs.mem_folder.MemFolder.are_distinct.Given as goal

abbrev pub invariant-loop-file : goal.invariant-loop-file
invariant-loop-file l = AreDistinct l.files ↔ AreDistinct l.rest

abbrev pub decreases-loop-file : goal.decreases-loop-file
decreases-loop-file l = length l.rest
