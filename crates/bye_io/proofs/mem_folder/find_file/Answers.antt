use Rattle.std.proofs.Common.{◌∙◌}
use Rattle.bye_io.proofs.Files.{denied, lookup_here, lookup_past}
use Rattle.bye_io.proofs.mem_folder.find_file.Goals as goal

pub returns-then-same : goal.returns-then-same
returns-then-same c =
    c.loop-i.invariant ∙ lookup_here c.args.files.now c.loop-i.i c.args.name.now _ c.loop-i-test.true c.index-files-i.is (c.same.ensures.0 c.if-same.true)

pub loop-i-preserved : goal.loop-i-preserved
loop-i-preserved c =
    c.loop-i.invariant ∙ lookup_past c.args.files.now c.loop-i.i c.args.name.now _ c.loop-i-test.true c.index-files-i.is (denied c.same.result c.same.ensures.1 c.if-same.false)
