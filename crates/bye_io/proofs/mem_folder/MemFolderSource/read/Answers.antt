use Rattle.std.proofs.Common.{◌∙◌, ap, take}
use Rattle.bye_io.specs.MemFolder.{open_bytes}
use Rattle.bye_io.proofs.Files.{copied_open}
use Rattle.bye_io.proofs.mem_folder.MemFolderSource.read.Goals as goal

pub returns-clause-taken : goal.returns-clause-taken
returns-clause-taken c =
    let folder = c.args.self.now in
    let bytes = c.bytes_left-bytes.ensures ∙ ap (λ files. open_bytes files folder.open_at folder.read) c.deref.ensures.value in
    copied_open folder.files.items folder.open_at folder.read c.copy_some-n.result _ (c.copy_some-n.ensures.same ∙ ap (take c.copy_some-n.result) bytes)
