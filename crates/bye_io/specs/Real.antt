-- What the adapters over the system stand on.
use Rattle.std.specs.Prelude.{ℕ, List, [], Option, Some, None}
use Rattle.bye_io.specs.declared.real_folder.RealFolder.{RealFolder}
use Rattle.bye_io.specs.declared.real_sink.RealSink.{RealSink}

-- the bytes left of the open file, where its reader knows them, and none where no file is open
abbrev pub file_left : {F : Type 0} → (F → Option (List ℕ)) → Option F → Option (List ℕ)
file_left remaining None = Some []
file_left remaining (Some file) = remaining file

-- the open file of a folder
abbrev pub real_file : {R File Dir : Type 0} → RealFolder R File Dir → Option File
real_file folder = folder.file

-- how many of a folder's calls failed
abbrev pub real_faults : {R File Dir : Type 0} → RealFolder R File Dir → ℕ
real_faults folder = folder.faults

-- the writer of a sink
abbrev pub real_writer : {W : Type 0} → RealSink W → W
real_writer sink = sink.writer

-- how many of a sink's calls failed
abbrev pub write_faults : {W : Type 0} → RealSink W → ℕ
write_faults sink = sink.faults
