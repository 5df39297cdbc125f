-- What the objects in memory show.
use Rattle.std.specs.Prelude.{ℕ, List, Option}
use Rattle.bye_io.specs.declared.mem_folder.MemFolder.{MemFolder}
use Rattle.bye_io.specs.declared.mem_sink.MemSink.{MemSink}
use Rattle.bye_io.specs.declared.plan.Plan.{Plan}
use Rattle.bye_io.specs.MemFolder.{lookup, open_bytes}

-- the plan of a folder
abbrev pub folder_plan : MemFolder → Plan
folder_plan folder = folder.plan

-- the bytes that are left of a folder's open file
abbrev pub folder_left : MemFolder → List ℕ
folder_left folder = open_bytes folder.files.items folder.open_at folder.read

-- the files of a folder
abbrev pub folder_files : MemFolder → List ℕ → Option (List ℕ)
folder_files folder = lookup folder.files.items

-- the plan of a sink
abbrev pub sink_plan : MemSink → Plan
sink_plan sink = sink.plan

-- the bytes that were sent to a sink
abbrev pub sink_sent : MemSink → List ℕ
sink_sent sink = sink.kept.items

-- the room that a sink has left, in bytes
abbrev pub sink_room : MemSink → ℕ
sink_room sink = sink.room
