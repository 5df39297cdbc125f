-- The command that the words were read as, as plain data.
use Rattle.bye_cli.specs.Words.{Command, Learn, Convert, ConvertTable, Run}
use Rattle.bye_cli.specs.declared.command.Command.{Command as ReadCommand}
use Rattle.bye_cli.specs.declared.command.Command.TheVariants as read

-- a command
abbrev pub command_of : ReadCommand → Command
command_of (read.Learn graph wanted tables) = Learn graph.now wanted.now tables
command_of (read.Convert graph) = Convert graph.now
command_of (read.ConvertTable table from to) = ConvertTable table.now from to
command_of (read.Run graph query form) = Run graph.now query.now form
