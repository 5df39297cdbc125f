use Rattle.std.proofs.Common.{◌≡◌, List, sym, subst}
use Rattle.bye_words.specs.Forms.{Form, IsReading, forms}
use Rattle.bye_words.specs.declared.form_name.FormName.{FormName}
use Rattle.bye_cli.specs.Words.{IsCommand}
use Rattle.bye_cli.specs.Commands.{command_of}
use Rattle.bye_cli.specs.declared.command.Command.{Command}
use Rattle.bye_cli.proofs.Settings.{learn_line, convert_line, convert_table_line, run_line}
use Rattle.bye_cli.proofs.command.read_command.Goals.{in-Learn, in-Convert, in-ConvertTable, in-Run}
use Rattle.bye_cli.proofs.command.read_command.Goals as goal

pub returns-clause-command : goal.returns-clause-command
returns-clause-command c =
    let words = c.args.words.now in
    let settings = c.in_ok-reading.reading.settings in
    let read : IsReading forms words c.in_ok-reading.reading.form settings =
    subst (λ (table : List Form). IsReading table words c.in_ok-reading.reading.form settings) c.forms.ensures c.in_ok-reading.ensures.some in
    let named : (name : FormName) → c.in_ok-reading.reading.form ≡ name → IsReading forms words name settings = λ name is. subst (λ (name : FormName). IsReading forms words name settings) is read in
    elim c.match-reading.branch [
      | in-Learn w ↦ subst (λ (command : Command). IsCommand words (command_of command)) (sym w.result-is) (w.learn_command.ensures words (learn_line words settings (named _ w.in-Learn.is)))
      | in-Convert w ↦ subst (λ (command : Command). IsCommand words (command_of command)) (sym w.result-is) (w.convert_command.ensures words (convert_line words settings (named _ w.in-Convert.is)))
      | in-ConvertTable w ↦ subst (λ (command : Command). IsCommand words (command_of command)) (sym w.result-is) (w.convert_table_command.ensures words (convert_table_line words settings (named _ w.in-ConvertTable.is)))
      | in-Run w ↦ subst (λ (command : Command). IsCommand words (command_of command)) (sym w.result-is) (w.run_command.ensures words (run_line words settings (named _ w.in-Run.is)))
    ]
