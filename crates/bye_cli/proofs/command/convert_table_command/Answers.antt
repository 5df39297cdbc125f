use Rattle.bye_cli.proofs.Settings.{from_kind, to_kind}
use Rattle.bye_cli.proofs.command.convert_table_command.Goals as goal

pub read_form-requires : goal.read_form-requires
read_form-requires c = from_kind c.args.settings.now c.must-2.result.now c.requires c.must-2.ensures

pub written_form-requires : goal.written_form-requires
written_form-requires c = to_kind c.args.settings.now c.must-3.result.now c.requires c.must-3.ensures
