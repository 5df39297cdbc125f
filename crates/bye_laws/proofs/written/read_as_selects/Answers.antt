use Rattle.bye_laws.proofs.Selecting.{conjunction_select, optional_select, written_select}
use Rattle.bye_laws.proofs.written.read_as_selects.Goals as goal

pub returns : goal.returns
returns c = record { conjunction = conjunction_select; optional = optional_select; written = written_select }
