use Rattle.bye_laws.proofs.WorkedKinds.{kind_tests}
use Rattle.bye_laws.proofs.worked.kind_tests_are_kept.Goals as goal

pub returns : goal.returns
returns c = kind_tests
