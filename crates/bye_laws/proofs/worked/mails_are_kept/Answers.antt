use Rattle.bye_laws.proofs.WorkedMails.{mails_kept}
use Rattle.bye_laws.proofs.worked.mails_are_kept.Goals as goal

pub returns : goal.returns
returns c = mails_kept
