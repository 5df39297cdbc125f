use Rattle.bye_laws.proofs.BothClasses.{certificates_sound}
use Rattle.bye_laws.proofs.claims.certificates_are_sound.Goals as goal

pub returns : goal.returns
returns c = certificates_sound
