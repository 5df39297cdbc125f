use Rattle.bye_pattern.proofs.OneGroup.{fits_meets, meets_fits}
use Rattle.bye_pattern.proofs.laws.fitting_is_meeting.Goals as goal

pub returns : goal.returns
returns c level g wanted unwanted q class = (fits_meets level g wanted unwanted q class, meets_fits level g wanted unwanted q class)
