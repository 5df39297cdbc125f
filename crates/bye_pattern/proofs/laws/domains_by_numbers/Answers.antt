use Rattle.bye_pattern.proofs.Places.{by_numbers, numbers_by}
use Rattle.bye_pattern.proofs.laws.domains_by_numbers.Goals as goal

pub returns : goal.returns
returns c rows x y = (by_numbers rows x y, numbers_by rows x y)
