use Rattle.bye_pattern.proofs.OneGroup.{uncovered_none, none_uncovered}
use Rattle.bye_pattern.proofs.laws.none_fits_where_uncovered.Goals as goal

pub returns : goal.returns
returns c g header wanted ps full common =
    (none_uncovered g header wanted ps full common, λ w. uncovered_none g header wanted w.0 full w.1 w.2)
