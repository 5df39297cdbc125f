use Rattle.bye_pattern.specs.declared.level.Level.TheVariants.{One}
use Rattle.bye_pattern.proofs.OneGroup.{fitting_covers, common_class, common_fits}
use Rattle.bye_pattern.proofs.laws.common_patterns_fit.Goals as goal

pub returns : goal.returns
returns c g header wanted ps full common q class fits =
    let is = common_class g header wanted ps full common (fitting_covers One g header wanted q full class.in_class fits) in
    (is, common_fits g header wanted ps full common is)
