use Rattle.bye_strongest.proofs.gather.strongest.Given as goal

abbrev pub ghosts-common_patterns : goal.ghosts-common_patterns
ghosts-common_patterns a = record { name = a.blank.name; parts = a.blank.parts }
