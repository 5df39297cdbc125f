use Rattle.bye_node.proofs.extending.extension.Given as goal

abbrev pub ghosts-extension_by : goal.ghosts-extension_by
ghosts-extension_by a = record { name = a.blank.name; parts = a.blank.parts }
