use Rattle.bye_graph.proofs.graph.tests.answers_once.Given as goal

abbrev pub ghosts-answers_all : goal.ghosts-answers_all
ghosts-answers_all a = record { name = a.blank.name; parts = a.blank.parts }
