use Rattle.bye_laws.proofs.LocalQuestions.{drop_cond}
use Rattle.bye_laws.proofs.Served.{right_served, triples_stand}
use Rattle.bye_laws.proofs.keeping.local_questions.Goals as goal

pub returns : goal.returns
returns c = record { conditions = drop_cond; triples = triples_stand; conjunction = right_served }
