use Rattle.bye_parts.specs.Nests.{nest}
use Rattle.bye_parts.specs.ReadNests.{read_nest}
use Rattle.bye_parts.proofs.NestRules.{reads_nest}
use Rattle.bye_parts.proofs.Whole.{answers, derived_is_read, one_value, fronts_closed}
use Rattle.bye_parts.proofs.laws.nests_are_read.Goals as goal

pub returns-clause-answers : goal.returns-clause-answers
returns-clause-answers g c mark n ts = answers (nest mark) (read_nest mark) (reads_nest mark) n ts

pub returns-clause-comes : goal.returns-clause-comes
returns-clause-comes g c mark n ts vs h = derived_is_read (nest mark) (read_nest mark) (reads_nest mark) n ts vs h

pub returns-clause-one_value : goal.returns-clause-one_value
returns-clause-one_value g c mark ts vs ws h k = one_value (nest mark) (read_nest mark) (reads_nest mark) ts vs ws h k

pub returns-clause-fronts : goal.returns-clause-fronts
returns-clause-fronts g c mark x y h = fronts_closed (nest mark) (read_nest mark) (reads_nest mark) x y h
