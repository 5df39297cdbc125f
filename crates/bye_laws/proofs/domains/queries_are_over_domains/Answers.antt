use Rattle.std.proofs.Common.{[]}
use Rattle.bye_laws.proofs.QueryDomains.{over_domains, some_name}
use Rattle.bye_laws.proofs.domains.queries_are_over_domains.Goals as goal

pub returns : goal.returns
returns c = record { named = λ level rows q class. some_name level rows q class [] q.tree (λ p u k. k); over = over_domains }
