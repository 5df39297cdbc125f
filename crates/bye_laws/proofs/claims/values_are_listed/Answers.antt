use Rattle.bye_laws.proofs.ClaimLists.{values_order, values_same, values_some}
use Rattle.bye_laws.proofs.Listings.{listed_once}
use Rattle.bye_laws.proofs.claims.values_are_listed.Goals as goal

pub returns : goal.returns
returns c = record { same = values_same; once = λ w values examples. listed_once w.vars values examples.once; some = values_some; order = λ w values examples. values_order w.vars values }
