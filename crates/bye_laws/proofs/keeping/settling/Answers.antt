use Rattle.bye_laws.proofs.AnyRight.{root_of_right, settled_right}
use Rattle.bye_laws.proofs.LocalPass.{both_in, children_of, first_of_in, local_forest, local_tree, rest_of_in, settled_down}
use Rattle.bye_laws.proofs.keeping.settling.Goals as goal

pub returns : goal.returns
returns c = record {
  root = root_of_right;
  right = settled_right;
  down = children_of;
  up = λ level g rows parent z x ds ps cs f e s. (settled_down level g rows parent z x ds ps cs f e s).0;
  beside = λ level g rows parent z d ds t f. (
    (λ s. (first_of_in level g rows parent z d ds t f s, rest_of_in level g rows parent z d ds t f s)),
    (λ s. both_in level g rows parent z d ds t f s.0 s.1),
  );
  left = λ level g rows parent z d t r s pass. (local_tree level g rows parent z d t r s pass).1;
  left_beside = λ level g rows parent z ds f e s pass. (local_forest level g rows parent z ds f e s pass).1;
}
