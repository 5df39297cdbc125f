use Rattle.std.proofs.Common.{List, subst, sym}
use Rattle.std.proofs.lemmas.List.Sorted.{Contains-permutation, IsPermutation-sym}
use Rattle.std.specs.List.Sorted.{IsPermutation}
use Rattle.std.proofs.lemmas.Result.{IfOk-weaker}
use Rattle.bye_terms.specs.Members.{In}
use Rattle.bye_terms.proofs.Members.{in_contains, contains_in}
use Rattle.bye_pattern.specs.Patterns.{Pattern}
use Rattle.bye_pattern.proofs.ranked.in_trial_order.Goals as goal

moved : (xs ys : List Pattern) (p : Pattern) → IsPermutation xs ys → In xs p → In ys p
moved xs ys p h k = contains_in ys p (Contains-permutation xs ys p h (in_contains xs p k))

pub returns-clause-same : goal.returns-clause-same
returns-clause-same c = IfOk-weaker c.each_once.result _ _ (λ v same p. (
  (λ h. subst (λ xs. In xs p) c.in_ok-ranked.ensures (moved _ _ p (IsPermutation-sym _ _ c.sort.ensures.same) (subst (λ xs. In xs p) c.as_slice.ensures.value ((same p).0 h)))),
  (λ h. (same p).1 (subst (λ xs. In xs p) (sym c.as_slice.ensures.value) (moved _ _ p c.sort.ensures.same (subst (λ xs. In xs p) (sym c.in_ok-ranked.ensures) h)))),
)) c.each_once.ensures.same
