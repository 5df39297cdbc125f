-- The answers of a query over a graph depend on which triples the graph has alone.
use Rattle.std.proofs.Common.{◌≡◌, refl, List, [], ◌∷◌, ◌⊎◌, inl, inr, ⊎_elim, ◌↔◌}
use Rattle.bye_terms.specs.Members.{In}
use Rattle.bye_terms.specs.Terms.{Statement}
use Rattle.bye_table.specs.Mappings.{Mapping, Name}
use Rattle.bye_pattern.specs.Algebra.{Alg, Bgp, Join, LeftJoin, Filter, Extends, IsAnswer, IsBgpRow, IsMatch, IsRow}
use Rattle.bye_pattern.specs.Conditions.{Expr}
use Rattle.bye_pattern.specs.Patterns.{Pattern}

module _ (g h : List Statement) (to : (f : Statement) → In g f → In h f) where
  match_to : (p : Pattern) (m : Mapping) → IsMatch g p m → IsMatch h p m
  match_to p m w = (w.0, to w.0 w.1, w.2, w.3)

  bgp_to : (ps : List Pattern) (m : Mapping) → IsBgpRow g ps m → IsBgpRow h ps m
  bgp_to [] m e = e
  bgp_to (p ∷ ps) m w = (w.0, w.1, match_to p w.0 w.2, bgp_to ps w.1 w.3, w.4, w.5)

extends_to : (B C : Mapping → Type 0) (es : List Expr) (a m : Mapping) → ((b : Mapping) → B b → C b) → Extends B es a m → Extends C es a m
extends_to B C es a m f w = (w.0, f w.0 w.1, w.2, w.3, w.4)

module _ (g h : List Statement) (same : (f : Statement) → In g f ↔ In h f) where
  pub same_rows : (a : Alg) (m : Mapping) → IsRow g a m ↔ IsRow h a m
  same_rows (Bgp ps) m = (bgp_to g h (λ f. (same f).0) ps m, bgp_to h g (λ f. (same f).1) ps m)
  same_rows (Join a b) m = (
    (λ w. (w.0, w.1, (same_rows a w.0).0 w.2, (same_rows b w.1).0 w.3, w.4, w.5)),
    (λ w. (w.0, w.1, (same_rows a w.0).1 w.2, (same_rows b w.1).1 w.3, w.4, w.5)),
  )
  same_rows (LeftJoin a b es) m = (
    (λ w. (
      w.0,
      (same_rows a w.0).0 w.1,
      ⊎_elim
          (λ x. inl (extends_to (IsRow g b) (IsRow h b) es w.0 m (λ n. (same_rows b n).0) x))
          (λ k. inr (k.0, λ n x. k.1 n (extends_to (IsRow h b) (IsRow g b) es w.0 n (λ n. (same_rows b n).1) x)))
          w.2,
    )),
    (λ w. (
      w.0,
      (same_rows a w.0).1 w.1,
      ⊎_elim
          (λ x. inl (extends_to (IsRow h b) (IsRow g b) es w.0 m (λ n. (same_rows b n).1) x))
          (λ k. inr (k.0, λ n x. k.1 n (extends_to (IsRow g b) (IsRow h b) es w.0 n (λ n. (same_rows b n).0) x)))
          w.2,
    )),
  )
  same_rows (Filter es a) m = ((λ w. ((same_rows a m).0 w.0, w.1)), (λ w. ((same_rows a m).1 w.0, w.1)))

  pub same_answers : (vs : List Name) (a : Alg) (m : Mapping) → IsAnswer g vs a m ↔ IsAnswer h vs a m
  same_answers vs a m = ((λ w. (w.0, (same_rows a w.0).0 w.1, w.2)), (λ w. (w.0, (same_rows a w.0).1 w.1, w.2)))
