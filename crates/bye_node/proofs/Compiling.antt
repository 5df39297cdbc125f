-- The shapes of patterns, one more at each turn.
use Rattle.std.proofs.Common.{◌≡◌, refl, ℕ, zero, suc, ◌+◌, ◌<◌, List, [], ◌∷◌, ◌++◌, map, inl, inr, sym, ◌∙◌, ap, subst, length, get_or, take, arith}
use Rattle.std.proofs.lemmas.List.{take_more}
use Rattle.bye_terms.specs.declared.term.Term.{Term}
use Rattle.bye_terms.specs.Members.{In}
use Rattle.bye_terms.proofs.Lists.{map_in}
use Rattle.bye_table.specs.Mappings.{Mapping, Name}
use Rattle.bye_pattern.specs.Patterns.{Pattern}
use Rattle.bye_node.specs.Envs.{Shape}
use Rattle.bye_node.specs.Steps.{AreShapes, HasLost, IsLostShape, IsShape, pattern_in}

pub at_in : {X : Type 0} (xs : List X) (i : ℕ) (x : X) → i < length xs → x ≡ get_or xs i x → In xs x
at_in [] i x l is = absurd (omega arith)
at_in (y ∷ xs) zero x l is = inl (sym is)
at_in (y ∷ xs) (suc i) x l is = inr (at_in xs i x (omega arith) is)

map_push : {X Y : Type 0} (f : X → Y) (xs : List X) (x : X) → map f (xs ++ x ∷ []) ≡ map f xs ++ f x ∷ []
map_push f [] x = refl
map_push f (y ∷ xs) x = ap (λ zs. f y ∷ zs) (map_push f xs x)

shapes_push : (vs : List Name) (ts : List Term) (ps : List Pattern) (qs : List Shape) (p : Pattern) (q : Shape) → IsShape vs ts p q → AreShapes vs ts ps qs → AreShapes vs ts (ps ++ p ∷ []) (qs ++ q ∷ [])
shapes_push vs ts [] [] p q one all = (one, tt)
shapes_push vs ts [] (r ∷ qs) p q one all = absurd all
shapes_push vs ts (r ∷ ps) [] p q one all = absurd all
shapes_push vs ts (r ∷ ps) (s ∷ qs) p q one all = (all.0, shapes_push vs ts ps qs p q one all.1)

pub shapes_more : (vs : List Name) (ts : List Term) (row : Mapping) (ps : List Pattern) (qs out : List Shape) (i : ℕ) (p : Pattern) (q : Shape) → i < length ps → p ≡ get_or ps i p
    → AreShapes vs ts (map (pattern_in row) (take i ps)) qs → IsShape vs ts (pattern_in row p) q → out ≡ qs ++ q ∷ [] → AreShapes vs ts (map (pattern_in row) (take (i + 1) ps)) out
shapes_more vs ts row ps qs out i p q l is all one e =
    let step : map (pattern_in row) (take (i + 1) ps) ≡ map (pattern_in row) (take i ps) ++ pattern_in row p ∷ [] =
    ap (map (pattern_in row)) (take_more ps i p l ∙ ap (λ r. take i ps ++ r ∷ []) (sym is)) ∙ map_push (pattern_in row) (take i ps) p in
    subst (λ rs. AreShapes vs ts rs out) (sym step) (subst (AreShapes vs ts (map (pattern_in row) (take i ps) ++ pattern_in row p ∷ [])) (sym e) (shapes_push vs ts (map (pattern_in row) (take i ps)) qs (pattern_in row p) q one all))

pub lost_at : (vs : List Name) (ts : List Term) (row : Mapping) (ps : List Pattern) (i : ℕ) (p : Pattern) → i < length ps → p ≡ get_or ps i p → IsLostShape vs ts (pattern_in row p) → HasLost vs ts (map (pattern_in row) ps)
lost_at vs ts row ps i p l is lost = (pattern_in row p, map_in (pattern_in row) ps p (at_in ps i p l is), lost)
