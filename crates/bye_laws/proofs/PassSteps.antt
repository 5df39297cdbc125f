-- One pass over a list, as far as it came: what is kept so far, and what is still to be tried.
use Rattle.std.proofs.Common.{◌≡◌, refl, List, [], ◌∷◌, ◌++◌, inl, inr, sym, subst, append_assoc, append-nil}
use Rattle.bye_pattern.specs.Keeping.{IsThinned}
use Rattle.bye_laws.proofs.PassMaps.{thinned_map}

-- whatever a pass leaves of the rest, where what is kept stands before it, the whole pass leaves after what is kept
pub record IsPassing {X : Type 0} (Right : List X → Type 0) (all kept rest : List X) : Type 0 where
  pub goes : (r : List X) → IsThinned (λ zs. Right (kept ++ zs)) rest r → IsThinned Right all (kept ++ r)

-- at the beginning nothing is kept
pub begun : {X : Type 0} (Right : List X → Type 0) (all : List X) → IsPassing Right all [] all
begun Right all = record { goes = λ r h. h }

-- an element is left out where the others are right
pub left_out : {X : Type 0} (Right : List X → Type 0) (all kept rest : List X) (x : X) → IsPassing Right all kept (x ∷ rest) → Right (kept ++ rest) → IsPassing Right all kept rest
left_out Right all kept rest x p right = record { goes = λ r h. p.goes r (inl (right, h)) }

-- and kept where they are not
pub kept_on : {X : Type 0} (Right : List X → Type 0) (all kept rest : List X) (x : X) → IsPassing Right all kept (x ∷ rest) → (Right (kept ++ rest) → ⊥) → IsPassing Right all (kept ++ x ∷ []) rest
kept_on {X} Right all kept rest x p never = record {
  goes = λ r h.
      let same : (zs : List X) → (kept ++ x ∷ []) ++ zs ≡ kept ++ x ∷ zs = λ zs. append_assoc kept (x ∷ []) zs in
      subst (IsThinned Right all) (sym (same r))
      (p.goes (x ∷ r) (inr (
        never,
        (
          r,
          thinned_map (λ zs. Right ((kept ++ x ∷ []) ++ zs)) (λ zs. Right (kept ++ x ∷ zs)) rest r (λ zs k. (subst Right (same zs), subst Right (sym (same zs)))) h,
          refl,
        ),
      )));
}

-- at the end what is kept is what the pass leaves
pub finished : {X : Type 0} (Right : List X → Type 0) (all kept : List X) → IsPassing Right all kept [] → IsThinned Right all kept
finished {X} Right all kept p = subst (IsThinned Right all) (append-nil kept) (p.goes [] refl)
