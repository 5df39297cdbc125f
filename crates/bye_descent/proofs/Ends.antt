-- Tokens of which reading ends early.
use Rattle.std.proofs.Common.{◌≡◌, refl, ℕ, true, false, cond, List, [], ◌∷◌, ◌++◌, Option, Some, None, ap}
use Rattle.bye_tokens.specs.declared.token.Placed.{Placed}
use Rattle.bye_tokens.specs.Left.{first_in, first_place}
use Rattle.bye_descent.specs.Ending.{up_to, goes_on}
use Rattle.bye_descent.specs.Places.{place_in}

pub all_of : (ts : List Placed) → up_to None ts ++ [] ≡ ts
all_of [] = refl
all_of (t ∷ ts) = ap (λ ts. t ∷ ts) (all_of ts)

module _ (limit : Option ℕ) (more : List Placed) where
  -- none is before the limit
  pub none_left : (ts : List Placed) → goes_on limit ts ≡ false → up_to limit ts ++ more ≡ more
  none_left [] e = refl
  none_left (t ∷ ts) e = ap (λ b. cond b (t ∷ up_to limit ts) [] ++ more) e

  -- one is
  pub one_left : (t : Placed) (ts : List Placed) → goes_on limit (t ∷ ts) ≡ true → up_to limit (t ∷ ts) ++ more ≡ t ∷ (up_to limit ts ++ more)
  one_left t ts e = ap (λ b. cond b (t ∷ up_to limit ts) [] ++ more) e

  pub first_left : (ts : List Placed) → goes_on limit ts ≡ true → first_in (up_to limit ts ++ more) ≡ first_in ts
  first_left [] e = cc
  first_left (t ∷ ts) e = ap (λ ts. first_in ts) (one_left t ts e)

  pub place_left : (ts : List Placed) (end : ℕ) → goes_on limit ts ≡ true → place_in (up_to limit ts ++ more) ≡ Some (first_place ts end)
  place_left [] end e = cc
  place_left (t ∷ ts) end e = ap (λ ts. place_in ts) (one_left t ts e)
