-- A header can go on with a name that it does not have yet.
use Rattle.std.proofs.Common.{◌≡◌, refl, ℕ, zero, suc, ◌+◌, ◌≤◌, true, List, [], ◌∷◌, ◌++◌, length, inl, inr, ap, arith, length-append}
use Rattle.std.specs.List.{list_all}
use Rattle.std.specs.Str.{all_scalars}
use Rattle.bye_terms.specs.Characters.{is_name_part}
use Rattle.bye_terms.specs.Members.{In}
use Rattle.bye_lex.proofs.Branches.{and_true}
use Rattle.bye_table.specs.Mappings.{Name}

-- letters, so many
letters : ℕ → List ℕ
letters zero = []
letters (suc n) = 97 ∷ letters n

all_parts : (n : ℕ) → list_all is_name_part (letters n) ≡ true
unfolding letters
all_parts zero = refl
all_parts (suc n) = and_true _ _ refl (all_parts n)

scalars : (n : ℕ) → all_scalars (letters n) ≡ true
unfolding letters
scalars zero = refl
scalars (suc n) = and_true _ _ refl (scalars n)

how_many : (n : ℕ) → length (letters n) ≡ n
unfolding letters
how_many zero = refl
how_many (suc n) = let k = how_many n in omega (arith, k)

-- the lengths of all names
lengths : List Name → ℕ
lengths [] = 0
lengths (v ∷ vs) = length v + lengths vs

no_longer : (vs : List Name) (v : Name) → In vs v → length v ≤ lengths vs
unfolding lengths
no_longer [] v h = absurd h
no_longer (w ∷ vs) v (inl e) = let k = ap length e in omega (arith, k)
no_longer (w ∷ vs) v (inr h) = let k = no_longer vs v h in omega (arith, k)

-- letters that make the name another one than all these
pub record Fresh (vs : List Name) (front : Name) : Type 0 where
  pub more : List ℕ
  pub scalars : all_scalars (97 ∷ more) ≡ true
  pub parts : list_all is_name_part (97 ∷ more) ≡ true
  pub out : In vs (front ++ 97 ∷ more) → ⊥

pub fresh : (vs : List Name) (front : Name) → Fresh vs front
unfolding letters
fresh vs front = record {
  more = letters (lengths vs);
  scalars = scalars (suc (lengths vs));
  parts = all_parts (suc (lengths vs));
  out = λ h.
      let k = no_longer vs (front ++ letters (suc (lengths vs))) h in
      let l = length-append front (letters (suc (lengths vs))) in
      let m = how_many (suc (lengths vs)) in
      omega (arith, k, l, m);
}
