-- The reader of lists in brackets.
use Rattle.std.specs.Prelude.{ℕ, zero, suc, Bool, List, [], ◌∷◌}
use Rattle.std.specs.List.{flat_map}
use Rattle.bye_parts.specs.Readers.{Reader, ◌>>=◌, read_token, read_yield, read_either, read_trailing, read_mapped, read_between, read_deep}
use Rattle.bye_parts.specs.Sets.{has}
use Rattle.bye_parts.specs.Nests.{Mark, opens, closes, item, kind}

-- the token is of one of these kinds
abbrev pub of : {T V : Type 0} → (T → Mark V) → List ℕ → T → Bool
of mark ks t = has ks (kind (mark t))

-- Entry
abbrev pub read_entry : {T V : Type 0} → (T → Mark V) → Reader T (List V) → Reader T (List V)
read_entry mark nest = read_either (of mark (0 ∷ [])) nest (read_mapped (λ v. v ∷ []) (read_token (λ t. item (mark t))))

-- Entry ( ',' Entry )* ','?
abbrev pub read_entries : {T V : Type 0} → (T → Mark V) → Reader T (List V) → Reader T (List V)
read_entries mark nest = do
  first ← read_entry mark nest
  more ← read_trailing (of mark (2 ∷ [])) (of mark (0 ∷ 3 ∷ [])) (read_entry mark nest)
  read_yield (flat_map (λ vs. vs) (first ∷ more))

-- Nest, where so many more brackets may be opened
abbrev pub read_nest : {T V : Type 0} → (T → Mark V) → ℕ → Reader T (List V)
read_nest mark zero = read_deep (of mark (0 ∷ []))
read_nest mark (suc n) = read_between (λ t. opens (mark t)) (λ t. closes (mark t)) (read_entries mark (read_nest mark n))
