-- Rows by their numbers.
use Rattle.std.proofs.Common.{◌≡◌, ℕ, zero, suc, List, [], ◌∷◌, inl, inr, sym, ◌∙◌}
use Rattle.bye_terms.specs.Members.{In}
use Rattle.bye_table.specs.Domains.{IsRowAt}
use Rattle.bye_table.specs.Mappings.{Mapping}

-- a row that has a number is one of the rows
pub at_in : (rows : List Mapping) (i : ℕ) (m : Mapping) → IsRowAt rows i m → In rows m
at_in [] i m at = absurd at
at_in (r ∷ rows) zero m at = absurd at
at_in (r ∷ rows) (suc zero) m at = inl at
at_in (r ∷ rows) (suc (suc i)) m at = inr (at_in rows (suc i) m at)

-- a number has one row
pub one_at : (rows : List Mapping) (i : ℕ) (m n : Mapping) → IsRowAt rows i m → IsRowAt rows i n → m ≡ n
one_at [] i m n a b = absurd a
one_at (r ∷ rows) zero m n a b = absurd a
one_at (r ∷ rows) (suc zero) m n a b = sym a ∙ b
one_at (r ∷ rows) (suc (suc i)) m n a b = one_at rows (suc i) m n a b
