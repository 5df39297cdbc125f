-- Ends of texts.
use Rattle.std.specs.Prelude.{◌≡◌, ℕ, List, ◌++◌}

-- the text ends in the other
pub record EndsIn (text end : List ℕ) : Type 0 where
  pub front : List ℕ
  pub parts : text ≡ front ++ end
