-- How far a document was read.
use Rattle.std.specs.Prelude.{ℕ, ◌+◌, List, length}
use Rattle.bye_tsv.specs.DocSteps.{DocAt}

-- its lines, the bytes of a character that has not come whole, and the place of these
pub record ReadingAt : Type 0 where
  pub doc : DocAt
  pub left : List ℕ
  pub place : ℕ

-- the bytes that have come, by their number
abbrev pub taken : ReadingAt → ℕ
taken reading = reading.place + length reading.left
