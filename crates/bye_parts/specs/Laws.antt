-- What holds of lists in brackets and their reader.
use Rattle.std.specs.Prelude.{◌≡◌, ℕ, List, [], ◌++◌}
use Rattle.bye_parts.specs.Parts.{any}
use Rattle.bye_parts.specs.Readers.{to_end}
use Rattle.bye_parts.specs.Answers.{Answers, Comes}
use Rattle.bye_parts.specs.Nests.{Mark, nest, nest_turn}
use Rattle.bye_parts.specs.ReadNests.{read_nest}

-- the reader of all tokens answers by the grammar, however many brackets may be open
abbrev pub NestsAreRead : (T V : Type 0) → Type 0
NestsAreRead T V = (mark : T → Mark V) (n : ℕ) (ts : List T) → Answers (any (nest mark)) (nest_turn mark) n ts (to_end (read_nest mark n ts))

-- whatever derives is read as its value, or a bracket is too deep
abbrev pub NestsCome : (T V : Type 0) → Type 0
NestsCome T V = (mark : T → Mark V) (n : ℕ) (ts : List T) (vs : List V) → (any (nest mark)).derives ts vs → Comes (to_end (read_nest mark n ts)) vs []

-- tokens derive as one value at most
abbrev pub NestsHaveOneValue : (T V : Type 0) → Type 0
NestsHaveOneValue T V = (mark : T → Mark V) (ts : List T) (vs ws : List V) → (any (nest mark)).derives ts vs → (any (nest mark)).derives ts ws → vs ≡ ws

-- what begins a front is a front
abbrev pub NestFrontsAreClosed : (T V : Type 0) → Type 0
NestFrontsAreClosed T V = (mark : T → Mark V) (x y : List T) → (any (nest mark)).front (x ++ y) → (any (nest mark)).front x
