-- Keys of lines, by which they are sorted before they are compared themselves. A key is made of numbers that do not fall where
-- lines do not: the way down a tree of lines, the place of the line before, among or after those with some front, and the bytes
-- after that front. Whatever the tree and the fronts are, the keys are right; they are chosen so that few lines share a key.
use Rattle.std.specs.Prelude.{◌≡◌, ℕ, suc, zero, ◌+◌, ◌*◌, cond, nat_lt, List, [], ◌∷◌, Option, Some, None}
use Rattle.std.specs.List.{AllByRecursion}
use Rattle.std.specs.Ordering.{nat_cmp, is_lt}
use Rattle.std.specs.Cmp.Lexicographic.{slice_cmp}

-- the number with the text's first byte after it, in base 256; a zero where the text is empty
abbrev pub digit : ℕ → List ℕ → ℕ
digit n [] = n * 256
digit n (c ∷ cs) = n * 256 + c

-- what follows the first byte
abbrev pub behind : List ℕ → List ℕ
behind [] = []
behind (c ∷ cs) = cs

-- a number, and a text of which no byte is in it yet
pub record Partial : Type 0 where
  pub number : ℕ
  pub rest : List ℕ

-- the number with so many bytes of the text after it, and what follows them
abbrev pub digits : ℕ → Partial → Partial
digits zero p = p
digits (suc k) p = digits k (record { number = digit p.number p.rest; rest = behind p.rest })

-- the nodes below a node: the first for a line before the one there, and the second for others
abbrev pub child : Option (List ℕ) → ℕ → List ℕ → ℕ
child None at line = at * 2
child (Some label) at line = cond (is_lt (slice_cmp nat_cmp line label)) (at * 2) (at * 2 + 1)

-- the node that a line comes to so many levels down
abbrev pub walk : ℕ → (ℕ → Option (List ℕ)) → ℕ → List ℕ → ℕ
walk zero labels at line = at
walk (suc k) labels at line = walk k labels (child (labels at) at line) line

-- 0, 1 or 2 where the line comes before, among or after those with the front, and what follows the front
abbrev pub beyond : List ℕ → List ℕ → Partial
beyond [] line = record { number = 1; rest = line }
beyond (p ∷ ps) [] = record { number = 0; rest = [] }
beyond (p ∷ ps) (c ∷ cs) = cond (nat_lt c p) (record { number = 0; rest = [] }) (cond (nat_lt p c) (record { number = 2; rest = [] }) (beyond ps cs))

-- the same of a node that has a front; where it has none, every line is among those with it
abbrev pub beyond_front : Option (List ℕ) → List ℕ → Partial
beyond_front None line = record { number = 1; rest = line }
beyond_front (Some front) line = beyond front line

-- the fronts by their nodes, and the labels of nodes
pub record Chosen : Type 0 where
  pub labels : ℕ → Option (List ℕ)
  pub fronts : ℕ → Option (List ℕ)

-- the node that a line comes to, with its place about the front there, and what follows the front
abbrev pub first_number : Chosen → List ℕ → Partial
first_number chosen line =
    let at = walk 6 chosen.labels 1 line in
    let place = beyond_front (chosen.fronts at) line in
    record { number = at * 3 + place.number; rest = place.rest }

-- the first part of a key, with what follows the bytes in it
abbrev pub high : Chosen → List ℕ → Partial
high chosen line = digits 6 (first_number chosen line)

-- the number of the first eight bytes
abbrev pub low : List ℕ → Partial
low rest = digits 8 (record { number = 0; rest = rest })

-- a line with its key
pub record Keyed : Type 0 where
  pub first : ℕ
  pub second : ℕ
  pub line : List ℕ

-- the key is that of the line, by these labels and fronts
pub record IsKeyed (chosen : Chosen) (k : Keyed) : Type 0 where
  pub high_is : k.first ≡ (high chosen k.line).number
  pub low_is : k.second ≡ (low (high chosen k.line).rest).number

-- all keys are by the same labels and fronts
pub record AreKeyed (ks : List Keyed) : Type 0 where
  pub chosen : Chosen
  pub each : AllByRecursion (IsKeyed chosen) ks
