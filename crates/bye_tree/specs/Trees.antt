-- Trees of the program: what each of them keeps beside being well-designed.
use Rattle.std.specs.Prelude.{ℕ, ◌+◌, ◌<◌, ◌^◌}
use Rattle.bye_pattern.specs.Trees.{Tree, node, Forest, leaf, more}

-- the number of trees
abbrev pub count : Forest → ℕ
count leaf = 0
count (more t f) = count f + 1

-- each node has less than 2^32 children, so that a child's number is a u32
abbrev mutual
  pub IsNarrow : Tree → Type 0
  IsNarrow (node ps cs f) = (count f < 2 ^ 32) × AreNarrow f

  pub AreNarrow : Forest → Type 0
  AreNarrow leaf = Unit {0}
  AreNarrow (more t f) = IsNarrow t × AreNarrow f
