-- All that some rows have in common, as the tree of one node.
use Rattle.std.specs.Prelude.{◌≡◌, List, ◌↔◌}
use Rattle.bye_terms.specs.Members.{In}
use Rattle.bye_terms.specs.Terms.{Statement}
use Rattle.bye_table.specs.Mappings.{Mapping, Name}
use Rattle.bye_pattern.specs.declared.level.Level.{Level}
use Rattle.bye_pattern.specs.Common.{IsCommon}
use Rattle.bye_pattern.specs.Patterns.{Pattern}
use Rattle.bye_pattern.specs.Trees.{Tree, leaf, node}
use Rattle.bye_laws.specs.Strongest.{IsStrongestNode}

-- the tree is one node without children, and its triple patterns and conditions are all that the rows have in common
abbrev pub IsStrongestTree : Level → List Statement → List Name → List Mapping → Tree → Type 0
IsStrongestTree level g header rows (node ps cs f) = (f ≡ leaf) × IsStrongestNode level g header rows ps cs

-- these are all triple patterns of the class over the header's variables that hold in all the rows
abbrev pub AreCommon : List Statement → List Name → List Mapping → List Pattern → Type 0
AreCommon g header rows ps = (p : Pattern) → In ps p ↔ IsCommon g header rows p
