-- What states of several machines still want.
use Rattle.std.specs.Prelude.{◌≡◌, ℕ, zero, suc, true, List, [], ◌∷◌, ◌++◌, length}
use Rattle.std.specs.List.{AllByRecursion}
use Rattle.bye_lex.specs.Escapes.{IsHex, number}
use Rattle.bye_lex.specs.EscapeSteps.{may_be}
use Rattle.bye_lex.specs.declared.escape.Home.{Home}
use Rattle.bye_lex.specs.declared.escape.EscapeAt.{EscapeAt}
use Rattle.bye_lex.specs.declared.escape.EscapeStep.{EscapeStep}
use Rattle.bye_lex.specs.declared.escape.EscapeStep.TheVariants.{Within, Whole}

-- out stands before what the text stands for
pub record After (L : List ℕ → List ℕ → Type 0) (out text value : List ℕ) : Type 0 where
  pub own : List ℕ
  pub is : L text own
  pub stands : value ≡ out ++ own

-- the digits that an escape still wants, which make the number of a character that may stand there, and the tail
pub record EscapeTail (home : Home) (Tail : List ℕ → List ℕ → Type 0) (at : EscapeAt) (text value : List ℕ) : Type 0 where
  pub digits : List ℕ
  pub tail : List ℕ
  pub tail_value : List ℕ
  pub hex : AllByRecursion IsHex digits
  pub full : length digits ≡ suc at.left
  pub allowed : may_be home zero (number at.number digits) ≡ true
  pub after : Tail tail tail_value
  pub spelled : text ≡ digits ++ tail
  pub stands : value ≡ number at.number digits ∷ tail_value

-- within an escape, or after its character
abbrev pub EscapeLeft : Home → (List ℕ → List ℕ → Type 0) → EscapeStep → List ℕ → List ℕ → Type 0
EscapeLeft home Tail (Within at) text value = EscapeTail home Tail at text value
EscapeLeft home Tail (Whole c) text value = After Tail (c ∷ []) text value
