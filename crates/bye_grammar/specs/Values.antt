-- How the values of a rule's parts are put together.
use Rattle.std.specs.Prelude.{List, [], ◌∷◌, ◌++◌, Option, Some, None}
use Rattle.std.specs.List.{flat_map}
use Rattle.bye_terms.specs.Literals.{xsd_string}
use Rattle.bye_pattern.specs.declared.slot.Slot.{Slot}
use Rattle.bye_pattern.specs.Patterns.{Pattern}
use Rattle.bye_pattern.specs.Conditions.{Expr, Not}
use Rattle.bye_pattern.specs.Written.{Element, Block}
use Rattle.bye_grammar.specs.Fits as fits
use Rattle.bye_grammar.specs.Fits.{Chars}

-- a string without a suffix has the datatype xsd:string
abbrev pub or_plain : Chars → Option Slot → Slot
or_plain text None = fits.typed text xsd_string
or_plain text (Some literal) = literal

-- a triple pattern
abbrev pub pattern : Slot → Slot → Slot → Pattern
pattern s p o = record { s = s; p = p; o = o }

-- the list, or the empty one
abbrev pub or_none : {A : Type 0} → Option (List A) → List A
or_none None = []
or_none (Some xs) = xs

-- one list after another
abbrev pub joined : {A : Type 0} → List A → List (List A) → List A
joined xs more = xs ++ flat_map (λ ys. ys) more

-- `!` before an expression, where there is one
abbrev pub negated : Option (Unit {0}) → Expr → Expr
negated None e = e
negated (Some bang) e = Not e

-- an operator between expressions groups to the left
abbrev pub grouped : (Expr → Expr → Expr) → Expr → List Expr → Expr
grouped op e [] = e
grouped op e (d ∷ ds) = grouped op (op e d) ds

-- a block, where there is one
abbrev pub block_of : Option (List Pattern) → List Element
block_of None = []
block_of (Some ps) = Block ps ∷ []
