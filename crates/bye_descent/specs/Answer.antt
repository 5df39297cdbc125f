-- What the reading of a text as a query answers.
use Rattle.std.specs.Prelude.{◌≡◌, ℕ, List, length, Option, Result, Ok, Err}
use Rattle.std.specs.Str.{chars}
use Rattle.bye_tokens.specs.declared.token.Placed.{Placed}
use Rattle.bye_tokens.specs.Left.{first_place}
use Rattle.bye_tokens.specs.Splitting.{AreTokens}
use Rattle.bye_parts.specs.Parts.{any}
use Rattle.bye_parts.specs.Answers.{WrongToken, DeepToken}
use Rattle.bye_parts.specs.Brackets.{IsWithin}
use Rattle.bye_grammar.specs.TokenKinds.{turn}
use Rattle.bye_grammar.specs.Grammar.{document}
use Rattle.bye_grammar.specs.Laws.{IsDocument}
use Rattle.bye_tree.specs.Written.{written_of}
use Rattle.bye_tree.specs.declared.written.WrittenQuery.{WrittenQuery}
use Rattle.bye_descent.specs.declared.feature.Feature.{Feature}
use Rattle.bye_descent.specs.Features.{next_feature}
use Rattle.bye_descent.specs.Opening.{max_open}
use Rattle.bye_descent.specs.Unknown.{UnknownPrefix}
use Rattle.bye_descent.specs.declared.stopped.Stopped.{Stopped}
use Rattle.bye_descent.specs.declared.stopped.Stopped.TheVariants as stopped

-- The tokens from the first wrong one on are left. It is a prefixed name whose prefix is not declared, where an IRI reference would fit, and
-- this is its place.
abbrev pub IsUnknownAt : ℕ → List Placed → ℕ → Type 0
IsUnknownAt end ts place = (left : List Placed) × (wrong : WrongToken (any document) turn max_open ts left) × (place ≡ first_place left end) × UnknownPrefix wrong.front left

-- The tokens from the first wrong one on are left, and it is no such name. This is its place, or that of the end, and what it is, where it is
-- left out of queries.
abbrev pub IsWrongAt : ℕ → List Placed → ℕ → Option Feature → Type 0
IsWrongAt end ts place feature = (left : List Placed) × (wrong : WrongToken (any document) turn max_open ts left) × (place ≡ first_place left end) × (feature ≡ next_feature left) × (UnknownPrefix wrong.front left → ⊥)

-- The tokens from a bracket on that is too deep are left, and this is its place.
abbrev pub IsDeepAt : ℕ → List Placed → ℕ → Type 0
IsDeepAt end ts place = (left : List Placed) × DeepToken (any document) turn max_open ts left × (place ≡ first_place left end)

-- what is answered of the tokens of a text of so many bytes
abbrev pub Answered : ℕ → List Placed → Result WrittenQuery Stopped → Type 0
Answered end ts (Ok query) = IsDocument ts (written_of query) × IsWithin turn max_open ts
Answered end ts (Err (stopped.UnknownPrefix place)) = IsUnknownAt end ts place
Answered end ts (Err (stopped.WrongToken place feature)) = IsWrongAt end ts place feature
Answered end ts (Err (stopped.DeepToken place)) = IsDeepAt end ts place
Answered end ts (Err stopped.Memory) = Unit {0}

-- what is answered of the tokens that a text splits into
abbrev pub IsAnswer : List ℕ → Result WrittenQuery Stopped → Type 0
IsAnswer text answer = (ts : List Placed) → AreTokens (chars text) ts → Answered (length text) ts answer
