-- Why bytes are refused as a query.
use Rattle.std.specs.Prelude.{◌≡◌, ℕ, ◌<◌, ◌≤◌, false, List, length, Some, None}
use Rattle.std.specs.Str.{chars, IsUtf8, IsValidUpTo}
use Rattle.bye_pattern.specs.Written.{Written}
use Rattle.bye_pattern.specs.Gathered.{IsBrokenEarly, IsDesignedEarly}
use Rattle.bye_tokens.specs.declared.token.Placed.{Placed}
use Rattle.bye_tokens.specs.Splitting.{AreTokens}
use Rattle.bye_parts.specs.Brackets.{IsWithin}
use Rattle.bye_grammar.specs.Documents.{QueryText}
use Rattle.bye_grammar.specs.TokenKinds.{turn}
use Rattle.bye_tree.specs.Gathering.{LacksVariable}
use Rattle.bye_descent.specs.Opening.{max_open}
use Rattle.bye_descent.specs.Answer.{IsWrongAt, IsUnknownAt, IsDeepAt}
use Rattle.bye_query.specs.declared.query_err.QueryErr.{QueryErr}
use Rattle.bye_query.specs.declared.query_err.QueryErr.TheVariants.{TooLong, NotUtf8, Syntax, LeftOut, UnknownPrefix, TooDeep, Broken, Projected, Memory}

-- the longest text that is read, in bytes
abbrev pub max_bytes : ℕ
max_bytes = 16777216

-- the bytes are no longer than that and no string, and so many of them at their front are whole characters
pub record NoString (bytes : List ℕ) (place : ℕ) : Type 0 where
  pub short : length bytes ≤ max_bytes
  pub none : IsUtf8 bytes → ⊥
  pub valid : IsValidUpTo bytes place

-- they are a string, and this holds of the tokens that it splits into
pub record OfTokens (bytes : List ℕ) (Holds : List Placed → Type 0) : Type 0 where
  pub short : length bytes ≤ max_bytes
  pub text : IsUtf8 bytes
  pub tokens : List Placed
  pub split : AreTokens (chars bytes) tokens
  pub holds : Holds tokens

-- they are the text of a query in which no bracket is too deep, and of which this holds
pub record OfQuery (bytes : List ℕ) (Holds : Written → Type 0) : Type 0 where
  pub short : length bytes ≤ max_bytes
  pub written : Written
  pub text : QueryText bytes written
  pub within : IsWithin turn max_open text.tokens
  pub holds : Holds written

-- it keeps the rules, and some variable of its tree is not selected although DISTINCT is missing
abbrev pub LeavesOut : Written → Type 0
LeavesOut w = IsDesignedEarly w × (w.distinct ≡ false) × LacksVariable w

-- the cause of each refusal; want of memory tells nothing
abbrev pub IsRefusal : List ℕ → QueryErr → Type 0
IsRefusal bytes TooLong = max_bytes < length bytes
IsRefusal bytes (NotUtf8 place) = NoString bytes place
IsRefusal bytes (Syntax place) = OfTokens bytes (λ ts. IsWrongAt (length bytes) ts place None)
IsRefusal bytes (LeftOut place feature) = OfTokens bytes (λ ts. IsWrongAt (length bytes) ts place (Some feature))
IsRefusal bytes (UnknownPrefix place) = OfTokens bytes (λ ts. IsUnknownAt (length bytes) ts place)
IsRefusal bytes (TooDeep place) = OfTokens bytes (λ ts. IsDeepAt (length bytes) ts place)
IsRefusal bytes (Broken shape) = OfQuery bytes (λ w. IsBrokenEarly w shape.path.items shape.rule)
IsRefusal bytes Projected = OfQuery bytes LeavesOut
IsRefusal bytes Memory = Unit {0}
