-- Query documents: what their bytes say (SPARQL 1.1 Query, sections 18.2 and 19).
use Rattle.std.specs.Prelude.{◌≡◌, ℕ, List}
use Rattle.std.specs.Str.{IsUtf8, chars}
use Rattle.bye_pattern.specs.Trees.{Select}
use Rattle.bye_pattern.specs.Selects.{SelectsAll}
use Rattle.bye_pattern.specs.Written.{Written}
use Rattle.bye_pattern.specs.Gathered.{IsDesignedEarly, gather}
use Rattle.bye_tokens.specs.declared.token.Placed.{Placed}
use Rattle.bye_tokens.specs.Splitting.{AreTokens}
use Rattle.bye_grammar.specs.Laws.{IsDocument}

-- the bytes are the UTF-8 of a text that splits into tokens, and these derive from Document as this written query
pub record QueryText (bytes : List ℕ) (w : Written) : Type 0 where
  pub text : IsUtf8 bytes
  pub tokens : List Placed
  pub split : AreTokens (chars bytes) tokens
  pub derives : IsDocument tokens w

-- The bytes are those of a written query that is read as this select: it keeps the four rules at each node, by what stands before it
-- in its parent's group, and without DISTINCT it selects all of the tree's variables. No limit of bytes or brackets is part of this.
pub record QueryDoc (bytes : List ℕ) (q : Select) : Type 0 where
  pub written : Written
  pub text : QueryText bytes written
  pub read_as : q ≡ gather written
  pub early : IsDesignedEarly written
  pub whole : SelectsAll q
