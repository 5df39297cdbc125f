-- The tokens of what is written; for private clauses.
use Rattle.std.specs.Prelude.{◌≡◌, List, [], ◌∷◌, ◌++◌, Option, Some, None}
use Rattle.std.specs.Str.{encode_utf8_all}
use Rattle.json.specs.Token.{Token, key}
use Rattle.json.specs.Tree.{json_tokens}
use Rattle.json.specs.Written.{Written}
use Rattle.serde_json.specs.Data.{Data}
use Rattle.serde_json.specs.Written.{outline}
use Rattle.bye_terms.specs.declared.term.Term.{Term}
use Rattle.bye_table.specs.Mappings.{Name}
use Rattle.bye_json.specs.Written.{term_object}

-- these tokens were written after those that stood there
pub record Adds (old : Written) (ts : List Token) (new : Written) : Type 0 where
  pub before : new.before ≡ old.before
  pub tokens : new.tokens ≡ old.tokens ++ ts

-- the tokens of a value
abbrev pub tokens_of : Data → List Token
tokens_of d = json_tokens (outline d)

-- the tokens of a variable's member
abbrev pub cell_tokens : Name → Option Term → List Token
cell_tokens v None = []
cell_tokens v (Some t) = key (encode_utf8_all v) ∷ tokens_of (term_object t)
