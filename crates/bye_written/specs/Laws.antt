-- Into which tokens written texts split (SPARQL 1.1 Query, section 19.8).
use Rattle.std.specs.Prelude.{◌≡◌, List, map}
use Rattle.bye_pattern.specs.Trees.{Select}
use Rattle.bye_pattern.specs.Printed.{query_text}
use Rattle.bye_tokens.specs.declared.token.Placed.{Placed}
use Rattle.bye_tokens.specs.Splitting.{AreTokens}
use Rattle.bye_grammar.specs.ValidSelects.{IsValidSelect}
use Rattle.bye_written.specs.Written.{query_tokens}

-- the text of each SELECT of valid parts splits into its tokens
abbrev pub WrittenTextsSplit : Type 0
WrittenTextsSplit = (q : Select) → IsValidSelect q → (ts : List Placed) × AreTokens (query_text q) ts × (map (λ t. t.token) ts ≡ query_tokens q)
