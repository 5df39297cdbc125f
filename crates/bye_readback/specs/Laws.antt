-- Written texts are read back as what they were written for.
use Rattle.std.specs.Prelude.{◌≡◌, true, List, map}
use Rattle.std.specs.Str.{all_scalars, encode_utf8_all}
use Rattle.bye_pattern.specs.Trees.{Select}
use Rattle.bye_pattern.specs.Selects.{IsSelect}
use Rattle.bye_pattern.specs.Printed.{query_text}
use Rattle.bye_pattern.specs.AsWritten.{as_written}
use Rattle.bye_tokens.specs.declared.token.Placed.{Placed}
use Rattle.bye_grammar.specs.Laws.{IsDocument}
use Rattle.bye_grammar.specs.ValidSelects.{IsValidSelect}
use Rattle.bye_grammar.specs.Documents.{QueryDoc}
use Rattle.bye_written.specs.Written.{query_tokens}

-- the tokens of each SELECT of the program, wherever they stand, derive from Document as the query that it is written as
abbrev pub WrittenTokensDerive : Type 0
WrittenTokensDerive = (q : Select) (ts : List Placed) → IsSelect q → IsValidSelect q → map (λ t. t.token) ts ≡ query_tokens q → IsDocument ts (as_written q)

-- the written text of each SELECT of the program, in UTF-8, is read as this SELECT
abbrev pub WrittenTextsAreRead : Type 0
WrittenTextsAreRead = (q : Select) → IsSelect q → IsValidSelect q → all_scalars (query_text q) ≡ true → QueryDoc (encode_utf8_all (query_text q)) q
