-- What is answered of a string is what is answered of its bytes.
use Rattle.std.proofs.Common.{◌≡◌, ℕ, ◌≤◌, List, length, Some, None, Ok, Err, subst}
use Rattle.std.specs.Str.{chars, encode_utf8_all, IsUtf8}
use Rattle.bye_tokens.specs.declared.token.Placed.{Placed}
use Rattle.bye_tokens.specs.Fronts.{tokens_of}
use Rattle.bye_tokens.specs.Laws.{SplitsOneWay}
use Rattle.bye_tokens.specs.Splitting.{AreTokens}
use Rattle.bye_grammar.specs.Laws.{DocumentsAreValid}
use Rattle.bye_tree.specs.declared.written.WrittenQuery.{WrittenQuery}
use Rattle.bye_tree.specs.Written.{written_of}
use Rattle.bye_descent.specs.Answer.{IsAnswer}
use Rattle.bye_descent.specs.declared.stopped.Stopped.{Stopped}
use Rattle.bye_descent.specs.declared.stopped.Stopped.TheVariants as stopped
use Rattle.bye_query.specs.Answers.{IsReadAs}
use Rattle.bye_query.specs.Passing.{of_stopped}
use Rattle.bye_query.specs.Refusals.{max_bytes, OfTokens, IsRefusal}
use Rattle.bye_query.proofs.Tokens.{all_valid}

module _ (law : SplitsOneWay) (bytes : List ℕ) (short : length bytes ≤ max_bytes) (utf8 : IsUtf8 bytes) where
  abbrev total : ℕ
  total = length (encode_utf8_all (chars bytes))

  abbrev tokens : List Placed
  tokens = tokens_of total (chars bytes)

  split : AreTokens (chars bytes) tokens
  split = (law total (chars bytes)).0

  of_tokens : {Holds : List Placed → Type 0} → ((ts : List Placed) → AreTokens (chars bytes) ts → Holds ts) → OfTokens bytes Holds
  of_tokens all = record { short = short; text = utf8; tokens = tokens; split = split; holds = all tokens split }

  read_bytes_as : DocumentsAreValid → (query : WrittenQuery) → IsAnswer bytes (Ok query) → IsReadAs bytes (written_of query)
  read_bytes_as valid query answer = record {
    short = short;
    text = record { text = utf8; tokens = tokens; split = split; derives = (answer tokens split).0 };
    within = (answer tokens split).1;
    valid = valid tokens (written_of query) (all_valid total (chars bytes) tokens split) (answer tokens split).0;
  }

  refused_bytes : (error : Stopped) → IsAnswer bytes (Err error) → IsRefusal bytes (of_stopped error)
  refused_bytes (stopped.WrongToken place None) answer = of_tokens answer
  refused_bytes (stopped.WrongToken place (Some feature)) answer = of_tokens answer
  refused_bytes (stopped.UnknownPrefix place) answer = of_tokens answer
  refused_bytes (stopped.DeepToken place) answer = of_tokens answer
  refused_bytes stopped.Memory answer = tt

  -- a query that is read of the string is the one of the bytes
  pub read_as : DocumentsAreValid → (text : List ℕ) (query : WrittenQuery) → text ≡ bytes → IsAnswer text (Ok query) → IsReadAs bytes (written_of query)
  read_as valid text query same answer = read_bytes_as valid query (subst (λ t. IsAnswer t (Ok query)) same answer)

  -- and a refusal too
  pub refused : (text : List ℕ) (error : Stopped) → text ≡ bytes → IsAnswer text (Err error) → IsRefusal bytes (of_stopped error)
  refused text error same answer = refused_bytes error (subst (λ t. IsAnswer t (Err error)) same answer)
