-- What reading again tells of a wrong token, over the tokens that a string splits into.
use Rattle.std.proofs.Common.{◌≡◌, ℕ, ◌≤◌, Bool, true, false, List, length, Option, Some, sym, ◌∙◌, ap, arith}
use Rattle.std.specs.Str.{chars, encode_utf8_all, IsUtf8}
use Rattle.std.proofs.lemmas.Str.{chars-encodes}
use Rattle.bye_tokens.specs.declared.token.Placed.{Placed}
use Rattle.bye_tokens.specs.Fronts.{tokens_of}
use Rattle.bye_tokens.specs.Laws.{SplitsOneWay}
use Rattle.bye_tokens.specs.Left.{first_place}
use Rattle.bye_tokens.specs.Splitting.{AreTokens}
use Rattle.bye_parts.specs.Parts.{any}
use Rattle.bye_parts.specs.Answers.{WrongToken}
use Rattle.bye_grammar.specs.TokenKinds.{turn}
use Rattle.bye_grammar.specs.Grammar.{document}
use Rattle.bye_grammar.specs.Laws.{FittingIrisAreRead}
use Rattle.bye_descent.specs.declared.feature.Feature.{Feature}
use Rattle.bye_descent.specs.Answer.{IsUnknownAt, IsWrongAt}
use Rattle.bye_descent.specs.Ending.{up_to}
use Rattle.bye_descent.specs.Features.{next_feature}
use Rattle.bye_descent.specs.Opening.{max_open}
use Rattle.bye_descent.specs.Unknown.{next_prefix, is_unknown}
use Rattle.bye_descent.proofs.Answering.{answer_unknown, answer_known}

-- a string has as many bytes as its characters
same_size : (text : List ℕ) → IsUtf8 text → length (encode_utf8_all (chars text)) ≡ length text
same_size text (cs, (scalars, e)) = ap (λ (t : List ℕ). length (encode_utf8_all t)) (ap (λ (t : List ℕ). chars t) (sym e) ∙ chars-encodes cs scalars) ∙ ap (λ (t : List ℕ). length t) e

at_most_itself : (n : ℕ) → n ≤ n
at_most_itself n = omega arith

module _ (one : SplitsOneWay) (law : FittingIrisAreRead) (text : List ℕ) (utf8 : IsUtf8 text) (place : ℕ) (left : List Placed) (at : place ≡ first_place left (length text))
    (unknown : Bool) (found : unknown ≡ is_unknown place (up_to (Some place) (tokens_of (length text) (chars text))) (next_prefix left))
    (ts : List Placed) (split : AreTokens (chars text) ts) (wrong : WrongToken (any document) turn max_open ts left) where
  abbrev total : ℕ
  total = length (encode_utf8_all (chars text))

  tokens_are : tokens_of (length text) (chars text) ≡ ts
  tokens_are = ap (λ (n : ℕ). tokens_of n (chars text)) (sym (same_size text utf8)) ∙ sym ((one total (chars text)).1 ts split)

  asked : (b : Bool) → unknown ≡ b → is_unknown place (up_to (Some place) ts) (next_prefix left) ≡ b
  asked b e = ap (λ (xs : List Placed). is_unknown place (up_to (Some place) xs) (next_prefix left)) (sym tokens_are) ∙ (sym found ∙ e)

  -- a prefix that is not declared
  pub told_unknown : unknown ≡ true → IsUnknownAt (length text) ts place
  told_unknown e = answer_unknown law (length text) total place ts left (chars text) (at_most_itself total) split wrong at (asked true e)

  -- any other token
  pub told_known : (feature : Option Feature) → feature ≡ next_feature left → unknown ≡ false → IsWrongAt (length text) ts place feature
  told_known feature is e = answer_known law (length text) total place ts left (chars text) (at_most_itself total) split wrong at feature is (asked false e)
