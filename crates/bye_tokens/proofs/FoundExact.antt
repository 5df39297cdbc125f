-- What is read from the front of a text is the longest token of all kinds, and a text stands for one token.
use Rattle.std.proofs.Common.{ℕ, List}
use Rattle.bye_lex.specs.Strings.{StringToken}
use Rattle.bye_lex.specs.Marks.{TagToken}
use Rattle.bye_lex.specs.declared.style.Style.TheVariants.{Query}
use Rattle.bye_tokens.specs.Fronts.{found, iri_front, tag_front, variable_front, number_front, plain_front, sign_front}
use Rattle.bye_tokens.specs.Kinds.{Lexeme, IriRefToken, VariableToken, PlainToken}
use Rattle.bye_tokens.specs.Laws.{OneToken}
use Rattle.bye_tokens.specs.Reading.{or_else}
use Rattle.bye_tokens.specs.Signs.{SignToken}
use Rattle.bye_tokens.specs.declared.token.Token.TheVariants.{IriRef, Variable, Quoted, Tagged, Mark}
use Rattle.bye_tokens.proofs.Apart.{AString, AnIri, ATag, AVariable, ANumber, AMark, AfterString, AfterIri, AfterTag, AfterVariable, AfterNumber, string_first, iri_first, tag_first, variable_first, number_first, plain_first}
use Rattle.bye_tokens.proofs.IriFront.{iri_told, one_iri}
use Rattle.bye_tokens.proofs.Longest.{Told, told_or, one_or, one_seen}
use Rattle.bye_tokens.proofs.OtherFronts.{string_told, one_string, tag_told, one_tag, number_told, one_number}
use Rattle.bye_tokens.proofs.PlainFront.{plain_told, one_plain}
use Rattle.bye_tokens.proofs.SignFront.{sign_told, one_sign}
use Rattle.bye_tokens.proofs.VariableFront.{variable_told, one_variable}

pub found_told : (text : List ℕ) → Told Lexeme text (found text)
found_told text =
    let a : Told AfterNumber text (or_else (plain_front text) (sign_front text)) = told_or PlainToken AMark text _ _ plain_first (plain_told text) (sign_told text) in
    let b : Told AfterVariable text (or_else (number_front text) (or_else (plain_front text) (sign_front text))) = told_or ANumber AfterNumber text _ _ number_first (number_told text) a in
    let c : Told AfterTag text (or_else (variable_front text) (or_else (number_front text) (or_else (plain_front text) (sign_front text)))) = told_or AVariable AfterVariable text _ _ variable_first (variable_told text) b in
    let d : Told AfterIri text (or_else (tag_front text) (or_else (variable_front text) (or_else (number_front text) (or_else (plain_front text) (sign_front text))))) = told_or ATag AfterTag text _ _ tag_first (tag_told text) c in
    let e : Told AfterString text (or_else (iri_front text) (or_else (tag_front text) (or_else (variable_front text) (or_else (number_front text) (or_else (plain_front text) (sign_front text)))))) = told_or AnIri AfterIri text _ _ iri_first (iri_told text) d in
    told_or AString AfterString text _ _ string_first (string_told text) e

pub one_lexeme : OneToken
one_lexeme =
    one_or AString AfterString string_first (one_seen Quoted (StringToken Query) one_string)
    (one_or AnIri AfterIri iri_first (one_seen IriRef IriRefToken one_iri)
    (one_or ATag AfterTag tag_first (one_seen Tagged TagToken one_tag)
    (one_or AVariable AfterVariable variable_first (one_seen Variable VariableToken one_variable)
    (one_or ANumber AfterNumber number_first one_number
    (one_or PlainToken AMark plain_first one_plain (one_seen Mark SignToken one_sign))))))
