-- The laws of documents, from the facts of their rule.
use Rattle.std.proofs.Common.{◌≡◌, refl}
use Rattle.bye_tokens.specs.declared.token.Token.{Token}
use Rattle.bye_tokens.specs.declared.token.Token.TheVariants.{IriRef}
use Rattle.bye_parts.specs.Brackets.{Plain, turn_of}
use Rattle.bye_parts.proofs.Whole.{answers, derived_is_read, one_value, derived_is_front, fronts_closed, fronts_alike, front_reads}
use Rattle.bye_grammar.specs.TokenKinds.{numbers, opening, closing, kind_of, number}
use Rattle.bye_grammar.specs.Fits.{IsIriReference, IsPlainReference}
use Rattle.bye_grammar.specs.Grammar.{document}
use Rattle.bye_grammar.specs.Reading.{read_document}
use Rattle.bye_grammar.specs.Laws.{DocumentsAreRead, DocumentsCome, DocumentsHaveOneValue, DocumentsAreFronts, FrontsAreClosed, FittingIrisAreRead}
use Rattle.bye_grammar.proofs.DocumentRules.{rule_document}

pub documents_read : DocumentsAreRead
documents_read n ts = answers document read_document rule_document n ts

pub documents_come : DocumentsCome
documents_come n ts w h = derived_is_read document read_document rule_document n ts w h

pub documents_once : DocumentsHaveOneValue
documents_once ts v w h k = one_value document read_document rule_document ts v w h k

pub documents_fronts : DocumentsAreFronts
documents_fronts ts w h = derived_is_front document read_document rule_document ts w h

pub fronts_close : FrontsAreClosed
fronts_close x y h = fronts_closed document read_document rule_document x y h

reference_turn : (t : Token) → IsPlainReference t → turn_of (λ t. number (kind_of t)) (numbers opening) (numbers closing) t ≡ Plain
reference_turn (IriRef text) h = refl
reference_turn _ h = absurd h

reference : (t : Token) → IsPlainReference t → IsIriReference t
reference (IriRef text) h = h.0
reference _ h = absurd h

pub iris_read : FittingIrisAreRead
iris_read n ts t plain within =
    let reads = front_reads document read_document rule_document n ts t within (reference_turn t.token plain) in
    (λ k. reads.0 (fronts_alike document read_document rule_document ts k.0 t (k.1, plain) k.2), λ e. (t, reference t.token plain, reads.1 e))
