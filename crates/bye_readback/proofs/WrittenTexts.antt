-- How written texts are read.
use Rattle.std.proofs.Common.{refl, sym, subst}
use Rattle.std.proofs.lemmas.Str.{chars-encodes}
use Rattle.bye_pattern.specs.Printed.{query_text}
use Rattle.bye_pattern.specs.AsWritten.{as_written}
use Rattle.bye_tokens.specs.Splitting.{AreTokens}
use Rattle.bye_written.specs.Laws.{WrittenTextsSplit}
use Rattle.bye_laws.specs.Written.{ReadBack}
use Rattle.bye_readback.specs.Laws.{WrittenTextsAreRead}
use Rattle.bye_readback.proofs.WrittenDocuments.{tokens_derive}

-- the written text of a SELECT is read as this SELECT: it splits into its tokens, these derive, and what they derive as is read back
pub texts_read : WrittenTextsSplit → ReadBack → WrittenTextsAreRead
texts_read split back q is_select is_valid scalars =
    let tokens = split q is_valid in
    record {
      written = as_written q;
      text = record {
        text = (query_text q, (scalars, refl));
        tokens = tokens.0;
        split = subst (λ text. AreTokens text tokens.0) (sym (chars-encodes (query_text q) scalars)) tokens.1;
        derives = tokens_derive q tokens.0 is_select is_valid tokens.2;
      };
      read_as = sym (back.gathers q is_select);
      early = back.designed q is_select;
      whole = is_select.whole;
    }
