use Rattle.std.proofs.Common.{◌≡◌, ◌++◌, [], List, ℕ, sym, ◌∙◌, ap, IsTrue}
use Rattle.std.specs.List.{flat_map}
use Rattle.std.specs.Str.{chars, encode_utf8_all, all_scalars}
use Rattle.std.proofs.lemmas.Str.{chars-encodes}
use Rattle.std.proofs.lemmas.List.{append-nil}
use Rattle.bye_lex.proofs.write.push_lexical.Goals as goal

ended : (f : ℕ → List ℕ) (now before rest all bytes text : List ℕ) → now ++ encode_utf8_all (flat_map f rest) ≡ before ++ encode_utf8_all (flat_map f all) → rest ≡ []
    → all ≡ chars bytes → bytes ≡ encode_utf8_all text → IsTrue (all_scalars text) → now ≡ before ++ encode_utf8_all (flat_map f text)
ended f now before rest all bytes text e empty is spelled scalars =
    sym (append-nil now) ∙ sym (ap (λ xs. now ++ encode_utf8_all (flat_map f xs)) empty) ∙ e
    ∙ ap (λ xs. before ++ encode_utf8_all (flat_map f xs)) (is ∙ ap chars spelled ∙ chars-encodes text scalars)

pub returns-clause-ok : goal.returns-clause-ok
returns-clause-ok c = ended _ _ _ _ _ _ _ c.loop-c.invariant.ok c.in_default.ensures.0 c.new-rest.ensures c.as_str.ensures.text c.as_str.ensures.scalars
