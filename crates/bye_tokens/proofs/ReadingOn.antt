-- The tokens of a document, one after another.
use Rattle.std.proofs.Common.{◌≡◌, ℕ, ◌-◌, false, List, ◌∷◌, length, Option, Some, None, sym, ◌∙◌, ap, subst}
use Rattle.std.specs.Str.{chars, encode_utf8_all, IsUtf8}
use Rattle.std.proofs.lemmas.Str.{encodes-chars}
use Rattle.bye_tokens.specs.Fronts.{found, found_or_bad, tokens_of}
use Rattle.bye_tokens.specs.Splitting.{skip, AreTokens}
use Rattle.bye_tokens.specs.declared.token.Placed.{Placed}
use Rattle.bye_tokens.specs.declared.token.Token.{Token}
use Rattle.bye_tokens.specs.declared.token.Token.TheVariants.{Bad}
use Rattle.bye_tokens.proofs.SplitExact.{tokens_next, splits, only}

-- what was found is the next token
pub next_found : (total place : ℕ) (text s cs : List ℕ) (c : ℕ) (o : Option (Token × List ℕ)) (r : Token × List ℕ) (token : Token) (rest : List ℕ) → s ≡ skip false text → s ≡ c ∷ cs → place ≡ total - length (encode_utf8_all s)
    → o ≡ found s → o ≡ Some r → token ≡ r.0 → rest ≡ r.1 → record { place = place; token = token } ∷ tokens_of total rest ≡ tokens_of total text
next_found total place text s cs c o r token rest e f at h is t u =
    let first : r ≡ found_or_bad c cs (found (c ∷ cs)) = ap (found_or_bad c cs) (sym is ∙ h ∙ ap found f) in
    let places : place ≡ total - length (encode_utf8_all (c ∷ cs)) = at ∙ ap (λ s. total - length (encode_utf8_all s)) f in
    let tokens : token ≡ (found_or_bad c cs (found (c ∷ cs))).0 = t ∙ ap (λ (r : Token × List ℕ). r.0) first in
    let rests : rest ≡ (found_or_bad c cs (found (c ∷ cs))).1 = u ∙ ap (λ (r : Token × List ℕ). r.1) first in
    (λ i. record { place = places i; token = tokens i } ∷ tokens_of total (rests i)) ∙ sym (tokens_next total text c cs (sym e ∙ f))

-- and else a bad one of one character
pub next_bad : (total place : ℕ) (text s cs : List ℕ) (c : ℕ) (o : Option (Token × List ℕ)) → s ≡ skip false text → s ≡ c ∷ cs → place ≡ total - length (encode_utf8_all s)
    → o ≡ found s → o ≡ None → record { place = place; token = Bad c } ∷ tokens_of total cs ≡ tokens_of total text
next_bad total place text s cs c o e f at h is =
    let first : (Bad c, cs) ≡ found_or_bad c cs (found (c ∷ cs)) = ap (found_or_bad c cs) (sym is ∙ h ∙ ap found f) in
    let places : place ≡ total - length (encode_utf8_all (c ∷ cs)) = at ∙ ap (λ s. total - length (encode_utf8_all s)) f in
    (λ i. record { place = places i; token = (first i).0 } ∷ tokens_of total (first i).1) ∙ sym (tokens_next total text c cs (sym e ∙ f))

-- the tokens of a whole text
whole : (bytes : List ℕ) → IsUtf8 bytes → length (encode_utf8_all (chars bytes)) ≡ length bytes
whole bytes u = ap length (encodes-chars bytes u)

pub are_tokens : (bytes : List ℕ) (placed : List Placed) → IsUtf8 bytes → placed ≡ tokens_of (length bytes) (chars bytes) → AreTokens (chars bytes) placed
are_tokens bytes placed u e =
    subst (AreTokens (chars bytes)) (ap (λ n. tokens_of n (chars bytes)) (whole bytes u) ∙ sym e) (splits (length (encode_utf8_all (chars bytes))) (chars bytes))

pub only_tokens : (bytes : List ℕ) (placed other : List Placed) → IsUtf8 bytes → placed ≡ tokens_of (length bytes) (chars bytes) → AreTokens (chars bytes) other → other ≡ placed
only_tokens bytes placed other u e h = only (length (encode_utf8_all (chars bytes))) (chars bytes) other placed h (are_tokens bytes placed u e)
