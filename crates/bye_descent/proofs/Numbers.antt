-- Numbers of kinds of tokens.
use Rattle.std.proofs.Common.{◌≡◌, refl, ℕ, false, ◌==◌, cond, List, [], ◌∷◌, Some, None, ap, sym, ◌∙◌, arith}
use Rattle.bye_parts.specs.Readers.{Wrong, taken}
use Rattle.bye_tokens.specs.declared.token.Placed.{Placed}
use Rattle.bye_tokens.specs.declared.token.Token.{Token}
use Rattle.bye_tokens.specs.declared.token.Token.TheVariants.{IriRef, Prefixed, Variable, Quoted, Tagged, Numeral, Keyword, Mark, Bad}
use Rattle.bye_tokens.specs.KindNumbers as tokens
use Rattle.bye_tokens.specs.Left.{first_in}
use Rattle.bye_grammar.specs.Fits.{fixed}
use Rattle.bye_grammar.specs.Reading.{read_one}
use Rattle.bye_grammar.specs.TokenKinds.{TokenKind, number, kind_of}

pub kind_number : (t : Token) → tokens.kind t ≡ number (kind_of t)
kind_number (IriRef text) = refl
kind_number (Prefixed prefix local) = refl
kind_number (Variable v) = refl
kind_number (Quoted text) = refl
kind_number (Tagged tag) = refl
kind_number (Numeral n text) = refl
kind_number (Keyword word) = refl
kind_number (Mark sign) = refl
kind_number (Bad c) = refl

differ : (a b : ℕ) → (a ≡ b → ⊥) → (a == b) ≡ false
differ a b h = grind arith

-- a token of another kind stays
pub not_taken : (k : TokenKind) (ts : List Placed) (t : Token) → first_in ts ≡ Some t → (number (kind_of t) ≡ number k → ⊥) → read_one (fixed k) ts ≡ Wrong ts
not_taken k [] t e h = cc
not_taken k (p ∷ ps) t e h =
    let same : p.token ≡ t = cc in
    ap (λ b. taken (cond b (Some tt) None) p ps) (differ (number (kind_of p.token)) (number k) (λ d. h (ap (λ t. number (kind_of t)) (sym same) ∙ d)))
