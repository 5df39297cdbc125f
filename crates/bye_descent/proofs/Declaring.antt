-- Declarations of a prefix among tokens that are gone through one by one.
use Rattle.std.proofs.Common.{◌≡◌, refl, ℕ, Bool, true, false, ◌&&◌, ◌||◌, List, [], ◌∷◌, sym, ◌∙◌, ap}
use Rattle.bye_tokens.specs.declared.token.Placed.{Placed}
use Rattle.bye_descent.specs.Unknown.{is_prefix_word, is_prefix, is_reference, begins_iri, begins_prefix, is_declared}

-- a declaration stands among the tokens, or its rest at their front: after the word PREFIX, or also after the prefix
abbrev pub declared_on : List ℕ → Bool → Bool → List Placed → Bool
declared_on name word prefix ts = (prefix && begins_iri ts) || ((word && begins_prefix name ts) || is_declared name ts)

passed : (r w b i d : Bool) → r ≡ false → (r || ((w && (b && i)) || d)) ≡ (((w && b) && i) || d)
passed true w b i d e = cc
passed false true b i d e = refl
passed false false b i d e = refl

-- a token is gone past
pub go_past : (name : List ℕ) (word prefix : Bool) (t : Placed) (ts rest : List Placed) (all : Bool) → rest ≡ t ∷ ts → declared_on name word prefix rest ≡ all → (prefix && is_reference t.token) ≡ false
    → declared_on name (is_prefix_word t.token) (word && is_prefix name t.token) ts ≡ all
go_past name word prefix t ts rest all e h off =
    sym (passed (prefix && is_reference t.token) word (is_prefix name t.token) (begins_iri ts) ((is_prefix_word t.token && begins_prefix name ts) || is_declared name ts) off)
    ∙ ap (λ ts. declared_on name word prefix ts) (sym e) ∙ h

-- an IRI reference ends a declaration
pub ends_here : (name : List ℕ) (word prefix : Bool) (t : Placed) (ts rest : List Placed) (all : Bool) → rest ≡ t ∷ ts → declared_on name word prefix rest ≡ all → (prefix && is_reference t.token) ≡ true → all ≡ true
ends_here name word prefix t ts rest all e h on = sym h ∙ ap (λ ts. declared_on name word prefix ts) e ∙ ap (λ b. b || ((word && begins_prefix name (t ∷ ts)) || is_declared name (t ∷ ts))) on

-- at the end
pub none_more : (name : List ℕ) (word prefix : Bool) (rest : List Placed) (all : Bool) → rest ≡ [] → declared_on name word prefix rest ≡ all → all ≡ false
none_more name word prefix rest all e h = sym h ∙ ap (λ ts. declared_on name word prefix ts) e ∙ none prefix word
  where
    none : (a b : Bool) → ((a && false) || ((b && false) || false)) ≡ false
    none true true = refl
    none true false = refl
    none false true = refl
    none false false = refl
