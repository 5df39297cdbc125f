-- Texts that spell tokens, joined from left to right.
use Rattle.std.proofs.Common.{◌≡◌, refl, ℕ, Bool, true, false, ◌==◌, List, [], ◌∷◌, ◌++◌, Some, map, inl, ⊎_elim, sym, ◌∙◌, ap, subst, append_assoc, append-nil, codes}
use Rattle.std.specs.List.{flat_map, AllByRecursion}
use Rattle.bye_terms.proofs.Tests.{one_part}
use Rattle.bye_lex.specs.Scanning.{place}
use Rattle.bye_lex.proofs.Branches.{eqb_same}
use Rattle.bye_tokens.specs.Fronts.{found, tokens_of}
use Rattle.bye_tokens.specs.Kinds.{Lexeme}
use Rattle.bye_tokens.specs.Splitting.{skip, First, Splits}
use Rattle.bye_tokens.specs.declared.token.Placed.{Placed}
use Rattle.bye_tokens.specs.declared.token.Token.{Token}
use Rattle.bye_tokens.proofs.FoundExact.{found_told}
use Rattle.bye_tokens.proofs.Literals.{one_of}
use Rattle.bye_tokens.proofs.Longest.{Told}
use Rattle.bye_tokens.proofs.SplitExact.{splits, only}

-- the tokens of the rest of a document of so many bytes, without their places
abbrev pub tokens_in : ℕ → List ℕ → List Token
tokens_in total text = map (λ (p : Placed). p.token) (tokens_of total text)

-- what is skipped tells nothing
same_splits : (total : ℕ) (text other : List ℕ) (ps : List Placed) → skip false text ≡ skip false other → Splits total text ps → Splits total other ps
same_splits total text other [] e h = sym e ∙ h
same_splits total text other (p ∷ ps) e h = (h.0, h.1, subst (λ s. First s h.0 h.1 p.token) e h.2, h.3 ∙ ap (place total) e, h.4)

skipped : (total : ℕ) (text other : List ℕ) → skip false text ≡ skip false other → tokens_in total text ≡ tokens_in total other
skipped total text other e =
    ap (map (λ (p : Placed). p.token))
    (only total other (tokens_of total text) (tokens_of total other) (same_splits total text other (tokens_of total text) e (splits total text)) (splits total other))

-- the first token, and those of the rest
pub first_next : (total : ℕ) (text own rest : List ℕ) (token : Token) → skip false text ≡ text → First text own rest token → tokens_in total text ≡ token ∷ tokens_in total rest
first_next total text own rest token e f =
    ap (map (λ (p : Placed). p.token))
    (only total text (tokens_of total text) (record { place = place total (skip false text); token = token } ∷ tokens_of total rest) (splits total text)
    (own, rest, subst (λ s. First s own rest token) (sym e) f, refl, splits total rest))

first_found : (text rest : List ℕ) (token : Token) → found text ≡ Some (token, rest) → (own : List ℕ) × First text own rest token
first_found text rest token e = let t = subst (Told Lexeme text) e (found_told text) in (t.0, record { parts = t.1; is = inl t.2 })

pub found_next : (total : ℕ) (text rest : List ℕ) (token : Token) → skip false text ≡ text → found text ≡ Some (token, rest) → tokens_in total text ≡ token ∷ tokens_in total rest
found_next total text rest token s e = let f = first_found text rest token e in first_next total text f.0 rest token s f.1

-- Before what `after` allows, the text spells the tokens.
pub record Spells (after : List ℕ → Type 0) (text : List ℕ) (tokens : List Token) : Type 0 where
  pub read : (total : ℕ) (rest : List ℕ) → after rest → tokens_in total (text ++ rest) ≡ tokens ++ tokens_in total rest

-- before any text
abbrev pub Any : List ℕ → Type 0
Any rest = Unit {0}

-- before a character that passes
abbrev pub Before : (ℕ → Bool) → List ℕ → Type 0
Before test [] = ⊥
Before test (c ∷ cs) = test c ≡ true

pub spells_before : {test : ℕ → Bool} {text : List ℕ} {tokens : List Token} → ((total c : ℕ) (rest : List ℕ) → test c ≡ true → tokens_in total (text ++ c ∷ rest) ≡ tokens ++ tokens_in total (c ∷ rest)) → Spells (Before test) text tokens
spells_before {test} {text} {tokens} read = record { read = at }
  where
    at : (total : ℕ) (rest : List ℕ) → Before test rest → tokens_in total (text ++ rest) ≡ tokens ++ tokens_in total rest
    at total [] q = absurd q
    at total (c ∷ rest) q = read total c rest q

-- a space, the end of a line, a bracket or a comma
abbrev pub ends : ℕ → Bool
ends = one_of (codes " \n(),")

abbrev pub Ends : List ℕ → Type 0
Ends = Before ends

-- what holds of a few characters holds of one of them
each_of : (P : ℕ → Type 0) (ds : List ℕ) → AllByRecursion P ds → (c : ℕ) → one_of ds c ≡ true → P c
each_of P [] h c e = absurd (no_one e)
  where
    no_one : false ≡ true → ⊥
    no_one e = cc
each_of P (d ∷ ds) h c e = ⊎_elim (λ i. subst P (sym (eqb_same c d i)) h.0) (λ k. each_of P ds h.1 c k) (one_part (c == d) (one_of ds c) e)

-- the same for one that ends
abbrev pub AtEnds : (ℕ → Type 0) → Type 0
AtEnds P = P 32 × P 10 × P 40 × P 41 × P 44

pub each_end : (P : ℕ → Type 0) → AtEnds P → (c : ℕ) → ends c ≡ true → P c
each_end P h c e = each_of P (codes " \n(),") (h.0, (h.1, (h.2, (h.3, (h.4, tt))))) c e

-- one text after another
pub joined : {P Q : List ℕ → Type 0} {a b : List ℕ} {s t : List Token} → Spells P a s → Spells Q b t → ((rest : List ℕ) → Q rest → P (b ++ rest)) → Spells Q (a ++ b) (s ++ t)
joined {P} {Q} {a} {b} {s} {t} x y fits = record {
  read = λ total rest q.
      ap (tokens_in total) (append_assoc a b rest) ∙ x.read total (b ++ rest) (fits rest q) ∙ ap (λ ts. s ++ ts) (y.read total rest q) ∙ sym (append_assoc s t (tokens_in total rest));
}

pub and_then : {Q : List ℕ → Type 0} {a b : List ℕ} {s t : List Token} → Spells Any a s → Spells Q b t → Spells Q (a ++ b) (s ++ t)
and_then x y = joined x y (λ rest q. tt)

-- a text without tokens, after another
pub trailed : {P : List ℕ → Type 0} {a b : List ℕ} {s : List Token} → Spells P a s → Spells Any b [] → ((rest : List ℕ) → P (b ++ rest)) → Spells Any (a ++ b) s
trailed {P} {a} {b} {s} x y fits = subst (Spells Any (a ++ b)) (append-nil s) (joined x y (λ rest q. fits rest))

-- a text of one token, between two others
pub between : {P Q : List ℕ → Type 0} {a m b : List ℕ} {s t : List Token} {one : Token} → Spells P a s → Spells Any m (one ∷ []) → Spells Q b t → ((rest : List ℕ) → P (m ++ rest)) → Spells Q (a ++ m ++ b) (s ++ one ∷ t)
between {P} {Q} {a} {m} {b} {s} {t} {one} x y z fits = subst (Spells Q (a ++ m ++ b)) (append_assoc s (one ∷ []) t) (and_then (joined x y (λ rest q. fits rest)) z)

-- no text, and a text that is skipped
pub nothing : {Q : List ℕ → Type 0} → Spells Q [] []
nothing = record { read = λ total rest q. refl }

pub blank : (text : List ℕ) → ((rest : List ℕ) → skip false (text ++ rest) ≡ skip false rest) → Spells Any text []
blank text e = record { read = λ total rest q. skipped total (text ++ rest) rest (e rest) }

pub space : Spells Any (codes " ") []
space = blank (codes " ") (λ rest. refl)

pub line_end : Spells Any (codes "\n") []
line_end = blank (codes "\n") (λ rest. refl)

-- what stands before any text stands before some
pub before_some : {Q : List ℕ → Type 0} {a : List ℕ} {s : List Token} → Spells Any a s → Spells Q a s
before_some x = record { read = λ total rest q. x.read total rest tt }

-- the same for each of a list
pub for_each : {A : Type 0} (P : A → Type 0) (f : A → List ℕ) (g : A → List Token) → ((x : A) → P x → Spells Any (f x) (g x)) → (xs : List A) → AllByRecursion P xs → Spells Any (flat_map f xs) (flat_map g xs)
for_each P f g one [] h = nothing
for_each P f g one (x ∷ xs) h = and_then (one x h.0) (for_each P f g one xs h.1)
