-- Strings as they are written.
use Rattle.std.proofs.Common.{◌≡◌, refl, ℕ, true, false, cond, not, ◌==◌, ◌||◌, List, [], ◌∷◌, ◌++◌, Option, Some, None, option_map, ⊎_elim, codes, sym, ◌∙◌, ap, subst, append_assoc, append-nil}
use Rattle.bye_terms.specs.Spellings.{escaped, escaped_char}
use Rattle.bye_terms.proofs.Tests.{bool_cases, not_true}
use Rattle.bye_lex.specs.StringSteps.{step, final, inside}
use Rattle.bye_lex.specs.declared.quoting.Quote.TheVariants.{Double}
use Rattle.bye_lex.specs.declared.quoting.Quoting.TheVariants.{Short, Long}
use Rattle.bye_lex.specs.declared.string.StringAt.{StringAt}
use Rattle.bye_lex.specs.declared.string.StringAt.TheVariants.{Start, Opened, Empty, In, Backslash, Done}
use Rattle.bye_lex.specs.declared.style.Style.TheVariants.{Query}
use Rattle.bye_lex.proofs.Branches.{eqb_same, snoc}
use Rattle.bye_tokens.specs.Fronts.{found, iri_front, tag_front, variable_front, number_front, plain_front, sign_front}
use Rattle.bye_tokens.specs.Reading.{or_else, onward, better, longest}
use Rattle.bye_tokens.specs.declared.token.Token.TheVariants.{Quoted}
use Rattle.bye_written.proofs.Joined.{tokens_in, found_next, Before, Spells, spells_before}

-- what the machine reads from a state on
abbrev reads : StringAt → Option (List ℕ × List ℕ) → List ℕ → Option (List ℕ × List ℕ)
reads = longest (step Query) final

-- within a string, after these characters of it
abbrev IsWithin : StringAt → List ℕ → Type 0
IsWithin s out = (c : ℕ) → (c == 34) ≡ false → step Query s c ≡ inside Query (Short Double) out c

-- one character more, raw or escaped
raw_step : (s : StringAt) (out : List ℕ) (c : ℕ) (rest : List ℕ) (best : Option (List ℕ × List ℕ)) → IsWithin s out → (c == 34) ≡ false → (c == 92) ≡ false → (c == 10) ≡ false → (c == 13) ≡ false
    → reads s best (c ∷ rest) ≡ reads (In (Short Double) (out ++ c ∷ [])) best rest
raw_step s out c rest best w a b d e =
    ap (onward best _)
    (w c a ∙ (λ i. cond (b i) (Some (Backslash (Short Double) out)) (cond (not (a i || b i || d i || e i || false)) (Some (In (Short Double) (out ++ c ∷ []))) None)))

escape_step : (s : StringAt) (out : List ℕ) (d c : ℕ) (rest : List ℕ) (best : Option (List ℕ × List ℕ)) → IsWithin s out → reads (Backslash (Short Double) out) best (d ∷ rest) ≡ reads (In (Short Double) (out ++ c ∷ [])) best rest
    → reads s best (92 ∷ d ∷ rest) ≡ reads (In (Short Double) (out ++ c ∷ [])) best rest
escape_step s out d c rest best w e = ap (onward best _) (w 92 refl) ∙ e

char_step : (s : StringAt) (out : List ℕ) (c : ℕ) (rest : List ℕ) (best : Option (List ℕ × List ℕ)) → IsWithin s out → reads s best (escaped_char c ++ rest) ≡ reads (In (Short Double) (out ++ c ∷ [])) best rest
char_step s out c rest best w =
    escaped_or 34 (escape_step s out 34 34 rest best w refl) (λ a.
    escaped_or 92 (escape_step s out 92 92 rest best w refl) (λ b.
    escaped_or 10 (escape_step s out 110 10 rest best w refl) (λ d.
    escaped_or 13 (escape_step s out 114 13 rest best w refl) (λ e.
    (λ i. reads s best (cond (a i) (codes "\\\"") (cond (b i) (codes "\\\\") (cond (d i) (codes "\\n") (cond (e i) (codes "\\r") (c ∷ [])))) ++ rest)) ∙ raw_step s out c rest best w a b d e))))
  where
    P : ℕ → Type 0
    P c = reads s best (escaped_char c ++ rest) ≡ reads (In (Short Double) (out ++ c ∷ [])) best rest

    escaped_or : (d : ℕ) → P d → ((c == d) ≡ false → P c) → P c
    escaped_or d here other = ⊎_elim (λ (e : (c == d) ≡ true). subst P (sym (eqb_same c d e)) here) (λ (e : (c == d) ≡ false). other e) (bool_cases (c == d))

-- up to the closing quote
rest_read : (out text rest : List ℕ) (best : Option (List ℕ × List ℕ)) → reads (In (Short Double) out) best (escaped text ++ 34 ∷ rest) ≡ Some (out ++ text, rest)
rest_read out [] rest best = closed rest ∙ ap (λ t. Some (t, rest)) (sym (append-nil out))
  where
    closed : (rest : List ℕ) → reads (In (Short Double) out) best (34 ∷ rest) ≡ Some (out, rest)
    closed [] = refl
    closed (c ∷ cs) = refl
rest_read out (c ∷ cs) rest best =
    ap (reads (In (Short Double) out) best) (append_assoc (escaped_char c) (escaped cs) (34 ∷ rest))
    ∙ char_step (In (Short Double) out) out c (escaped cs ++ 34 ∷ rest) best (λ d e. ap (λ b. cond b (Some (Done out)) (inside Query (Short Double) out d)) e)
    ∙ rest_read (out ++ c ∷ []) cs rest best ∙ ap (λ t. Some (t, rest)) (sym (snoc out cs c))

-- before what is no quote
abbrev pub NoQuote : List ℕ → Type 0
NoQuote = Before (λ c. not (c == 34))

string_read : (text : List ℕ) (d : ℕ) (rest : List ℕ) → (d == 34) ≡ false → reads Start None (34 ∷ (escaped text ++ 34 ∷ d ∷ rest)) ≡ Some (text, d ∷ rest)
string_read [] d rest e = ap (λ b. onward (Some ([], d ∷ rest)) (λ n. reads n (better (final n) rest (Some ([], d ∷ rest))) rest) (cond b (Some (In (Long Double) [])) None)) e
string_read (c ∷ cs) d rest e =
    ap (reads (Opened Double) None) (append_assoc (escaped_char c) (escaped cs) (34 ∷ d ∷ rest))
    ∙ char_step (Opened Double) [] c (escaped cs ++ 34 ∷ d ∷ rest) None (λ d e. ap (λ b. cond b (Some (Empty Double)) (inside Query (Short Double) [] d)) e)
    ∙ rest_read (c ∷ []) cs (d ∷ rest) None

found_string : (text : List ℕ) (d : ℕ) (rest : List ℕ) → (d == 34) ≡ false → found (34 ∷ (escaped text ++ 34 ∷ d ∷ rest)) ≡ Some (Quoted text, d ∷ rest)
found_string text d rest e =
    let at = 34 ∷ (escaped text ++ 34 ∷ d ∷ rest) in
    ap (λ o. or_else (option_map (λ r. (Quoted r.0, r.1)) o) (or_else (iri_front at) (or_else (tag_front at) (or_else (variable_front at) (or_else (number_front at) (or_else (plain_front at) (sign_front at))))))) (string_read text d rest e)

pub string : (text : List ℕ) → Spells NoQuote (codes "\"" ++ escaped text ++ codes "\"") (Quoted text ∷ [])
string text = spells_before (λ total d rest e.
    ap (λ t. tokens_in total (34 ∷ t)) (append_assoc (escaped text) (34 ∷ []) (d ∷ rest))
    ∙ found_next total (34 ∷ (escaped text ++ 34 ∷ d ∷ rest)) (d ∷ rest) (Quoted text) refl (found_string text d rest (not_true (d == 34) e)))
