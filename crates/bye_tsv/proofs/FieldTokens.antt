-- Tokens that are all of a field, or all of the rest of it: the states of their machines within those of fields.
use Rattle.std.proofs.Common.{◌≡◌, ℕ, List, [], ◌∷◌, Option, Some, option_map, sym, ◌∙◌, ap, subst}
use Rattle.bye_terms.specs.declared.term.Term.{Term}
use Rattle.bye_lex.specs.Languages.{Viable}
use Rattle.bye_lex.proofs.Branches.{mapped}
use Rattle.bye_lex.proofs.Embedding.{Onward}
use Rattle.bye_lex.proofs.Scans.{Exact}
use Rattle.bye_tsv.specs.declared.field.FieldAt.{FieldAt}

-- the text completes the token, and the cell has what it stands for
abbrev pub Stands : {S V : Type 0} → (S → List ℕ → V → Type 0) → (V → Option Term) → S → List ℕ → Option Term → Type 0
Stands {S} {V} Left cell_of s text cell = (v : V) × Left s text v × (cell ≡ cell_of v)

module _ {S V : Type 0} (Left : S → List ℕ → V → Type 0) (step : S → ℕ → Option S) (final : S → Option V) (x : Exact Left step final) (cell_of : V → Option Term) where
  pub token_ends : (s : S) (cell : Option Term) → Stands Left cell_of s [] cell → option_map cell_of (final s) ≡ Some cell
  token_ends s cell h = ap (option_map cell_of) (x.ends s h.0 h.1) ∙ ap Some (sym h.2)

  pub token_may_end : (s : S) (cell : Option Term) → option_map cell_of (final s) ≡ Some cell → Stands Left cell_of s [] cell
  token_may_end s cell e = let k = mapped cell_of (final s) cell e in (k.0, x.may_end s k.0 k.1, sym k.2)

  pub token_can : (s : S) → Viable (Left s) [] → Viable (Stands Left cell_of s) []
  token_can s w = record { more = w.more; scalars = w.scalars; value = cell_of w.value; whole = (w.value, w.whole, λ i. cell_of w.value) }

  module _ (P : FieldAt → List ℕ → Option Term → Type 0) (within : S → FieldAt) where
    pub token_forth : (s : S) (c : ℕ) (t : List ℕ) (cell : Option Term) → ((n : S) → Stands Left cell_of n t cell → P (within n) t cell) → Stands Left cell_of s (c ∷ t) cell → Onward P (option_map within (step s c)) t cell
    token_forth s c t cell into h = let n = x.forth s c t h.0 h.1 in (within n.0, ap (option_map within) n.1, into n.0 (h.0, n.2, h.2))

    pub token_back : (s : S) (n : FieldAt) (c : ℕ) (t : List ℕ) (cell : Option Term) → ((n : S) → P (within n) t cell → Stands Left cell_of n t cell) → Viable (Left s) [] → option_map within (step s c) ≡ Some n → P n t cell → Stands Left cell_of s (c ∷ t) cell
    token_back s n c t cell from a e h =
        let k = mapped within (step s c) n e in
        let w = from k.0 (subst (λ n. P n t cell) (sym k.2) h) in
        (w.0, x.back s k.0 c t w.0 a k.1 w.1, w.2)

  pub token_leads : (Q : FieldAt → Type 0) (within : S → FieldAt) (s : S) (n : FieldAt) (c : ℕ) → ((m : S) → Viable (Left m) [] → Q (within m)) → Viable (Left s) [] → option_map within (step s c) ≡ Some n → Q n
  token_leads Q within s n c good a e = let k = mapped within (step s c) n e in subst Q k.2 (good k.0 (x.alive s k.0 c a k.1))
