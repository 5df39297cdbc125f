-- Tests of characters one by one.
use Rattle.std.proofs.Common.{◌≡◌, ℕ, Bool, true, false, not, ◌||◌, ◌==◌, List, [], ◌∷◌, ⊎_elim, ◌∙◌, ap}
use Rattle.std.specs.List.{list_all}
use Rattle.bye_terms.proofs.Tests.{both_parts, bool_cases, not_both, not_true, one_part}
use Rattle.bye_lex.proofs.Branches.{eqb_same}

-- one of these characters
abbrev pub one_of : List ℕ → ℕ → Bool
one_of [] c = false
one_of (d ∷ ds) c = c == d || one_of ds c

-- what none of them passes fails
pub fails : (q : ℕ → Bool) (ds : List ℕ) → list_all (λ d. not (q d)) ds ≡ true → (c : ℕ) → one_of ds c ≡ true → q c ≡ false
fails q [] e c h = cc
fails q (d ∷ ds) e c h =
    let k = both_parts _ _ e in
    ⊎_elim (λ (i : (c == d) ≡ true). ap q (eqb_same c d i) ∙ not_true (q d) k.0) (λ (i : one_of ds c ≡ true). fails q ds k.1 c i) (one_part (c == d) (one_of ds c) h)

-- and what passes is none of them
pub none_of_them : (q : ℕ → Bool) (ds : List ℕ) → list_all (λ d. not (q d)) ds ≡ true → (c : ℕ) → q c ≡ true → one_of ds c ≡ false
none_of_them q ds e c h = ⊎_elim (λ (i : one_of ds c ≡ true). absurd (not_both (q c) h (fails q ds e c i))) (λ (i : one_of ds c ≡ false). i) (bool_cases (one_of ds c))
