-- Local parts between their backslashes.
use Rattle.std.proofs.Common.{◌≡◌, refl, ℕ, ◌<◌, true, false, cond, ◌==◌, List, [], ◌∷◌, ◌++◌, length, Option, Some, None, sym, ◌∙◌, ap, arith}
use Rattle.std.specs.Option.{option_map}
use Rattle.bye_terms.specs.Reading.{until_at}
use Rattle.bye_lex.proofs.Branches.{none_some, some_same, mapped, when, unless}
use Rattle.bye_tokens.specs.Names.{unescaped}

-- up to a backslash, and after it
pub unescaped_at : (text : List ℕ) (r : List ℕ × List ℕ) → until_at 92 text ≡ Some r → unescaped text ≡ r.0 ++ unescaped r.1
unescaped_at [] r e = none_some e
unescaped_at (c ∷ text) r e =
    elim (c == 92) as (λ b. (c == 92) ≡ b → cond b (Some ([], text)) (option_map {U = List ℕ × List ℕ} (λ r. (c ∷ r.0, r.1)) (until_at 92 text)) ≡ Some r → unescaped (c ∷ text) ≡ r.0 ++ unescaped r.1) [
      | true ↦ λ is e. when _ _ _ is ∙ ap (λ (r : List ℕ × List ℕ). r.0 ++ unescaped r.1) (some_same e)
      | false ↦ λ is e. let k = mapped (λ (r : List ℕ × List ℕ). (c ∷ r.0, r.1)) (until_at 92 text) r e in
          unless _ _ _ _ is (ap (λ t. c ∷ t) (unescaped_at text k.0 k.1) ∙ ap (λ (r : List ℕ × List ℕ). r.0 ++ unescaped r.1) k.2)
    ] refl e

pub unescaped_end : (text : List ℕ) → until_at 92 text ≡ None → unescaped text ≡ text
unescaped_end [] e = refl
unescaped_end (c ∷ text) e =
    elim (c == 92) as (λ b. (c == 92) ≡ b → cond b (Some ([], text)) (option_map {U = List ℕ × List ℕ} (λ r. (c ∷ r.0, r.1)) (until_at 92 text)) ≡ None → unescaped (c ∷ text) ≡ c ∷ text) [
      | true ↦ λ is e. none_some (sym e)
      | false ↦ λ is e. unless _ _ _ _ is (ap (λ t. c ∷ t) (unescaped_end text (unmapped (until_at 92 text) e)))
    ] refl e
  where
    unmapped : (o : Option (List ℕ × List ℕ)) → option_map {U = List ℕ × List ℕ} (λ r. (c ∷ r.0, r.1)) o ≡ None → o ≡ None
    unmapped None e = refl
    unmapped (Some r) e = none_some (sym e)

-- what is left is shorter
pub until_shorter : (text : List ℕ) (r : List ℕ × List ℕ) → until_at 92 text ≡ Some r → length r.1 < length text
until_shorter [] r e = none_some e
until_shorter (c ∷ text) r e =
    elim (c == 92) as (λ b. (c == 92) ≡ b → cond b (Some ([], text)) (option_map {U = List ℕ × List ℕ} (λ r. (c ∷ r.0, r.1)) (until_at 92 text)) ≡ Some r → length r.1 < length (c ∷ text)) [
      | true ↦ λ is e. let k = ap (λ (r : List ℕ × List ℕ). length r.1) (some_same e) in omega (arith, k)
      | false ↦ λ is e. let k = mapped (λ (r : List ℕ × List ℕ). (c ∷ r.0, r.1)) (until_at 92 text) r e in
          let l = until_shorter text k.0 k.1 in
          let m = ap (λ (r : List ℕ × List ℕ). length r.1) k.2 in
          omega (arith, l, m)
    ] refl e
