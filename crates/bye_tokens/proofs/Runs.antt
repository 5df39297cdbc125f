-- Characters of a class at the front of a text, and texts cut at a character.
use Rattle.std.proofs.Common.{◌≡◌, refl, ℕ, Bool, true, false, cond, ◌==◌, List, [], ◌∷◌, ◌++◌, Option, Some, None, sym, ◌∙◌, ap}
use Rattle.std.specs.List.{list_all}
use Rattle.std.specs.Option.{option_map}
use Rattle.bye_terms.specs.Reading.{until_at}
use Rattle.bye_terms.proofs.Tests.{both_parts, both}
use Rattle.bye_lex.proofs.Branches.{heads, some_same, none_some, mapped, when, unless}
use Rattle.bye_tokens.specs.Reading.{after_all, cut_at}

-- the characters at the front that pass, and the rest
pub record Run (p : ℕ → Bool) (text : List ℕ) : Type 0 where
  pub front : List ℕ
  pub parts : text ≡ front ++ after_all p text
  pub all : list_all p front ≡ true

pub run_parts : (p : ℕ → Bool) (text : List ℕ) → Run p text
run_parts p [] = record { front = []; parts = refl; all = refl }
run_parts p (c ∷ cs) =
    elim (p c) as (λ b. p c ≡ b → Run p (c ∷ cs)) [
      | true ↦ λ e. let k = run_parts p cs in record {
        front = c ∷ k.front;
        parts = ap (λ t. c ∷ t) k.parts ∙ ap (λ t. c ∷ (k.front ++ t)) (sym (when _ _ _ e));
        all = both _ _ e k.all;
      }
      | false ↦ λ e. record { front = []; parts = sym (unless _ _ _ _ e refl); all = refl }
    ] refl

-- what follows does not pass
pub run_stops : (p : ℕ → Bool) (text : List ℕ) (d : ℕ) (rest : List ℕ) → after_all p text ≡ d ∷ rest → p d ≡ false
run_stops p [] d rest e = cc
run_stops p (c ∷ cs) d rest e =
    elim (p c) as (λ b. p c ≡ b → p d ≡ false) [
      | true ↦ λ is. run_stops p cs d rest (sym (when _ _ _ is) ∙ e)
      | false ↦ λ is. let same = heads c d cs rest (sym (unless _ _ _ _ is refl) ∙ e) in ap p (sym same.0) ∙ is
    ] refl

pub run_again : (p : ℕ → Bool) (front : List ℕ) (d : ℕ) (rest : List ℕ) → list_all p front ≡ true → p d ≡ false → after_all p (front ++ d ∷ rest) ≡ d ∷ rest
run_again p [] d rest all stops = unless _ _ _ _ stops refl
run_again p (c ∷ front) d rest all stops = let k = both_parts _ _ all in when _ _ _ k.0 ∙ run_again p front d rest k.1 stops

pub all_front : (p : ℕ → Bool) (a b : List ℕ) → list_all p (a ++ b) ≡ true → (list_all p a ≡ true) × (list_all p b ≡ true)
all_front p [] b e = (refl, e)
all_front p (c ∷ a) b e = let k = both_parts _ _ e in let m = all_front p a b k.1 in (both _ _ k.0 m.0, m.1)

-- a text without the character is not cut
pub cut_here : (p : ℕ → Bool) (c : ℕ) (cs : List ℕ) → p c ≡ true → cut_at p (c ∷ cs) ≡ ([], cs)
cut_here p c cs e = when _ _ _ e

pub cut_on : (p : ℕ → Bool) (c : ℕ) (cs : List ℕ) → p c ≡ false → cut_at p (c ∷ cs) ≡ (c ∷ (cut_at p cs).0, (cut_at p cs).1)
cut_on p c cs e = unless _ _ _ _ e refl

-- what is cut at a character is what stands before and after it
pub until_cut : (c : ℕ) (text : List ℕ) (r : List ℕ × List ℕ) → until_at c text ≡ Some r → cut_at (λ d. d == c) text ≡ r
until_cut c [] r e = none_some e
until_cut c (d ∷ text) r e =
    elim (d == c) as (λ b. (d == c) ≡ b → cond b (Some ([], text)) (option_map {U = List ℕ × List ℕ} (λ r. (d ∷ r.0, r.1)) (until_at c text)) ≡ Some r → cut_at (λ d. d == c) (d ∷ text) ≡ r) [
      | true ↦ λ is e. cut_here (λ d. d == c) d text is ∙ some_same e
      | false ↦ λ is e. let k = mapped (λ (r : List ℕ × List ℕ). (d ∷ r.0, r.1)) (until_at c text) r e in
          cut_on (λ d. d == c) d text is ∙ ap (λ (r : List ℕ × List ℕ). (d ∷ r.0, r.1)) (until_cut c text k.0 k.1) ∙ k.2
    ] refl e

pub until_uncut : (c : ℕ) (text : List ℕ) → until_at c text ≡ None → cut_at (λ d. d == c) text ≡ (text, [])
until_uncut c [] e = refl
until_uncut c (d ∷ text) e =
    elim (d == c) as (λ b. (d == c) ≡ b → cond b (Some ([], text)) (option_map {U = List ℕ × List ℕ} (λ r. (d ∷ r.0, r.1)) (until_at c text)) ≡ None → cut_at (λ d. d == c) (d ∷ text) ≡ (d ∷ text, [])) [
      | true ↦ λ is e. none_some (sym e)
      | false ↦ λ is e. cut_on (λ d. d == c) d text is ∙ ap (λ (r : List ℕ × List ℕ). (d ∷ r.0, r.1)) (until_uncut c text (unmapped (until_at c text) e))
    ] refl e
  where
    unmapped : (o : Option (List ℕ × List ℕ)) → option_map {U = List ℕ × List ℕ} (λ r. (d ∷ r.0, r.1)) o ≡ None → o ≡ None
    unmapped None e = refl
    unmapped (Some r) e = none_some (sym e)
