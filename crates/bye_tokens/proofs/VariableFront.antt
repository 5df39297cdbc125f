-- Variables at the front of a text.
use Rattle.std.proofs.Common.{◌≡◌, refl, ℕ, Bool, true, false, ◌==◌, ◌||◌, ◌<◌, List, [], ◌∷◌, ◌++◌, length, Some, ⊎_elim, sym, ◌∙◌, ap, subst, arith, codes}
use Rattle.std.specs.List.{list_all}
use Rattle.bye_terms.specs.Characters.{is_name_start, is_name_part}
use Rattle.bye_terms.specs.Names.{is_name}
use Rattle.bye_terms.proofs.Tests.{both_parts, both, bool_cases, not_both}
use Rattle.bye_lex.specs.Languages.{NoFront}
use Rattle.bye_lex.proofs.Branches.{heads, when, unless}
use Rattle.bye_tokens.specs.Classes.{is_mark}
use Rattle.bye_tokens.specs.Fronts.{variable_front, name_front}
use Rattle.bye_tokens.specs.Kinds.{seen, VariableToken}
use Rattle.bye_tokens.specs.Reading.{after_all, before}
use Rattle.bye_tokens.specs.declared.token.Token.TheVariants.{Variable}
use Rattle.bye_tokens.proofs.Cuts.{before_is}
use Rattle.bye_tokens.proofs.Literals.{one_of}
use Rattle.bye_tokens.proofs.Longest.{Told, Starts, OneValue}
use Rattle.bye_tokens.proofs.Runs.{Run, run_parts, run_stops, all_front}

-- a mark is one of two characters
mark_is : (c : ℕ) → is_mark c ≡ true → one_of (codes "?$") c ≡ true
mark_is c e = go (c == 63) (c == 36) e
  where
    go : (a b : Bool) → (a || b) ≡ true → (a || (b || false)) ≡ true
    go true b e = refl
    go false true e = refl
    go false false e = cc

no_name : (text : List ℕ) → is_name text ≡ true → (c : ℕ) (t : List ℕ) → text ≡ c ∷ t → is_name_start c ≡ true
no_name text h c t e = (both_parts _ _ (ap is_name (sym e) ∙ h)).0

-- no front of the text is a variable
no_mark : (c : ℕ) (cs : List ℕ) → is_mark c ≡ false → NoFront (seen Variable VariableToken) (c ∷ cs)
no_mark c cs none front rest v parts h =
    let t = h.1 in
    let e = parts ∙ ap (λ f. f ++ rest) t.spelled in
    not_both (is_mark c) (ap is_mark (heads c t.mark cs (h.0 ++ rest) e).0 ∙ t.is_one) none

only_mark : (m : ℕ) → NoFront (seen Variable VariableToken) (m ∷ [])
only_mark m front rest v parts h =
    let t = h.1 in
    let e = (heads m t.mark [] (h.0 ++ rest) (parts ∙ ap (λ f. f ++ rest) t.spelled)).1 in
    empty h.0 rest e t.is
  where
    empty : (name rest : List ℕ) → [] ≡ name ++ rest → is_name name ≡ true → ⊥
    empty [] rest e is = cc
    empty (c ∷ name) rest e is = cc

no_start : (m c : ℕ) (cs : List ℕ) → is_name_start c ≡ false → NoFront (seen Variable VariableToken) (m ∷ c ∷ cs)
no_start m c cs none front rest v parts h =
    let t = h.1 in
    other h.0 rest (heads m t.mark (c ∷ cs) (h.0 ++ rest) (parts ∙ ap (λ f. f ++ rest) t.spelled)).1 t.is
  where
    other : (name rest : List ℕ) → c ∷ cs ≡ name ++ rest → is_name name ≡ true → ⊥
    other [] rest e is = cc
    other (d ∷ name) rest e is = not_both (is_name_start c) (ap is_name_start (heads c d cs (name ++ rest) e).0 ∙ (both_parts _ _ is).0) none

no_more : (p : ℕ → Bool) (cs : List ℕ) (run : Run p cs) (more after : List ℕ) → after_all p cs ≡ more ++ after → 0 < length more → list_all p (run.front ++ more) ≡ true → ⊥
no_more p cs run [] after e some all = omega (arith, some)
no_more p cs run (d ∷ more) after e some all = not_both (p d) (both_parts _ _ (all_front p run.front (d ∷ more) all).1).0 (run_stops p cs d (more ++ after) e)

-- a name after its mark is the longest
named : (m c : ℕ) (cs : List ℕ) → is_mark m ≡ true → is_name_start c ≡ true
    → Told (seen Variable VariableToken) (m ∷ c ∷ cs) (Some (Variable (before (c ∷ cs) (after_all is_name_part cs)), after_all is_name_part cs))
named m c cs mark start =
    let run = run_parts is_name_part cs in
    let rest = after_all is_name_part cs in
    let name : before (c ∷ cs) rest ≡ c ∷ run.front = before_is (c ∷ cs) (c ∷ run.front) rest (ap (λ t. c ∷ t) run.parts) in (
      m ∷ c ∷ run.front,
      ap (λ t. m ∷ c ∷ t) run.parts,
      record {
        is = (c ∷ run.front, record { mark = m; is_one = mark; spelled = refl; is = both _ _ start run.all }, ap Variable name);
        longest = λ more after other parts some h.
            let t = h.1 in
            let same = heads m t.mark (c ∷ (run.front ++ more)) h.0 t.spelled in
            no_more is_name_part cs run more after parts some (both_parts _ _ (ap is_name same.1 ∙ t.is)).1;
      },
    )

after_mark : (m : ℕ) (cs : List ℕ) → is_mark m ≡ true → Told (seen Variable VariableToken) (m ∷ cs) (name_front cs)
after_mark m [] mark = only_mark m
after_mark m (c ∷ cs) mark =
    ⊎_elim
    (λ (e : is_name_start c ≡ true). subst (Told (seen Variable VariableToken) (m ∷ c ∷ cs)) (sym (when _ _ _ e)) (named m c cs mark e))
    (λ (e : is_name_start c ≡ false). subst (Told (seen Variable VariableToken) (m ∷ c ∷ cs)) (sym (unless _ _ _ _ e refl)) (no_start m c cs e))
    (bool_cases (is_name_start c))

pub variable_told : (text : List ℕ) → Told (seen Variable VariableToken) text (variable_front text)
variable_told [] = λ front rest v parts h. empty front rest parts h.1
  where
    empty : {name : List ℕ} (front rest : List ℕ) → [] ≡ front ++ rest → VariableToken front name → ⊥
    empty [] rest e t = let k = t.spelled in cc
    empty (c ∷ front) rest e t = cc
variable_told (c ∷ cs) =
    ⊎_elim
    (λ (e : is_mark c ≡ true). subst (Told (seen Variable VariableToken) (c ∷ cs)) (sym (when _ _ _ e)) (after_mark c cs e))
    (λ (e : is_mark c ≡ false). subst (Told (seen Variable VariableToken) (c ∷ cs)) (sym (unless _ _ _ _ e refl)) (no_mark c cs e))
    (bool_cases (is_mark c))

pub variable_starts : Starts (seen Variable VariableToken) (one_of (codes "?$"))
variable_starts = record {
  some = λ v h. let t = h.1 in let e = t.spelled in cc;
  first = λ c t v h. let k = h.1 in mark_is c (ap is_mark (heads c k.mark t h.0 k.spelled).0 ∙ k.is_one);
}

pub one_variable : OneValue VariableToken
one_variable text v w h k = (heads h.mark k.mark v w (sym h.spelled ∙ k.spelled)).1
