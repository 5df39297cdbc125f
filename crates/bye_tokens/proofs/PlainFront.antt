-- Words and prefixed names at the front of a text.
use Rattle.std.proofs.Common.{◌≡◌, refl, ℕ, Bool, true, false, cond, not, ◌&&◌, ◌||◌, ◌==◌, List, [], ◌∷◌, ◌++◌, inl, inr, ⊎_elim, sym, ◌∙◌, ap, subst}
use Rattle.std.specs.List.{list_all}
use Rattle.bye_terms.specs.Characters.{is_letter, is_low_base, is_high_base, is_name_base}
use Rattle.bye_terms.proofs.Tests.{both_parts, both}
use Rattle.bye_lex.proofs.Accepting.{Left}
use Rattle.bye_lex.proofs.Branches.{eqb_same, never, when, unless, or_first}
use Rattle.bye_tokens.specs.Classes.{is_prefix_part, is_word_part}
use Rattle.bye_tokens.specs.Fronts.{prefixed_of, plain_token, plain_front}
use Rattle.bye_tokens.specs.Kinds.{seen, PlainToken}
use Rattle.bye_tokens.specs.Names.{is_prefix, is_prefix_rest, is_local, unescaped, PrefixedToken}
use Rattle.bye_tokens.specs.NameSteps.{step, form}
use Rattle.bye_tokens.specs.Reading.{cut_at}
use Rattle.bye_tokens.specs.Words.{word_of, WordToken}
use Rattle.bye_tokens.specs.declared.name.Plain.{Plain}
use Rattle.bye_tokens.specs.declared.name.Plain.TheVariants.{Word, Prefixed as Name}
use Rattle.bye_tokens.specs.declared.name.PlainAt.TheVariants.{Start}
use Rattle.bye_tokens.specs.declared.token.Token.{Token}
use Rattle.bye_tokens.specs.declared.token.Token.TheVariants.{Prefixed, Keyword}
use Rattle.bye_tokens.proofs.Longest.{Told, told, told_valued, Starts, OneValue, one_machine, one_valued}
use Rattle.bye_tokens.proofs.PlainExact.{accepts, is_named, named_rest, can, plain_exact}
use Rattle.bye_tokens.proofs.Runs.{cut_here, cut_on}

abbrev colon : ℕ → Bool
colon c = c == 58

-- a text that is cut at its first colon into a prefix and a local part
abbrev Parts : Bool → List ℕ → List ℕ × List ℕ → Type 0
Parts due text k = (text ≡ k.0 ++ 58 ∷ k.1) × (is_prefix_rest due k.0 ≡ true) × (is_local k.1 ≡ true)

rest_parts : (due : Bool) (text : List ℕ) → named_rest due text ≡ true → Parts due text (cut_at colon text)
rest_parts due [] e = cc
rest_parts due (c ∷ cs) e =
    elim (is_prefix_part c) as (λ b. is_prefix_part c ≡ b → cond b (named_rest false cs) (cond (c == 46) (named_rest true cs) (c == 58 && (not due && is_local cs))) ≡ true → Parts due (c ∷ cs) (cut_at colon (c ∷ cs))) [
      | true ↦ λ is e. let k = rest_parts false cs e in
          subst (Parts due (c ∷ cs)) (sym (cut_on colon c cs (never is_prefix_part 58 c refl is)))
          (ap (λ t. c ∷ t) k.0, when _ _ _ is ∙ k.1, k.2)
      | false ↦ λ is e.
          elim (c == 46) as (λ b. (c == 46) ≡ b → cond b (named_rest true cs) (c == 58 && (not due && is_local cs)) ≡ true → Parts due (c ∷ cs) (cut_at colon (c ∷ cs))) [
            | true ↦ λ dot e. let k = rest_parts true cs e in
                subst (Parts due (c ∷ cs)) (sym (cut_on colon c cs (never (λ c. c == 46) 58 c refl dot)))
                (ap (λ t. c ∷ t) k.0, unless _ _ _ _ is (both _ _ dot k.1), k.2)
            | false ↦ λ dot e. let k = both_parts _ _ e in let m = both_parts _ _ k.1 in
                subst (Parts due (c ∷ cs)) (sym (cut_here colon c cs k.0))
                (ap (λ c. c ∷ cs) (eqb_same c 58 k.0), m.0, m.1)
          ] refl e
    ] refl e

abbrev Whole : List ℕ → List ℕ × List ℕ → Type 0
Whole text k = (text ≡ k.0 ++ 58 ∷ k.1) × (is_prefix k.0 ≡ true) × (is_local k.1 ≡ true)

named_parts : (text : List ℕ) → is_named text ≡ true → Whole text (cut_at colon text)
named_parts [] e = cc
named_parts (c ∷ cs) e =
    elim (is_name_base c) as (λ b. is_name_base c ≡ b → cond b (named_rest false cs) (c == 58 && is_local cs) ≡ true → Whole (c ∷ cs) (cut_at colon (c ∷ cs))) [
      | true ↦ λ is e. let k = rest_parts false cs e in
          subst (Whole (c ∷ cs)) (sym (cut_on colon c cs (never is_name_base 58 c refl is)))
          (ap (λ t. c ∷ t) k.0, both _ _ is k.1, k.2)
      | false ↦ λ is e. let k = both_parts _ _ e in
          subst (Whole (c ∷ cs)) (sym (cut_here colon c cs k.0))
          (ap (λ c. c ∷ cs) (eqb_same c 58 k.0), refl, k.1)
    ] refl e

-- and the other way round
rest_named : (due : Bool) (p l : List ℕ) → is_prefix_rest due p ≡ true → is_local l ≡ true → (named_rest due (p ++ 58 ∷ l) ≡ true) × (cut_at colon (p ++ 58 ∷ l) ≡ (p, l))
rest_named due [] l e h = (both _ _ e h, refl)
rest_named due (c ∷ p) l e h =
    elim (is_prefix_part c) as (λ b. is_prefix_part c ≡ b → cond b (is_prefix_rest false p) (c == 46 && is_prefix_rest true p) ≡ true → (named_rest due (c ∷ (p ++ 58 ∷ l)) ≡ true) × (cut_at colon (c ∷ (p ++ 58 ∷ l)) ≡ (c ∷ p, l))) [
      | true ↦ λ is e. let k = rest_named false p l e h in
          (when _ _ _ is ∙ k.0, cut_on colon c (p ++ 58 ∷ l) (never is_prefix_part 58 c refl is) ∙ ap (λ (r : List ℕ × List ℕ). (c ∷ r.0, r.1)) k.1)
      | false ↦ λ is e. let d = both_parts _ _ e in let k = rest_named true p l d.1 h in
          (unless _ _ _ _ is (when _ _ _ d.0 ∙ k.0), cut_on colon c (p ++ 58 ∷ l) (never (λ c. c == 46) 58 c refl d.0) ∙ ap (λ (r : List ℕ × List ℕ). (c ∷ r.0, r.1)) k.1)
    ] refl e

parts_named : (p l : List ℕ) → is_prefix p ≡ true → is_local l ≡ true → (is_named (p ++ 58 ∷ l) ≡ true) × (cut_at colon (p ++ 58 ∷ l) ≡ (p, l))
parts_named [] l e h = (h, refl)
parts_named (c ∷ p) l e h =
    let b = both_parts _ _ e in
    let k = rest_named false p l b.1 h in
    (when _ _ _ b.0 ∙ k.0, cut_on colon c (p ++ 58 ∷ l) (never is_name_base 58 c refl b.0) ∙ ap (λ (r : List ℕ × List ℕ). (c ∷ r.0, r.1)) k.1)

-- what the machine tells of a text, and what the text stands for
to : (text : List ℕ) (f : Plain) → Left accepts Start text f → PlainToken text (plain_token f text)
to text Name h =
    let k = named_parts text h in
    inl (((cut_at colon text).0, unescaped (cut_at colon text).1), record { local = (cut_at colon text).1; spelled = k.0; prefix = k.1; is = k.2; stands = refl }, refl)
to text Word h = inr (word_of text, record { is = h; stands = refl }, refl)

abbrev From : List ℕ → Token → Type 0
From text v = (f : Plain) × Left accepts Start text f × (v ≡ plain_token f text)

of_name : (text : List ℕ) (v : Token) → seen (λ (v : List ℕ × List ℕ). Prefixed v.0 v.1) PrefixedToken text v → From text v
of_name text v h =
    let t = h.1 in
    let k = parts_named h.0.0 t.local t.prefix t.is in
    let cut : cut_at colon text ≡ (h.0.0, t.local) = ap (cut_at colon) t.spelled ∙ k.1 in
    let value : prefixed_of text ≡ v = ap (λ (r : List ℕ × List ℕ). Prefixed r.0 (unescaped r.1)) cut ∙ ap (λ l. Prefixed h.0.0 l) (sym t.stands) ∙ sym h.2 in
    (Name, ap is_named t.spelled ∙ k.0, sym value)

of_word : (text : List ℕ) (v : Token) → seen Keyword WordToken text v → From text v
of_word text v h = let t = h.1 in (Word, t.is, h.2 ∙ ap Keyword t.stands)

from : (text : List ℕ) (v : Token) → PlainToken text v → From text v
from text v h = ⊎_elim (of_name text v) (of_word text v) h

pub plain_told : (text : List ℕ) → Told PlainToken text (plain_front text)
plain_told text = told_valued (Left accepts Start) PlainToken plain_token to from text _ (told (Left accepts) step form plain_exact Start text (can Start) refl)

pub one_plain : OneValue PlainToken
one_plain = one_valued (Left accepts Start) PlainToken plain_token from (one_machine (Left accepts) step form plain_exact Start)

-- what they begin with
abbrev pub begins_plain : ℕ → Bool
begins_plain c = is_name_base c || c == 58

first_named : (c : ℕ) (t : List ℕ) (f : Plain) → accepts Start f (c ∷ t) ≡ true → begins_plain c ≡ true
first_named c t Word h =
    or_first (is_name_base c) (c == 58)
    (or_first (is_letter c || is_low_base c) (is_high_base c) (or_first (is_letter c) (is_low_base c) (both_parts (is_letter c) (list_all is_word_part t) h).0))
first_named c t Name h = go (is_name_base c) (c == 58) h
  where
    go : (b k : Bool) → cond b (named_rest false t) (k && is_local t) ≡ true → (b || k) ≡ true
    go true k h = refl
    go false k h = (both_parts _ _ h).0

not_empty : (f : Plain) → accepts Start f [] ≡ true → ⊥
not_empty Word h = cc
not_empty Name h = cc

pub plain_starts : Starts PlainToken begins_plain
plain_starts = record {
  some = λ v h. let k = from [] v h in not_empty k.0 k.1;
  first = λ c t v h. let k = from (c ∷ t) v h in first_named c t k.0 k.1;
}
