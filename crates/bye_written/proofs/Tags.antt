-- Language tags as they are written.
use Rattle.std.proofs.Common.{◌≡◌, refl, ℕ, ◌<◌, Bool, true, false, not, ◌==◌, ◌&&◌, ◌||◌, List, [], ◌∷◌, ◌++◌, length, inl, inr, ⊎_elim, codes, sym, ◌∙◌, ap, arith, length-append, append-nil}
use Rattle.std.specs.List.{list_all}
use Rattle.bye_terms.specs.Characters.{is_letter, is_digit, is_letter_or_digit}
use Rattle.bye_terms.specs.Names.{is_tag, is_tag_rest, is_subtags}
use Rattle.bye_terms.proofs.Tests.{both_parts, both, not_both}
use Rattle.bye_lex.specs.Marks.{TagToken}
use Rattle.bye_lex.specs.ReadingBack.{NotLonger}
use Rattle.bye_lex.proofs.Branches.{heads, either, or_first, or_second}
use Rattle.bye_tokens.specs.Kinds.{Lexeme}
use Rattle.bye_tokens.specs.Splitting.{First}
use Rattle.bye_tokens.specs.declared.token.Token.{Token}
use Rattle.bye_tokens.specs.declared.token.Token.TheVariants.{Tagged}
use Rattle.bye_tokens.proofs.Apart.{AString, AnIri, ATag, AfterTag, tag_first}
use Rattle.bye_tokens.proofs.IriFront.{iri_starts}
use Rattle.bye_tokens.proofs.Literals.{fails}
use Rattle.bye_tokens.proofs.OtherFronts.{string_starts}
use Rattle.bye_tokens.proofs.Runs.{all_front}
use Rattle.bye_written.proofs.Joined.{first_next, Spells, Ends, ends, spells_before}

-- a tag has letters, digits and hyphens
abbrev is_tag_part : ℕ → Bool
is_tag_part c = is_letter_or_digit c || c == 45

part : (c : ℕ) (cs : List ℕ) → is_tag_part c ≡ true → list_all is_tag_part cs ≡ true → list_all is_tag_part (c ∷ cs) ≡ true
part c cs e h = both (is_tag_part c) (list_all is_tag_part cs) e h

subtag_parts : (due : Bool) (text : List ℕ) → is_subtags due text ≡ true → list_all is_tag_part text ≡ true
subtag_parts due [] e = refl
subtag_parts due (c ∷ cs) e =
    ⊎_elim
    (λ (k : (is_letter_or_digit c ≡ true) × (is_subtags false cs ≡ true)). part c cs (or_first (is_letter_or_digit c) (c == 45) k.0) (subtag_parts false cs k.1))
    (λ (k : ((c == 45 && not due) ≡ true) × (is_subtags true cs ≡ true)). part c cs (or_second (is_letter_or_digit c) (c == 45) (both_parts (c == 45) (not due) k.0).0) (subtag_parts true cs k.1))
    (either (is_letter_or_digit c) (is_subtags false cs) (c == 45 && not due) (is_subtags true cs) e)

letter_part : (c : ℕ) → is_letter c ≡ true → is_tag_part c ≡ true
letter_part c e = ap (λ b. (b || is_digit c) || c == 45) e

later_parts : (text : List ℕ) → is_tag_rest text ≡ true → list_all is_tag_part text ≡ true
later_parts [] e = refl
later_parts (c ∷ cs) e =
    ⊎_elim
    (λ (k : (is_letter c ≡ true) × (is_tag_rest cs ≡ true)). part c cs (letter_part c k.0) (later_parts cs k.1))
    (λ (k : ((c == 45) ≡ true) × (is_subtags true cs ≡ true)). part c cs (or_second (is_letter_or_digit c) (c == 45) k.0) (subtag_parts true cs k.1))
    (either (is_letter c) (is_tag_rest cs) (c == 45) (is_subtags true cs) e)

tag_parts : (text : List ℕ) → is_tag text ≡ true → list_all is_tag_part text ≡ true
tag_parts [] e = refl
tag_parts (c ∷ cs) e = let w = both_parts (is_letter c) (is_tag_rest cs) e in part c cs (letter_part c w.0) (later_parts cs w.1)

-- so it does not go on after its end
no_longer : (tag : List ℕ) (d : ℕ) (rest : List ℕ) → is_tag_part d ≡ false → NotLonger TagToken (64 ∷ tag) (d ∷ rest)
no_longer tag d rest e [] after other parts some k = omega (arith, some)
no_longer tag d rest e (x ∷ more) after other parts some k =
    let all = tag_parts (tag ++ x ∷ more) (ap is_tag (heads 64 64 (tag ++ x ∷ more) other k.0).1 ∙ k.1) in
    not_both (is_tag_part x) (both_parts (is_tag_part x) (list_all is_tag_part more) (all_front is_tag_part tag (x ∷ more) all).1).0 (ap is_tag_part (sym (heads d x rest (more ++ after) parts).0) ∙ e)

-- and no other token begins as it does
only_tag : (tag more : List ℕ) (other : Token) → is_tag tag ≡ true → 0 < length more → Lexeme (64 ∷ (tag ++ more)) other → ATag (64 ∷ (tag ++ more)) other
only_tag tag more other valid some k =
    ⊎_elim
    (λ (s : AString (64 ∷ (tag ++ more)) other). absurd (no (string_starts.first 64 (tag ++ more) other s)))
    (⊎_elim
    (λ (s : AnIri (64 ∷ (tag ++ more)) other). absurd (no (iri_starts.first 64 (tag ++ more) other s)))
    (⊎_elim
    (λ (s : ATag (64 ∷ (tag ++ more)) other). s)
    (λ (s : AfterTag (64 ∷ (tag ++ more)) other).
    let less = tag_first (64 ∷ (tag ++ more)) (64 ∷ tag) more (64 ∷ (tag ++ more)) [] (Tagged tag) other refl (tag, (refl, valid), refl) (sym (append-nil (64 ∷ (tag ++ more)))) s in
    absurd (omega (arith, less, length-append tag more)))))
    k
  where
    no : false ≡ true → ⊥
    no e = cc

tag_stands : (tag : List ℕ) (d : ℕ) (rest : List ℕ) → is_tag tag ≡ true → ends d ≡ true → First (64 ∷ (tag ++ d ∷ rest)) (64 ∷ tag) (d ∷ rest) (Tagged tag)
tag_stands tag d rest valid e = record {
  parts = refl;
  is = inl (record {
    is = inr (inr (inl (tag, (refl, valid), refl)));
    longest = λ more after other parts some k.
        let t = only_tag tag more other valid some k in
        no_longer tag d rest (fails is_tag_part (codes " \n(),") refl d e) more after t.0 parts some t.1;
  });
}

pub language_tag : (tag : List ℕ) → is_tag tag ≡ true → Spells Ends (codes "@" ++ tag) (Tagged tag ∷ [])
language_tag tag valid = spells_before (λ total d rest e. first_next total (64 ∷ (tag ++ d ∷ rest)) (64 ∷ tag) (d ∷ rest) (Tagged tag) refl (tag_stands tag d rest valid e))
