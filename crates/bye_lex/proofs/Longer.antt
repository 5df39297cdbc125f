-- Tokens with one more character are tokens.
use Rattle.std.proofs.Common.{◌≡◌, refl, ℕ, Bool, true, false, not, ◌==◌, ◌&&◌, List, [], ◌∷◌, ◌++◌, ⊎_elim, ◌∙◌, ap, append_assoc}
use Rattle.std.specs.List.{list_all}
use Rattle.bye_terms.specs.Characters.{is_letter, is_letter_or_digit, is_scheme_char, is_iri_char, is_name_part, is_label_part}
use Rattle.bye_terms.specs.Names.{is_after_letter, is_iri, is_label_rest, is_label, is_subtags, is_tag_rest, is_tag, is_name}
use Rattle.bye_terms.proofs.Tests.{both_parts}
use Rattle.bye_lex.specs.TokenParts.{are_dots, has_subtags, is_scheme, is_subtagged}
use Rattle.bye_lex.proofs.Branches.{and_true, either, or_first, or_second}

all_longer : (p : ℕ → Bool) (t : List ℕ) (c : ℕ) → list_all p t ≡ true → p c ≡ true → list_all p (t ++ c ∷ []) ≡ true
all_longer p [] c e f = and_true _ _ f refl
all_longer p (x ∷ t) c e f = let k = both_parts _ _ e in and_true _ _ k.0 (all_longer p t c k.1 f)

-- IRIs
pub scheme_longer : (s : List ℕ) (c : ℕ) → is_scheme s ≡ true → is_scheme_char c ≡ true → is_scheme (s ++ c ∷ []) ≡ true
scheme_longer [] c e f = cc
scheme_longer (x ∷ s) c e f = let k = both_parts _ _ e in and_true _ _ k.0 (all_longer is_scheme_char s c k.1 f)

after_colon : (s : List ℕ) → list_all is_scheme_char s ≡ true → is_after_letter (s ++ 58 ∷ []) ≡ true
after_colon [] e = refl
after_colon (x ∷ s) e = let k = both_parts _ _ e in or_second _ _ (and_true _ _ k.0 (after_colon s k.1))

pub scheme_iri : (s : List ℕ) → is_scheme s ≡ true → is_iri (s ++ 58 ∷ []) ≡ true
scheme_iri [] e = cc
scheme_iri (x ∷ s) e = let k = both_parts _ _ e in and_true _ _ k.0 (after_colon s k.1)

letter_longer : (t : List ℕ) (c : ℕ) → is_after_letter t ≡ true → is_iri_char c ≡ true → is_after_letter (t ++ c ∷ []) ≡ true
letter_longer [] c e f = cc
letter_longer (x ∷ t) c e f =
    ⊎_elim
    (λ (k : ((x == 58) ≡ true) × (list_all is_iri_char t ≡ true)). or_first _ _ (and_true _ _ k.0 (all_longer is_iri_char t c k.1 f)))
    (λ (k : (is_scheme_char x ≡ true) × (is_after_letter t ≡ true)). or_second _ _ (and_true _ _ k.0 (letter_longer t c k.1 f)))
    (either _ _ _ _ e)

pub iri_longer : (t : List ℕ) (c : ℕ) → is_iri t ≡ true → is_iri_char c ≡ true → is_iri (t ++ c ∷ []) ≡ true
iri_longer [] c e f = cc
iri_longer (x ∷ t) c e f = let k = both_parts _ _ e in and_true _ _ k.0 (letter_longer t c k.1 f)

-- labels
dots_then : (due : Bool) (dots : List ℕ) (c : ℕ) → are_dots dots ≡ true → is_label_part c ≡ true → is_label_rest due (dots ++ c ∷ []) ≡ true
dots_then due [] c e f = or_first _ _ (and_true _ _ f refl)
dots_then due (d ∷ dots) c e f = let k = both_parts _ _ e in or_second _ _ (and_true _ _ k.0 (dots_then true dots c k.1 f))

rest_then : (due : Bool) (t dots : List ℕ) (c : ℕ) → is_label_rest due t ≡ true → are_dots dots ≡ true → is_label_part c ≡ true → is_label_rest due (t ++ (dots ++ c ∷ [])) ≡ true
rest_then due [] dots c e d f = dots_then due dots c d f
rest_then due (x ∷ t) dots c e d f =
    ⊎_elim
    (λ (k : (is_label_part x ≡ true) × (is_label_rest false t ≡ true)). or_first _ _ (and_true _ _ k.0 (rest_then false t dots c k.1 d f)))
    (λ (k : ((x == 46) ≡ true) × (is_label_rest true t ≡ true)). or_second _ _ (and_true _ _ k.0 (rest_then true t dots c k.1 d f)))
    (either _ _ _ _ e)

label_then : (t dots : List ℕ) (c : ℕ) → is_label t ≡ true → are_dots dots ≡ true → is_label_part c ≡ true → is_label (t ++ (dots ++ c ∷ [])) ≡ true
label_then [] dots c e d f = cc
label_then (x ∷ t) dots c e d f = let k = both_parts _ _ e in and_true _ _ k.0 (rest_then false t dots c k.1 d f)

pub label_dotted : (t dots : List ℕ) (c : ℕ) → is_label t ≡ true → are_dots dots ≡ true → is_label_part c ≡ true → is_label ((t ++ dots) ++ c ∷ []) ≡ true
label_dotted t dots c e d f = ap is_label (append_assoc t dots (c ∷ [])) ∙ label_then t dots c e d f

pub label_longer : (t : List ℕ) (c : ℕ) → is_label t ≡ true → is_label_part c ≡ true → is_label (t ++ c ∷ []) ≡ true
label_longer t c e f = label_then t [] c e refl f

pub more_dots : (dots : List ℕ) → are_dots dots ≡ true → are_dots (dots ++ 46 ∷ []) ≡ true
more_dots dots e = all_longer (λ c. c == 46) dots 46 e refl

-- tags
subtags_longer : (due : Bool) (t : List ℕ) (c : ℕ) → is_subtags due t ≡ true → is_letter_or_digit c ≡ true → is_subtags due (t ++ c ∷ []) ≡ true
subtags_longer due [] c e f = or_first _ _ (and_true _ _ f refl)
subtags_longer due (x ∷ t) c e f =
    ⊎_elim
    (λ (k : (is_letter_or_digit x ≡ true) × (is_subtags false t ≡ true)). or_first _ _ (and_true _ _ k.0 (subtags_longer false t c k.1 f)))
    (λ (k : (((x == 45) && not due) ≡ true) × (is_subtags true t ≡ true)). or_second _ _ (and_true _ _ k.0 (subtags_longer true t c k.1 f)))
    (either _ _ _ _ e)

letters_longer : (t : List ℕ) (c : ℕ) → is_tag_rest t ≡ true → is_letter c ≡ true → is_tag_rest (t ++ c ∷ []) ≡ true
letters_longer [] c e f = or_first _ _ (and_true _ _ f refl)
letters_longer (x ∷ t) c e f =
    ⊎_elim
    (λ (k : (is_letter x ≡ true) × (is_tag_rest t ≡ true)). or_first _ _ (and_true _ _ k.0 (letters_longer t c k.1 f)))
    (λ (k : ((x == 45) ≡ true) × (is_subtags true t ≡ true)). or_second _ _ (and_true _ _ k.0 (subtags_longer true t c k.1 (or_first _ _ f))))
    (either _ _ _ _ e)

pub tag_longer : (t : List ℕ) (c : ℕ) → is_tag t ≡ true → is_letter c ≡ true → is_tag (t ++ c ∷ []) ≡ true
tag_longer [] c e f = cc
tag_longer (x ∷ t) c e f = let k = both_parts _ _ e in and_true _ _ k.0 (letters_longer t c k.1 f)

-- a hyphen and a character more
one_more : (c : ℕ) → is_letter_or_digit c ≡ true → is_subtags true (c ∷ []) ≡ true
one_more c f = or_first _ _ (and_true _ _ f refl)

in_subtags : (due : Bool) (t : List ℕ) (c : ℕ) → is_subtags due t ≡ true → is_letter_or_digit c ≡ true → is_subtags due ((t ++ 45 ∷ []) ++ c ∷ []) ≡ true
in_subtags false [] c e f = one_more c f
in_subtags true [] c e f = cc
in_subtags due (x ∷ t) c e f =
    ⊎_elim
    (λ (k : (is_letter_or_digit x ≡ true) × (is_subtags false t ≡ true)). or_first _ _ (and_true _ _ k.0 (in_subtags false t c k.1 f)))
    (λ (k : (((x == 45) && not due) ≡ true) × (is_subtags true t ≡ true)). or_second _ _ (and_true _ _ k.0 (in_subtags true t c k.1 f)))
    (either _ _ _ _ e)

rest_subtag : (t : List ℕ) (c : ℕ) → is_tag_rest t ≡ true → is_letter_or_digit c ≡ true → has_subtags ((t ++ 45 ∷ []) ++ c ∷ []) ≡ true
rest_subtag [] c e f = one_more c f
rest_subtag (x ∷ t) c e f =
    ⊎_elim
    (λ (k : (is_letter x ≡ true) × (is_tag_rest t ≡ true)). or_first _ _ (and_true _ _ k.0 (rest_subtag t c k.1 f)))
    (λ (k : ((x == 45) ≡ true) × (is_subtags true t ≡ true)). or_second _ _ (and_true _ _ k.0 (in_subtags true t c k.1 f)))
    (either _ _ _ _ e)

pub tag_subtag : (t : List ℕ) (c : ℕ) → is_tag t ≡ true → is_letter_or_digit c ≡ true → is_subtagged ((t ++ 45 ∷ []) ++ c ∷ []) ≡ true
tag_subtag [] c e f = cc
tag_subtag (x ∷ t) c e f = let k = both_parts _ _ e in and_true _ _ k.0 (rest_subtag t c k.1 f)

has_longer : (t : List ℕ) (c : ℕ) → has_subtags t ≡ true → is_letter_or_digit c ≡ true → has_subtags (t ++ c ∷ []) ≡ true
has_longer [] c e f = cc
has_longer (x ∷ t) c e f =
    ⊎_elim
    (λ (k : (is_letter x ≡ true) × (has_subtags t ≡ true)). or_first _ _ (and_true _ _ k.0 (has_longer t c k.1 f)))
    (λ (k : ((x == 45) ≡ true) × (is_subtags true t ≡ true)). or_second _ _ (and_true _ _ k.0 (subtags_longer true t c k.1 f)))
    (either _ _ _ _ e)

pub subtag_longer : (t : List ℕ) (c : ℕ) → is_subtagged t ≡ true → is_letter_or_digit c ≡ true → is_subtagged (t ++ c ∷ []) ≡ true
subtag_longer [] c e f = cc
subtag_longer (x ∷ t) c e f = let k = both_parts _ _ e in and_true _ _ k.0 (has_longer t c k.1 f)

has_rest : (t : List ℕ) → has_subtags t ≡ true → is_tag_rest t ≡ true
has_rest [] e = cc
has_rest (x ∷ t) e =
    ⊎_elim
    (λ (k : (is_letter x ≡ true) × (has_subtags t ≡ true)). or_first _ _ (and_true _ _ k.0 (has_rest t k.1)))
    (λ (k : ((x == 45) ≡ true) × (is_subtags true t ≡ true)). or_second _ _ (and_true _ _ k.0 k.1))
    (either _ _ _ _ e)

pub subtagged_tag : (t : List ℕ) → is_subtagged t ≡ true → is_tag t ≡ true
subtagged_tag [] e = cc
subtagged_tag (x ∷ t) e = let k = both_parts _ _ e in and_true _ _ k.0 (has_rest t k.1)

-- names
pub name_longer : (t : List ℕ) (c : ℕ) → is_name t ≡ true → is_name_part c ≡ true → is_name (t ++ c ∷ []) ≡ true
name_longer [] c e f = cc
name_longer (x ∷ t) c e f = let k = both_parts _ _ e in and_true _ _ k.0 (all_longer is_name_part t c k.1 f)
