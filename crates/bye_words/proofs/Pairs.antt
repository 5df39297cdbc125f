-- Words in pairs.
use Rattle.std.proofs.Common.{◌≡◌, refl, ◌%◌, List, [], ◌∷◌, length, ap, sym, ◌∙◌, inl, inr, subst, arith}
use Rattle.bye_terms.specs.Members.{In, EachOnce}
use Rattle.bye_words.specs.Forms.{names_in}
use Rattle.bye_words.proofs.Loops.{name_there}
use Rattle.std.specs.List.{flat_map}
use Rattle.bye_words.specs.Pairs.{Word, Setting, setting_words, pairs_of}

pub even_pairs : (words : List Word) → length words % 2 ≡ 0 → words ≡ flat_map setting_words (pairs_of words)
even_pairs [] e = refl
even_pairs (name ∷ []) e = absurd (omega arith)
even_pairs (name ∷ value ∷ words) e = ap (λ ws. name ∷ value ∷ ws) (even_pairs words (omega arith))

even_long : (settings : List Setting) → length (flat_map setting_words settings) % 2 ≡ 0
even_long [] = refl
even_long (s ∷ settings) = let e = even_long settings in omega arith

pub pairs_even : (words : List Word) (settings : List Setting) → words ≡ flat_map setting_words settings → length words % 2 ≡ 0
pairs_even words settings e = let l = ap length e in let k = even_long settings in omega arith

-- words are the pairs of one list of settings
pub same_pairs : (settings others : List Setting) → flat_map setting_words settings ≡ flat_map setting_words others → settings ≡ others
same_pairs [] [] e = refl
same_pairs [] (o ∷ others) e = cc
same_pairs (s ∷ settings) [] e = cc
same_pairs (s ∷ settings) (o ∷ others) e =
    let name : s.0 ≡ o.0 = cc in
    let value : s.1 ≡ o.1 = cc in
    let rest : flat_map setting_words settings ≡ flat_map setting_words others = cc in
    let more = same_pairs settings others rest in
    (λ i. (name i, value i) ∷ more i)

-- a name that stands once has one value
pub one_value : (settings : List Setting) (name v w : Word) → EachOnce (names_in settings) → In settings (name, v) → In settings (name, w) → v ≡ w
one_value [] name v w once h k = absurd h
one_value (s ∷ settings) name v w once (inl e) (inl f) = sym (ap (λ s. s.1) e) ∙ ap (λ s. s.1) f
one_value (s ∷ settings) name v w once (inl e) (inr k) = absurd (once.0 (subst (λ n. In (names_in settings) n) (sym (ap (λ s. s.0) e)) (name_there settings name w k)))
one_value (s ∷ settings) name v w once (inr h) (inl f) = absurd (once.0 (subst (λ n. In (names_in settings) n) (sym (ap (λ s. s.0) f)) (name_there settings name v h)))
one_value (s ∷ settings) name v w once (inr h) (inr k) = one_value settings name v w once.1 h k
