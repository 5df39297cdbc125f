-- Names and prefixes, the last first.
use Rattle.std.proofs.Common.{◌≡◌, refl, ℕ, Bool, true, false, cond, ◌||◌, List, [], ◌∷◌, ◌++◌, ◌↔◌, IsTrue, Option, Some, None, sym, ◌∙◌, ap, reverse, take, slice_get, option_map, suc}
use Rattle.std.specs.Str.{bytes_eq}
use Rattle.std.specs.Bool.{one_answer}
use Rattle.std.specs.List.{list_any}
use Rattle.std.proofs.lemmas.Slice.Eq.{bytes_eq-Decides}
use Rattle.std.proofs.lemmas.List.{reverse-append}
use Rattle.std.proofs.lemmas.Option.{slice_get_within, get_or_from_slice_get}
use Rattle.std.proofs.Math.Seq.{take-suc}
use Rattle.bye_table.specs.Mappings.{Name, is_in}
use Rattle.bye_tokens.specs.declared.token.Token.TheVariants.{Prefixed}
use Rattle.bye_grammar.specs.Fits.{Chars, Prefixes, look, found, prefix}
use Rattle.bye_descent.specs.Declarations.{iri_at}

pub same_name : (a b : List ℕ) (same : Bool) → (IsTrue same ↔ (a ≡ b)) → bytes_eq a b ≡ same
same_name a b same e = one_answer (bytes_eq a b) same (bytes_eq-Decides a b) e

pub last_first : {A : Type 0} (xs : List A) (x : A) → reverse (xs ++ x ∷ []) ≡ x ∷ reverse xs
last_first xs x = reverse-append xs (x ∷ [])

in_join : (vs ws : List Name) (v : Name) → is_in (vs ++ ws) v ≡ (is_in vs v || is_in ws v)
in_join [] ws v = refl
in_join (w ∷ vs) ws v = ap (λ b. bytes_eq w v || b) (in_join vs ws v) ∙ or_join (bytes_eq w v) (is_in vs v) (is_in ws v)
  where
    or_join : (a b c : Bool) → (a || (b || c)) ≡ ((a || b) || c)
    or_join true b c = refl
    or_join false b c = refl

or_turn : (a b : Bool) → (a || (b || false)) ≡ (b || a)
or_turn true true = refl
or_turn true false = refl
or_turn false true = refl
or_turn false false = refl

pub in_reverse : (vs : List Name) (v : Name) → is_in (reverse vs) v ≡ is_in vs v
in_reverse [] v = refl
in_reverse (w ∷ vs) v = ap (λ ws. is_in ws v) (reverse-append (w ∷ []) vs) ∙ in_join (reverse vs) (w ∷ []) v ∙ or_turn (is_in (reverse vs) v) (bytes_eq w v) ∙ ap (λ b. bytes_eq w v || b) (in_reverse vs v)

turned : (a b : List ℕ) → bytes_eq a b ≡ bytes_eq b a
turned a b = same_name a b (bytes_eq b a) ((λ t. sym ((bytes_eq-Decides b a).0 t)), (λ e. (bytes_eq-Decides b a).1 (sym e)))

-- equality may be asked from either side
pub among : (vs : List Name) (v : Name) → list_any (bytes_eq v) vs ≡ is_in vs v
among [] v = refl
among (w ∷ vs) v = ap (λ b. b || list_any (bytes_eq v) vs) (turned v w) ∙ ap (λ b. bytes_eq w v || b) (among vs v)

-- a prefixed name without local part is a prefix
pub alone : (name local : Chars) → local ≡ [] → prefix (Prefixed name local) ≡ Some name
alone name [] e = refl
alone name (c ∷ cs) e = cc

pub not_alone : (name local : Chars) → (local ≡ [] → ⊥) → prefix (Prefixed name local) ≡ None
not_alone name [] e = absurd (e refl)
not_alone name (c ∷ cs) e = refl

-- the last of some declarations is looked at first
last_look : (rest before : Prefixes) (one : Chars × Chars) (name : Chars) → rest ≡ before ++ one ∷ [] → look (reverse rest) name ≡ found (bytes_eq one.0 name) one.1 (look (reverse before) name)
last_look rest before one name parts = ap (λ xs. look (reverse xs) name) parts ∙ ap (λ xs. look xs name) (last_first before one)

module _ (declared : Prefixes) (n : ℕ) (one : Chars × Chars) (at : slice_get declared n ≡ Some one) (old new : Chars → Option ℕ) where
  chosen : (b : Bool) (before : Option ℕ) → iri_at declared (cond b (Some n) before) ≡ found b one.1 (iri_at declared before)
  chosen true before = ap (λ o. option_map (λ d. d.1) o) at
  chosen false before = refl

  -- one more declaration is numbered
  pub numbered : ((name : Chars) → new name ≡ cond (bytes_eq one.0 name) (Some n) (old name)) → ((name : Chars) → iri_at declared (old name) ≡ look (reverse (take n declared)) name)
      → (name : Chars) → iri_at declared (new name) ≡ look (reverse (take (suc n) declared)) name
  numbered is h name =
      let parts : take (suc n) declared ≡ take n declared ++ one ∷ [] = take-suc declared n one (slice_get_within declared n one at) ∙ ap (λ d. take n declared ++ d ∷ []) (get_or_from_slice_get declared n one one at) in
      ap (λ o. iri_at declared o) (is name) ∙ chosen (bytes_eq one.0 name) (old name) ∙ ap (λ o. found (bytes_eq one.0 name) one.1 o) (h name)
      ∙ sym (last_look (take (suc n) declared) (take n declared) one name parts)
