-- Reading where a bracket may still be opened.
use Rattle.std.proofs.Common.{◌≡◌, refl, ℕ, zero, suc, ◌<◌, ◌-◌, ◌∷◌, [], List, arith, ap, Bool, true, false, cond, ◌∙◌}
use Rattle.bye_tokens.specs.declared.token.Placed.{Placed}
use Rattle.bye_tokens.specs.declared.sign.Sign.{Sign}
use Rattle.bye_tokens.specs.declared.sign.Sign.TheVariants as signs
use Rattle.bye_tokens.specs.declared.word.Word.TheVariants as words
use Rattle.bye_table.specs.Mappings.{Name}
use Rattle.bye_pattern.specs.declared.slot.Slot.{Slot}
use Rattle.bye_pattern.specs.declared.kind.Kind.{Kind}
use Rattle.bye_pattern.specs.Conditions.{IsBound, KindOf}
use Rattle.bye_parts.proofs.Sets.{when, unless}
use Rattle.bye_parts.specs.Readers.{Outcome, Reader, Got, Wrong, Deep, onward, begins, seen_as, read_mapped, read_deep, read_either}
use Rattle.bye_grammar.specs.declared.place.Place.{Place}
use Rattle.bye_grammar.specs.declared.place.Place.TheVariants.{Inner}
use Rattle.bye_grammar.specs.TokenKinds.{of, a_sign, a_word}
use Rattle.bye_grammar.specs.Fits as fits
use Rattle.bye_grammar.specs.Fits.{Prefixes}
use Rattle.bye_grammar.specs.Reading.{read_one, read_sign, read_word, read_argument, read_call_of, read_parenthesized, read_disjunction, read_primary, read_call, read_braced, read_group, read_body, read_optional_group, read_filter}
use Rattle.bye_descent.specs.Opening.{read_open}

pub opens_some : (s : Sign) (d : ℕ) (ts : List Placed) → 0 < d → read_open s d ts ≡ read_sign s ts
unfolding read_open
opens_some s zero ts h = absurd (omega (arith, h))
opens_some s (suc d) ts h = refl

-- brackets around what is read: the first of them opens
deep_onward : {V : Type 0} (s : Sign) (q : Unit {0} → Reader Placed V) (ts : List Placed) → read_deep {V = V} (of (a_sign s)) ts ≡ onward (read_deep {V = Unit {0}} (of (a_sign s)) ts) q
deep_onward s q [] = refl
deep_onward {V} s q (c ∷ cs) = on (of (a_sign s) c)
  where
    on : (b : Bool) → ◌≡◌ {A = Outcome Placed V} (cond b (Deep (c ∷ cs)) (Wrong (c ∷ cs))) (onward (cond b (Deep (c ∷ cs)) (Wrong (c ∷ cs))) q)
    on true = refl
    on false = refl

pub call_of : {V : Type 0} (n : ℕ) (p : Reader Placed V) (ts : List Placed)
    → read_call_of n p ts ≡ onward (read_open signs.Open n ts) (λ _ rest. onward (p rest) (λ v rest. onward (read_sign signs.Close rest) (λ _ rest. Got v rest)))
unfolding read_open
call_of zero p ts = deep_onward signs.Open (λ _ rest. onward (p rest) (λ v rest. onward (read_sign signs.Close rest) (λ _ rest. Got v rest))) ts
call_of (suc n) p ts = refl

pub primary_some : (prefixes : Prefixes) (place : Place) (d : ℕ) (ts : List Placed) → 0 < d
    → read_primary prefixes place d ts ≡ read_either (of (a_sign signs.Open)) (read_parenthesized (read_disjunction place (read_primary prefixes place (d - 1)))) (read_call prefixes place d) ts
unfolding read_primary
primary_some prefixes place zero ts h = absurd (omega (arith, h))
primary_some prefixes place (suc d) ts h =
    let e : d ≡ suc d - 1 = omega arith in
    ap (λ m. read_either (of (a_sign signs.Open)) (read_parenthesized (read_disjunction place (read_primary prefixes place m))) (read_call prefixes place (suc d)) ts) e

pub primary_call : (prefixes : Prefixes) (place : Place) (d : ℕ) (ts : List Placed) → begins (of (a_sign signs.Open)) ts ≡ false → read_primary prefixes place d ts ≡ read_call prefixes place d ts
unfolding read_primary
primary_call prefixes place zero ts e = ap (λ b. cond b (read_deep (of (a_sign signs.Open)) ts) (read_call prefixes place zero ts)) e
primary_call prefixes place (suc d) ts e = ap (λ b. cond b (read_parenthesized (read_disjunction place (read_primary prefixes place d)) ts) (read_call prefixes place (suc d) ts)) e

pub group_some : (prefixes : Prefixes) (place : Place) (d : ℕ) (ts : List Placed) → 0 < d
    → read_group prefixes place d ts ≡ read_braced (read_body prefixes (read_optional_group (read_group prefixes Inner (d - 1))) (read_filter prefixes place (d - 1))) ts
unfolding read_group
group_some prefixes place zero ts h = absurd (omega (arith, h))
group_some prefixes place (suc d) ts h =
    let e : d ≡ suc d - 1 = omega arith in
    ap (λ m. read_braced (read_body prefixes (read_optional_group (read_group prefixes Inner m)) (read_filter prefixes place m)) ts) e

-- a call in brackets, step by step
call_got : {V : Type 0} (n : ℕ) (p : Reader Placed V) (ts a b c : List Placed) (u w : Unit {0}) (v : V) → read_open signs.Open n ts ≡ Got u a → p a ≡ Got v b → read_sign signs.Close b ≡ Got w c → read_call_of n p ts ≡ Got v c
call_got n p ts a b c u w v o r s =
    call_of n p ts ∙ ap (λ x. onward x (λ _ rest. onward (p rest) (λ v rest. onward (read_sign signs.Close rest) (λ _ rest. Got v rest)))) o
    ∙ ap (λ x. onward x (λ v rest. onward (read_sign signs.Close rest) (λ _ rest. Got v rest))) r ∙ ap (λ x. onward x (λ _ rest. Got v rest)) s

module _ (prefixes : Prefixes) (place : Place) (n : ℕ) (ts t a b c : List Placed) (u w : Unit {0}) where
  -- `bound`
  pub call_bound : (x : Unit {0}) (v : Name) → begins (of (a_word words.Bound)) ts ≡ true → read_word words.Bound ts ≡ Got x t → read_open signs.Open n t ≡ Got u a → read_one fits.variable a ≡ Got v b → read_sign signs.Close b ≡ Got w c
      → read_call prefixes place n ts ≡ Got (IsBound v) c
  unfolding read_call
  call_bound x v h k o r s =
      when (begins (of (a_word words.Bound)) ts) _ _ h ∙ ap (λ x. onward x (λ _. read_call_of n (read_mapped IsBound (read_one fits.variable)))) k
      ∙ call_got n (read_mapped IsBound (read_one fits.variable)) t a b c u w (IsBound v) o (ap (λ x. seen_as IsBound x) r) s

  -- a kind test
  pub call_kind : (kind : Kind) (v : Slot) → begins (of (a_word words.Bound)) ts ≡ false → begins (of (a_word words.SameTerm)) ts ≡ false → read_one fits.kind_test ts ≡ Got kind t → read_open signs.Open n t ≡ Got u a → read_argument prefixes place a ≡ Got v b
      → read_sign signs.Close b ≡ Got w c → read_call prefixes place n ts ≡ Got (KindOf kind v) c
  unfolding read_call
  call_kind kind v h g k o r s =
      unless (begins (of (a_word words.Bound)) ts) _ _ h ∙ unless (begins (of (a_word words.SameTerm)) ts) _ _ g ∙ ap (λ x. onward x (λ kind. read_call_of n (read_mapped (KindOf kind) (read_argument prefixes place)))) k
      ∙ call_got n (read_mapped (KindOf kind) (read_argument prefixes place)) t a b c u w (KindOf kind v) o (ap (λ x. seen_as (KindOf kind) x) r) s
