-- Fronts of texts and of their bytes.
use Rattle.std.proofs.Common.{◌≡◌, refl, ℕ, true, List, [], ◌∷◌, ◌++◌, length, ◌⊎◌, inl, inr, ⊎_elim, sym, ◌∙◌, ap, append_assoc, append-nil, arith, length-append}
use Rattle.std.specs.Char.{IsScalar, encode_utf8}
use Rattle.std.specs.Str.{encode_utf8_all, all_scalars}
use Rattle.std.proofs.lemmas.Str.{encodes-append, length-encode, len_utf8_bounds}
use Rattle.bye_terms.proofs.Tests.{both_parts}
use Rattle.bye_lex.specs.Utf8.{NoCharacter}
use Rattle.bye_lex.proofs.Branches.{and_true}
use Rattle.bye_lex.proofs.Utf8Laws.{prefix_free}

scalar_of : (c : ℕ) (cs : List ℕ) → all_scalars (c ∷ cs) ≡ true → IsScalar c × (all_scalars cs ≡ true)
scalar_of c cs e = both_parts _ _ e

-- the first text goes on where the second ends
pub record Longer (a b r t : List ℕ) : Type 0 where
  pub next : ℕ
  pub more : List ℕ
  pub scalar : IsScalar next
  pub is : a ≡ b ++ next ∷ more
  pub rest : t ≡ encode_utf8_all (next ∷ more) ++ r

-- two texts at the front of the same bytes
pub split : (a b r t : List ℕ) → all_scalars a ≡ true → all_scalars b ≡ true → encode_utf8_all a ++ r ≡ encode_utf8_all b ++ t → ((z : List ℕ) × (b ≡ a ++ z) × (r ≡ encode_utf8_all z ++ t)) ⊎ Longer a b r t
split [] b r t x y e = inl (b, refl, e)
split (c ∷ cs) [] r t x y e = inr (record { next = c; more = cs; scalar = (scalar_of c cs x).0; is = refl; rest = sym e })
split (c ∷ cs) (d ∷ ds) r t x y e =
    let p = scalar_of c cs x in
    let q = scalar_of d ds y in
    let k = prefix_free c d (encode_utf8_all cs ++ r) (encode_utf8_all ds ++ t) p.0 q.0 (sym (append_assoc (encode_utf8 c) (encode_utf8_all cs) r) ∙ e ∙ append_assoc (encode_utf8 d) (encode_utf8_all ds) t) in
    ⊎_elim
    (λ (h : (z : List ℕ) × (ds ≡ cs ++ z) × (r ≡ encode_utf8_all z ++ t)). inl (h.0, (λ i. sym k.0 i ∷ h.1 i), h.2))
    (λ (h : Longer cs ds r t). inr (record { next = h.next; more = h.more; scalar = h.scalar; is = λ i. k.0 i ∷ h.is i; rest = h.rest }))
    (split cs ds r t p.1 q.1 k.1)

pub front_scalars : (a b : List ℕ) → all_scalars (a ++ b) ≡ true → all_scalars a ≡ true
front_scalars [] b e = refl
front_scalars (c ∷ a) b e = let k = both_parts _ _ e in and_true _ _ k.0 (front_scalars a b k.1)

pub back_scalars : (a b : List ℕ) → all_scalars (a ++ b) ≡ true → all_scalars b ≡ true
back_scalars [] b e = e
back_scalars (c ∷ a) b e = let k = both_parts _ _ e in back_scalars a b k.1

-- bytes of a text, a character and what follows
pub at_char : (front : List ℕ) (c : ℕ) (rest : List ℕ) → encode_utf8_all (front ++ c ∷ []) ++ rest ≡ encode_utf8_all front ++ (encode_utf8 c ++ rest)
at_char front c rest = ap (λ t. t ++ rest) (encodes-append front (c ∷ []) ∙ ap (λ t. encode_utf8_all front ++ t) (append-nil (encode_utf8 c))) ∙ append_assoc (encode_utf8_all front) (encode_utf8 c) rest

-- no character stands in nothing
pub none_empty : NoCharacter []
none_empty c rest scalar e = no_bytes c rest e
  where
    no_bytes : (c : ℕ) (rest : List ℕ) → ◌≡◌ {A = List ℕ} [] (encode_utf8 c ++ rest) → ⊥
    no_bytes c rest e = let n = ap length e ∙ length-append (encode_utf8 c) rest in let l = length-encode c in let b = (len_utf8_bounds c).0 in omega (arith, n, l, b)
