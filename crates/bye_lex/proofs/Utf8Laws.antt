-- A character's bytes tell where it ends: none begins another.
use Rattle.std.proofs.Common.{◌≡◌, refl, ℕ, List, [], ◌∷◌, ◌++◌, length, ◌⊎◌, inl, inr, ⊎_elim, ap, ◌∙◌, append_assoc, append-nil, length-append, arith}
use Rattle.std.proofs.lemmas.Str.{encode_same}
use Rattle.std.specs.Char.{IsScalar, encode_utf8}
use Rattle.bye_lex.specs.Utf8.{BeginsCharacter, NoCharacter}
use Rattle.bye_lex.proofs.Branches.{heads}

-- bytes begin with one character at most
pub prefix_free : (c d : ℕ) (r t : List ℕ) → IsScalar c → IsScalar d → encode_utf8 c ++ r ≡ encode_utf8 d ++ t → (c ≡ d) × (r ≡ t)
prefix_free c d r t is_c is_d e = encode_same c d r t e

ends_not : (rest more : List ℕ) (n : ℕ) → [] ≡ rest ++ n ∷ more → ⊥
ends_not rest more n e = omega (arith, ap length e, length-append rest (n ∷ more))

-- what begins a character holds none
pub begins_none : (bytes : List ℕ) → BeginsCharacter bytes → NoCharacter bytes
begins_none bytes b c rest is_c e =
    ends_not rest b.more b.next
    (prefix_free b.char c [] (rest ++ b.next ∷ b.more) b.scalar is_c
    (append-nil (encode_utf8 b.char) ∙ b.is ∙ ap (λ l. l ++ b.next ∷ b.more) e ∙ append_assoc (encode_utf8 c) rest (b.next ∷ b.more))).1

-- of two fronts of one list, one is a front of the other
fronts : (xs ys us vs : List ℕ) → xs ++ ys ≡ us ++ vs → ((t : List ℕ) × (xs ≡ us ++ t)) ⊎ ((n : ℕ) × (t : List ℕ) × (us ≡ xs ++ n ∷ t))
fronts xs ys [] vs e = inl (xs, refl)
fronts [] ys (u ∷ us) vs e = inr (u, us, refl)
fronts (x ∷ xs) ys (u ∷ us) vs e =
    let h = heads x u (xs ++ ys) (us ++ vs) e in
    ⊎_elim
    (λ (p : (t : List ℕ) × (xs ≡ us ++ t)). let same : xs ≡ us ++ p.0 = p.1 in let k : x ≡ u = h.0 in inl (p.0, cc))
    (λ (p : (n : ℕ) × (t : List ℕ) × (us ≡ xs ++ n ∷ t)). let same : us ≡ xs ++ p.0 ∷ p.1 = p.2 in let k : x ≡ u = h.0 in inr (p.0, p.1, cc))
    (fronts xs ys us vs h.1)

-- what holds no character and begins none holds none whatever follows
pub none_after : (left more : List ℕ) → NoCharacter left → (BeginsCharacter left → ⊥) → NoCharacter (left ++ more)
none_after left more none ends c rest is_c e =
    ⊎_elim
    (λ (p : (t : List ℕ) × (left ≡ encode_utf8 c ++ t)). none c p.0 is_c p.1)
    (λ (p : (n : ℕ) × (t : List ℕ) × (encode_utf8 c ≡ left ++ n ∷ t)). ends (record { char = c; scalar = is_c; next = p.0; more = p.1; is = p.2 }))
    (fronts left more (encode_utf8 c) rest e)
