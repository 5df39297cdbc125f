-- The tests of terms and names by equality.
use Rattle.std.proofs.Common.{◌≡◌, refl, ℕ, true, List, Option, Some, None, ap}
use Rattle.std.proofs.lemmas.Slice.Eq.{bytes_eq-Decides}
use Rattle.bye_terms.specs.declared.term.Term.{Term}
use Rattle.bye_terms.specs.declared.term.Term.TheVariants.{Iri, Blank, Lit}
use Rattle.bye_terms.proofs.Tests.{both_parts, both}
use Rattle.bye_pattern.specs.Conditions.{same_term, same_option}

option_same : (a b : Option (List ℕ)) → same_option a b ≡ true → a ≡ b
option_same None None e = refl
option_same None (Some b) e = cc
option_same (Some a) None e = cc
option_same (Some a) (Some b) e = ap Some ((bytes_eq-Decides a b).0 e)

same_self_option : (a : Option (List ℕ)) → same_option a a ≡ true
same_self_option None = refl
same_self_option (Some a) = (bytes_eq-Decides a a).1 refl

-- terms that the test takes for the same are equal
pub terms_same : (a b : Term) → same_term a b ≡ true → a ≡ b
terms_same (Iri a) (Iri b) e = ap Iri ((bytes_eq-Decides a b).0 e)
terms_same (Iri a) (Blank b) e = cc
terms_same (Iri a) (Lit b) e = cc
terms_same (Blank a) (Iri b) e = cc
terms_same (Blank a) (Blank b) e = ap Blank ((bytes_eq-Decides a b).0 e)
terms_same (Blank a) (Lit b) e = cc
terms_same (Lit a) (Iri b) e = cc
terms_same (Lit a) (Blank b) e = cc
terms_same (Lit a) (Lit b) e =
    let w = both_parts _ _ e in
    let u = both_parts _ _ w.0 in
    let x = (bytes_eq-Decides _ _).0 u.0 in
    let y = (bytes_eq-Decides _ _).0 u.1 in
    let z = option_same _ _ w.1 in
    ap Lit (λ i. record { lexical = x i; datatype = y i; tag = z i })

pub same_self : (a : Term) → same_term a a ≡ true
same_self (Iri a) = (bytes_eq-Decides a a).1 refl
same_self (Blank a) = (bytes_eq-Decides a a).1 refl
same_self (Lit a) = both _ _ (both _ _ ((bytes_eq-Decides a.lexical a.lexical).1 refl) ((bytes_eq-Decides a.datatype a.datatype).1 refl)) (same_self_option a.tag)
