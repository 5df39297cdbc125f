-- The test whether two terms are the same (RDF 1.1 Concepts, sections 3.2 to 3.4), and what a hash of a term is fed.
-- The laws of `Eq` and `Hash` stand here, since contracts cite them.
use Rattle.std.specs.Prelude.{◌≡◌, refl, ℕ, Bool, true, false, ◌&&◌, cond, List, [], ◌++◌, Option, Some, None}
use Rattle.std.specs.Cmp.{IsEquivalence, decided}
use Rattle.std.specs.Hash as fed
use Rattle.std.specs.Hash.{HashWrites}
use Rattle.std.specs.Str.{bytes_eq, encode_utf8_all}
use Rattle.std.proofs.Common.{ap, subst}
use Rattle.std.proofs.lemmas.Slice.Eq.{bytes_eq-Decides}
use Rattle.bye_terms.specs.Literals.{LiteralValue}
use Rattle.bye_terms.specs.declared.term.Term.{Term}
use Rattle.bye_terms.specs.declared.term.Term.TheVariants.{Iri, Blank, Lit}

-- whether two tags are the same, or both are missing
abbrev pub same_option : Option (List ℕ) → Option (List ℕ) → Bool
same_option None None = true
same_option None (Some t) = false
same_option (Some s) None = false
same_option (Some s) (Some t) = bytes_eq s t

-- whether two terms are the same: all parts equal, character by character
abbrev pub same_term : Term → Term → Bool
same_term (Iri a) (Iri b) = bytes_eq a b
same_term (Blank a) (Blank b) = bytes_eq a b
same_term (Lit a) (Lit b) = bytes_eq a.lexical b.lexical && bytes_eq a.datatype b.datatype && same_option a.tag b.tag
same_term _ _ = false

-- false is not true
differ : {X : Type 0} → false ≡ true → X
differ {X} e = absurd (subst (λ b. cond b ⊥ (Unit {0})) e tt)

first_holds : (a b : Bool) → (a && b) ≡ true → a ≡ true
first_holds true b e = refl
first_holds false b e = e

second_holds : (a b : Bool) → (a && b) ≡ true → b ≡ true
second_holds true b e = e
second_holds false b e = differ e

option_same : (a b : Option (List ℕ)) → same_option a b ≡ true → a ≡ b
option_same None None e = refl
option_same None (Some b) e = differ e
option_same (Some a) None e = differ e
option_same (Some a) (Some b) e = ap Some ((bytes_eq-Decides a b).0 e)

same_self_option : (a : Option (List ℕ)) → same_option a a ≡ true
same_self_option None = refl
same_self_option (Some a) = (bytes_eq-Decides a a).1 refl

-- terms that the test takes for the same are equal
pub terms_same : (a b : Term) → same_term a b ≡ true → a ≡ b
terms_same (Iri a) (Iri b) e = ap Iri ((bytes_eq-Decides a b).0 e)
terms_same (Iri a) (Blank b) e = differ e
terms_same (Iri a) (Lit b) e = differ e
terms_same (Blank a) (Iri b) e = differ e
terms_same (Blank a) (Blank b) e = ap Blank ((bytes_eq-Decides a b).0 e)
terms_same (Blank a) (Lit b) e = differ e
terms_same (Lit a) (Iri b) e = differ e
terms_same (Lit a) (Blank b) e = differ e
terms_same (Lit a) (Lit b) e =
    let both = first_holds _ _ e in
    let x = (bytes_eq-Decides _ _).0 (first_holds _ _ both) in
    let y = (bytes_eq-Decides _ _).0 (second_holds _ _ both) in
    let z = option_same _ _ (second_holds _ _ e) in
    ap Lit (λ i. record { lexical = x i; datatype = y i; tag = z i })

pub same_self : (a : Term) → same_term a a ≡ true
same_self (Iri a) = (bytes_eq-Decides a a).1 refl
same_self (Blank a) = (bytes_eq-Decides a a).1 refl
same_self (Lit a) =
    let x = (bytes_eq-Decides a.lexical a.lexical).1 refl in
    let y = (bytes_eq-Decides a.datatype a.datatype).1 refl in
    let z = same_self_option a.tag in
    λ i. x i && y i && z i

-- the test is an equality
pub same_equivalence : IsEquivalence same_term
same_equivalence = decided same_term (λ a b. (terms_same a b, λ e. subst (λ t. same_term a t ≡ true) e (same_self a)))

-- a tag, where there is one
abbrev pub tag_fed : Option (List ℕ) → HashWrites
tag_fed None = []
tag_fed (Some tag) = fed.str (encode_utf8_all tag)

abbrev pub literal_fed : LiteralValue → HashWrites
literal_fed l = fed.str (encode_utf8_all l.lexical) ++ fed.str (encode_utf8_all l.datatype) ++ tag_fed l.tag

-- what a hash of a term is fed: its kind, and its texts
abbrev pub term_fed : Term → HashWrites
term_fed (Iri iri) = fed.u8 0 ++ fed.str (encode_utf8_all iri)
term_fed (Blank label) = fed.u8 1 ++ fed.str (encode_utf8_all label)
term_fed (Lit l) = fed.u8 2 ++ literal_fed l

-- the same terms feed it alike
pub same_fed : (a b : Term) → same_term a b ≡ true → term_fed a ≡ term_fed b
same_fed a b e = ap term_fed (terms_same a b e)
