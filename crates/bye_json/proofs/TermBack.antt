-- The object of a term stands for the term.
use Rattle.std.proofs.Common.{◌≡◌, refl, ℕ, ◌≤◌, Bool, true, false, cond, ◌==◌, List, [], ◌∷◌, ◌++◌, codes, Option, Some, None, ⊎_elim, sym, ap, ◌∙◌, subst, arith}
use Rattle.std.specs.Str.{IsUtf8, all_scalars, encode_utf8_all}
use Rattle.std.proofs.lemmas.Slice.Eq.{bytes_eq-Decides}
use Rattle.std.proofs.lemmas.Str.{chars-encodes}
use lib.Utf8.{scalar}
use Rattle.json.specs.Tree as tree
use Rattle.json.proofs.Printed.Utf8.{IsUtf8-are_ascii}
use Rattle.serde_json.specs.Data.{Data, object, member, no_members, string}
use Rattle.serde_json.specs.Written.{outline}
use Rattle.bye_terms.specs.Literals.{LiteralValue, is_lang_string, is_xsd_string, lang_string, xsd_string}
use Rattle.bye_terms.specs.Names.{is_iri, is_label, is_tag}
use Rattle.bye_terms.specs.Spellings.{escaped, escaped_char, suffix_text, term_text}
use Rattle.bye_terms.specs.Valid.{IsRdfTerm, IsTagged}
use Rattle.bye_terms.specs.declared.term.Term.{Term}
use Rattle.bye_terms.specs.declared.term.Term.TheVariants.{Iri, Blank, Lit}
use Rattle.bye_terms.proofs.Tests.{bool_cases, both, both_parts}
use Rattle.bye_json.specs.TermObjects.{as_bnode, as_uri, string as string_of, tagged, term_at, strings_of, typed}
use Rattle.bye_json.specs.Written.{literal_object, term_object, type_and_value}
use Rattle.bye_json.proofs.Clear.{HasClear, IsClear}

-- the texts of a term of RDF
pub front_scalars : (a b : List ℕ) → all_scalars (a ++ b) ≡ true → all_scalars a ≡ true
front_scalars [] b e = refl
front_scalars (c ∷ a) b e = let k = both_parts _ _ e in both _ _ k.0 (front_scalars a b k.1)

back_scalars : (a b : List ℕ) → all_scalars (a ++ b) ≡ true → all_scalars b ≡ true
back_scalars [] b e = e
back_scalars (c ∷ a) b e = back_scalars a b (both_parts _ _ e).1

eqb_same : (a b : ℕ) → (a == b) ≡ true → a ≡ b
eqb_same a b e = grind arith

is_scalar : (c n : ℕ) → (c == n) ≡ true → scalar n ≡ true → scalar c ≡ true
is_scalar c n e s = subst (λ c. scalar c ≡ true) (sym (eqb_same c n e)) s

escaped_one : (c : ℕ) (a b d e : Bool) → (a ≡ true → scalar c ≡ true) → (b ≡ true → scalar c ≡ true) → (d ≡ true → scalar c ≡ true) → (e ≡ true → scalar c ≡ true)
    → all_scalars (cond a (codes "\\\"") (cond b (codes "\\\\") (cond d (codes "\\n") (cond e (codes "\\r") (c ∷ []))))) ≡ true → scalar c ≡ true
escaped_one c true b d e p q r s h = p refl
escaped_one c false true d e p q r s h = q refl
escaped_one c false false true e p q r s h = r refl
escaped_one c false false false true p q r s h = s refl
escaped_one c false false false false p q r s h = (both_parts _ _ h).0

raw_scalars : (text : List ℕ) → all_scalars (escaped text) ≡ true → all_scalars text ≡ true
raw_scalars [] h = refl
raw_scalars (c ∷ text) h =
    both _ _
    (escaped_one c (c == 34) (c == 92) (c == 10) (c == 13) (λ e. is_scalar c 34 e refl) (λ e. is_scalar c 92 e refl) (λ e. is_scalar c 10 e refl) (λ e. is_scalar c 13 e refl)
    (front_scalars (escaped_char c) (escaped text) h))
    (raw_scalars text (back_scalars (escaped_char c) (escaped text) h))

pub utf8 : (text : List ℕ) → all_scalars text ≡ true → IsUtf8 (encode_utf8_all text)
utf8 text s = (text, (s, refl))

lexical_scalars : (l : LiteralValue) → all_scalars (term_text (Lit l)) ≡ true → all_scalars l.lexical ≡ true
lexical_scalars l h = raw_scalars l.lexical (front_scalars (escaped l.lexical) (codes "\"") (front_scalars (codes "\"" ++ escaped l.lexical ++ codes "\"") (suffix_text l.tag l.datatype) h))

suffix_scalars : (l : LiteralValue) → all_scalars (term_text (Lit l)) ≡ true → all_scalars (suffix_text l.tag l.datatype) ≡ true
suffix_scalars l h = back_scalars (escaped l.lexical ++ codes "\"") (suffix_text l.tag l.datatype) h

datatype_scalars : (b : Bool) (datatype : List ℕ) → all_scalars (cond b [] (codes "^^<" ++ datatype ++ codes ">")) ≡ true → b ≡ false → all_scalars datatype ≡ true
datatype_scalars b datatype h e = front_scalars datatype (codes ">") (subst (λ b. all_scalars (cond b [] (codes "^^<" ++ datatype ++ codes ">")) ≡ true) e h)

-- an IRI and a blank node
iri_back : (text : List ℕ) → all_scalars text ≡ true → is_iri text ≡ true → term_at (term_object (Iri text)) ≡ Some (Iri text)
unfolding term_at strings_of
iri_back text s is = ap as_uri (chars-encodes text s) ∙ ap (λ b. cond b (Some (Iri text)) None) is

blank_back : (text : List ℕ) → all_scalars text ≡ true → is_label text ≡ true → term_at (term_object (Blank text)) ≡ Some (Blank text)
unfolding term_at strings_of
blank_back text s is = ap as_bnode (chars-encodes text s) ∙ ap (λ b. cond b (Some (Blank text)) None) is

-- a literal
tagged_back : (lexical tag datatype : List ℕ) → all_scalars lexical ≡ true → all_scalars tag ≡ true → is_tag tag ≡ true → datatype ≡ lang_string
    → term_at (literal_object lexical datatype (Some tag)) ≡ Some (Lit (record { lexical = lexical; datatype = datatype; tag = Some tag }))
unfolding term_at strings_of
tagged_back lexical tag datatype s k is same =
    (λ i. tagged (chars-encodes lexical s i) (chars-encodes tag k i))
    ∙ ap (λ b. cond b (Some (Lit (record { lexical = lexical; datatype = lang_string; tag = Some tag }))) None) is
    ∙ ap (λ datatype. Some (Lit (record { lexical = lexical; datatype = datatype; tag = Some tag }))) (sym same)

plain_back : (lexical : List ℕ) → all_scalars lexical ≡ true
    → term_at (object (member (codes "type") (string (codes "literal")) (member (codes "value") (string (encode_utf8_all lexical)) no_members))) ≡ Some (string_of lexical)
unfolding term_at strings_of
plain_back lexical s = ap (λ text. Some (string_of text)) (chars-encodes lexical s)

typed_back : (lexical datatype : List ℕ) → all_scalars lexical ≡ true → all_scalars datatype ≡ true → is_iri datatype ≡ true → is_lang_string datatype ≡ false
    → term_at (object (member (codes "datatype") (string (encode_utf8_all datatype)) (member (codes "type") (string (codes "literal")) (member (codes "value") (string (encode_utf8_all lexical)) no_members))))
    ≡ Some (Lit (record { lexical = lexical; datatype = datatype; tag = None }))
unfolding term_at strings_of
typed_back lexical datatype s k is other =
    (λ i. typed (chars-encodes lexical s i) (chars-encodes datatype k i))
    ∙ ap (λ b. cond b (cond (is_lang_string datatype) None (Some (Lit (record { lexical = lexical; datatype = datatype; tag = None })))) None) is
    ∙ ap (λ b. cond b None (Some (Lit (record { lexical = lexical; datatype = datatype; tag = None })))) other

not_lang : (datatype : List ℕ) → (datatype ≡ lang_string → ⊥) → is_lang_string datatype ≡ false
not_lang datatype other = ⊎_elim (λ e. absurd (other ((bytes_eq-Decides datatype lang_string).0 e))) (λ e. e) (bool_cases (is_lang_string datatype))

untagged_back : (lexical datatype : List ℕ) → all_scalars lexical ≡ true → all_scalars (suffix_text None datatype) ≡ true → is_iri datatype ≡ true → (datatype ≡ lang_string → ⊥)
    → term_at (literal_object lexical datatype None) ≡ Some (Lit (record { lexical = lexical; datatype = datatype; tag = None }))
untagged_back lexical datatype s k is other =
    ⊎_elim
    (λ e.
    let same : datatype ≡ xsd_string = (bytes_eq-Decides datatype xsd_string).0 e in
    ap (λ b. term_at (cond b short long)) e ∙ plain_back lexical s ∙ ap (λ datatype. Some (Lit (record { lexical = lexical; datatype = datatype; tag = None }))) (sym same))
    (λ e. ap (λ b. term_at (cond b short long)) e ∙ typed_back lexical datatype s (datatype_scalars (is_xsd_string datatype) datatype k e) is (not_lang datatype other))
    (bool_cases (is_xsd_string datatype))
  where
    short : Data
    short = object (member (codes "type") (string (codes "literal")) (member (codes "value") (string (encode_utf8_all lexical)) no_members))

    long : Data
    long = object (member (codes "datatype") (string (encode_utf8_all datatype)) (member (codes "type") (string (codes "literal")) (member (codes "value") (string (encode_utf8_all lexical)) no_members)))

literal_back : (lexical datatype : List ℕ) (tag : Option (List ℕ)) → all_scalars lexical ≡ true → all_scalars (suffix_text tag datatype) ≡ true → IsTagged tag datatype
    → term_at (literal_object lexical datatype tag) ≡ Some (Lit (record { lexical = lexical; datatype = datatype; tag = tag }))
literal_back lexical datatype (Some tag) s k is = tagged_back lexical tag datatype s k is.0 is.1
literal_back lexical datatype None s k is = untagged_back lexical datatype s k is.0 is.1

-- each term of RDF
pub term_back : (t : Term) → IsRdfTerm t → term_at (term_object t) ≡ Some t
term_back (Iri text) rdf = iri_back text (front_scalars text (codes ">") rdf.scalars) rdf.is
term_back (Blank text) rdf = blank_back text rdf.scalars rdf.is
term_back (Lit l) rdf = literal_back l.lexical l.datatype l.tag (lexical_scalars l rdf.scalars) (suffix_scalars l rdf.scalars) rdf.is

-- such an object is one that is written and read back
kind_clear : (kind lexical : List ℕ) → IsUtf8 kind → all_scalars lexical ≡ true → HasClear (type_and_value kind lexical no_members)
kind_clear kind lexical k s = (IsUtf8-are_ascii (codes "type") refl, (k, ((refl, tt), (IsUtf8-are_ascii (codes "value") refl, (utf8 lexical s, (tt, tt))))))

untagged_clear : (b : Bool) (lexical datatype : List ℕ) → all_scalars lexical ≡ true → (b ≡ false → all_scalars datatype ≡ true)
    → IsClear (cond b (object (type_and_value (codes "literal") lexical no_members)) (object (member (codes "datatype") (string (encode_utf8_all datatype)) (type_and_value (codes "literal") lexical no_members))))
untagged_clear true lexical datatype s k = kind_clear (codes "literal") lexical (IsUtf8-are_ascii (codes "literal") refl) s
untagged_clear false lexical datatype s k =
    (IsUtf8-are_ascii (codes "datatype") refl, (utf8 datatype (k refl), ((refl, (refl, tt)), kind_clear (codes "literal") lexical (IsUtf8-are_ascii (codes "literal") refl) s)))

literal_clear : (lexical datatype : List ℕ) (tag : Option (List ℕ)) → all_scalars lexical ≡ true → all_scalars (suffix_text tag datatype) ≡ true → IsClear (literal_object lexical datatype tag)
literal_clear lexical datatype (Some tag) s k = (
  IsUtf8-are_ascii (codes "type") refl,
  (IsUtf8-are_ascii (codes "literal") refl, ((refl, (refl, tt)), (IsUtf8-are_ascii (codes "value") refl, (utf8 lexical s, ((refl, tt), (IsUtf8-are_ascii (codes "xml:lang") refl, (utf8 tag k, (tt, tt)))))))),
)
literal_clear lexical datatype None s k = untagged_clear (is_xsd_string datatype) lexical datatype s (datatype_scalars (is_xsd_string datatype) datatype k)

pub term_clear : (t : Term) → IsRdfTerm t → IsClear (term_object t)
term_clear (Iri text) rdf = kind_clear (codes "uri") text (IsUtf8-are_ascii (codes "uri") refl) (front_scalars text (codes ">") rdf.scalars)
term_clear (Blank text) rdf = kind_clear (codes "bnode") text (IsUtf8-are_ascii (codes "bnode") refl) rdf.scalars
term_clear (Lit l) rdf = literal_clear l.lexical l.datatype l.tag (lexical_scalars l rdf.scalars) (suffix_scalars l rdf.scalars)

-- and nests no deeper than by itself
untagged_depth : (b : Bool) (lexical datatype : List ℕ)
    → tree.depth (outline (cond b (object (type_and_value (codes "literal") lexical no_members)) (object (member (codes "datatype") (string (encode_utf8_all datatype)) (type_and_value (codes "literal") lexical no_members))))) ≤ 1
untagged_depth true lexical datatype = omega arith
untagged_depth false lexical datatype = omega arith

literal_depth : (lexical datatype : List ℕ) (tag : Option (List ℕ)) → tree.depth (outline (literal_object lexical datatype tag)) ≤ 1
literal_depth lexical datatype (Some tag) = omega arith
literal_depth lexical datatype None = untagged_depth (is_xsd_string datatype) lexical datatype

pub term_depth : (t : Term) → tree.depth (outline (term_object t)) ≤ 1
term_depth (Iri text) = omega arith
term_depth (Blank text) = omega arith
term_depth (Lit l) = literal_depth l.lexical l.datatype l.tag
