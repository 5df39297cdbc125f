-- Escapes of characters, and of the bytes that spell them.
use Rattle.std.proofs.Common.{◌≡◌, refl, ℕ, ◌<◌, ◌≤◌, suc, Bool, true, false, cond, ◌==◌, List, [], ◌∷◌, ◌++◌, length, get_or, codes, sym, ◌∙◌, ap, arith, ◌⊎◌, ⊎_elim, Some, None, append_assoc}
use Rattle.std.specs.Str.{encode_utf8_all, bytes_eq}
use Rattle.std.specs.Char.{encode_utf8}
use Rattle.std.proofs.lemmas.Str.{encodes-append, encode_ascii, inside_one, encodes-IsAscii, encodes_same}
use Rattle.std.proofs.lemmas.List.{append-nil}
use Rattle.std.proofs.lemmas.List.Concat.{flat_map-append}
use Rattle.std.proofs.lemmas.Bool.{cases_lt}
use Rattle.std.proofs.lemmas.Bool.Decides.{nat_tests}
use Rattle.std.proofs.lemmas.Slice.Eq.{bytes_eq-Decides}
use Rattle.bye_terms.specs.Spellings.{escaped_char, escaped, suffix_text, literal_bytes}
use Rattle.bye_terms.specs.Literals.{LiteralValue, is_xsd_string}
use Rattle.bye_terms.specs.Ascii.{is_ascii}
use Rattle.bye_terms.proofs.Texts.{ascii_at}

high_or_low : (c : ℕ) → (c < 128) ⊎ (128 ≤ c)
high_or_low c = cases_lt c 128

-- beyond ASCII nothing is escaped
high_char : (c : ℕ) → 128 ≤ c → escaped_char c ≡ c ∷ []
high_char c h = grind (arith, nat_tests)

high_bytes : (bytes : List ℕ) → ((k : ℕ) → k < length bytes → 128 ≤ get_or bytes k 0) → escaped bytes ≡ bytes
high_bytes [] h = refl
high_bytes (b ∷ bytes) h = (λ i. high_char b (h 0 (omega arith)) i ++ high_bytes bytes (λ k l. h (suc k) (omega arith)) i)

two_chars : (a b : ℕ) → a < 128 → b < 128 → encode_utf8_all (a ∷ b ∷ []) ≡ a ∷ b ∷ []
two_chars a b l m = (λ i. encode_ascii a l i ++ (encode_ascii b m i ++ []))

low_char : (a b d e : Bool) (c : ℕ) → c < 128
    → encode_utf8_all (cond a (codes "\\\"") (cond b (codes "\\\\") (cond d (codes "\\n") (cond e (codes "\\r") (c ∷ [])))))
    ≡ cond a (codes "\\\"") (cond b (codes "\\\\") (cond d (codes "\\n") (cond e (codes "\\r") (c ∷ [])))) ++ []
low_char true b d e c l = two_chars 92 34 (omega arith) (omega arith)
low_char false true d e c l = two_chars 92 92 (omega arith) (omega arith)
low_char false false true e c l = two_chars 92 110 (omega arith) (omega arith)
low_char false false false true c l = two_chars 92 114 (omega arith) (omega arith)
low_char false false false false c l = ap (λ xs. xs ++ []) (encode_ascii c l)

escaped_one : (c : ℕ) → encode_utf8_all (escaped_char c) ≡ escaped (encode_utf8 c)
escaped_one c =
    ⊎_elim
    (λ l. low_char (c == 34) (c == 92) (c == 10) (c == 13) c l ∙ sym (ap escaped (encode_ascii c l)))
    (λ h. ap encode_utf8_all (high_char c h) ∙ append-nil (encode_utf8 c)
    ∙ sym (high_bytes (encode_utf8 c) (λ k l. inside_high c h k l)))
    (high_or_low c)
  where
    inside_high : (c : ℕ) → 128 ≤ c → (k : ℕ) → k < length (encode_utf8 c) → 128 ≤ get_or (encode_utf8 c) k 0
    inside_high c h k l =
        ⊎_elim (λ low. absurd (let e = inside_one c [] (encode_utf8 c) k (sym (append-nil (encode_utf8 c))) l low in omega arith)) (λ high. high)
        (high_or_low (get_or (encode_utf8 c) k 0))

-- to escape a text and then spell it in UTF-8 is to escape its bytes
pub escaped_encodes : (text : List ℕ) → encode_utf8_all (escaped text) ≡ escaped (encode_utf8_all text)
escaped_encodes [] = refl
escaped_encodes (c ∷ text) =
    encodes-append (escaped_char c) (escaped text)
    ∙ (λ i. escaped_one c i ++ escaped_encodes text i)
    ∙ sym (flat_map-append escaped_char (encode_utf8 c) (encode_utf8_all text))

-- the bytes that spell a text of ASCII alone are that text
ascii_encodes : (text : List ℕ) → is_ascii text ≡ true → encode_utf8_all text ≡ text
ascii_encodes text e = encodes-IsAscii text (ascii_at text e)

same_tests : (a b : Bool) → (a ≡ true → b ≡ true) → (b ≡ true → a ≡ true) → a ≡ b
same_tests true b f g = sym (f refl)
same_tests false true f g = g refl
same_tests false false f g = refl

-- a text is compared with one of ASCII by its bytes
pub same_as_ascii : (text name : List ℕ) → is_ascii name ≡ true → bytes_eq (encode_utf8_all text) name ≡ bytes_eq text name
same_as_ascii text name a =
    let e = ascii_encodes name a in
    same_tests _ _
    (λ h. (bytes_eq-Decides text name).1 (encodes_same text name ((bytes_eq-Decides _ _).0 h ∙ sym e)))
    (λ h. (bytes_eq-Decides _ _).1 (ap encode_utf8_all ((bytes_eq-Decides text name).0 h) ∙ e))

-- a text between two of ASCII
pub between : (front text back : List ℕ) → is_ascii front ≡ true → is_ascii back ≡ true
    → encode_utf8_all (front ++ text ++ back) ≡ front ++ encode_utf8_all text ++ back
between front text back a b =
    encodes-append (front ++ text) back ∙ (λ i. encodes-append front text i ++ ascii_encodes back b i)
    ∙ (λ i. ascii_encodes front a i ++ encode_utf8_all text ++ back)

-- a quoted text with what follows it
pub quoted_encodes : (lexical middle text last : List ℕ) → is_ascii middle ≡ true → is_ascii last ≡ true
    → encode_utf8_all (codes "\"" ++ escaped lexical ++ middle ++ text ++ last) ≡ codes "\"" ++ escaped (encode_utf8_all lexical) ++ middle ++ encode_utf8_all text ++ last
quoted_encodes lexical middle text last a b =
    encodes-append (codes "\"" ++ escaped lexical ++ middle ++ text) last
    ∙ (λ i. encodes-append (codes "\"" ++ escaped lexical ++ middle) text i ++ ascii_encodes last b i)
    ∙ (λ i. encodes-append (codes "\"" ++ escaped lexical) middle i ++ encode_utf8_all text ++ last)
    ∙ (λ i. encodes-append (codes "\"") (escaped lexical) i ++ ascii_encodes middle a i ++ encode_utf8_all text ++ last)
    ∙ (λ i. ascii_encodes (codes "\"") refl i ++ escaped_encodes lexical i ++ middle ++ encode_utf8_all text ++ last)

-- the three forms of a literal
pub tagged_bytes : (l : LiteralValue) (tag text : List ℕ) → l.tag ≡ Some tag → text ≡ encode_utf8_all tag
    → codes "\"" ++ escaped (encode_utf8_all l.lexical) ++ codes "\"@" ++ text ++ [] ≡ literal_bytes l
tagged_bytes l tag text e is =
    (λ i. codes "\"" ++ escaped (encode_utf8_all l.lexical) ++ codes "\"@" ++ is i ++ [])
    ∙ sym (quoted_encodes l.lexical (codes "\"@") tag [] refl refl)
    ∙ ap encode_utf8_all (regrouped (codes "\"") (escaped l.lexical) (codes "\"") (codes "@") tag [])
    ∙ (λ i. encode_utf8_all (codes "\"" ++ escaped l.lexical ++ codes "\"" ++ tagged i))
  where
    regrouped : (a b c d e f : List ℕ) → a ++ b ++ (c ++ d) ++ e ++ f ≡ a ++ b ++ c ++ (d ++ e ++ f)
    regrouped a b c d e f = simp append_assoc

    tagged : codes "@" ++ tag ++ [] ≡ suffix_text l.tag l.datatype
    tagged = append-nil (codes "@" ++ tag) ∙ sym (ap (λ t. suffix_text t l.datatype) e)

pub plain_bytes : (l : LiteralValue) → l.tag ≡ None → is_xsd_string l.datatype ≡ true
    → codes "\"" ++ escaped (encode_utf8_all l.lexical) ++ codes "\"" ++ [] ++ [] ≡ literal_bytes l
plain_bytes l e string =
    sym (quoted_encodes l.lexical (codes "\"") [] [] refl refl)
    ∙ ap encode_utf8_all (append-nil (codes "\"" ++ escaped l.lexical ++ codes "\"" ++ []))
    ∙ (λ i. encode_utf8_all (codes "\"" ++ escaped l.lexical ++ codes "\"" ++ plain i))
  where
    plain : [] ≡ suffix_text l.tag l.datatype
    plain = sym (ap (λ t. suffix_text t l.datatype) e ∙ ap (λ b. cond b [] (codes "^^<" ++ l.datatype ++ codes ">")) string)

pub typed_bytes : (l : LiteralValue) (text : List ℕ) → l.tag ≡ None → is_xsd_string l.datatype ≡ false → text ≡ encode_utf8_all l.datatype
    → codes "\"" ++ escaped (encode_utf8_all l.lexical) ++ codes "\"^^<" ++ text ++ codes ">" ≡ literal_bytes l
typed_bytes l text e other is =
    (λ i. codes "\"" ++ escaped (encode_utf8_all l.lexical) ++ codes "\"^^<" ++ is i ++ codes ">")
    ∙ sym (quoted_encodes l.lexical (codes "\"^^<") l.datatype (codes ">") refl refl)
    ∙ ap encode_utf8_all (regrouped (codes "\"") (escaped l.lexical) (codes "\"") (codes "^^<") l.datatype (codes ">"))
    ∙ (λ i. encode_utf8_all (codes "\"" ++ escaped l.lexical ++ codes "\"" ++ typed i))
  where
    regrouped : (a b c d e f : List ℕ) → a ++ b ++ (c ++ d) ++ e ++ f ≡ a ++ b ++ c ++ (d ++ e ++ f)
    regrouped a b c d e f = simp append_assoc

    typed : codes "^^<" ++ l.datatype ++ codes ">" ≡ suffix_text l.tag l.datatype
    typed = sym (ap (λ t. suffix_text t l.datatype) e ∙ ap (λ b. cond b [] (codes "^^<" ++ l.datatype ++ codes ">")) other)
