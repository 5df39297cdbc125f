-- Which kinds of tokens begin alike, and which of two is then the shorter.
use Rattle.std.proofs.Common.{◌≡◌, refl, ℕ, Bool, true, false, not, ◌==◌, ◌||◌, ◌<◌, List, [], ◌∷◌, ◌++◌, length, None, Some, ⊎_elim, sym, ◌∙◌, ap, arith, length-append, codes}
use Rattle.std.specs.List.{list_all}
use Rattle.bye_terms.specs.Characters.{is_digit}
use Rattle.bye_terms.specs.Names.{is_name}
use Rattle.bye_terms.proofs.Tests.{one_part, not_both}
use Rattle.bye_lex.specs.Marks.{TagToken}
use Rattle.bye_lex.specs.Numbers.{is_sign}
use Rattle.bye_lex.specs.Strings.{StringToken}
use Rattle.bye_lex.specs.declared.number.Number.{Number}
use Rattle.bye_lex.specs.declared.style.Style.TheVariants.{Query}
use Rattle.bye_lex.proofs.Branches.{heads, eqb_same, never, none_some, or_first, or_second}
use Rattle.bye_lex.proofs.NumberExact.{begins_number, one_digit}
use Rattle.bye_tokens.specs.Fronts.{double}
use Rattle.bye_tokens.specs.Kinds.{or, seen, IriRefToken, VariableToken, NumberToken, PlainToken, Lexeme}
use Rattle.bye_tokens.specs.Signs.{SignToken}
use Rattle.bye_tokens.specs.declared.sign.Sign.{Sign}
use Rattle.bye_tokens.specs.declared.token.Token.{Token}
use Rattle.bye_tokens.specs.declared.token.Token.TheVariants.{IriRef, Variable, Quoted, Tagged, Numeral, Mark}
use Rattle.bye_tokens.proofs.ClassTests.{digit_no_base}
use Rattle.bye_tokens.proofs.IriFront.{iri_starts}
use Rattle.bye_tokens.proofs.Literals.{one_of, fails, none_of_them}
use Rattle.bye_tokens.proofs.Longest.{Shorter, Starts, apart, shorter_or}
use Rattle.bye_tokens.proofs.OtherFronts.{string_starts, tag_starts, number_starts}
use Rattle.bye_tokens.proofs.PlainFront.{plain_starts, begins_plain}
use Rattle.bye_tokens.proofs.SignFront.{One, Two, shape, sign_starts}
use Rattle.bye_tokens.proofs.VariableFront.{variable_starts}

-- the kinds, as they are seen
abbrev pub AString : List ℕ → Token → Type 0
AString = seen Quoted (StringToken Query)

abbrev pub AnIri : List ℕ → Token → Type 0
AnIri = seen IriRef IriRefToken

abbrev pub ATag : List ℕ → Token → Type 0
ATag = seen Tagged TagToken

abbrev pub AVariable : List ℕ → Token → Type 0
AVariable = seen Variable VariableToken

abbrev pub ANumber : List ℕ → Token → Type 0
ANumber = seen (λ (v : Number × List ℕ). Numeral v.0 v.1) NumberToken

abbrev pub AMark : List ℕ → Token → Type 0
AMark = seen Mark SignToken

abbrev begins_mark : ℕ → Bool
begins_mark = one_of (codes "{}().;,^&|!*_[]/+-?=<>")

starts_or : {V : Type 0} (L M : List ℕ → V → Type 0) (p q : ℕ → Bool) → Starts L p → Starts M q → Starts (or L M) (λ c. p c || q c)
starts_or L M p q l m = record {
  some = λ v h. ⊎_elim (λ (k : L [] v). l.some v k) (λ (k : M [] v). m.some v k) h;
  first = λ c t v h. ⊎_elim (λ (k : L (c ∷ t) v). or_first (p c) (q c) (l.first c t v k)) (λ (k : M (c ∷ t) v). or_second (p c) (q c) (m.first c t v k)) h;
}

-- a kind that begins with one of a few characters
by_first : {V : Type 0} (L M : List ℕ → V → Type 0) (ds : List ℕ) (q : ℕ → Bool) → Starts L (one_of ds) → Starts M q → list_all (λ d. not (q d)) ds ≡ true → Shorter L M
by_first L M ds q l m e = apart L M (one_of ds) q l m (fails q ds e)

-- signs that begin as other tokens do
iri_sign : Shorter AnIri AMark
iri_sign text own rest front more v w a h b k = ⊎_elim (λ (s : One k.0). one s) (λ (s : Two k.0). two h.0 s (sym (ap (λ o. o ++ rest) h.1.0) ∙ sym a ∙ b ∙ ap (λ f. f ++ more) (k.1 ∙ s.text)) (ap length h.1.0)) (shape k.0)
  where
    one : One k.0 → length front < length own
    one s = omega (arith, ap length (k.1 ∙ s.text), ap length h.1.0, length-append h.0 (62 ∷ []))

    two : (value : List ℕ) (s : Two k.0) → (60 ∷ (value ++ 62 ∷ [])) ++ rest ≡ s.first ∷ s.second ∷ more → length own ≡ length (60 ∷ (value ++ 62 ∷ [])) → length front < length own
    two [] s e n =
        let f = heads 60 s.first (62 ∷ rest) (s.second ∷ more) e in
        let g = heads 62 s.second rest more f.1 in
        none_some (ap (λ c. double c 62) f.0 ∙ ap (double s.first) g.0 ∙ s.is)
    two (x ∷ value) s e n = omega (arith, n, ap length (k.1 ∙ s.text), length-append value (62 ∷ []))

variable_sign : Shorter AVariable AMark
variable_sign text own rest front more v w a h b k = ⊎_elim (λ (s : One k.0). one h.0 (h.1.is) (ap length h.1.spelled) s) (λ (s : Two k.0). two s (heads h.1.mark s.first (h.0 ++ rest) (s.second ∷ more) (sym (ap (λ o. o ++ rest) h.1.spelled) ∙ sym a ∙ b ∙ ap (λ f. f ++ more) (k.1 ∙ s.text))).0) (shape k.0)
  where
    one : (name : List ℕ) → is_name name ≡ true → length own ≡ length (h.1.mark ∷ name) → One k.0 → length front < length own
    one [] is n s = cc
    one (c ∷ name) is n s = omega (arith, n, ap length (k.1 ∙ s.text))

    two : (s : Two k.0) → h.1.mark ≡ s.first → length front < length own
    two s e =
        ⊎_elim
        (λ (i : (h.1.mark == 63) ≡ true). none_some (ap (λ c. double c s.second) (sym (eqb_same h.1.mark 63 i) ∙ e) ∙ s.is))
        (λ (i : (h.1.mark == 36) ≡ true). none_some (ap (λ c. double c s.second) (sym (eqb_same h.1.mark 36 i) ∙ e) ∙ s.is))
        (one_part (h.1.mark == 63) (h.1.mark == 36) h.1.is_one)

-- no sign begins with a digit
no_digit : {P : Type 0} (c : ℕ) (t : List ℕ) (w : Token) → AMark (c ∷ t) w → is_digit c ≡ true → P
no_digit c t w k d = absurd (not_both (begins_mark c) (sign_starts.first c t w k) (none_of_them is_digit (codes "{}().;,^&|!*_[]/+-?=<>") refl c d))

-- nor does one of two characters begin as a number does
two_digit : (c d : ℕ) (s : Sign) → double c d ≡ Some s → begins_number c ≡ true → is_digit c ≡ true
two_digit c d s e b =
    ⊎_elim
    (λ (k : is_sign c ≡ true). ⊎_elim (λ (i : (c == 43) ≡ true). at 43 refl (eqb_same c 43 i)) (λ (i : (c == 45) ≡ true). at 45 refl (eqb_same c 45 i)) (one_part (c == 43) (c == 45) k))
    (λ (k : (is_digit c || c == 46) ≡ true). ⊎_elim (λ (i : is_digit c ≡ true). i) (λ (i : (c == 46) ≡ true). at 46 refl (eqb_same c 46 i)) (one_part (is_digit c) (c == 46) k))
    (one_part (is_sign c) (is_digit c || c == 46) b)
  where
    at : {P : Type 0} (x : ℕ) → double x d ≡ None → c ≡ x → P
    at x none same = none_some (sym none ∙ ap (λ c. double c d) (sym same) ∙ e)

-- a number that begins as a sign does is the longer
number_sign : Shorter ANumber AMark
number_sign text [] rest front more v w a h b k = absurd (number_starts.some v h)
number_sign text (c ∷ own) rest [] more v w a h b k = absurd (sign_starts.some w k)
number_sign text (c ∷ own) rest (d ∷ front) more v w a h b k = ⊎_elim (λ (s : One k.0). one own h s) (λ (s : Two k.0). two s) (shape k.0)
  where
    same : c ≡ d
    same = (heads c d (own ++ rest) (front ++ more) (sym a ∙ b)).0

    digit : is_digit c ≡ true → length (d ∷ front) < length (c ∷ own)
    digit i = no_digit d front w k (ap is_digit (sym same) ∙ i)

    one : (o : List ℕ) → ANumber (c ∷ o) v → One k.0 → length (d ∷ front) < length (c ∷ o)
    one [] n s = no_digit d front w k (ap is_digit (sym same) ∙ one_digit n.0.0 c n.1.0)
    one (x ∷ o) n s = omega (arith, ap length (k.1 ∙ s.text))

    two : Two k.0 → length (d ∷ front) < length (c ∷ own)
    two s = digit (two_digit c s.second k.0 (ap (λ c. double c s.second) (same ∙ (heads d s.first front (s.second ∷ []) (k.1 ∙ s.text)).0) ∙ s.is) (number_starts.first c own v h))

number_plain : (c : ℕ) → begins_number c ≡ true → begins_plain c ≡ false
number_plain c b =
    ⊎_elim
    (λ (k : is_sign c ≡ true). ⊎_elim (λ (i : (c == 43) ≡ true). ap begins_plain (eqb_same c 43 i)) (λ (i : (c == 45) ≡ true). ap begins_plain (eqb_same c 45 i)) (one_part (c == 43) (c == 45) k))
    (λ (k : (is_digit c || c == 46) ≡ true). ⊎_elim (λ (i : is_digit c ≡ true). digit i) (λ (i : (c == 46) ≡ true). ap begins_plain (eqb_same c 46 i)) (one_part (is_digit c) (c == 46) k))
    (one_part (is_sign c) (is_digit c || c == 46) b)
  where
    digit : is_digit c ≡ true → begins_plain c ≡ false
    digit i = (λ j. digit_no_base c i j || never is_digit 58 c refl i j)

-- what stands after each kind in their order
abbrev pub AfterNumber : List ℕ → Token → Type 0
AfterNumber = or PlainToken AMark

abbrev pub AfterVariable : List ℕ → Token → Type 0
AfterVariable = or ANumber AfterNumber

abbrev pub AfterTag : List ℕ → Token → Type 0
AfterTag = or AVariable AfterVariable

abbrev pub AfterIri : List ℕ → Token → Type 0
AfterIri = or ATag AfterTag

abbrev pub AfterString : List ℕ → Token → Type 0
AfterString = or AnIri AfterIri

number_start : Starts AfterNumber (λ c. begins_plain c || begins_mark c)
number_start = starts_or PlainToken AMark begins_plain begins_mark plain_starts sign_starts

variable_start : Starts AfterVariable (λ c. begins_number c || (begins_plain c || begins_mark c))
variable_start = starts_or ANumber AfterNumber begins_number (λ c. begins_plain c || begins_mark c) number_starts number_start

tag_start : Starts AfterTag (λ c. one_of (codes "?$") c || (begins_number c || (begins_plain c || begins_mark c)))
tag_start = starts_or AVariable AfterVariable (one_of (codes "?$")) (λ c. begins_number c || (begins_plain c || begins_mark c)) variable_starts variable_start

iri_start : Starts AfterIri (λ c. one_of (codes "@") c || (one_of (codes "?$") c || (begins_number c || (begins_plain c || begins_mark c))))
iri_start = starts_or ATag AfterTag (one_of (codes "@")) (λ c. one_of (codes "?$") c || (begins_number c || (begins_plain c || begins_mark c))) tag_starts tag_start

string_start : Starts AfterString (λ c. one_of (codes "<") c || (one_of (codes "@") c || (one_of (codes "?$") c || (begins_number c || (begins_plain c || begins_mark c)))))
string_start = starts_or AnIri AfterIri (one_of (codes "<")) (λ c. one_of (codes "@") c || (one_of (codes "?$") c || (begins_number c || (begins_plain c || begins_mark c)))) iri_starts iri_start

pub plain_first : Shorter PlainToken AMark
plain_first = apart PlainToken AMark begins_plain begins_mark plain_starts sign_starts (none_of_them begins_plain (codes "{}().;,^&|!*_[]/+-?=<>") refl)

pub number_first : Shorter ANumber AfterNumber
number_first = shorter_or ANumber PlainToken AMark (apart ANumber PlainToken begins_number begins_plain number_starts plain_starts number_plain) number_sign

pub variable_first : Shorter AVariable AfterVariable
variable_first =
    shorter_or AVariable ANumber AfterNumber (by_first AVariable ANumber (codes "?$") begins_number variable_starts number_starts refl)
    (shorter_or AVariable PlainToken AMark (by_first AVariable PlainToken (codes "?$") begins_plain variable_starts plain_starts refl) variable_sign)

pub tag_first : Shorter ATag AfterTag
tag_first = by_first ATag AfterTag (codes "@") (λ c. one_of (codes "?$") c || (begins_number c || (begins_plain c || begins_mark c))) tag_starts tag_start refl

pub iri_first : Shorter AnIri AfterIri
iri_first =
    shorter_or AnIri ATag AfterTag (by_first AnIri ATag (codes "<") (one_of (codes "@")) iri_starts tag_starts refl)
    (shorter_or AnIri AVariable AfterVariable (by_first AnIri AVariable (codes "<") (one_of (codes "?$")) iri_starts variable_starts refl)
    (shorter_or AnIri ANumber AfterNumber (by_first AnIri ANumber (codes "<") begins_number iri_starts number_starts refl)
    (shorter_or AnIri PlainToken AMark (by_first AnIri PlainToken (codes "<") begins_plain iri_starts plain_starts refl) iri_sign)))

pub string_first : Shorter AString AfterString
string_first = by_first AString AfterString (codes "\"'") (λ c. one_of (codes "<") c || (one_of (codes "@") c || (one_of (codes "?$") c || (begins_number c || (begins_plain c || begins_mark c))))) string_starts string_start refl

-- a token is some text
pub some_lexeme : (v : Token) → Lexeme [] v → ⊥
some_lexeme v h = (starts_or AString AfterString (one_of (codes "\"'")) (λ c. one_of (codes "<") c || (one_of (codes "@") c || (one_of (codes "?$") c || (begins_number c || (begins_plain c || begins_mark c))))) string_starts string_start).some v h
