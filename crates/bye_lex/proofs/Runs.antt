-- A run of bytes of a class is one of characters, and a machine goes over it.
use Rattle.std.proofs.Common.{◌≡◌, refl, ℕ, ◌≤◌, Bool, true, false, not, ◌==◌, ◌&&◌, ◌||◌, nat_lt, List, [], ◌∷◌, ◌++◌, Some, take, drop, sym, ◌∙◌, ap, arith}
use Rattle.std.specs.Char.{encode_utf8}
use Rattle.std.specs.List.{list_all}
use Rattle.std.specs.Str.{chars, IsUtf8, encode_utf8_all, IsCharBoundary}
use Rattle.std.proofs.lemmas.Bool.{ltb-true}
use Rattle.std.proofs.lemmas.Bool.Decides.{nat_tests}
use Rattle.std.proofs.lemmas.List.{append-nil, take-append-drop}
use Rattle.std.proofs.lemmas.Str.{encode_ascii, encodes-chars, IsUtf8-take, chars-append, chars-nil}
use Rattle.bye_terms.specs.Characters.{is_iri_char}
use Rattle.bye_terms.specs.Names.{is_iri}
use Rattle.bye_terms.proofs.Tests.{both_parts, both}
use Rattle.bye_lex.specs.IriSteps as iri
use Rattle.bye_lex.specs.StringSteps as string
use Rattle.bye_lex.specs.Runs.{Cuts, is_plain}
use Rattle.bye_lex.specs.declared.iri.IriAt.TheVariants.{Body}
use Rattle.bye_lex.specs.Iris.{has_numbers}
use Rattle.bye_lex.specs.Strings.{mark_of, may_stand, is_tsv}
use Rattle.bye_lex.specs.declared.quoting.Quote.{Quote}
use Rattle.bye_lex.specs.declared.quoting.Quote.TheVariants.{Double, Single}
use Rattle.bye_lex.specs.declared.quoting.Quoting.{Quoting}
use Rattle.bye_lex.specs.declared.quoting.Quoting.TheVariants.{Short, Long}
use Rattle.bye_lex.specs.declared.string.StringAt.TheVariants.{In}
use Rattle.bye_lex.specs.declared.style.Style.{Style}
use Rattle.bye_lex.proofs.Branches.{when, unless, never, and_false, snoc}
use Rattle.bye_lex.proofs.Longer.{iri_longer}

all_append : (p : ℕ → Bool) (a b : List ℕ) → list_all p (a ++ b) ≡ true → (list_all p a ≡ true) × (list_all p b ≡ true)
all_append p [] b e = (refl, e)
all_append p (c ∷ a) b e =
    let w = both_parts (p c) (list_all p (a ++ b)) e in
    let k = all_append p a b w.1 in
    (both (p c) (list_all p a) w.0 k.0, k.1)

-- the bytes of a character are of the class, so it is
one_char : (p : ℕ → Bool) → ((c : ℕ) → 128 ≤ c → p c ≡ true) → (c : ℕ) → list_all p (encode_utf8 c) ≡ true → p c ≡ true
one_char p wide c e =
    elim (nat_lt c 128) as (λ b. nat_lt c 128 ≡ b → p c ≡ true) [
      | true ↦ λ is. (both_parts (p c) true (ap (list_all p) (sym (encode_ascii c (ltb-true c 128 is))) ∙ e)).0
      | false ↦ λ is. wide c (grind (arith, nat_tests))
    ] refl

all_chars : (p : ℕ → Bool) → ((c : ℕ) → 128 ≤ c → p c ≡ true) → (cs : List ℕ) → list_all p (encode_utf8_all cs) ≡ true → list_all p cs ≡ true
all_chars p wide [] e = refl
all_chars p wide (c ∷ cs) e =
    let w = all_append p (encode_utf8 c) (encode_utf8_all cs) e in
    both (p c) (list_all p cs) (one_char p wide c w.0) (all_chars p wide cs w.1)

-- a text that is cut between characters
parted : (bytes text front rest : List ℕ) (n : ℕ) → chars bytes ≡ text → IsUtf8 bytes → IsCharBoundary bytes n → front ≡ take n bytes → rest ≡ drop n bytes → text ≡ chars front ++ chars rest
parted bytes text front rest n is u at e f =
    sym is ∙ ap chars (sym (take-append-drop n bytes)) ∙ chars-append (take n bytes) (drop n bytes) (IsUtf8-take bytes n u at) ∙ (λ i. chars (sym e i) ++ chars (sym f i))

pub cut : (p : ℕ → Bool) → ((c : ℕ) → 128 ≤ c → p c ≡ true) → (bytes text front rest : List ℕ) (n : ℕ) → chars bytes ≡ text → IsUtf8 bytes → IsCharBoundary bytes n
    → list_all p (take n bytes) ≡ true → front ≡ take n bytes → rest ≡ drop n bytes → Cuts p text (chars front) (chars rest)
cut p wide bytes text front rest n is u at all e f =
    record {
      parts = parted bytes text front rest n is u at e f;
      all = all_chars p wide (chars front) (ap (list_all p) (ap (λ b. encode_utf8_all (chars b)) e ∙ encodes-chars (take n bytes) (IsUtf8-take bytes n u at)) ∙ all);
    }

-- nothing is cut
pub none_cut : (p : ℕ → Bool) (text : List ℕ) → Cuts p text (chars []) text
none_cut p text = record { parts = ap (λ t. t ++ text) (sym chars-nil); all = ap (list_all p) chars-nil }

-- an IRI with more characters of an IRI is one
pub iri_run : (t more : List ℕ) → is_iri t ≡ true → list_all is_iri_char more ≡ true → is_iri (t ++ more) ≡ true
iri_run t [] e f = ap is_iri (append-nil t) ∙ e
iri_run t (c ∷ more) e f =
    let k = both_parts _ _ f in
    ap is_iri (snoc t more c) ∙ iri_run (t ++ c ∷ []) more (iri_longer t c e k.0) k.1

-- one character of a run
pub body_step : (style : Style) (text : List ℕ) (c : ℕ) → is_iri_char c ≡ true → iri.step style (Body text) c ≡ Some (Body (text ++ c ∷ []))
body_step style text c e =
    unless _ _ _ _ (never is_iri_char 62 c refl e) (unless _ _ _ _ (ap (λ b. b && has_numbers style) (never is_iri_char 92 c refl e)) (when _ _ _ e))

-- it may stand in any string
may_short : (style : Style) (m c : ℕ) → (c == m) ≡ false → (c == 92) ≡ false → (c == 10) ≡ false → (c == 13) ≡ false → (c == 9) ≡ false
    → not (c == m || c == 92 || c == 10 || c == 13 || (is_tsv style && c == 9)) ≡ true
may_short style m c a b d e f = (λ i. not (a i || b i || d i || e i || (is_tsv style && f i))) ∙ ap not (and_false (is_tsv style) false refl)

may_long : (m c : ℕ) → (c == m) ≡ false → (c == 92) ≡ false → not (c == m || c == 92) ≡ true
may_long m c a b = λ i. not (a i || b i)

-- none of the characters that end a run is in it
not_mark : (q : Quote) (c : ℕ) → is_plain c ≡ true → (c == mark_of q) ≡ false
not_mark Double c e = never is_plain 34 c refl e
not_mark Single c e = never is_plain 39 c refl e

may_be : (style : Style) (k : Quoting) (c : ℕ) → is_plain c ≡ true → may_stand style k c ≡ true
may_be style (Short q) c e = may_short style (mark_of q) c (not_mark q c e) (never is_plain 92 c refl e) (never is_plain 10 c refl e) (never is_plain 13 c refl e) (never is_plain 9 c refl e)
may_be style (Long q) c e = may_long (mark_of q) c (not_mark q c e) (never is_plain 92 c refl e)

inside_step : (style : Style) (k : Quoting) (text : List ℕ) (c : ℕ) → is_plain c ≡ true → string.inside style k text c ≡ Some (In k (text ++ c ∷ []))
inside_step style k text c e = unless _ _ _ _ (never is_plain 92 c refl e) (when _ _ _ (may_be style k c e))

pub plain_step : (style : Style) (k : Quoting) (text : List ℕ) (c : ℕ) → is_plain c ≡ true → string.step style (In k text) c ≡ Some (In k (text ++ c ∷ []))
plain_step style (Short q) text c e = unless _ _ _ _ (not_mark q c e) (inside_step style (Short q) text c e)
plain_step style (Long q) text c e = unless _ _ _ _ (not_mark q c e) (inside_step style (Long q) text c e)
