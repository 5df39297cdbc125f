-- What is written of a term is its tokens.
use Rattle.std.proofs.Common.{◌≡◌, refl, ℕ, ◌<◌, Bool, true, false, cond, not, ◌==◌, ◌&&◌, ◌||◌, List, [], ◌∷◌, ◌++◌, Option, Some, None, inl, inr, ⊎_elim, length, flat_map, codes, sym, ◌∙◌, ap, subst, append_assoc, arith}
use Rattle.std.specs.List.{list_all}
use Rattle.std.proofs.lemmas.Slice.Eq.{bytes_eq-Decides}
use Rattle.bye_terms.specs.Characters.{is_letter, is_scheme_char, is_iri_char}
use Rattle.bye_terms.specs.Names.{is_after_letter, is_iri}
use Rattle.bye_terms.specs.Literals.{xsd_string, is_xsd_string}
use Rattle.bye_terms.specs.Spellings.{escaped_char, suffix_text}
use Rattle.bye_terms.specs.declared.term.Term.TheVariants.{Iri, Blank, Lit}
use Rattle.bye_terms.proofs.Tests.{both_parts, one_part}
use Rattle.bye_lex.specs.Languages.{Token}
use Rattle.bye_lex.specs.Escapes.{Piece}
use Rattle.bye_lex.specs.Iris.{IriToken, IriScheme, IriTail}
use Rattle.bye_lex.specs.Strings.{mark_of, has_quoting, is_tsv, IsStringPiece, StringTail, StringToken}
use Rattle.bye_lex.specs.IriSteps as iri
use Rattle.bye_lex.specs.StringSteps as string
use Rattle.bye_lex.specs.Written.{escaped_in}
use Rattle.bye_terms.specs.Valid.{IsTagged}
use Rattle.bye_lex.specs.ReadingBack.{NotLonger, SuffixText, quoted, EndsLiteral, ReadsBack}
use Rattle.bye_lex.specs.declared.style.Style.{Style}
use Rattle.bye_lex.specs.declared.style.Style.TheVariants.{Triples, Tsv, Query}
use Rattle.bye_lex.specs.declared.quoting.Quote.{Quote}
use Rattle.bye_lex.specs.declared.quoting.Quote.TheVariants.{Double, Single}
use Rattle.bye_lex.specs.declared.quoting.Quoting.TheVariants.{Short}
use Rattle.bye_lex.specs.declared.iri.IriAt.{IriAt}
use Rattle.bye_lex.specs.declared.iri.IriAt.TheVariants as iris
use Rattle.bye_lex.specs.declared.string.StringAt.{StringAt}
use Rattle.bye_lex.specs.declared.string.StringAt.TheVariants as strings
use Rattle.bye_lex.proofs.Branches.{heads, eqb_same, some_same, none_some}
use Rattle.bye_lex.proofs.Scans.{Exact}
use Rattle.bye_lex.proofs.IriMeaning as iri_meaning
use Rattle.bye_lex.proofs.IriExact.{iri_exact}
use Rattle.bye_lex.proofs.StringMeaning as string_meaning
use Rattle.bye_lex.proofs.StringMeaning.{Beyond}
use Rattle.bye_lex.proofs.StringExact.{string_exact}
use Rattle.bye_lex.proofs.StringTails.{tail_end, spell}

-- where a text in the rule goes on in the rule, a state that may end goes on
module _ {S V : Type 0} (Left : S → List ℕ → V → Type 0) (step : S → ℕ → Option S) (final : S → Option V) (x : Exact Left step final) where
  goes_on : (s : S) (t more : List ℕ) (v w : V) → Left s t v → Left s (t ++ more) w → (n : S) × (final n ≡ Some v) × Left n more w
  goes_on s [] more v w h k = (s, x.ends s v h, k)
  goes_on s (c ∷ t) more v w h k =
      let m = x.forth s c t v h in
      let n = x.forth s c (t ++ more) w k in
      let same = some_same (sym n.1 ∙ m.1) in
      goes_on m.0 t more v w m.2 (subst (λ n. Left n (t ++ more) w) same n.2)

-- no IRI goes on
iri_done : (x : Style) (n : IriAt) (v w more : List ℕ) → iri.final n ≡ Some v → 0 < length more → iri_meaning.Left x n more w → ⊥
iri_done x iris.Start v w more e some h = none_some e
iri_done x iris.Opened v w more e some h = none_some e
iri_done x (iris.Scheme out) v w more e some h = none_some e
iri_done x (iris.Body out) v w more e some h = none_some e
iri_done x (iris.Backslash out) v w more e some h = none_some e
iri_done x (iris.Escape at out) v w more e some h = none_some e
iri_done x (iris.Done out) v w more e some h = omega (arith, some, ap length h.0)

iri_alone : (x : Style) (text value rest : List ℕ) → IriToken x text value → Token (IriToken x) text rest value
iri_alone x text value rest h = record {
  is = h;
  longest = λ more after other parts some k.
      let g = goes_on (iri_meaning.Left x) (iri.step x) iri.final (iri_exact x) iris.Start text more value other h k in
      iri_done x g.0 value other more g.1 some g.2;
}

-- a string goes on at a quote alone
string_done : (x : Style) (n : StringAt) (v w : List ℕ) (c : ℕ) (more : List ℕ) → string.final n ≡ Some v → ((q : Quote) → c ≡ mark_of q → ⊥) → string_meaning.Left x n (c ∷ more) w → ⊥
string_done x strings.Start v w c more e other h = none_some e
string_done x (strings.Opened q) v w c more e other h = none_some e
string_done x (strings.Empty q) v w c more e other h =
    ⊎_elim
    (λ (h : (c ∷ more ≡ []) × (w ≡ [])). let f = h.0 in cc)
    (λ (h : Beyond x q (mark_of q ∷ []) (c ∷ more) w). other q (heads c (mark_of q) more h.tail h.spelled).0)
    h
string_done x (strings.In k out) v w c more e other h = none_some e
string_done x (strings.Backslash k out) v w c more e other h = none_some e
string_done x (strings.Escape k at out) v w c more e other h = none_some e
string_done x (strings.OneQuote q out) v w c more e other h = none_some e
string_done x (strings.TwoQuotes q out) v w c more e other h = none_some e
string_done x (strings.Done out) v w c more e other h = let f = h.0 in cc

string_before : (x : Style) (text value : List ℕ) (c : ℕ) (rest : List ℕ) → ((q : Quote) → c ≡ mark_of q → ⊥) → StringToken x text value → NotLonger (StringToken x) text (c ∷ rest)
string_before x text value c rest other h [] after w parts some k = omega (arith, some)
string_before x text value c rest other h (d ∷ more) after w parts some k =
    let same = heads c d rest (more ++ after) parts in
    let g = goes_on (string_meaning.Left x) (string.step x) string.final (string_exact x) strings.Start text (d ∷ more) value w h k in
    string_done x g.0 value w d more g.1 (λ q e. other q (same.0 ∙ e)) g.2

no_sign : (q : Quote) → ◌≡◌ {A = ℕ} 64 (mark_of q) → ⊥
no_sign Double e = omega (arith, e)
no_sign Single e = omega (arith, e)

no_caret : (q : Quote) → ◌≡◌ {A = ℕ} 94 (mark_of q) → ⊥
no_caret Double e = omega (arith, e)
no_caret Single e = omega (arith, e)

-- an IRI as it is written
iri_chars : (x : Style) (text : List ℕ) → list_all is_iri_char text ≡ true → IriTail x (text ++ 62 ∷ []) text
iri_chars x [] e = record { pieces = []; each = tt; spelled = refl; stands = refl }
iri_chars x (c ∷ cs) e =
    let k = both_parts (is_iri_char c) _ e in
    let h = iri_chars x cs k.1 in
    record {
      pieces = record { text = c ∷ []; char = c } ∷ h.pieces;
      each = (record { spelled = inl (record { text = refl }); allowed = k.0 }, h.each);
      spelled = ap (λ t. c ∷ t) h.spelled;
      stands = ap (λ t. c ∷ t) h.stands;
    }

iri_scheme : (x : Style) (text : List ℕ) → is_after_letter text ≡ true → IriScheme x (text ++ 62 ∷ []) text
iri_scheme x [] e = absurd (differ e)
  where
    differ : false ≡ true → ⊥
    differ e = cc
iri_scheme x (c ∷ cs) e =
    ⊎_elim
    (λ e. let k = both_parts (c == 58) _ e in let same = eqb_same c 58 k.0 in
    record { scheme = []; each = tt; tail = cs ++ 62 ∷ []; tail_value = cs; after = iri_chars x cs k.1; spelled = ap (λ c. c ∷ cs ++ 62 ∷ []) same; stands = ap (λ c. c ∷ cs) same })
    (λ e. let k = both_parts (is_scheme_char c) _ e in let h = iri_scheme x cs k.1 in
    record { scheme = c ∷ h.scheme; each = (k.0, h.each); tail = h.tail; tail_value = h.tail_value; after = h.after; spelled = ap (λ t. c ∷ t) h.spelled; stands = ap (λ t. c ∷ t) h.stands })
    (one_part (c == 58 && list_all is_iri_char cs) (is_scheme_char c && is_after_letter cs) e)

iri_token : (x : Style) (text : List ℕ) → is_iri text ≡ true → IriToken x (codes "<" ++ text ++ codes ">") text
iri_token x [] e = absurd (differ e)
  where
    differ : false ≡ true → ⊥
    differ e = cc
iri_token x (c ∷ cs) e =
    let k = both_parts (is_letter c) _ e in
    record { rest = c ∷ cs ++ 62 ∷ []; after = record { first = c; letter = k.0; rest = cs ++ 62 ∷ []; rest_value = cs; after = iri_scheme x cs k.1; spelled = refl; stands = refl }; spelled = refl }

-- a character of a string as it is written
all_false : (a b c d e : Bool) → a ≡ false → b ≡ false → c ≡ false → d ≡ false → e ≡ false → not (a || b || c || d || e) ≡ true
all_false true b c d e f g h i j = cc
all_false false true c d e f g h i j = cc
all_false false false true d e f g h i j = cc
all_false false false false true e f g h i j = cc
all_false false false false false true f g h i j = cc
all_false false false false false false f g h i j = refl

by_tests : (x : Style) (c : ℕ) (a b d f : Bool) → (c == 34) ≡ a → (c == 92) ≡ b → (c == 10) ≡ d → (c == 13) ≡ f → (is_tsv x && c == 9) ≡ false
    → IsStringPiece x (Short Double) (record { text = cond a (codes "\\\"") (cond b (codes "\\\\") (cond d (codes "\\n") (cond f (codes "\\r") (c ∷ [])))); char = c })
by_tests x c true b d f ea eb ed ef eg = inr (inl (record { mark = 34; text = refl; char = ap Some (sym (eqb_same c 34 ea)) }))
by_tests x c false true d f ea eb ed ef eg = inr (inl (record { mark = 92; text = refl; char = ap Some (sym (eqb_same c 92 eb)) }))
by_tests x c false false true f ea eb ed ef eg = inr (inl (record { mark = 110; text = refl; char = ap Some (sym (eqb_same c 10 ed)) }))
by_tests x c false false false true ea eb ed ef eg = inr (inl (record { mark = 114; text = refl; char = ap Some (sym (eqb_same c 13 ef)) }))
by_tests x c false false false false ea eb ed ef eg = inl (record { text = refl }, all_false (c == 34) (c == 92) (c == 10) (c == 13) (is_tsv x && c == 9) ea eb ed ef eg)

written_char : (x : Style) (c : ℕ) → IsStringPiece x (Short Double) (record { text = escaped_in x c; char = c })
written_char Triples c = by_tests Triples c (c == 34) (c == 92) (c == 10) (c == 13) refl refl refl refl refl
written_char Query c = by_tests Query c (c == 34) (c == 92) (c == 10) (c == 13) refl refl refl refl refl
written_char Tsv c =
    elim (c == 9) as (λ b. (c == 9) ≡ b → IsStringPiece Tsv (Short Double) (record { text = cond b (codes "\\t") (escaped_char c); char = c })) [
      | true ↦ λ e. inr (inl (record { mark = 116; text = refl; char = ap Some (sym (eqb_same c 9 e)) }))
      | false ↦ λ e. by_tests Tsv c (c == 34) (c == 92) (c == 10) (c == 13) refl refl refl refl e
    ] refl

string_chars : (x : Style) (text : List ℕ) → StringTail x (Short Double) (flat_map (escaped_in x) text ++ 34 ∷ []) text
string_chars x [] = tail_end x (Short Double)
string_chars x (c ∷ cs) =
    let p : Piece = record { text = escaped_in x c; char = c } in
    subst (λ t. StringTail x (Short Double) t (c ∷ cs)) (sym (append_assoc (escaped_in x c) (flat_map (escaped_in x) cs) (34 ∷ [])))
    (spell x (Short Double) p (flat_map (escaped_in x) cs ++ 34 ∷ []) cs (written_char x c) (string_chars x cs))

has_double : (x : Style) → has_quoting x (Short Double) ≡ true
has_double Triples = refl
has_double Tsv = refl
has_double Query = refl

string_token : (x : Style) (text : List ℕ) → StringToken x (quoted x text) text
string_token x text = record { quoting = Short Double; has = has_double x; tail = flat_map (escaped_in x) text ++ 34 ∷ []; after = string_chars x text; spelled = refl }

-- what follows the string of a literal
abbrev Suffix : Style → List ℕ → List ℕ → List ℕ → Option (List ℕ) → List ℕ → Type 0
Suffix x lexical suffix rest tag datatype = SuffixText x suffix rest tag datatype × NotLonger (StringToken x) (quoted x lexical) (suffix ++ rest)

plain_suffix : (x : Style) (lexical datatype rest : List ℕ) (b : Bool) → is_xsd_string datatype ≡ b → is_iri datatype ≡ true → EndsLiteral x lexical None datatype rest
    → Suffix x lexical (cond b [] (codes "^^<" ++ datatype ++ codes ">")) rest None datatype
plain_suffix x lexical datatype rest true e valid last = let same = (bytes_eq-Decides datatype xsd_string).0 e in (inl (refl, same), last same)
plain_suffix x lexical datatype rest false e valid last = (
  inr (record { iri = codes "<" ++ datatype ++ codes ">"; parts = refl; is = iri_alone x (codes "<" ++ datatype ++ codes ">") datatype rest (iri_token x datatype valid) }),
  string_before x (quoted x lexical) lexical 94 _ no_caret (string_token x lexical),
)

suffix_is : (x : Style) (lexical : List ℕ) (tag : Option (List ℕ)) (datatype rest : List ℕ) → IsTagged tag datatype → EndsLiteral x lexical tag datatype rest → Suffix x lexical (suffix_text tag datatype) rest tag datatype
suffix_is x lexical (Some tag) datatype rest valid last =
    ((record { is = (refl, valid.0); longest = last }, valid.1), string_before x (quoted x lexical) lexical 64 (tag ++ rest) no_sign (string_token x lexical))
suffix_is x lexical None datatype rest valid last = plain_suffix x lexical datatype rest (is_xsd_string datatype) refl valid.0 last

pub reads_back : ReadsBack
reads_back x (Iri text) rest valid last = iri_alone x (codes "<" ++ text ++ codes ">") text rest (iri_token x text valid)
reads_back x (Blank label) rest valid last = record { is = (refl, valid); longest = last }
reads_back x (Lit literal) rest valid last =
    let s = suffix_is x literal.lexical literal.tag literal.datatype rest valid last in
    record {
      string = quoted x literal.lexical;
      suffix = suffix_text literal.tag literal.datatype;
      parts = refl;
      is = record { is = string_token x literal.lexical; longest = s.1 };
      after = s.0;
    }
