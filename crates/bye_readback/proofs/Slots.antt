-- The tokens of what stands in a place of a triple pattern.
use Rattle.std.proofs.Common.{◌≡◌, refl, ℕ, Bool, true, false, cond, ◌==◌, eq-eqb, List, ◌∷◌, [], Option, Some, None, sym, ◌∙◌, ap, subst}
use Rattle.std.specs.Str.{bytes_eq}
use Rattle.std.proofs.lemmas.Slice.Eq.{bytes_eq-Decides}
use Rattle.bye_terms.specs.Literals.{LiteralValue, is_xsd_string, xsd_string, lang_string}
use Rattle.bye_terms.specs.Names.{is_iri}
use Rattle.bye_terms.specs.Valid.{IsTagged}
use Rattle.bye_terms.specs.declared.term.Term.{Term}
use Rattle.bye_terms.specs.declared.term.Term.TheVariants.{Iri, Blank, Lit}
use Rattle.bye_pattern.specs.declared.slot.Slot.{Slot}
use Rattle.bye_pattern.specs.declared.slot.Slot.TheVariants.{Var, Const}
use Rattle.bye_table.specs.Mappings.{Name}
use Rattle.bye_tokens.specs.declared.token.Token.{Token}
use Rattle.bye_tokens.specs.declared.token.Token.TheVariants.{IriRef, Variable, Quoted, Tagged, Keyword, Mark}
use Rattle.bye_tokens.specs.declared.sign.Sign.{Sign}
use Rattle.bye_tokens.specs.declared.sign.Sign.TheVariants as signs
use Rattle.bye_tokens.specs.declared.word.Word.{Word}
use Rattle.bye_tokens.specs.KindNumbers.{sign_number, word_number}
use Rattle.bye_grammar.specs.Fits as fits
use Rattle.bye_grammar.specs.Fits.{Chars, only_iri, iri_slot, only_datatype}
use Rattle.bye_grammar.specs.Values.{or_plain}
use Rattle.bye_grammar.specs.Grammar.{one, sign, word, suffix, string, object, constant}
use Rattle.bye_grammar.specs.Valid.{IsSlot, IsSubject}
use Rattle.bye_written.specs.Written.{suffix_tokens, term_tokens, slot_tokens}
use Rattle.bye_readback.proofs.Writes.{Writes, writes_one, writes_then, writes_last, writes_mapped, writes_left, writes_right, writes_none, writes_some}

-- what a test for one kind answers
abbrev fit : Bool → Option (Unit {0})
fit b = cond b (Some tt) None

same_kind : (n : ℕ) → fit (n == n) ≡ fit true
same_kind n = let e : (n == n) ≡ true = eq-eqb n n refl in ap fit e

pub writes_sign : (s : Sign) → Writes (sign s) (Mark s ∷ []) tt
writes_sign s = writes_one (fits.is_sign s) (Mark s) tt (same_kind (sign_number s))

pub writes_word : (w : Word) → Writes (word w) (Keyword w ∷ []) tt
writes_word w = writes_one (fits.is_word w) (Keyword w) tt (same_kind (word_number w))

pub writes_variable : (v : Name) → Writes (one fits.variable) (Variable v ∷ []) v
writes_variable v = writes_one fits.variable (Variable v) v refl

iri_fits : (text : Chars) → is_iri text ≡ true → only_iri text ≡ Some text
iri_fits text h = ap (λ b. cond b (Some text) None) h

iri_is : (text : Chars) → is_iri text ≡ true → iri_slot (only_iri text) ≡ Some (Const (Iri text))
iri_is text h = ap iri_slot (iri_fits text h)

-- a variable or an IRI, by a test that takes either
place_writes : (test : Token → Option Slot) → ((v : Name) → test (Variable v) ≡ Some (Var v)) → ((text : Chars) → test (IriRef text) ≡ iri_slot (only_iri text))
    → (s : Slot) → IsSubject s → Writes (one test) (slot_tokens s) s
place_writes test var iri (Var v) h = writes_one test (Variable v) (Var v) (var v)
place_writes test var iri (Const (Iri text)) h = writes_one test (IriRef text) (Const (Iri text)) (iri text ∙ iri_is text h.0.0)
place_writes test var iri (Const (Blank label)) h = let r : ⊥ = cc in absurd r
place_writes test var iri (Const (Lit literal)) h = let r : ⊥ = cc in absurd r

pub subject_writes : (s : Slot) → IsSubject s → Writes (one (fits.subject [])) (slot_tokens s) s
subject_writes = place_writes (fits.subject []) (λ v. refl) (λ text. refl)

pub verb_writes : (s : Slot) → IsSubject s → Writes (one (fits.verb [])) (slot_tokens s) s
verb_writes = place_writes (fits.verb []) (λ v. refl) (λ text. refl)

is_false : (b : Bool) → (b ≡ true → ⊥) → b ≡ false
is_false true h = absurd (h refl)
is_false false h = refl

-- two texts that are not the same
pub other_text : (xs ys : Chars) → (xs ≡ ys → ⊥) → bytes_eq xs ys ≡ false
other_text xs ys h = is_false (bytes_eq xs ys) (λ e. h ((bytes_eq-Decides xs ys).0 e))

datatype_fits : (datatype : Chars) → is_iri datatype ≡ true → (datatype ≡ lang_string → ⊥) → fits.datatype [] (IriRef datatype) ≡ Some datatype
datatype_fits datatype e h = ap only_datatype (iri_fits datatype e) ∙ ap (λ b. cond b None (Some datatype)) (other_text datatype lang_string h)

-- a string, and what follows it
with_suffix : (lexical : Chars) (marks : List Token) (s : Slot) → Writes (suffix [] lexical) marks s → Writes (string []) (Quoted lexical ∷ marks) s
with_suffix lexical marks s f = writes_then (writes_one fits.string (Quoted lexical) lexical refl) (writes_last (or_plain lexical) (writes_some f))

without_suffix : (lexical : Chars) → Writes (string []) (Quoted lexical ∷ []) (fits.typed lexical xsd_string)
without_suffix lexical = writes_then (writes_one fits.string (Quoted lexical) lexical refl) (writes_last (or_plain lexical) writes_none)

with_datatype : (lexical datatype : Chars) → IsTagged None datatype → Writes (string []) (Quoted lexical ∷ Mark signs.Carets ∷ IriRef datatype ∷ []) (fits.typed lexical datatype)
with_datatype lexical datatype h =
    with_suffix lexical (Mark signs.Carets ∷ IriRef datatype ∷ []) (fits.typed lexical datatype) (writes_right (writes_then (writes_sign signs.Carets)
    (writes_last (fits.typed lexical) (writes_one (fits.datatype []) (IriRef datatype) datatype (datatype_fits datatype h.0 h.1)))))

with_tag : (lexical tag : Chars) → Writes (string []) (Quoted lexical ∷ Tagged tag ∷ []) (fits.tagged lexical tag)
with_tag lexical tag = with_suffix lexical (Tagged tag ∷ []) (fits.tagged lexical tag) (writes_left (writes_mapped (fits.tagged lexical) (writes_one fits.tag (Tagged tag) tag refl)))

-- xsd:string is written without its datatype
plain_or_typed : (lexical datatype : Chars) (b : Bool) → is_xsd_string datatype ≡ b → IsTagged None datatype → Writes (string []) (Quoted lexical ∷ cond b [] (Mark signs.Carets ∷ IriRef datatype ∷ [])) (fits.typed lexical datatype)
plain_or_typed lexical datatype true e h = subst (λ d. Writes (string []) (Quoted lexical ∷ []) (fits.typed lexical d)) (sym ((bytes_eq-Decides datatype xsd_string).0 e)) (without_suffix lexical)
plain_or_typed lexical datatype false e h = with_datatype lexical datatype h

string_writes : (lexical datatype : Chars) (tag : Option Chars) → IsTagged tag datatype → Writes (string []) (Quoted lexical ∷ suffix_tokens tag datatype) (Const (Lit (record { lexical = lexical; datatype = datatype; tag = tag })))
string_writes lexical datatype (Some tag) h = subst (λ d. Writes (string []) (Quoted lexical ∷ Tagged tag ∷ []) (Const (Lit (record { lexical = lexical; datatype = d; tag = Some tag })))) (sym h.1) (with_tag lexical tag)
string_writes lexical datatype None h = plain_or_typed lexical datatype (is_xsd_string datatype) refl h

literal_writes : (literal : LiteralValue) → IsTagged literal.tag literal.datatype → Writes (string []) (slot_tokens (Const (Lit literal))) (Const (Lit literal))
literal_writes literal h = string_writes literal.lexical literal.datatype literal.tag h

pub object_writes : (s : Slot) → IsSlot s → Writes (object []) (slot_tokens s) s
object_writes (Var v) h = writes_right (writes_one (fits.short_object []) (Variable v) (Var v) refl)
object_writes (Const (Iri text)) h = writes_right (writes_one (fits.short_object []) (IriRef text) (Const (Iri text)) (iri_is text h.0))
object_writes (Const (Blank label)) h = let r : ⊥ = cc in absurd r
object_writes (Const (Lit literal)) h = writes_left (literal_writes literal h.0)

pub constant_writes : (c : Term) → IsSlot (Const c) → Writes (constant []) (term_tokens c) (Const c)
constant_writes (Iri text) h = writes_right (writes_one (fits.short_constant []) (IriRef text) (Const (Iri text)) (iri_is text h.0))
constant_writes (Blank label) h = let r : ⊥ = cc in absurd r
constant_writes (Lit literal) h = writes_left (literal_writes literal h.0)
