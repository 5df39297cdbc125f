-- Of which kinds the tokens are that fit, and which IRI references fit in place of others.
use Rattle.std.proofs.Common.{◌≡◌, refl, ℕ, Bool, true, false, cond, ◌==◌, ◌||◌, List, ◌∷◌, [], Option, Some, None, ◌∙◌, ap, arith}
use Rattle.bye_terms.specs.Names.{is_iri}
use Rattle.bye_table.specs.Mappings.{Name}
use Rattle.bye_tokens.specs.declared.token.Placed.{Placed}
use Rattle.bye_tokens.specs.declared.token.Token.{Token}
use Rattle.bye_tokens.specs.declared.token.Token.TheVariants.{IriRef, Prefixed, Variable, Quoted, Tagged, Numeral, Keyword}
use Rattle.bye_tokens.specs.declared.word.Word.TheVariants as words
use Rattle.bye_tokens.specs.declared.sign.Sign.{Sign}
use Rattle.bye_parts.specs.Sets.{has}
use Rattle.bye_parts.proofs.TokenKinds.{Kinds}
use Rattle.bye_grammar.specs.declared.place.Place.{Place}
use Rattle.bye_grammar.specs.declared.place.Place.TheVariants.{Outer, Inner}
use Rattle.bye_grammar.specs.TokenKinds as kinds
use Rattle.bye_grammar.specs.TokenKinds.{TokenKind, number, numbers, kind, kind_of, of, opening, closing, iris, subjects, verbs, short_objects, short_constants, kind_tests, a_sign, a_word}
use Rattle.bye_grammar.specs.Fits as fits
use Rattle.bye_grammar.specs.Fits.{Prefixes, Chars, fixed, only_iri, only_datatype, iri_slot, IsIriReference, IsPlainReference}

-- an IRI reference with a scheme, and one that may stand for it wherever it fits
abbrev pub Alike : Placed → Placed → Type 0
Alike t u = IsIriReference t.token × IsPlainReference u.token

pub reference_kind : (t : Token) → IsIriReference t → has (numbers (kinds.IriRef ∷ [])) (number (kind_of t)) ≡ true
reference_kind (IriRef text) h = refl
reference_kind _ h = absurd h

-- what the facts of the grammar are stated over
abbrev pub tokens : Kinds Placed
tokens = record { kind = kind; opening = numbers opening; closing = numbers closing; Alike = Alike; alike = numbers (kinds.IriRef ∷ []); is_alike = λ t u h. reference_kind t.token h.0 }

-- the tokens that pass the test are of these kinds
abbrev pub Only : {V : Type 0} → List TokenKind → (Token → Option V) → Type 0
Only {V} ks test = (t : Token) (v : V) → test t ≡ Some v → has (numbers ks) (number (kind_of t)) ≡ true

-- each IRI reference with a scheme but rdf:langString passes the test
abbrev pub TakesReferences : {V : Type 0} → (Token → Option V) → Type 0
TakesReferences {V} test = (t : Token) → IsPlainReference t → (v : V) × (test t ≡ Some v)

-- a test that fails gives no value
pub no_value : {A P : Type 0} {y : A} → ◌≡◌ {A = Option A} None (Some y) → P
no_value e = cc

fixed_if : (b : Bool) (v : Unit {0}) → ◌≡◌ {A = Option (Unit {0})} (cond b (Some tt) None) (Some v) → b ≡ true
fixed_if true v e = refl
fixed_if false v e = no_value e

same_number : (a b : ℕ) → (a == b) ≡ true → ((b == a) || false) ≡ true
same_number a b e = grind arith

number_same : (a b : ℕ) → ((b == a) || false) ≡ true → (a == b) ≡ true
number_same a b e = grind arith

pub only_fixed : (k : TokenKind) → Only (k ∷ []) (fixed k)
only_fixed k t v e = same_number (number (kind_of t)) (number k) (fixed_if (number (kind_of t) == number k) v e)

-- a token of the kind passes the test
pub fixed_at : (k : TokenKind) (t : Token) → has (numbers (k ∷ [])) (number (kind_of t)) ≡ true → (u : Unit {0}) × (fixed k t ≡ Some u)
fixed_at k t h = (tt, ap (λ b. cond b (Some tt) None) (number_same (number (kind_of t)) (number k) h))

pub only_outer : (place : Place) (s : Sign) → Only (a_sign s) (fits.outer_sign place s)
only_outer Outer s t v e = only_fixed (kinds.Mark s) t v e
only_outer Inner s t v e = no_value e

pub only_variable : Only (kinds.Variable ∷ []) fits.variable
only_variable (Variable x) v e = refl
only_variable _ v e = no_value e

pub only_new_variable : (seen : List Name) → Only (kinds.Variable ∷ []) (fits.new_variable seen)
only_new_variable seen (Variable x) v e = refl
only_new_variable seen _ v e = no_value e

pub only_string : Only (kinds.Quoted ∷ []) fits.string
only_string (Quoted x) v e = refl
only_string _ v e = no_value e

pub only_tag : Only (kinds.Tagged ∷ []) fits.tag
only_tag (Tagged x) v e = refl
only_tag _ v e = no_value e

pub only_prefix : Only (kinds.Prefixed ∷ []) fits.prefix
only_prefix (Prefixed x y) v e = refl
only_prefix _ v e = no_value e

pub only_reference : Only (kinds.IriRef ∷ []) fits.iri_reference
only_reference (IriRef x) v e = refl
only_reference _ v e = no_value e

pub only_datatypes : (prefixes : Prefixes) → Only iris (fits.datatype prefixes)
only_datatypes prefixes (IriRef x) v e = refl
only_datatypes prefixes (Prefixed x y) v e = refl
only_datatypes prefixes _ v e = no_value e

pub only_subject : (prefixes : Prefixes) → Only subjects (fits.subject prefixes)
only_subject prefixes (IriRef x) v e = refl
only_subject prefixes (Prefixed x y) v e = refl
only_subject prefixes (Variable x) v e = refl
only_subject prefixes _ v e = no_value e

pub only_verb : (prefixes : Prefixes) → Only verbs (fits.verb prefixes)
only_verb prefixes (IriRef x) v e = refl
only_verb prefixes (Prefixed x y) v e = refl
only_verb prefixes (Variable x) v e = refl
only_verb prefixes (Keyword words.A) v e = refl
only_verb prefixes _ v e = no_value e

pub only_object : (prefixes : Prefixes) → Only short_objects (fits.short_object prefixes)
only_object prefixes (IriRef x) v e = refl
only_object prefixes (Prefixed x y) v e = refl
only_object prefixes (Variable x) v e = refl
only_object prefixes (Numeral x y) v e = refl
only_object prefixes (Keyword words.True) v e = refl
only_object prefixes (Keyword words.False) v e = refl
only_object prefixes _ v e = no_value e

pub only_constant : (prefixes : Prefixes) → Only short_constants (fits.short_constant prefixes)
only_constant prefixes (IriRef x) v e = refl
only_constant prefixes (Prefixed x y) v e = refl
only_constant prefixes (Numeral x y) v e = refl
only_constant prefixes (Keyword words.True) v e = refl
only_constant prefixes (Keyword words.False) v e = refl
only_constant prefixes _ v e = no_value e

pub only_kind_test : Only kind_tests fits.kind_test
only_kind_test (Keyword words.IsIri) v e = refl
only_kind_test (Keyword words.IsUri) v e = refl
only_kind_test (Keyword words.IsBlank) v e = refl
only_kind_test (Keyword words.IsLiteral) v e = refl
only_kind_test _ v e = no_value e

-- an IRI with a scheme is itself
iri_is : (text : Chars) → is_iri text ≡ true → only_iri text ≡ Some text
iri_is text h = ap (λ b. cond b (Some text) None) h

pub takes_reference : TakesReferences fits.iri_reference
takes_reference (IriRef text) h = (text, iri_is text h.0)
takes_reference _ h = absurd h

pub takes_subject : (prefixes : Prefixes) → TakesReferences (fits.subject prefixes)
takes_subject prefixes (IriRef text) h = (_, ap iri_slot (iri_is text h.0))
takes_subject prefixes _ h = absurd h

pub takes_verb : (prefixes : Prefixes) → TakesReferences (fits.verb prefixes)
takes_verb prefixes (IriRef text) h = (_, ap iri_slot (iri_is text h.0))
takes_verb prefixes _ h = absurd h

pub takes_object : (prefixes : Prefixes) → TakesReferences (fits.short_object prefixes)
takes_object prefixes (IriRef text) h = (_, ap iri_slot (iri_is text h.0))
takes_object prefixes _ h = absurd h

pub takes_constant : (prefixes : Prefixes) → TakesReferences (fits.short_constant prefixes)
takes_constant prefixes (IriRef text) h = (_, ap iri_slot (iri_is text h.0))
takes_constant prefixes _ h = absurd h

pub takes_datatype : (prefixes : Prefixes) → TakesReferences (fits.datatype prefixes)
takes_datatype prefixes (IriRef text) h = (text, ap only_datatype (iri_is text h.0) ∙ ap (λ b. cond b None (Some text)) h.1)
takes_datatype prefixes _ h = absurd h
