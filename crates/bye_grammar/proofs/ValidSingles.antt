-- What single tokens stand for is valid.
use Rattle.std.proofs.Common.{◌≡◌, refl, Bool, true, false, cond, ◌||◌, List, ◌∷◌, [], ◌++◌, Option, Some, None, inl, inr, sym, ◌∙◌, ap, subst, codes}
use Rattle.std.specs.Str.{bytes_eq}
use Rattle.std.proofs.lemmas.Slice.Eq.{bytes_eq-Decides}
use Rattle.bye_terms.specs.Names.{is_iri, is_name, is_tag}
use Rattle.bye_terms.specs.Literals.{lang_string, is_lang_string}
use Rattle.bye_terms.specs.Members.{In, EachOnce}
use Rattle.bye_lex.specs.declared.number.Number.{Number}
use Rattle.bye_lex.specs.declared.number.Number.TheVariants as numbers
use Rattle.bye_pattern.specs.declared.slot.Slot.{Slot}
use Rattle.bye_pattern.specs.declared.slot.Slot.TheVariants.{Var, Const}
use Rattle.bye_table.specs.Mappings.{Name, is_in}
use Rattle.bye_tokens.specs.declared.token.Placed.{Placed}
use Rattle.bye_tokens.specs.declared.token.Token.{Token}
use Rattle.bye_tokens.specs.declared.token.Token.TheVariants.{IriRef, Prefixed, Variable, Tagged, Numeral, Keyword}
use Rattle.bye_tokens.specs.declared.word.Word.{Word}
use Rattle.bye_tokens.specs.declared.word.Word.TheVariants as words
use Rattle.bye_parts.specs.Parts.{Run}
use Rattle.bye_parts.proofs.Sets.{no_both}
use Rattle.bye_grammar.specs.Fits as fits
use Rattle.bye_grammar.specs.Fits.{Prefixes, Chars, only_iri, iri_slot, joined_iri, look, only_datatype, typed, tagged, xsd_boolean}
use Rattle.bye_grammar.specs.Valid.{IsToken, IsSlot, IsSubject}
use Rattle.bye_grammar.proofs.Singles.{no_value}

-- two values that a test gives are one
some_is : {A : Type 0} {x y : A} → ◌≡◌ {A = Option A} (Some x) (Some y) → x ≡ y
some_is e = cc

only_if : (b : Bool) (text v : Chars) → cond b (Some text) None ≡ Some v → (b ≡ true) × (text ≡ v)
only_if true text v e = (refl, some_is e)
only_if false text v e = no_value e

iri_given : (text v : Chars) → only_iri text ≡ Some v → is_iri v ≡ true
iri_given text v e = let k = only_if (is_iri text) text v e in sym (ap is_iri k.1) ∙ k.0

joined_given : (o : Option Chars) (local v : Chars) → joined_iri o local ≡ Some v → is_iri v ≡ true
joined_given None local v e = no_value e
joined_given (Some iri) local v e = iri_given (iri ++ local) v e

slot_given : (o : Option Chars) (s : Slot) → ((v : Chars) → o ≡ Some v → is_iri v ≡ true) → iri_slot o ≡ Some s → IsSubject s
slot_given None s h e = no_value e
slot_given (Some iri) s h e = subst IsSubject (some_is e) ((h iri refl, refl), refl)

pub valid_subject : (prefixes : Prefixes) (t : Token) (s : Slot) → IsToken t → fits.subject prefixes t ≡ Some s → IsSubject s
valid_subject prefixes (Variable v) s ok e = subst IsSubject (some_is e) (ok, refl)
valid_subject prefixes (IriRef text) s ok e = slot_given (only_iri text) s (iri_given text) e
valid_subject prefixes (Prefixed prefix local) s ok e = slot_given (joined_iri (look prefixes prefix) local) s (joined_given (look prefixes prefix) local) e
valid_subject prefixes _ s ok e = no_value e

valid_type : (w : Word) (s : Slot) → fits.type_word w ≡ Some s → IsSubject s
valid_type words.A s e = subst IsSubject (some_is e) ((refl, refl), refl)
valid_type _ s e = no_value e

pub valid_verb : (prefixes : Prefixes) (t : Token) (s : Slot) → IsToken t → fits.verb prefixes t ≡ Some s → IsSubject s
valid_verb prefixes (Keyword word) s ok e = valid_type word s e
valid_verb prefixes (Variable v) s ok e = valid_subject prefixes (Variable v) s ok e
valid_verb prefixes (IriRef text) s ok e = valid_subject prefixes (IriRef text) s ok e
valid_verb prefixes (Prefixed prefix local) s ok e = valid_subject prefixes (Prefixed prefix local) s ok e
valid_verb prefixes _ s ok e = no_value e

-- a datatype of literals without a tag
abbrev pub IsDatatype : Chars → Type 0
IsDatatype d = (is_iri d ≡ true) × (is_lang_string d ≡ false)

pub valid_typed : (text d : Chars) → IsDatatype d → IsSlot (typed text d)
valid_typed text d h = ((h.0, λ e. no_both (is_lang_string d) ((bytes_eq-Decides d lang_string).1 e) h.1), refl)

pub valid_tagged : (text t : Chars) → is_tag t ≡ true → IsSlot (tagged text t)
valid_tagged text t h = ((h, refl), refl)

valid_number : (n : Number) → IsDatatype (fits.number_datatype n)
valid_number numbers.Integer = (refl, refl)
valid_number numbers.Decimal = (refl, refl)
valid_number numbers.Double = (refl, refl)

valid_boolean : (w : Word) (s : Slot) → fits.boolean w ≡ Some s → IsSlot s
valid_boolean words.True s e = subst IsSlot (some_is e) (valid_typed (codes "true") xsd_boolean (refl, refl))
valid_boolean words.False s e = subst IsSlot (some_is e) (valid_typed (codes "false") xsd_boolean (refl, refl))
valid_boolean _ s e = no_value e

pub valid_object : (prefixes : Prefixes) (t : Token) (s : Slot) → IsToken t → fits.short_object prefixes t ≡ Some s → IsSlot s
valid_object prefixes (Keyword word) s ok e = valid_boolean word s e
valid_object prefixes (Numeral number text) s ok e = subst IsSlot (some_is e) (valid_typed text (fits.number_datatype number) (valid_number number))
valid_object prefixes (Variable v) s ok e = (valid_subject prefixes (Variable v) s ok e).0
valid_object prefixes (IriRef text) s ok e = (valid_subject prefixes (IriRef text) s ok e).0
valid_object prefixes (Prefixed prefix local) s ok e = (valid_subject prefixes (Prefixed prefix local) s ok e).0
valid_object prefixes _ s ok e = no_value e

-- a constant, not a variable
abbrev pub IsConstant : Slot → Type 0
IsConstant (Var v) = ⊥
IsConstant (Const c) = Unit {0}

-- a variable
abbrev pub IsVariable : Slot → Type 0
IsVariable (Var v) = Unit {0}
IsVariable (Const c) = ⊥

constant_iri : (o : Option Chars) (s : Slot) → iri_slot o ≡ Some s → IsConstant s
constant_iri None s e = no_value e
constant_iri (Some iri) s e = subst IsConstant (some_is e) tt

constant_word : (w : Word) (s : Slot) → fits.boolean w ≡ Some s → IsConstant s
constant_word words.True s e = subst IsConstant (some_is e) tt
constant_word words.False s e = subst IsConstant (some_is e) tt
constant_word _ s e = no_value e

pub valid_constant : (prefixes : Prefixes) (t : Token) (s : Slot) → IsToken t → fits.short_constant prefixes t ≡ Some s → IsSlot s × IsConstant s
valid_constant prefixes (Variable v) s ok e = no_value e
valid_constant prefixes (Keyword word) s ok e = (valid_object prefixes (Keyword word) s ok e, constant_word word s e)
valid_constant prefixes (Numeral number text) s ok e = (valid_object prefixes (Numeral number text) s ok e, subst IsConstant (some_is e) tt)
valid_constant prefixes (IriRef text) s ok e = (valid_object prefixes (IriRef text) s ok e, constant_iri (only_iri text) s e)
valid_constant prefixes (Prefixed prefix local) s ok e = (valid_object prefixes (Prefixed prefix local) s ok e, constant_iri (joined_iri (look prefixes prefix) local) s e)
valid_constant prefixes _ s ok e = no_value e

datatype_given : (o : Option Chars) (v : Chars) → ((v : Chars) → o ≡ Some v → is_iri v ≡ true) → only_datatype o ≡ Some v → IsDatatype v
datatype_given None v h e = no_value e
datatype_given (Some iri) v h e = given (is_lang_string iri) refl e
  where
    given : (b : Bool) → is_lang_string iri ≡ b → cond b None (Some iri) ≡ Some v → IsDatatype v
    given true same e = no_value e
    given false same e = subst IsDatatype (some_is e) (h iri refl, same)

iri_valid : (prefixes : Prefixes) (t : Token) (v : Chars) → fits.iri prefixes t ≡ Some v → is_iri v ≡ true
iri_valid prefixes (IriRef text) v e = iri_given text v e
iri_valid prefixes (Prefixed prefix local) v e = joined_given (look prefixes prefix) local v e
iri_valid prefixes _ v e = no_value e

pub valid_datatype : (prefixes : Prefixes) (t : Token) (v : Chars) → IsToken t → fits.datatype prefixes t ≡ Some v → IsDatatype v
valid_datatype prefixes t v ok e = datatype_given (fits.iri prefixes t) v (iri_valid prefixes t) e

pub valid_tag : (t : Token) (v : Chars) → IsToken t → fits.tag t ≡ Some v → is_tag v ≡ true
valid_tag (Tagged name) v ok e = sym (ap is_tag (some_is e)) ∙ ok
valid_tag _ v ok e = no_value e

pub valid_variable : (t : Token) (v : Name) → IsToken t → fits.variable t ≡ Some v → is_name v ≡ true
valid_variable (Variable x) v ok e = sym (ap is_name (some_is e)) ∙ ok
valid_variable _ v ok e = no_value e

new_if : (b : Bool) (x v : Name) → cond b None (Some x) ≡ Some v → (b ≡ false) × (x ≡ v)
new_if true x v e = no_value e
new_if false x v e = (refl, some_is e)

pub valid_new : (seen : List Name) (t : Token) (v : Name) → IsToken t → fits.new_variable seen t ≡ Some v → is_name v ≡ true
valid_new seen (Variable x) v ok e = sym (ap is_name (new_if (is_in seen x) x v e).1) ∙ ok
valid_new seen _ v ok e = no_value e

new_name : (seen : List Name) (t : Token) (v : Name) → fits.new_variable seen t ≡ Some v → is_in seen v ≡ false
new_name seen (Variable x) v e = let k = new_if (is_in seen x) x v e in sym (ap (is_in seen) k.1) ∙ k.0
new_name seen _ v e = no_value e

or_true : (a b : Bool) → b ≡ true → (a || b) ≡ true
or_true true b e = refl
or_true false b e = e

-- what was seen does not follow
pub not_again : (seen : List Name) (ts : List Placed) (vs : List Name) → Run (λ seen t. fits.new_variable seen t.token) seen ts vs → (w : Name) → is_in seen w ≡ true → In vs w → ⊥
not_again seen [] vs h w s i = subst (λ vs. In vs w) h i
not_again seen (t ∷ ts) [] h w s i = h
not_again seen (t ∷ ts) (v ∷ vs) h w s (inl e) = no_both (is_in seen w) s (sym (ap (is_in seen) e) ∙ new_name seen t.token v h.0)
not_again seen (t ∷ ts) (v ∷ vs) h w s (inr i) = not_again (v ∷ seen) ts vs h.1 w (or_true (bytes_eq v w) (is_in seen w) s) i

-- no name stands twice
pub once_each : (seen : List Name) (ts : List Placed) (vs : List Name) → Run (λ seen t. fits.new_variable seen t.token) seen ts vs → EachOnce vs
once_each seen [] vs h = subst EachOnce (sym h) tt
once_each seen (t ∷ ts) [] h = tt
once_each seen (t ∷ ts) (v ∷ vs) h = (not_again (v ∷ seen) ts vs h.1 v (ap (λ b. b || is_in seen v) ((bytes_eq-Decides v v).1 refl)), once_each (v ∷ seen) ts vs h.1)
