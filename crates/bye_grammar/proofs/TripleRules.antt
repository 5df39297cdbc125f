-- The facts of the rules of triples.
use Rattle.std.proofs.Common.{◌≡◌, refl, ℕ, Bool, true, false, List, ◌∷◌, [], ◌++◌, Option, map}
use Rattle.bye_pattern.specs.declared.slot.Slot.{Slot}
use Rattle.bye_tokens.specs.declared.token.Placed.{Placed}
use Rattle.bye_tokens.specs.declared.token.Token.{Token}
use Rattle.bye_tokens.specs.declared.sign.Sign.{Sign}
use Rattle.bye_tokens.specs.declared.sign.Sign.TheVariants as signs
use Rattle.bye_tokens.specs.declared.word.Word.{Word}
use Rattle.bye_parts.specs.Parts.{Part}
use Rattle.bye_parts.specs.Readers.{Reader}
use Rattle.bye_parts.specs.Sets.{disjoint}
use Rattle.bye_parts.proofs.Rules.{Reads, reads_token, reads_mark, reads_yield, reads_then, reads_mapped, reads_optional, reads_either, reads_repeated, reads_trailing, reads_wider}
use Rattle.bye_grammar.specs.TokenKinds as kinds
use Rattle.bye_grammar.specs.TokenKinds.{TokenKind, numbers, of, opening, closing, iris, subjects, verbs, suffixes, short_objects, short_constants, a_sign, a_word, number}
use Rattle.bye_grammar.specs.Fits as fits
use Rattle.bye_grammar.specs.Fits.{Prefixes, Chars}
use Rattle.bye_grammar.specs.Values.{or_plain, pattern, or_none, joined}
use Rattle.bye_grammar.specs.Grammar.{one, sign, word, suffix, string, object, objects, property, next_property, same, block}
use Rattle.bye_grammar.specs.Reading.{read_one, read_sign, read_word, read_suffix, read_string, read_object, read_objects, read_property, read_next_property, read_same, read_block}
use Rattle.bye_grammar.proofs.Singles.{tokens, Only, TakesReferences, only_fixed, fixed_at, only_string, only_tag, only_datatypes, only_subject, only_verb, only_object, takes_subject, takes_verb, takes_object, takes_datatype}

-- What is known of a rule without brackets, whatever number of them may be opened. n: whether no token may derive; F: the kinds with which it begins; G: those with which it
-- may go on where it could end.
abbrev pub Rule : {V : Type 0} → Bool → List TokenKind → List TokenKind → Part Placed V → Reader Placed V → Type 0
Rule n F G P p = (b : ℕ) → Reads tokens n (numbers F) (numbers G) P P p b b

-- a token of these kinds
pub rule_mark : {V : Type 0} (ks : List TokenKind) (test : Token → Option V) → Only ks test → disjoint (numbers ks) (numbers opening ++ numbers closing) ≡ true → disjoint (numbers ks) (numbers (kinds.IriRef ∷ [])) ≡ true → Rule false ks [] (one test) (read_one test)
rule_mark ks test only plain apart b = reads_mark tokens b (numbers ks) (λ t. test t.token) (λ t v h. only t.token v h) plain apart

-- a token of these kinds, which an IRI reference may be
pub rule_iri : {V : Type 0} (ks : List TokenKind) (test : Token → Option V) → Only ks test → disjoint (numbers ks) (numbers opening ++ numbers closing) ≡ true → TakesReferences test → Rule false ks [] (one test) (read_one test)
rule_iri ks test only plain takes b = reads_token tokens b (numbers ks) (λ t. test t.token) (λ t v h. only t.token v h) plain (λ t u v a h. takes u.token a.1)

pub rule_sign : (s : Sign) → disjoint (numbers (a_sign s)) (numbers opening ++ numbers closing) ≡ true → disjoint (numbers (a_sign s)) (numbers (kinds.IriRef ∷ [])) ≡ true → Rule false (a_sign s) [] (sign s) (read_sign s)
rule_sign s plain apart = rule_mark (a_sign s) (fits.is_sign s) (only_fixed (kinds.Mark s)) plain apart

pub rule_word : (w : Word) → disjoint (numbers (a_word w)) (numbers opening ++ numbers closing) ≡ true → disjoint (numbers (a_word w)) (numbers (kinds.IriRef ∷ [])) ≡ true → Rule false (a_word w) [] (word w) (read_word w)
rule_word w plain apart = rule_mark (a_word w) (fits.is_word w) (only_fixed (kinds.Keyword w)) plain apart

rule_suffix : (prefixes : Prefixes) (text : Chars) → Rule false suffixes [] (suffix prefixes text) (read_suffix prefixes text)
unfolding read_suffix
rule_suffix prefixes text b =
    reads_either (of (kinds.Tagged ∷ [])) (reads_mapped (fits.tagged text) (rule_mark (kinds.Tagged ∷ []) fits.tag only_tag refl refl b))
    (reads_then (rule_sign signs.Carets refl refl b) (λ _. reads_then (rule_iri iris (fits.datatype prefixes) (only_datatypes prefixes) refl (takes_datatype prefixes) b) (λ d. reads_yield tokens b (fits.typed text d)) refl) refl)
    (λ c. refl) refl

pub rule_string : (prefixes : Prefixes) → Rule false (kinds.Quoted ∷ []) suffixes (string prefixes) (read_string prefixes)
unfolding read_string
rule_string prefixes b =
    reads_then (rule_mark (kinds.Quoted ∷ []) fits.string only_string refl refl b) (λ text.
    reads_then (reads_optional (of suffixes) (rule_suffix prefixes text b) (λ c. refl)) (λ more. reads_yield tokens b (or_plain text more)) refl) refl

-- what an object begins with
abbrev pub all_objects : List TokenKind
all_objects = kinds.Quoted ∷ short_objects

pub rule_object : (prefixes : Prefixes) → Rule false all_objects suffixes (object prefixes) (read_object prefixes)
unfolding read_object
rule_object prefixes b = reads_either (of (kinds.Quoted ∷ [])) (rule_string prefixes b) (rule_iri short_objects (fits.short_object prefixes) (only_object prefixes) refl (takes_object prefixes) b) (λ c. refl) refl

-- `,` and what goes on with a string
abbrev more_of_objects : List TokenKind
more_of_objects = kinds.Mark signs.Comma ∷ suffixes

rule_objects : (prefixes : Prefixes) (s p : Slot) → Rule false all_objects more_of_objects (objects prefixes s p) (read_objects prefixes s p)
unfolding read_objects
rule_objects prefixes s p b =
    reads_wider (numbers all_objects) (numbers more_of_objects)
    (reads_then (rule_object prefixes b) (λ o.
    reads_then (reads_repeated (of (a_sign signs.Comma)) (reads_then (rule_sign signs.Comma refl refl b) (λ _. rule_object prefixes b) refl) (λ c. refl) refl) (λ os.
    reads_yield tokens b (map (pattern s p) (o ∷ os))) refl) refl) refl refl

rule_property : (prefixes : Prefixes) (s : Slot) → Rule false verbs more_of_objects (property prefixes s) (read_property prefixes s)
unfolding read_property
rule_property prefixes s b = reads_then (rule_iri verbs (fits.verb prefixes) (only_verb prefixes) refl (takes_verb prefixes) b) (λ p. rule_objects prefixes s p b) refl

-- `;`, what a verb begins with after it, and what goes on with objects
abbrev more_of_same : List TokenKind
more_of_same = kinds.Mark signs.Semicolon ∷ (verbs ++ more_of_objects)

rule_next_property : (prefixes : Prefixes) (s : Slot) → Rule false (a_sign signs.Semicolon) (verbs ++ more_of_objects) (next_property prefixes s) (read_next_property prefixes s)
rule_next_property prefixes s b =
    reads_then (rule_sign signs.Semicolon refl refl b) (λ _. reads_then (reads_optional (of verbs) (rule_property prefixes s b) (λ c. refl)) (λ ps. reads_yield tokens b (or_none ps)) refl) refl

rule_same : (prefixes : Prefixes) → Rule false subjects more_of_same (same prefixes) (read_same prefixes)
unfolding read_same
rule_same prefixes b =
    reads_wider (numbers subjects) (numbers more_of_same)
    (reads_then (rule_iri subjects (fits.subject prefixes) (only_subject prefixes) refl (takes_subject prefixes) b) (λ s.
    reads_then (rule_property prefixes s b) (λ ps.
    reads_then (reads_repeated (of (a_sign signs.Semicolon)) (rule_next_property prefixes s b) (λ c. refl) refl) (λ more. reads_yield tokens b (joined ps more)) refl) refl) refl) refl refl

-- `.`, what a subject begins with after it, and what goes on with it
abbrev pub more_of_block : List TokenKind
more_of_block = kinds.Mark signs.Dot ∷ more_of_same

pub rule_block : (prefixes : Prefixes) → Rule false subjects more_of_block (block prefixes) (read_block prefixes)
unfolding read_block
rule_block prefixes b =
    reads_wider (numbers subjects) (numbers more_of_block)
    (reads_then (rule_same prefixes b) (λ ps.
    reads_then (reads_trailing (number (kinds.Mark signs.Dot)) (of (a_sign signs.Dot)) (of subjects) (λ t. fits.is_sign signs.Dot t.token) (rule_same prefixes b)
    (λ t v h. only_fixed (kinds.Mark signs.Dot) t.token v h) (λ t h. fixed_at (kinds.Mark signs.Dot) t.token h) (λ t. refl) (λ t. refl) refl refl refl) (λ more. reads_yield tokens b (joined ps more)) refl) refl) refl refl
