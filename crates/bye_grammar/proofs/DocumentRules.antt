-- The facts of the rules of documents.
use Rattle.std.proofs.Common.{refl, ℕ, suc, false, ◌∷◌, [], Some, None, is_some, reverse}
use Rattle.bye_tokens.specs.declared.sign.Sign.TheVariants as signs
use Rattle.bye_tokens.specs.declared.word.Word.TheVariants as words
use Rattle.bye_parts.proofs.Rules.{reads_yield, reads_then, reads_mapped, reads_optional, reads_either, reads_repeated, reads_run}
use Rattle.bye_grammar.specs.declared.place.Place.TheVariants.{Outer}
use Rattle.bye_grammar.specs.TokenKinds as kinds
use Rattle.bye_grammar.specs.TokenKinds.{numbers, of, a_sign, a_word}
use Rattle.bye_grammar.specs.Fits as fits
use Rattle.bye_grammar.specs.Fits.{Prefixes}
use Rattle.bye_grammar.specs.Grammar.{declaration, names, selection, document}
use Rattle.bye_grammar.specs.Reading.{read_declaration, read_names, read_selection, read_document}
use Rattle.bye_grammar.proofs.Singles.{tokens, only_variable, only_new_variable, only_prefix, only_reference, takes_reference}
use Rattle.bye_grammar.proofs.TripleRules.{Rule, rule_mark, rule_iri, rule_sign, rule_word}
use Rattle.bye_grammar.proofs.GroupRules.{Nested, rule_group}

rule_declaration : Rule false (a_word words.Prefix) [] declaration read_declaration
unfolding read_declaration
rule_declaration b =
    reads_then (rule_word words.Prefix refl refl b) (λ _. reads_then (rule_mark (kinds.Prefixed ∷ []) fits.prefix only_prefix refl refl b) (λ p.
    reads_then (rule_iri (kinds.IriRef ∷ []) fits.iri_reference only_reference refl takes_reference b) (λ i. reads_yield tokens b (p, i)) refl) refl) refl

rule_names : Rule false (kinds.Variable ∷ []) (kinds.Variable ∷ []) names read_names
unfolding read_names
rule_names b =
    reads_then (rule_mark (kinds.Variable ∷ []) fits.variable only_variable refl refl b) (λ v.
    reads_then (reads_run tokens b (numbers (kinds.Variable ∷ [])) (of (kinds.Variable ∷ [])) (λ seen t. fits.new_variable seen t.token) (v ∷ []) (λ seen t v h. only_new_variable seen t.token v h) (λ c. refl) refl refl) (λ vs.
    reads_yield tokens b (v ∷ vs)) refl) refl

rule_selection : (prefixes : Prefixes) (d b : ℕ) → Nested false (a_word words.Select) [] (selection prefixes d) (selection prefixes (suc b)) (read_selection prefixes b) b
unfolding read_selection
rule_selection prefixes d b =
    reads_then (rule_word words.Select refl refl b) (λ _.
    reads_then (reads_optional (of (a_word words.Distinct)) (rule_word words.Distinct refl refl b) (λ c. refl)) (λ distinct.
    reads_then (reads_either (of (kinds.Variable ∷ [])) (reads_mapped Some (rule_names b)) (reads_mapped (λ _. None) (rule_sign signs.Star refl refl b)) (λ c. refl) refl) (λ vars.
    reads_then (reads_optional (of (a_word words.Where)) (rule_word words.Where refl refl b) (λ c. refl)) (λ _.
    reads_then (rule_group prefixes Outer d b) (λ g. reads_yield tokens b (record { distinct = is_some distinct; vars = vars; group = g })) refl) refl) refl) refl) refl

pub rule_document : (d b : ℕ) → Nested false (kinds.Keyword words.Prefix ∷ a_word words.Select) [] (document d) (document (suc b)) (read_document b) b
unfolding read_document
rule_document d b = reads_then (reads_repeated (of (a_word words.Prefix)) (rule_declaration b) (λ c. refl) refl) (λ ds. rule_selection (reverse ds) d b) refl
