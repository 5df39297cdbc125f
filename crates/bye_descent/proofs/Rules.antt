-- How many tokens the rules of the grammar leave: each round of a loop takes one at least.
use Rattle.std.proofs.Common.{ℕ, zero, suc, ◌∷◌, [], map}
use Rattle.bye_pattern.specs.declared.slot.Slot.{Slot}
use Rattle.bye_pattern.specs.declared.slot.Slot.TheVariants.{Var}
use Rattle.bye_pattern.specs.Conditions.{Expr, IsBound, Same, KindOf, And, Or}
use Rattle.bye_pattern.specs.Written.{Element, Optional, Filter, Group, group_of}
use Rattle.bye_tokens.specs.declared.token.Placed.{Placed}
use Rattle.bye_tokens.specs.declared.sign.Sign.{Sign}
use Rattle.bye_tokens.specs.declared.sign.Sign.TheVariants as signs
use Rattle.bye_tokens.specs.declared.word.Word.TheVariants as words
use Rattle.bye_parts.specs.Readers.{Reader, read_bracketed}
use Rattle.bye_grammar.specs.declared.place.Place.{Place}
use Rattle.bye_grammar.specs.declared.place.Place.TheVariants.{Outer, Inner}
use Rattle.bye_grammar.specs.TokenKinds as kinds
use Rattle.bye_grammar.specs.TokenKinds.{of, a_sign, a_word, subjects, verbs, suffixes, elements}
use Rattle.bye_grammar.specs.Fits as fits
use Rattle.bye_grammar.specs.Fits.{Prefixes, Chars}
use Rattle.bye_grammar.specs.Values.{or_plain, pattern, or_none, joined, negated, grouped, block_of}
use Rattle.bye_grammar.specs.Reading.{read_one, read_sign, read_suffix, read_string, read_object, read_next_object, read_objects, read_property, read_next_property, read_same, read_block, read_argument, read_constant, read_arguments, read_call, read_unary, read_next_unary, read_conjunction, read_next_conjunction, read_disjunction, read_primary, read_filter, read_optional_group, read_element, read_body, read_group, read_declaration}
use Rattle.bye_descent.proofs.Takes.{Takes, Keeps, keeps_taken, takes_token, keeps_token, keeps_yield, takes_then, keeps_then, keeps_mapped, keeps_optional, keeps_either, takes_either, keeps_repeated, keeps_trailing, keeps_between, keeps_deep, keeps_bracketed}

keeps_suffix : (prefixes : Prefixes) (text : Chars) → Keeps (read_suffix prefixes text)
unfolding read_suffix
keeps_suffix prefixes text =
    keeps_either (of (kinds.Tagged ∷ [])) (keeps_mapped (fits.tagged text) (keeps_token (λ (t : Placed). fits.tag t.token)))
    (keeps_then (keeps_token (λ (t : Placed). fits.is_sign signs.Carets t.token)) (λ _. keeps_then (keeps_token (λ (t : Placed). fits.datatype prefixes t.token)) (λ d. keeps_yield (fits.typed text d))))

keeps_string : (prefixes : Prefixes) → Keeps (read_string prefixes)
unfolding read_string
keeps_string prefixes = keeps_then (keeps_token (λ (t : Placed). fits.string t.token)) (λ text. keeps_then (keeps_optional (of suffixes) (keeps_suffix prefixes text)) (λ literal. keeps_yield (or_plain text literal)))

keeps_object : (prefixes : Prefixes) → Keeps (read_object prefixes)
unfolding read_object
keeps_object prefixes = keeps_either (of (kinds.Quoted ∷ [])) (keeps_string prefixes) (keeps_token (λ (t : Placed). fits.short_object prefixes t.token))

pub takes_next_object : (prefixes : Prefixes) → Takes (read_next_object prefixes)
takes_next_object prefixes = takes_then (takes_token (λ (t : Placed). fits.is_sign signs.Comma t.token)) (λ _. keeps_object prefixes)

keeps_objects : (prefixes : Prefixes) (s p : Slot) → Keeps (read_objects prefixes s p)
unfolding read_objects
keeps_objects prefixes s p = keeps_then (keeps_object prefixes) (λ o. keeps_then (keeps_repeated (of (a_sign signs.Comma)) (keeps_taken (takes_next_object prefixes))) (λ os. keeps_yield (map (pattern s p) (o ∷ os))))

keeps_property : (prefixes : Prefixes) (s : Slot) → Keeps (read_property prefixes s)
unfolding read_property
keeps_property prefixes s = keeps_then (keeps_token (λ (t : Placed). fits.verb prefixes t.token)) (λ p. keeps_objects prefixes s p)

pub takes_next_property : (prefixes : Prefixes) (s : Slot) → Takes (read_next_property prefixes s)
takes_next_property prefixes s = takes_then (takes_token (λ (t : Placed). fits.is_sign signs.Semicolon t.token)) (λ _. keeps_then (keeps_optional (of verbs) (keeps_property prefixes s)) (λ ps. keeps_yield (or_none ps)))

pub takes_same : (prefixes : Prefixes) → Takes (read_same prefixes)
unfolding read_same
takes_same prefixes =
    takes_then (takes_token (λ (t : Placed). fits.subject prefixes t.token)) (λ s. keeps_then (keeps_property prefixes s) (λ ps. keeps_then (keeps_repeated (of (a_sign signs.Semicolon)) (keeps_taken (takes_next_property prefixes s))) (λ more. keeps_yield (joined ps more))))

keeps_block : (prefixes : Prefixes) → Keeps (read_block prefixes)
unfolding read_block
keeps_block prefixes =
    keeps_then (keeps_taken (takes_same prefixes)) (λ ps. keeps_then (keeps_trailing (of (a_sign signs.Dot)) (of subjects) (keeps_taken (takes_same prefixes))) (λ more. keeps_yield (joined ps more)))

keeps_constant : (prefixes : Prefixes) → Keeps (read_constant prefixes)
unfolding read_constant
keeps_constant prefixes = keeps_either (of (kinds.Quoted ∷ [])) (keeps_string prefixes) (keeps_token (λ (t : Placed). fits.short_constant prefixes t.token))

keeps_variable : Keeps (read_one fits.variable)
keeps_variable = keeps_token (λ (t : Placed). fits.variable t.token)

keeps_argument : (prefixes : Prefixes) (place : Place) → Keeps (read_argument prefixes place)
keeps_argument prefixes Outer = keeps_object prefixes
keeps_argument prefixes Inner = keeps_mapped Var keeps_variable

keeps_sign : (s : Sign) → Keeps (read_sign s)
keeps_sign s = keeps_token (λ (t : Placed). fits.is_sign s t.token)

keeps_arguments : (prefixes : Prefixes) (place : Place) → Keeps (read_arguments prefixes place)
unfolding read_arguments
keeps_arguments prefixes place =
    keeps_either (of (kinds.Variable ∷ []))
    (keeps_then keeps_variable (λ v. keeps_then (keeps_sign signs.Comma) (λ _. keeps_then (keeps_object prefixes) (λ o. keeps_yield (Same (Var v) o)))))
    (keeps_then (keeps_constant prefixes) (λ c. keeps_then (keeps_sign signs.Comma) (λ _. keeps_then (keeps_argument prefixes place) (λ o. keeps_yield (Same c o)))))

module _ {V : Type 0} (n : ℕ) {p : Reader Placed V} (f : Keeps p) where
  keeps_call_of : Keeps (read_bracketed (of (a_sign signs.Open)) (λ (t : Placed). fits.is_sign signs.Open t.token) (λ (t : Placed). fits.is_sign signs.Close t.token) n p)
  keeps_call_of = keeps_bracketed (of (a_sign signs.Open)) (λ (t : Placed). fits.is_sign signs.Open t.token) (λ (t : Placed). fits.is_sign signs.Close t.token) n f

keeps_call : (prefixes : Prefixes) (place : Place) (n : ℕ) → Keeps (read_call prefixes place n)
unfolding read_call
keeps_call prefixes place n =
    keeps_either (of (a_word words.Bound))
    (keeps_then (keeps_token (λ (t : Placed). fits.is_word words.Bound t.token)) (λ _. keeps_call_of n (keeps_mapped IsBound keeps_variable)))
    (keeps_either (of (a_word words.SameTerm))
    (keeps_then (keeps_token (λ (t : Placed). fits.is_word words.SameTerm t.token)) (λ _. keeps_call_of n (keeps_arguments prefixes place)))
    (keeps_then (keeps_token (λ (t : Placed). fits.kind_test t.token)) (λ kind. keeps_call_of n (keeps_mapped (KindOf kind) (keeps_argument prefixes place)))))

module _ (place : Place) {p : Reader Placed Expr} (f : Keeps p) where
  keeps_unary : Keeps (read_unary place p)
  unfolding read_unary
  keeps_unary = keeps_then (keeps_optional (of (a_sign signs.Bang)) (keeps_token (λ (t : Placed). fits.outer_sign place signs.Bang t.token))) (λ bang. keeps_then f (λ e. keeps_yield (negated bang e)))

  takes_next_unary_of : Takes (read_next_unary place p)
  takes_next_unary_of = takes_then (takes_token (λ (t : Placed). fits.is_sign signs.And t.token)) (λ _. keeps_unary)

  keeps_conjunction : Keeps (read_conjunction place p)
  unfolding read_conjunction
  keeps_conjunction = keeps_then keeps_unary (λ e. keeps_then (keeps_repeated (of (a_sign signs.And)) (keeps_taken takes_next_unary_of)) (λ es. keeps_yield (grouped And e es)))

  takes_next_conjunction_of : Takes (read_next_conjunction place p)
  takes_next_conjunction_of = takes_then (takes_token (λ (t : Placed). fits.outer_sign place signs.Or t.token)) (λ _. keeps_conjunction)

  keeps_disjunction : Keeps (read_disjunction place p)
  unfolding read_disjunction
  keeps_disjunction = keeps_then keeps_conjunction (λ e. keeps_then (keeps_repeated (of (a_sign signs.Or)) (keeps_taken takes_next_conjunction_of)) (λ es. keeps_yield (grouped Or e es)))

keeps_primary : (prefixes : Prefixes) (place : Place) (n : ℕ) → Keeps (read_primary prefixes place n)
unfolding read_primary
keeps_primary prefixes place zero = keeps_either (of (a_sign signs.Open)) (keeps_deep (of (a_sign signs.Open))) (keeps_call prefixes place zero)
keeps_primary prefixes place (suc n) =
    keeps_either (of (a_sign signs.Open)) (keeps_between (λ (t : Placed). fits.is_sign signs.Open t.token) (λ (t : Placed). fits.is_sign signs.Close t.token) (keeps_disjunction place (keeps_primary prefixes place n))) (keeps_call prefixes place (suc n))

pub takes_next_unary : (prefixes : Prefixes) (place : Place) (n : ℕ) → Takes (read_next_unary place (read_primary prefixes place n))
takes_next_unary prefixes place n = takes_next_unary_of place (keeps_primary prefixes place n)

pub takes_next_conjunction : (prefixes : Prefixes) (place : Place) (n : ℕ) → Takes (read_next_conjunction place (read_primary prefixes place n))
takes_next_conjunction prefixes place n = takes_next_conjunction_of place (keeps_primary prefixes place n)

takes_filter : (prefixes : Prefixes) (place : Place) (n : ℕ) → Takes (read_filter prefixes place n)
unfolding read_filter
takes_filter prefixes place n = takes_then (takes_token (λ (t : Placed). fits.is_word words.Filter t.token)) (λ _. keeps_then (keeps_primary prefixes place n) (λ e. keeps_yield (Filter e)))

module _ (prefixes : Prefixes) {p : Reader Placed Group} {q : Reader Placed Element} (f : Keeps p) (g : Takes q) where
  takes_element_of : Takes (read_element prefixes (read_optional_group p) q)
  unfolding read_element
  takes_element_of =
      takes_then (takes_either (of (a_word words.Optional)) (takes_then (takes_token (λ (t : Placed). fits.is_word words.Optional t.token)) (λ _. keeps_then f (λ g. keeps_yield (Optional g)))) g) (λ e.
      keeps_then (keeps_optional (of (a_sign signs.Dot)) (keeps_sign signs.Dot)) (λ _. keeps_then (keeps_optional (of subjects) (keeps_block prefixes)) (λ ps. keeps_yield (e ∷ block_of ps))))

keeps_group : (prefixes : Prefixes) (place : Place) (n : ℕ) → Keeps (read_group prefixes place n)
unfolding read_group read_body
keeps_group prefixes place zero = keeps_deep (of (a_sign signs.OpenGroup))
keeps_group prefixes place (suc n) =
    keeps_between (λ (t : Placed). fits.is_sign signs.OpenGroup t.token) (λ (t : Placed). fits.is_sign signs.CloseGroup t.token)
    (keeps_then (keeps_optional (of subjects) (keeps_block prefixes)) (λ ps.
    keeps_then (keeps_repeated (of elements) (keeps_taken (takes_element_of prefixes (keeps_group prefixes Inner n) (takes_filter prefixes place n)))) (λ es. keeps_yield (group_of (joined (block_of ps) es)))))

pub takes_element : (prefixes : Prefixes) (place : Place) (n : ℕ) → Takes (read_element prefixes (read_optional_group (read_group prefixes Inner n)) (read_filter prefixes place n))
takes_element prefixes place n = takes_element_of prefixes (keeps_group prefixes Inner n) (takes_filter prefixes place n)

pub takes_declaration : Takes read_declaration
unfolding read_declaration
takes_declaration = takes_then (takes_token (λ (t : Placed). fits.is_word words.Prefix t.token)) (λ _. keeps_then (keeps_token (λ (t : Placed). fits.prefix t.token)) (λ p. keeps_then (keeps_token (λ (t : Placed). fits.iri_reference t.token)) (λ i. keeps_yield (p, i))))
