-- The facts of the rules of filters and groups, at each depth of brackets.
use Rattle.std.proofs.Common.{refl, ℕ, zero, suc, Bool, true, false, List, ◌∷◌, [], ◌++◌}
use Rattle.bye_pattern.specs.declared.slot.Slot.TheVariants.{Var}
use Rattle.bye_pattern.specs.Conditions.{Expr, IsBound, Same, KindOf, And, Or}
use Rattle.bye_pattern.specs.Written.{Element, Optional, Filter, Group, group_of}
use Rattle.bye_tokens.specs.declared.token.Placed.{Placed}
use Rattle.bye_tokens.specs.declared.sign.Sign.TheVariants as signs
use Rattle.bye_tokens.specs.declared.word.Word.TheVariants as words
use Rattle.bye_parts.specs.Parts.{Part, either}
use Rattle.bye_parts.specs.Readers.{Reader, read_either}
use Rattle.bye_parts.proofs.Shapes.{shape_nothing}
use Rattle.bye_parts.proofs.Rules.{Reads, Pair, reads_yield, reads_then, reads_mapped, reads_optional, reads_either, reads_repeated, reads_wider, reads_nothing, reads_between, reads_deep, reads_bracketed}
use Rattle.bye_grammar.specs.declared.place.Place.{Place}
use Rattle.bye_grammar.specs.declared.place.Place.TheVariants.{Outer, Inner}
use Rattle.bye_grammar.specs.TokenKinds as kinds
use Rattle.bye_grammar.specs.TokenKinds.{TokenKind, numbers, number, of, subjects, suffixes, short_constants, kind_tests, elements, a_sign, a_word}
use Rattle.bye_grammar.specs.Fits as fits
use Rattle.bye_grammar.specs.Fits.{Prefixes}
use Rattle.bye_grammar.specs.Values.{negated, grouped, block_of, joined}
use Rattle.bye_grammar.specs.Grammar.{one, argument, constant, arguments, call, unary, conjunction, disjunction, braced, primary, filter, optional_group, element, body, group}
use Rattle.bye_grammar.specs.Reading.{read_one, read_braced, read_argument, read_constant, read_arguments, read_call, read_unary, read_conjunction, read_disjunction, read_primary, read_filter, read_optional_group, read_element, read_body, read_group}
use Rattle.bye_grammar.proofs.Singles.{tokens, only_fixed, fixed_at, only_outer, only_variable, only_constant, only_kind_test, takes_constant}
use Rattle.bye_grammar.proofs.TripleRules.{Rule, rule_mark, rule_iri, rule_sign, rule_word, rule_string, rule_object, rule_block, all_objects, more_of_block}

-- What is known of a rule with brackets, at each depth d that it may have, where b may still be opened.
abbrev pub Nested : {V : Type 0} → Bool → List TokenKind → List TokenKind → Part Placed V → Part Placed V → Reader Placed V → ℕ → Type 0
Nested n F G P D p b = Reads tokens n (numbers F) (numbers G) P D p b b

parens : Pair tokens (of (a_sign signs.Open)) (λ t. fits.is_sign signs.Open t.token) (λ t. fits.is_sign signs.Close t.token) (number (kinds.Mark signs.Open)) (number (kinds.Mark signs.Close))
parens = record {
  opens_only = λ t v h. only_fixed (kinds.Mark signs.Open) t.token v h;
  opens_at = λ t h. fixed_at (kinds.Mark signs.Open) t.token h;
  same = λ t. refl;
  closes_only = λ t v h. only_fixed (kinds.Mark signs.Close) t.token v h;
  turns_open = refl;
  turns_close = refl;
  open_stays = refl;
  close_stays = refl;
}

braces : Pair tokens (of (a_sign signs.OpenGroup)) (λ t. fits.is_sign signs.OpenGroup t.token) (λ t. fits.is_sign signs.CloseGroup t.token) (number (kinds.Mark signs.OpenGroup)) (number (kinds.Mark signs.CloseGroup))
braces = record {
  opens_only = λ t v h. only_fixed (kinds.Mark signs.OpenGroup) t.token v h;
  opens_at = λ t h. fixed_at (kinds.Mark signs.OpenGroup) t.token h;
  same = λ t. refl;
  closes_only = λ t v h. only_fixed (kinds.Mark signs.CloseGroup) t.token v h;
  turns_open = refl;
  turns_close = refl;
  open_stays = refl;
  close_stays = refl;
}

rule_variable : Rule false (kinds.Variable ∷ []) [] (one fits.variable) (read_one fits.variable)
rule_variable = rule_mark (kinds.Variable ∷ []) fits.variable only_variable refl refl

rule_constant : (prefixes : Prefixes) → Rule false (kinds.Quoted ∷ short_constants) suffixes (constant prefixes) (read_constant prefixes)
unfolding read_constant
rule_constant prefixes b = reads_either (of (kinds.Quoted ∷ [])) (rule_string prefixes b) (rule_iri short_constants (fits.short_constant prefixes) (only_constant prefixes) refl (takes_constant prefixes) b) (λ c. refl) refl

rule_argument : (prefixes : Prefixes) (place : Place) → Rule false all_objects suffixes (argument prefixes place) (read_argument prefixes place)
rule_argument prefixes Outer b = rule_object prefixes b
rule_argument prefixes Inner b = reads_wider (numbers all_objects) (numbers suffixes) (reads_mapped Var (rule_variable b)) refl refl

rule_arguments : (prefixes : Prefixes) (place : Place) → Rule false (kinds.Variable ∷ kinds.Quoted ∷ short_constants) (suffixes ++ suffixes) (arguments prefixes place) (read_arguments prefixes place)
unfolding read_arguments
rule_arguments prefixes place b =
    reads_either (of (kinds.Variable ∷ []))
    (reads_then (rule_variable b) (λ v. reads_then (rule_sign signs.Comma refl refl b) (λ _. reads_then (rule_object prefixes b) (λ o. reads_yield tokens b (Same (Var v) o)) refl) refl) refl)
    (reads_then (rule_constant prefixes b) (λ c. reads_then (rule_sign signs.Comma refl refl b) (λ _. reads_then (rule_argument prefixes place b) (λ o. reads_yield tokens b (Same c o)) refl) refl) refl)
    (λ c. refl) refl

-- what a call begins with
abbrev calls : List TokenKind
calls = kinds.Keyword words.Bound ∷ kinds.Keyword words.SameTerm ∷ kind_tests

rule_call : (prefixes : Prefixes) (place : Place) (d b : ℕ) → Nested false calls [] (call prefixes place d) (call prefixes place (suc b)) (read_call prefixes place b) b
unfolding read_call
rule_call prefixes place d b =
    reads_either (of (a_word words.Bound))
    (reads_then (rule_word words.Bound refl refl b) (λ _. reads_bracketed parens (λ b. reads_mapped IsBound (rule_variable b)) refl d b) refl)
    (reads_either (of (a_word words.SameTerm))
    (reads_then (rule_word words.SameTerm refl refl b) (λ _. reads_bracketed parens (rule_arguments prefixes place) refl d b) refl)
    (reads_then (rule_mark kind_tests fits.kind_test only_kind_test refl refl b) (λ kind. reads_bracketed parens (λ b. reads_mapped (KindOf kind) (rule_argument prefixes place b)) refl d b) refl)
    (λ c. refl) refl)
    (λ c. refl) refl

-- what a primary expression begins with
abbrev primaries : List TokenKind
primaries = kinds.Mark signs.Open ∷ calls

-- and one with `!`
abbrev unaries : List TokenKind
unaries = kinds.Mark signs.Bang ∷ primaries

module _ (place : Place) {P D : Part Placed Expr} {p : Reader Placed Expr} {b : ℕ} (f : Nested false primaries [] P D p b) where
  rule_unary : Nested false unaries [] (unary place P) (unary place D) (read_unary place p) b
  unfolding read_unary
  rule_unary =
      reads_then (reads_optional (of (a_sign signs.Bang)) (rule_mark (a_sign signs.Bang) (fits.outer_sign place signs.Bang) (only_outer place signs.Bang) refl refl b) (λ c. refl)) (λ bang.
      reads_then f (λ e. reads_yield tokens b (negated bang e)) refl) refl

  rule_conjunction : Nested false unaries (a_sign signs.And) (conjunction place P) (conjunction place D) (read_conjunction place p) b
  unfolding read_conjunction
  rule_conjunction =
      reads_then rule_unary (λ e.
      reads_then (reads_repeated (of (a_sign signs.And)) (reads_then (rule_sign signs.And refl refl b) (λ _. rule_unary) refl) (λ c. refl) refl) (λ es. reads_yield tokens b (grouped And e es)) refl) refl

  rule_disjunction : Nested false unaries (kinds.Mark signs.Or ∷ kinds.Mark signs.And ∷ kinds.Mark signs.And ∷ []) (disjunction place P) (disjunction place D) (read_disjunction place p) b
  unfolding read_disjunction
  rule_disjunction =
      reads_then rule_conjunction (λ e.
      reads_then (reads_repeated (of (a_sign signs.Or)) (reads_then (rule_mark (a_sign signs.Or) (fits.outer_sign place signs.Or) (only_outer place signs.Or) refl refl b) (λ _. rule_conjunction) refl) (λ c. refl) refl) (λ es.
      reads_yield tokens b (grouped Or e es)) refl) refl

-- '(' Or ')' or a call, by what is known of what is between the brackets
with_call : (prefixes : Prefixes) (place : Place) (d b : ℕ) {P D : Part Placed Expr} {p : Reader Placed Expr} → Nested false (a_sign signs.Open) [] P D p b
    → Nested false primaries [] (either P (call prefixes place d)) (either D (call prefixes place (suc b))) (read_either (of (a_sign signs.Open)) p (read_call prefixes place b)) b
with_call prefixes place d b f = reads_either (of (a_sign signs.Open)) f (rule_call prefixes place d b) (λ c. refl) refl

primary_none : (prefixes : Prefixes) (place : Place) (d : ℕ) → Nested false primaries [] (primary prefixes place d) (primary prefixes place 1) (read_primary prefixes place 0) 0
unfolding read_primary
primary_none prefixes place zero = with_call prefixes place zero zero (reads_deep parens (disjunction place (primary prefixes place 0)) (shape_nothing tokens false (numbers (a_sign signs.Open))))
primary_none prefixes place (suc d) =
    let r = reads_between parens (rule_disjunction place (primary_none prefixes place d)) refl in
    with_call prefixes place (suc d) zero (reads_deep parens (disjunction place (primary prefixes place 0)) r.shape)

rule_primary : (prefixes : Prefixes) (place : Place) (d b : ℕ) → Nested false primaries [] (primary prefixes place d) (primary prefixes place (suc b)) (read_primary prefixes place b) b
unfolding read_primary
rule_primary prefixes place d zero = primary_none prefixes place d
rule_primary prefixes place zero (suc b) = with_call prefixes place zero (suc b) (reads_nothing (reads_between parens (rule_disjunction place (rule_primary prefixes place zero b)) refl))
rule_primary prefixes place (suc d) (suc b) = with_call prefixes place (suc d) (suc b) (reads_between parens (rule_disjunction place (rule_primary prefixes place d b)) refl)

rule_filter : (prefixes : Prefixes) (place : Place) (d b : ℕ) → Nested false (a_word words.Filter) [] (filter prefixes place d) (filter prefixes place (suc b)) (read_filter prefixes place b) b
unfolding read_filter
rule_filter prefixes place d b = reads_then (rule_word words.Filter refl refl b) (λ _. reads_then (rule_primary prefixes place d b) (λ e. reads_yield tokens b (Filter e)) refl) refl

rule_optional : {P D : Part Placed Group} {p : Reader Placed Group} {b : ℕ} → Nested false (a_sign signs.OpenGroup) [] P D p b → Nested false (a_word words.Optional) [] (optional_group P) (optional_group D) (read_optional_group p) b
rule_optional {b = b} f = reads_then (rule_word words.Optional refl refl b) (λ _. reads_then f (λ g. reads_yield tokens b (Optional g)) refl) refl

-- what a group's body begins with
abbrev bodies : List TokenKind
bodies = subjects ++ elements

-- what may go on with a body
abbrev more_of_body : List TokenKind
more_of_body = elements ++ more_of_block

module _ (prefixes : Prefixes) {P D : Part Placed Element} {p : Reader Placed Element} {Q E : Part Placed Element} {q : Reader Placed Element} {b : ℕ}
    (f : Nested false (a_word words.Optional) [] P D p b) (g : Nested false (a_word words.Filter) [] Q E q b) where
  rule_element : Nested false elements more_of_block (element prefixes P Q) (element prefixes D E) (read_element prefixes p q) b
  unfolding read_element
  rule_element =
      reads_wider (numbers elements) (numbers more_of_block)
      (reads_then (reads_either (of (a_word words.Optional)) f g (λ c. refl) refl) (λ e.
      reads_then (reads_optional (of (a_sign signs.Dot)) (rule_sign signs.Dot refl refl b) (λ c. refl)) (λ _.
      reads_then (reads_optional (of subjects) (rule_block prefixes b) (λ c. refl)) (λ ps. reads_yield tokens b (e ∷ block_of ps)) refl) refl) refl) refl refl

  rule_body : Nested true bodies more_of_body (body prefixes P Q) (body prefixes D E) (read_body prefixes p q) b
  unfolding read_body
  rule_body =
      reads_wider (numbers bodies) (numbers more_of_body)
      (reads_then (reads_optional (of subjects) (rule_block prefixes b) (λ c. refl)) (λ ps.
      reads_then (reads_repeated (of elements) rule_element (λ c. refl) refl) (λ es. reads_yield tokens b (group_of (joined (block_of ps) es))) refl) refl) refl refl

  rule_braced : Nested false (a_sign signs.OpenGroup) [] (braced (body prefixes P Q)) (braced (body prefixes D E)) (read_braced (read_body prefixes p q)) (suc b)
  rule_braced = reads_between braces rule_body refl

group_none : (prefixes : Prefixes) (place : Place) (d : ℕ) → Nested false (a_sign signs.OpenGroup) [] (group prefixes place d) (group prefixes place 1) (read_group prefixes place 0) 0
unfolding read_group
group_none prefixes place zero = reads_deep braces (body prefixes (optional_group (group prefixes Inner 0)) (filter prefixes place 0)) (shape_nothing tokens false (numbers (a_sign signs.OpenGroup)))
group_none prefixes place (suc d) =
    let r = rule_braced prefixes (rule_optional (group_none prefixes Inner d)) (rule_filter prefixes place d 0) in
    reads_deep braces (body prefixes (optional_group (group prefixes Inner 0)) (filter prefixes place 0)) r.shape

pub rule_group : (prefixes : Prefixes) (place : Place) (d b : ℕ) → Nested false (a_sign signs.OpenGroup) [] (group prefixes place d) (group prefixes place (suc b)) (read_group prefixes place b) b
unfolding read_group
rule_group prefixes place d zero = group_none prefixes place d
rule_group prefixes place zero (suc b) = reads_nothing (rule_braced prefixes (rule_optional (rule_group prefixes Inner zero b)) (rule_filter prefixes place zero b))
rule_group prefixes place (suc d) (suc b) = rule_braced prefixes (rule_optional (rule_group prefixes Inner d b)) (rule_filter prefixes place d b)
