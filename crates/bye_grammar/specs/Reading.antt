-- What the readers of a document's rules read from the front of a list of tokens (SPARQL 1.1 Query, section 19.8), rule by rule in the
-- order of the grammar. A rule with brackets has the number of brackets that may still be opened.
use Rattle.std.specs.Prelude.{ℕ, zero, suc, List, [], ◌∷◌, Option, Some, None, map, is_some, reverse}
use Rattle.bye_pattern.specs.declared.slot.Slot.{Slot}
use Rattle.bye_pattern.specs.declared.slot.Slot.TheVariants.{Var}
use Rattle.bye_pattern.specs.Patterns.{Pattern}
use Rattle.bye_pattern.specs.Conditions.{Expr, IsBound, Same, KindOf, And, Or}
use Rattle.bye_pattern.specs.Written.{Element, Optional, Filter, Group, group_of, Written}
use Rattle.bye_table.specs.Mappings.{Name}
use Rattle.bye_tokens.specs.declared.token.Placed.{Placed}
use Rattle.bye_tokens.specs.declared.token.Token.{Token}
use Rattle.bye_tokens.specs.declared.sign.Sign.{Sign}
use Rattle.bye_tokens.specs.declared.sign.Sign.TheVariants as signs
use Rattle.bye_tokens.specs.declared.word.Word.{Word}
use Rattle.bye_tokens.specs.declared.word.Word.TheVariants as words
use Rattle.bye_parts.specs.Readers.{Reader, ◌>>=◌, ◌>>◌, read_yield, read_token, read_optional, read_either, read_mapped, read_repeated, read_trailing, read_run, read_between, read_bracketed, read_deep}
use Rattle.bye_grammar.specs.declared.place.Place.{Place}
use Rattle.bye_grammar.specs.declared.place.Place.TheVariants.{Outer, Inner}
use Rattle.bye_grammar.specs.TokenKinds.{of, a_word, a_sign, subjects, verbs, suffixes, elements, Quoted, Tagged, Variable}
use Rattle.bye_grammar.specs.Fits as fits
use Rattle.bye_grammar.specs.Fits.{Chars, Prefixes}
use Rattle.bye_grammar.specs.Values.{or_plain, pattern, or_none, joined, negated, grouped, block_of}

-- one token
abbrev pub read_one : {V : Type 0} → (Token → Option V) → Reader Placed V
read_one test = read_token (λ t. test t.token)

-- a sign
abbrev pub read_sign : Sign → Reader Placed (Unit {0})
read_sign s = read_one (fits.is_sign s)

-- a word
abbrev pub read_word : Word → Reader Placed (Unit {0})
read_word w = read_one (fits.is_word w)

-- Tag | '^^' Iri
unfoldable pub read_suffix : Prefixes → Chars → Reader Placed Slot
read_suffix prefixes text = read_either (of (Tagged ∷ [])) (read_mapped (fits.tagged text) (read_one fits.tag)) (do
  read_sign signs.Carets
  datatype ← read_one (fits.datatype prefixes)
  read_yield (fits.typed text datatype))

-- String ( Tag | '^^' Iri )?
unfoldable pub read_string : Prefixes → Reader Placed Slot
read_string prefixes = do
  text ← read_one fits.string
  literal ← read_optional (of suffixes) (read_suffix prefixes text)
  read_yield (or_plain text literal)

-- Object
unfoldable pub read_object : Prefixes → Reader Placed Slot
read_object prefixes = read_either (of (Quoted ∷ [])) (read_string prefixes) (read_one (fits.short_object prefixes))

-- ',' Object
abbrev pub read_next_object : Prefixes → Reader Placed Slot
read_next_object prefixes = read_sign signs.Comma >> read_object prefixes

-- Objects
unfoldable pub read_objects : Prefixes → Slot → Slot → Reader Placed (List Pattern)
read_objects prefixes s p = do
  o ← read_object prefixes
  os ← read_repeated (of (a_sign signs.Comma)) (read_next_object prefixes)
  read_yield (map (pattern s p) (o ∷ os))

-- Verb Objects
unfoldable pub read_property : Prefixes → Slot → Reader Placed (List Pattern)
read_property prefixes s = do
  p ← read_one (fits.verb prefixes)
  read_objects prefixes s p

-- ';' ( Verb Objects )?
abbrev pub read_next_property : Prefixes → Slot → Reader Placed (List Pattern)
read_next_property prefixes s = do
  read_sign signs.Semicolon
  ps ← read_optional (of verbs) (read_property prefixes s)
  read_yield (or_none ps)

-- Verb Objects ( ';' ( Verb Objects )? )*
abbrev pub read_properties : Prefixes → Slot → Reader Placed (List Pattern)
read_properties prefixes s = do
  ps ← read_property prefixes s
  more ← read_repeated (of (a_sign signs.Semicolon)) (read_next_property prefixes s)
  read_yield (joined ps more)

-- Same
unfoldable pub read_same : Prefixes → Reader Placed (List Pattern)
read_same prefixes = do
  s ← read_one (fits.subject prefixes)
  read_properties prefixes s

-- Block
unfoldable pub read_block : Prefixes → Reader Placed (List Pattern)
read_block prefixes = do
  ps ← read_same prefixes
  more ← read_trailing (of (a_sign signs.Dot)) (of subjects) (read_same prefixes)
  read_yield (joined ps more)

-- '(' and ')' around what is read
abbrev pub read_parenthesized : {V : Type 0} → Reader Placed V → Reader Placed V
read_parenthesized p = read_between (λ t. fits.is_sign signs.Open t.token) (λ t. fits.is_sign signs.Close t.token) p

-- '{' and '}' around what is read
abbrev pub read_braced : {V : Type 0} → Reader Placed V → Reader Placed V
read_braced p = read_between (λ t. fits.is_sign signs.OpenGroup t.token) (λ t. fits.is_sign signs.CloseGroup t.token) p

-- '(' and ')' around what is read, where so many brackets may still be opened
abbrev pub read_call_of : {V : Type 0} → ℕ → Reader Placed V → Reader Placed V
read_call_of n p = read_bracketed (of (a_sign signs.Open)) (λ t. fits.is_sign signs.Open t.token) (λ t. fits.is_sign signs.Close t.token) n p

-- an Object, in an OPTIONAL group a Var
abbrev pub read_argument : Prefixes → Place → Reader Placed Slot
read_argument prefixes Outer = read_object prefixes
read_argument prefixes Inner = read_mapped Var (read_one fits.variable)

-- Iri | Literal
unfoldable pub read_constant : Prefixes → Reader Placed Slot
read_constant prefixes = read_either (of (Quoted ∷ [])) (read_string prefixes) (read_one (fits.short_constant prefixes))

-- Object ',' Object
unfoldable pub read_arguments : Prefixes → Place → Reader Placed Expr
read_arguments prefixes place = read_either (of (Variable ∷ [])) (do
  v ← read_one fits.variable
  read_sign signs.Comma
  o ← read_object prefixes
  read_yield (Same (Var v) o)) (do
    c ← read_constant prefixes
    read_sign signs.Comma
    o ← read_argument prefixes place
    read_yield (Same c o))

-- Call
unfoldable pub read_call : Prefixes → Place → ℕ → Reader Placed Expr
read_call prefixes place n = read_either (of (a_word words.Bound)) (do
  read_word words.Bound
  read_call_of n (read_mapped IsBound (read_one fits.variable))) (read_either (of (a_word words.SameTerm)) (do
    read_word words.SameTerm
    read_call_of n (read_arguments prefixes place)) (do
      kind ← read_one fits.kind_test
      read_call_of n (read_mapped (KindOf kind) (read_argument prefixes place))))

-- Unary
unfoldable pub read_unary : Place → Reader Placed Expr → Reader Placed Expr
read_unary place primary = do
  bang ← read_optional (of (a_sign signs.Bang)) (read_one (fits.outer_sign place signs.Bang))
  e ← primary
  read_yield (negated bang e)

-- '&&' Unary
abbrev pub read_next_unary : Place → Reader Placed Expr → Reader Placed Expr
read_next_unary place primary = read_sign signs.And >> read_unary place primary

-- And
unfoldable pub read_conjunction : Place → Reader Placed Expr → Reader Placed Expr
read_conjunction place primary = do
  e ← read_unary place primary
  es ← read_repeated (of (a_sign signs.And)) (read_next_unary place primary)
  read_yield (grouped And e es)

-- '||' And
abbrev pub read_next_conjunction : Place → Reader Placed Expr → Reader Placed Expr
read_next_conjunction place primary = read_one (fits.outer_sign place signs.Or) >> read_conjunction place primary

-- Or
unfoldable pub read_disjunction : Place → Reader Placed Expr → Reader Placed Expr
read_disjunction place primary = do
  e ← read_conjunction place primary
  es ← read_repeated (of (a_sign signs.Or)) (read_next_conjunction place primary)
  read_yield (grouped Or e es)

-- Primary
unfoldable pub read_primary : Prefixes → Place → ℕ → Reader Placed Expr
read_primary prefixes place zero = read_either (of (a_sign signs.Open)) (read_deep (of (a_sign signs.Open))) (read_call prefixes place zero)
read_primary prefixes place (suc n) = read_either (of (a_sign signs.Open)) (read_parenthesized (read_disjunction place (read_primary prefixes place n))) (read_call prefixes place (suc n))

-- Filter
unfoldable pub read_filter : Prefixes → Place → ℕ → Reader Placed Element
read_filter prefixes place n = do
  read_word words.Filter
  e ← read_primary prefixes place n
  read_yield (Filter e)

-- Optional
abbrev pub read_optional_group : Reader Placed Group → Reader Placed Element
read_optional_group group = do
  read_word words.Optional
  g ← group
  read_yield (Optional g)

-- '.'? Block? after an element
abbrev pub read_after_element : Prefixes → Element → Reader Placed (List Element)
read_after_element prefixes e = do
  read_optional (of (a_sign signs.Dot)) (read_sign signs.Dot)
  ps ← read_optional (of subjects) (read_block prefixes)
  read_yield (e ∷ block_of ps)

-- ( Optional | Filter ) '.'? Block?
unfoldable pub read_element : Prefixes → Reader Placed Element → Reader Placed Element → Reader Placed (List Element)
read_element prefixes inner test = do
  e ← read_either (of (a_word words.Optional)) inner test
  read_after_element prefixes e

-- Block? ( ( Optional | Filter ) '.'? Block? )*
unfoldable pub read_body : Prefixes → Reader Placed Element → Reader Placed Element → Reader Placed Group
read_body prefixes inner test = do
  ps ← read_optional (of subjects) (read_block prefixes)
  es ← read_repeated (of elements) (read_element prefixes inner test)
  read_yield (group_of (joined (block_of ps) es))

-- Group
unfoldable pub read_group : Prefixes → Place → ℕ → Reader Placed Group
read_group prefixes place zero = read_deep (of (a_sign signs.OpenGroup))
read_group prefixes place (suc n) = read_braced (read_body prefixes (read_optional_group (read_group prefixes Inner n)) (read_filter prefixes place n))

-- PREFIX Prefix IriRef
unfoldable pub read_declaration : Reader Placed (Chars × Chars)
read_declaration = do
  read_word words.Prefix
  prefix ← read_one fits.prefix
  iri ← read_one fits.iri_reference
  read_yield (prefix, iri)

-- Var+
unfoldable pub read_names : Reader Placed (List Name)
read_names = do
  v ← read_one fits.variable
  vs ← read_run (of (Variable ∷ [])) (λ seen t. fits.new_variable seen t.token) (v ∷ [])
  read_yield (v ∷ vs)

-- SELECT DISTINCT? ( Var+ | '*' ) WHERE? Group
unfoldable pub read_selection : Prefixes → ℕ → Reader Placed Written
read_selection prefixes n = do
  read_word words.Select
  distinct ← read_optional (of (a_word words.Distinct)) (read_word words.Distinct)
  vars ← read_either (of (Variable ∷ [])) (read_mapped Some read_names) (read_mapped (λ _. None) (read_sign signs.Star))
  read_optional (of (a_word words.Where)) (read_word words.Where)
  g ← read_group prefixes Outer n
  read_yield (record { distinct = is_some distinct; vars = vars; group = g })

-- Document
unfoldable pub read_document : ℕ → Reader Placed Written
read_document n = do
  declarations ← read_repeated (of (a_word words.Prefix)) read_declaration
  read_selection (reverse declarations) n
