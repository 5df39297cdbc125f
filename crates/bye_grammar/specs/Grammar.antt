-- The grammar of query documents (SPARQL 1.1 Query, section 19.8), each rule with what it stands for. Nesting is by number: a rule with
-- brackets has the number of brackets that may be open in one another, and a document is what derives at any number.
use Rattle.std.specs.Prelude.{ℕ, zero, suc, List, [], ◌∷◌, Option, Some, None, map, is_some, reverse}
use Rattle.bye_pattern.specs.declared.slot.Slot.{Slot}
use Rattle.bye_pattern.specs.declared.slot.Slot.TheVariants.{Var}
use Rattle.bye_pattern.specs.Patterns.{Pattern}
use Rattle.bye_pattern.specs.Conditions.{Expr, IsBound, Same, KindOf, And, Or}
use Rattle.bye_pattern.specs.Written.{Element, Optional, Filter, Group, group_of, Written}
use Rattle.bye_table.specs.Mappings.{Name}
use Rattle.bye_tokens.specs.declared.token.Placed.{Placed}
use Rattle.bye_tokens.specs.declared.token.Token.{Token}
use Rattle.bye_tokens.specs.declared.sign.Sign.{Sign}
use Rattle.bye_tokens.specs.declared.sign.Sign.TheVariants as signs
use Rattle.bye_tokens.specs.declared.word.Word.{Word}
use Rattle.bye_tokens.specs.declared.word.Word.TheVariants as words
use Rattle.bye_parts.specs.Parts.{Part, token, ◌>>=◌, ◌>>◌, yield, nothing, either, optional, repeated, trailing, run, mapped, between, bracketed}
use Rattle.bye_grammar.specs.declared.place.Place.{Place}
use Rattle.bye_grammar.specs.declared.place.Place.TheVariants.{Outer, Inner}
use Rattle.bye_grammar.specs.Fits as fits
use Rattle.bye_grammar.specs.Fits.{Chars, Prefixes}
use Rattle.bye_grammar.specs.Values.{or_plain, pattern, or_none, joined, negated, grouped, block_of}

-- one token, wherever it stands in the text
abbrev pub one : {V : Type 0} → (Token → Option V) → Part Placed V
one test = token (λ t. test t.token)

-- this sign
abbrev pub sign : Sign → Part Placed (Unit {0})
sign s = one (fits.is_sign s)

-- this word
abbrev pub word : Word → Part Placed (Unit {0})
word w = one (fits.is_word w)

-- Tag | '^^' Iri
abbrev pub suffix : Prefixes → Chars → Part Placed Slot
suffix prefixes text = either (mapped (fits.tagged text) (one fits.tag)) (do
  sign signs.Carets
  datatype ← one (fits.datatype prefixes)
  yield (fits.typed text datatype))

-- String ( Tag | '^^' Iri )?
abbrev pub string : Prefixes → Part Placed Slot
string prefixes = do
  text ← one fits.string
  literal ← optional (suffix prefixes text)
  yield (or_plain text literal)

-- Object = Var | Iri | Literal; Literal = String ( Tag | '^^' Iri )? | Number | TRUE | FALSE
abbrev pub object : Prefixes → Part Placed Slot
object prefixes = either (string prefixes) (one (fits.short_object prefixes))

-- Objects = Object ( ',' Object )*; each makes a triple pattern with the same subject and predicate
abbrev pub objects : Prefixes → Slot → Slot → Part Placed (List Pattern)
objects prefixes s p = do
  o ← object prefixes
  os ← repeated (sign signs.Comma >> object prefixes)
  yield (map (pattern s p) (o ∷ os))

-- Verb Objects
abbrev pub property : Prefixes → Slot → Part Placed (List Pattern)
property prefixes s = do
  p ← one (fits.verb prefixes)
  objects prefixes s p

-- ';' ( Verb Objects )?
abbrev pub next_property : Prefixes → Slot → Part Placed (List Pattern)
next_property prefixes s = do
  sign signs.Semicolon
  ps ← optional (property prefixes s)
  yield (or_none ps)

-- Same = ( Var | Iri ) Verb Objects ( ';' ( Verb Objects )? )*
abbrev pub same : Prefixes → Part Placed (List Pattern)
same prefixes = do
  s ← one (fits.subject prefixes)
  ps ← property prefixes s
  more ← repeated (next_property prefixes s)
  yield (joined ps more)

-- Block = Same ( '.' Same )* '.'?
abbrev pub block : Prefixes → Part Placed (List Pattern)
block prefixes = do
  ps ← same prefixes
  more ← trailing (sign signs.Dot) (same prefixes)
  yield (joined ps more)

-- '(' and ')' around a part
abbrev pub parenthesized : {V : Type 0} → Part Placed V → Part Placed V
parenthesized P = between (λ t. fits.is_sign signs.Open t.token) (λ t. fits.is_sign signs.Close t.token) P

-- '{' and '}' around a part
abbrev pub braced : {V : Type 0} → Part Placed V → Part Placed V
braced P = between (λ t. fits.is_sign signs.OpenGroup t.token) (λ t. fits.is_sign signs.CloseGroup t.token) P

-- '(' and ')' around a part, where so many brackets may be open in one another
abbrev pub call_of : {V : Type 0} → ℕ → Part Placed V → Part Placed V
call_of d P = bracketed (λ t. fits.is_sign signs.Open t.token) (λ t. fits.is_sign signs.Close t.token) d P

-- what a kind test is asked of: an Object, in an OPTIONAL group a Var
abbrev pub argument : Prefixes → Place → Part Placed Slot
argument prefixes Outer = object prefixes
argument prefixes Inner = mapped Var (one fits.variable)

-- Iri | Literal
abbrev pub constant : Prefixes → Part Placed Slot
constant prefixes = either (string prefixes) (one (fits.short_constant prefixes))

-- Object ',' Object; in an OPTIONAL group one of the two is a Var
abbrev pub arguments : Prefixes → Place → Part Placed Expr
arguments prefixes place = either (do
  v ← one fits.variable
  sign signs.Comma
  o ← object prefixes
  yield (Same (Var v) o)) (do
    c ← constant prefixes
    sign signs.Comma
    o ← argument prefixes place
    yield (Same c o))

-- Call = BOUND '(' Var ')' | SAMETERM '(' Object ',' Object ')' | ( ISIRI | ISURI | ISBLANK | ISLITERAL ) '(' Object ')'
abbrev pub call : Prefixes → Place → ℕ → Part Placed Expr
call prefixes place d = either (do
  word words.Bound
  call_of d (mapped IsBound (one fits.variable))) (either (do
    word words.SameTerm
    call_of d (arguments prefixes place)) (do
      kind ← one fits.kind_test
      call_of d (mapped (KindOf kind) (argument prefixes place))))

-- Unary = '!'? Primary; no `!` in an OPTIONAL group
abbrev pub unary : Place → Part Placed Expr → Part Placed Expr
unary place primary = do
  bang ← optional (one (fits.outer_sign place signs.Bang))
  e ← primary
  yield (negated bang e)

-- And = Unary ( '&&' Unary )*
abbrev pub conjunction : Place → Part Placed Expr → Part Placed Expr
conjunction place primary = do
  e ← unary place primary
  es ← repeated (sign signs.And >> unary place primary)
  yield (grouped And e es)

-- Or = And ( '||' And )*; no `||` in an OPTIONAL group
abbrev pub disjunction : Place → Part Placed Expr → Part Placed Expr
disjunction place primary = do
  e ← conjunction place primary
  es ← repeated (one (fits.outer_sign place signs.Or) >> conjunction place primary)
  yield (grouped Or e es)

-- Primary = '(' Or ')' | Call
abbrev pub primary : Prefixes → Place → ℕ → Part Placed Expr
primary prefixes place zero = either nothing (call prefixes place zero)
primary prefixes place (suc d) = either (parenthesized (disjunction place (primary prefixes place d))) (call prefixes place (suc d))

-- Filter = FILTER ( '(' Or ')' | Call )
abbrev pub filter : Prefixes → Place → ℕ → Part Placed Element
filter prefixes place d = do
  word words.Filter
  e ← primary prefixes place d
  yield (Filter e)

-- Optional = OPTIONAL Group
abbrev pub optional_group : Part Placed Group → Part Placed Element
optional_group group = do
  word words.Optional
  g ← group
  yield (Optional g)

-- ( Optional | Filter ) '.'? Block?
abbrev pub element : Prefixes → Part Placed Element → Part Placed Element → Part Placed (List Element)
element prefixes inner test = do
  e ← either inner test
  optional (sign signs.Dot)
  ps ← optional (block prefixes)
  yield (e ∷ block_of ps)

-- Block? ( ( Optional | Filter ) '.'? Block? )*
abbrev pub body : Prefixes → Part Placed Element → Part Placed Element → Part Placed Group
body prefixes inner test = do
  ps ← optional (block prefixes)
  es ← repeated (element prefixes inner test)
  yield (group_of (joined (block_of ps) es))

-- Group = '{' Block? ( ( Optional | Filter ) '.'? Block? )* '}'
abbrev pub group : Prefixes → Place → ℕ → Part Placed Group
group prefixes place zero = nothing
group prefixes place (suc d) = braced (body prefixes (optional_group (group prefixes Inner d)) (filter prefixes place d))

-- PREFIX Prefix IriRef
abbrev pub declaration : Part Placed (Chars × Chars)
declaration = do
  word words.Prefix
  prefix ← one fits.prefix
  iri ← one fits.iri_reference
  yield (prefix, iri)

-- Var+, in which a repeat fits nowhere
abbrev pub names : Part Placed (List Name)
names = do
  v ← one fits.variable
  vs ← run (λ seen t. fits.new_variable seen t.token) (v ∷ [])
  yield (v ∷ vs)

-- SELECT DISTINCT? ( Var+ | '*' ) WHERE? Group
abbrev pub selection : Prefixes → ℕ → Part Placed Written
selection prefixes d = do
  word words.Select
  distinct ← optional (word words.Distinct)
  vars ← either (mapped Some names) (mapped (λ _. None) (sign signs.Star))
  optional (word words.Where)
  g ← group prefixes Outer d
  yield (record { distinct = is_some distinct; vars = vars; group = g })

-- Document = ( PREFIX Prefix IriRef )* SELECT DISTINCT? ( Var+ | '*' ) WHERE? Group; a later declaration of a prefix replaces an earlier one
abbrev pub document : ℕ → Part Placed Written
document d = do
  declarations ← repeated declaration
  selection (reverse declarations) d
