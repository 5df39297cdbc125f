-- Words (SPARQL 1.1 Query, section 19.8 and note 1 there: keywords are read in any case, but for `a`).
use Rattle.std.specs.Prelude.{◌≡◌, ℕ, Bool, true, false, cond, ◌&&◌, List, [], ◌∷◌, Option, Some, None, unwrap_or, map, codes}
use Rattle.std.specs.Char.{to_ascii_lowercase}
use Rattle.std.specs.List.{list_all}
use Rattle.std.specs.Str.{bytes_eq}
use Rattle.bye_terms.specs.Characters.{is_letter}
use Rattle.bye_tokens.specs.Classes.{is_word_part}
use Rattle.bye_tokens.specs.declared.word.Word.{Word}
use Rattle.bye_tokens.specs.declared.word.Word.TheVariants.{A, Select, Distinct, Where, Prefix, Optional, Filter, Bound, SameTerm, IsIri, IsUri, IsBlank, IsLiteral, True, False, Ask, Construct, Describe, Base, Reduced, From, Named, Union, Minus, Graph, Service, Bind, Values, Exists, Not, Order, Group, Having, Limit, Offset, Insert, Delete, Load, Clear, Create, Drop, Copy, Move, Add, With, Other}

-- a letter, and then letters, digits and underscores, all of ASCII
abbrev pub is_word : List ℕ → Bool
is_word [] = false
is_word (c ∷ cs) = is_letter c && list_all is_word_part cs

-- the two are the same but for the case of ASCII letters
abbrev pub same_letters : List ℕ → List ℕ → Bool
same_letters text name = bytes_eq (map to_ascii_lowercase text) (map to_ascii_lowercase name)

-- words that the grammar of queries has
abbrev pub grammar_word : List ℕ → Option Word
grammar_word text =
    cond (same_letters text (codes "select")) (Some Select) (
    cond (same_letters text (codes "distinct")) (Some Distinct) (
    cond (same_letters text (codes "where")) (Some Where) (
    cond (same_letters text (codes "prefix")) (Some Prefix) (
    cond (same_letters text (codes "optional")) (Some Optional) (
    cond (same_letters text (codes "filter")) (Some Filter) (
    cond (same_letters text (codes "bound")) (Some Bound) (
    cond (same_letters text (codes "sameterm")) (Some SameTerm) (
    cond (same_letters text (codes "isiri")) (Some IsIri) (
    cond (same_letters text (codes "isuri")) (Some IsUri) (
    cond (same_letters text (codes "isblank")) (Some IsBlank) (
    cond (same_letters text (codes "isliteral")) (Some IsLiteral) (
    cond (same_letters text (codes "true")) (Some True) (
    cond (same_letters text (codes "false")) (Some False) None)))))))))))))

-- words of queries that the grammar leaves out
abbrev pub query_word : List ℕ → Option Word
query_word text =
    cond (same_letters text (codes "ask")) (Some Ask) (
    cond (same_letters text (codes "construct")) (Some Construct) (
    cond (same_letters text (codes "describe")) (Some Describe) (
    cond (same_letters text (codes "base")) (Some Base) (
    cond (same_letters text (codes "reduced")) (Some Reduced) (
    cond (same_letters text (codes "from")) (Some From) (
    cond (same_letters text (codes "named")) (Some Named) (
    cond (same_letters text (codes "union")) (Some Union) (
    cond (same_letters text (codes "minus")) (Some Minus) (
    cond (same_letters text (codes "graph")) (Some Graph) (
    cond (same_letters text (codes "service")) (Some Service) (
    cond (same_letters text (codes "bind")) (Some Bind) (
    cond (same_letters text (codes "values")) (Some Values) (
    cond (same_letters text (codes "exists")) (Some Exists) (
    cond (same_letters text (codes "not")) (Some Not) None))))))))))))))

-- the rest of these: words after a pattern, and words of updates
abbrev pub update_word : List ℕ → Option Word
update_word text =
    cond (same_letters text (codes "order")) (Some Order) (
    cond (same_letters text (codes "group")) (Some Group) (
    cond (same_letters text (codes "having")) (Some Having) (
    cond (same_letters text (codes "limit")) (Some Limit) (
    cond (same_letters text (codes "offset")) (Some Offset) (
    cond (same_letters text (codes "insert")) (Some Insert) (
    cond (same_letters text (codes "delete")) (Some Delete) (
    cond (same_letters text (codes "load")) (Some Load) (
    cond (same_letters text (codes "clear")) (Some Clear) (
    cond (same_letters text (codes "create")) (Some Create) (
    cond (same_letters text (codes "drop")) (Some Drop) (
    cond (same_letters text (codes "copy")) (Some Copy) (
    cond (same_letters text (codes "move")) (Some Move) (
    cond (same_letters text (codes "add")) (Some Add) (
    cond (same_letters text (codes "with")) (Some With) None))))))))))))))

-- the first of the two, where there is one
abbrev pub first_word : Option Word → Option Word → Option Word
first_word (Some word) other = Some word
first_word None other = other

-- the word that a text is: `a` as it stands, each other in any case
abbrev pub word_of : List ℕ → Word
word_of text = cond (bytes_eq text (codes "a")) A (unwrap_or (first_word (grammar_word text) (first_word (query_word text) (update_word text))) Other)

-- a word, with what it is
pub record WordToken (text : List ℕ) (word : Word) : Type 0 where
  pub is : is_word text ≡ true
  pub stands : word ≡ word_of text
