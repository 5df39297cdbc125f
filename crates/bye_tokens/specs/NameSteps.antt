-- The machine of words and prefixed names.
use Rattle.std.specs.Prelude.{ℕ, cond, ◌==◌, Option, Some, None}
use Rattle.bye_terms.specs.Characters.{is_letter, is_name_base, is_label_start, is_label_part}
use Rattle.bye_tokens.specs.Classes.{is_word_part, is_prefix_part, is_hex, may_be_escaped}
use Rattle.bye_tokens.specs.declared.name.Plain.{Plain}
use Rattle.bye_tokens.specs.declared.name.Plain.TheVariants.{Word, Prefixed}
use Rattle.bye_tokens.specs.declared.name.PlainAt.{PlainAt}
use Rattle.bye_tokens.specs.declared.name.PlainAt.TheVariants.{Start, InWord, InPrefix, PrefixDot, Colon, InLocal, LocalDot, Percent, LastHex, Backslash}

-- after a prefix that may end
abbrev pub after_prefix : ℕ → Option PlainAt
after_prefix c = cond (is_prefix_part c) (Some InPrefix) (cond (c == 46) (Some PrefixDot) (cond (c == 58) (Some Colon) None))

-- the first character of an escape in a local part
abbrev pub escaped : ℕ → Option PlainAt
escaped c = cond (c == 37) (Some Percent) (cond (c == 92) (Some Backslash) None)

-- within a local part
abbrev pub in_local : ℕ → Option PlainAt
in_local c = cond (is_label_part c) (Some InLocal) (cond (c == 46) (Some LocalDot) (escaped c))

-- one character more
abbrev pub step : PlainAt → ℕ → Option PlainAt
step Start c = cond (is_letter c) (Some InWord) (cond (is_name_base c) (Some InPrefix) (cond (c == 58) (Some Colon) None))
step InWord c = cond (is_word_part c) (Some InWord) (after_prefix c)
step InPrefix c = after_prefix c
step PrefixDot c = cond (is_prefix_part c) (Some InPrefix) (cond (c == 46) (Some PrefixDot) None)
step Colon c = cond (is_label_start c) (Some InLocal) (escaped c)
step InLocal c = in_local c
step LocalDot c = in_local c
step Percent c = cond (is_hex c) (Some LastHex) None
step LastHex c = cond (is_hex c) (Some InLocal) None
step Backslash c = cond (may_be_escaped c) (Some InLocal) None

-- what was read, where it is a word or a prefixed name
abbrev pub form : PlainAt → Option Plain
form Start = None
form InWord = Some Word
form InPrefix = None
form PrefixDot = None
form Colon = Some Prefixed
form InLocal = Some Prefixed
form LocalDot = None
form Percent = None
form LastHex = None
form Backslash = None
