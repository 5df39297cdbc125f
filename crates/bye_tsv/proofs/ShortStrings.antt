-- The strings of a table document are short: the machine of strings reaches no state of long ones.
use Rattle.std.proofs.Common.{◌≡◌, refl, ℕ, Bool, true, false, ◌==◌, ◌&&◌, List, [], ◌∷◌, ◌++◌, Option, Some, None, sym, subst}
use Rattle.bye_lex.specs.EscapeSteps as escape
use Rattle.bye_lex.specs.StringSteps as string
use Rattle.bye_lex.specs.Strings.{named, may_stand, mark_of}
use Rattle.bye_lex.specs.declared.escape.EscapeStep.{EscapeStep}
use Rattle.bye_lex.specs.declared.escape.EscapeStep.TheVariants.{Within, Whole}
use Rattle.bye_lex.specs.declared.escape.Home.TheVariants as homes
use Rattle.bye_lex.specs.declared.quoting.Quote.TheVariants.{Double, Single}
use Rattle.bye_lex.specs.declared.quoting.Quoting.{Quoting}
use Rattle.bye_lex.specs.declared.quoting.Quoting.TheVariants.{Short, Long}
use Rattle.bye_lex.specs.declared.string.StringAt.{StringAt}
use Rattle.bye_lex.specs.declared.string.StringAt.TheVariants.{Start, Opened, Empty, In, Backslash, Escape, OneQuote, TwoQuotes, Done}
use Rattle.bye_lex.specs.declared.style.Style.TheVariants.{Tsv}
use Rattle.bye_lex.proofs.Branches.{mapped, none_some, pick_of, some_same}

abbrev is_short_quoting : Quoting → Bool
is_short_quoting (Short q) = true
is_short_quoting (Long q) = false

-- a state of a short string
abbrev pub is_short : StringAt → Bool
is_short Start = true
is_short (Opened q) = false
is_short (Empty q) = false
is_short (In k out) = is_short_quoting k
is_short (Backslash k out) = is_short_quoting k
is_short (Escape k at out) = is_short_quoting k
is_short (OneQuote q out) = false
is_short (TwoQuotes q out) = false
is_short (Done out) = true

abbrev IsShort : StringAt → Type 0
IsShort n = is_short n ≡ true

inside_next : (k : Quoting) (out : List ℕ) (c : ℕ) (n : StringAt) → is_short_quoting k ≡ true → string.inside Tsv k out c ≡ Some n → IsShort n
inside_next k out c n g e =
    pick_of (c == 92) (Backslash k out) n _ e (λ b m. subst IsShort (sym m) g)
    (λ e. pick_of (may_stand Tsv k c) (In k (out ++ c ∷ [])) n None e (λ b m. subst IsShort (sym m) g) (λ m. none_some m))

backslash_next : (k : Quoting) (out : List ℕ) (c : ℕ) (n : StringAt) (o : Option ℕ) → is_short_quoting k ≡ true → string.after_backslash Tsv k out c o ≡ Some n → IsShort n
backslash_next k out c n None g e = let m = mapped (λ at. Escape k at out) (escape.begin c) n e in subst IsShort m.2 g
backslash_next k out c n (Some d) g e = subst IsShort (some_same e) g

escaped : (k : Quoting) (out : List ℕ) (x : EscapeStep) → is_short_quoting k ≡ true → IsShort (string.after_escape k out x)
escaped k out (Within at) g = g
escaped k out (Whole c) g = g

pub next_short : (s n : StringAt) (c : ℕ) → IsShort s → string.step Tsv s c ≡ Some n → IsShort n
next_short Start n c g e =
    pick_of (c == 34) (In (Short Double) []) n _ e (λ b m. subst IsShort (sym m) refl)
    (λ e. pick_of (c == 39 && true) (In (Short Single) []) n None e (λ b m. subst IsShort (sym m) refl) (λ m. none_some m))
next_short (Opened q) n c g e = cc
next_short (Empty q) n c g e = cc
next_short (In (Short q) out) n c g e = pick_of (c == mark_of q) (Done out) n _ e (λ b m. subst IsShort (sym m) refl) (λ e. inside_next (Short q) out c n refl e)
next_short (In (Long q) out) n c g e = cc
next_short (Backslash k out) n c g e = backslash_next k out c n (named c) g e
next_short (Escape k at out) n c g e = let m = mapped (string.after_escape k out) (escape.step homes.Text at c) n e in subst IsShort m.2 (escaped k out m.0 g)
next_short (OneQuote q out) n c g e = cc
next_short (TwoQuotes q out) n c g e = cc
next_short (Done out) n c g e = none_some e
