-- What each state of the machine of strings still wants, in the grammar's words.
use Rattle.std.specs.Prelude.{◌≡◌, ℕ, true, List, [], ◌∷◌, ◌++◌, ◌⊎◌}
use Rattle.bye_lex.specs.Iris.{has_numbers}
use Rattle.bye_lex.specs.Strings.{mark_of, StringTail, StringToken}
use Rattle.bye_lex.specs.declared.style.Style.{Style}
use Rattle.bye_lex.specs.declared.quoting.Quote.{Quote}
use Rattle.bye_lex.specs.declared.quoting.Quoting.TheVariants.{Short, Long}
use Rattle.bye_lex.specs.declared.string.StringAt.{StringAt}
use Rattle.bye_lex.specs.declared.string.StringAt.TheVariants.{Start, Opened, Empty, In, Backslash, Escape, OneQuote, TwoQuotes, Done}
use Rattle.bye_lex.proofs.Meanings.{After, EscapeTail}
use Rattle.bye_lex.specs.declared.escape.Home.TheVariants as homes

-- more quotes, and then a long string
pub record Beyond (style : Style) (quote : Quote) (marks text value : List ℕ) : Type 0 where
  pub tail : List ℕ
  pub is : StringTail style (Long quote) tail value
  pub spelled : text ≡ marks ++ tail

-- A state that has looked at a backslash or at quotes wants what the state before it did, with these put back.
abbrev pub Left : Style → StringAt → List ℕ → List ℕ → Type 0
Left style Start text value = StringToken style text value
Left style (Opened q) text value = StringTail style (Short q) text value ⊎ Beyond style q (mark_of q ∷ mark_of q ∷ []) text value
Left style (Empty q) text value = ((text ≡ []) × (value ≡ [])) ⊎ Beyond style q (mark_of q ∷ []) text value
Left style (In k out) text value = After (StringTail style k) out text value
Left style (Backslash k out) text value = After (λ t w. StringTail style k (92 ∷ t) w) out text value
Left style (Escape k at out) text value = (has_numbers style ≡ true) × After (EscapeTail homes.Text (StringTail style k) at) out text value
Left style (OneQuote q out) text value = After (λ t w. StringTail style (Long q) (mark_of q ∷ t) w) out text value
Left style (TwoQuotes q out) text value = After (λ t w. StringTail style (Long q) (mark_of q ∷ mark_of q ∷ t) w) out text value
Left style (Done out) text value = (text ≡ []) × (value ≡ out)
