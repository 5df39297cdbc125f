-- What each state of the machine of IRIs still wants, in the grammar's words.
use Rattle.std.specs.Prelude.{◌≡◌, ℕ, true, List, [], ◌∷◌}
use Rattle.bye_lex.specs.Iris.{has_numbers, IriToken, IriLetter, IriScheme, IriTail}
use Rattle.bye_lex.proofs.Meanings.{After, EscapeTail}
use Rattle.bye_lex.specs.declared.escape.Home.TheVariants as homes
use Rattle.bye_lex.specs.declared.iri.IriAt.{IriAt}
use Rattle.bye_lex.specs.declared.iri.IriAt.TheVariants.{Start, Opened, Scheme, Body, Backslash, Escape, Done}
use Rattle.bye_lex.specs.declared.style.Style.{Style}

-- A state that has looked at a backslash wants what the state before it did, with the backslash put back.
abbrev pub Left : Style → IriAt → List ℕ → List ℕ → Type 0
Left style Start text value = IriToken style text value
Left style Opened text value = IriLetter style text value
Left style (Scheme out) text value = After (IriScheme style) out text value
Left style (Body out) text value = After (IriTail style) out text value
Left style (Backslash out) text value = (has_numbers style ≡ true) × After (λ t w. IriTail style (92 ∷ t) w) out text value
Left style (Escape at out) text value = (has_numbers style ≡ true) × After (EscapeTail homes.Iri (IriTail style) at) out text value
Left style (Done out) text value = (text ≡ []) × (value ≡ out)
