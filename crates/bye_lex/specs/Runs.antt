-- Runs of characters of a class, which go on with a token that was begun.
use Rattle.std.specs.Prelude.{◌≡◌, ℕ, Bool, true, not, ◌||◌, ◌==◌, List, [], ◌++◌}
use Rattle.std.specs.List.{list_all}
use Rattle.bye_terms.specs.Characters.{is_iri_char}
use Rattle.bye_lex.specs.declared.iri.IriAt.{IriAt}
use Rattle.bye_lex.specs.declared.iri.IriAt.TheVariants.{Start, Opened, Scheme, Body, Backslash, Escape, Done}
use Rattle.bye_lex.specs.declared.string.StringAt.{StringAt}
use Rattle.bye_lex.specs.declared.string.StringAt.TheVariants as strings

-- the text has a front of the class, and then this rest
pub record Cuts (test : ℕ → Bool) (text front rest : List ℕ) : Type 0 where
  pub parts : text ≡ front ++ rest
  pub all : list_all test front ≡ true

-- what stands raw in a string of each format, whatever its quotes are
abbrev pub is_plain : ℕ → Bool
is_plain c = not (c == 34 || c == 39 || c == 92 || c == 10 || c == 13 || c == 9)

-- an IRI goes on within its body alone
abbrev pub IriGoesOn : IriAt → List ℕ → IriAt → Type 0
IriGoesOn (Body text) front at = at ≡ Body (text ++ front)
IriGoesOn Start front at = (at ≡ Start) × (front ≡ [])
IriGoesOn Opened front at = (at ≡ Opened) × (front ≡ [])
IriGoesOn (Scheme text) front at = (at ≡ Scheme text) × (front ≡ [])
IriGoesOn (Backslash text) front at = (at ≡ Backslash text) × (front ≡ [])
IriGoesOn (Escape e text) front at = (at ≡ Escape e text) × (front ≡ [])
IriGoesOn (Done text) front at = (at ≡ Done text) × (front ≡ [])

-- the state after a run of characters of an IRI, and what is left
pub record IriRuns (before : IriAt) (text : List ℕ) (after : IriAt) (rest : List ℕ) : Type 0 where
  pub front : List ℕ
  pub cut : Cuts is_iri_char text front rest
  pub on : IriGoesOn before front after

-- a string goes on within its quotes alone
abbrev pub StringGoesOn : StringAt → List ℕ → StringAt → Type 0
StringGoesOn (strings.In k text) front at = at ≡ strings.In k (text ++ front)
StringGoesOn strings.Start front at = (at ≡ strings.Start) × (front ≡ [])
StringGoesOn (strings.Opened q) front at = (at ≡ strings.Opened q) × (front ≡ [])
StringGoesOn (strings.Empty q) front at = (at ≡ strings.Empty q) × (front ≡ [])
StringGoesOn (strings.Backslash k text) front at = (at ≡ strings.Backslash k text) × (front ≡ [])
StringGoesOn (strings.Escape k e text) front at = (at ≡ strings.Escape k e text) × (front ≡ [])
StringGoesOn (strings.OneQuote q text) front at = (at ≡ strings.OneQuote q text) × (front ≡ [])
StringGoesOn (strings.TwoQuotes q text) front at = (at ≡ strings.TwoQuotes q text) × (front ≡ [])
StringGoesOn (strings.Done text) front at = (at ≡ strings.Done text) × (front ≡ [])

-- the state after a run of plain characters of a string, and what is left
pub record StringRuns (before : StringAt) (text : List ℕ) (after : StringAt) (rest : List ℕ) : Type 0 where
  pub front : List ℕ
  pub cut : Cuts is_plain text front rest
  pub on : StringGoesOn before front after
