use Rattle.std.proofs.Common.{◌≡◌, ◌++◌, ℕ, List, Option, Some, None, ◌==◌, take, drop, sym, ◌∙◌, ap}
use Rattle.std.specs.Str.{chars, IsUtf8, NoCharPasses}
use Rattle.std.specs.Str.Pattern.{HasCharAt}
use Rattle.std.proofs.lemmas.List.{take-append-drop}
use Rattle.bye_terms.specs.Reading.{until_at}
use Rattle.bye_terms.proofs.Readings.{until_bytes, until_none_bytes}
use Rattle.bye_terms.proofs.cursor.Cursor.until.Goals as goal

parted : (c : ℕ) (old bytes before after : List ℕ) (i j : ℕ) → chars bytes ≡ old → IsUtf8 bytes → NoCharPasses (λ d. d == c) (take i bytes) → HasCharAt c bytes i j
    → before ≡ take i bytes → after ≡ drop j bytes → ◌≡◌ {A = Option (List ℕ × List ℕ)} (Some (chars before, chars after)) (until_at c old)
parted c old bytes before after i j is u free at e f =
    let split = sym (take-append-drop i bytes) ∙ ap (λ xs. take i bytes ++ xs) at.split in
    (λ k. Some (chars (e k), chars (f k)))
    ∙ sym (until_bytes c bytes (take i bytes) (drop j bytes) u free split)
    ∙ ap (until_at c) is

none : (c : ℕ) (old bytes : List ℕ) → chars bytes ≡ old → IsUtf8 bytes → NoCharPasses (λ d. d == c) bytes → ◌≡◌ {A = Option (List ℕ × List ℕ)} None (until_at c old)
none c old bytes is u free = sym (until_none_bytes c bytes u free) ∙ ap (until_at c) is

pub returns-in-Some-clause-parts : goal.returns-in-Some-clause-parts
returns-in-Some-clause-parts c =
    let h = c.in-Some.ensures.cases in
    parted _ _ _ _ _ h.0 h.1 c.rest.ensures c.rest.utf8 h.2.0 h.2.1 h.3 h.4

pub returns-in-None-clause-parts : goal.returns-in-None-clause-parts
returns-in-None-clause-parts c = none _ _ _ c.rest.ensures c.rest.utf8 c.in-None.ensures.cases
