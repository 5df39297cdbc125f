-- Signs as they are written.
use Rattle.std.proofs.Common.{◌≡◌, refl, ℕ, true, false, cond, not, ◌==◌, List, [], ◌∷◌, Some, None, option_map, ap, codes}
use Rattle.bye_terms.proofs.Tests.{not_true}
use Rattle.bye_tokens.specs.Fronts.{found}
use Rattle.bye_tokens.specs.Reading.{or_else}
use Rattle.bye_tokens.specs.Splitting.{skip}
use Rattle.bye_tokens.specs.declared.sign.Sign.{Sign}
use Rattle.bye_tokens.specs.declared.sign.Sign.TheVariants.{OpenGroup, CloseGroup, Open, Close, Dot, Comma, Carets, And, Or, Bang, Differs}
use Rattle.bye_tokens.specs.declared.token.Token.TheVariants.{Mark}
use Rattle.bye_written.proofs.Joined.{found_next, Before, Spells, Any, Ends, ends, each_end, spells_before, and_then, space, line_end}

-- a sign that begins no other
single : (c : ℕ) (sign : Sign) → ((rest : List ℕ) → skip false (c ∷ rest) ≡ c ∷ rest) → found (c ∷ []) ≡ Some (Mark sign, [])
    → ((d : ℕ) (rest : List ℕ) → found (c ∷ d ∷ rest) ≡ Some (Mark sign, d ∷ rest)) → Spells Any (c ∷ []) (Mark sign ∷ [])
single c sign stays last other = record { read = λ total rest q. found_next total (c ∷ rest) rest (Mark sign) (stays rest) (at rest) }
  where
    at : (rest : List ℕ) → found (c ∷ rest) ≡ Some (Mark sign, rest)
    at [] = last
    at (d ∷ rest) = other d rest

pub open_bracket : Spells Any (codes "(") (Mark Open ∷ [])
open_bracket = single 40 Open (λ rest. refl) refl (λ d rest. refl)

pub close_bracket : Spells Any (codes ")") (Mark Close ∷ [])
close_bracket = single 41 Close (λ rest. refl) refl (λ d rest. refl)

pub open_group : Spells Any (codes "{\n") (Mark OpenGroup ∷ [])
open_group = and_then (single 123 OpenGroup (λ rest. refl) refl (λ d rest. refl)) line_end

pub close_group : Spells Any (codes "}\n") (Mark CloseGroup ∷ [])
close_group = and_then (single 125 CloseGroup (λ rest. refl) refl (λ d rest. refl)) line_end

pub comma : Spells Any (codes ", ") (Mark Comma ∷ [])
comma = and_then (single 44 Comma (λ rest. refl) refl (λ d rest. refl)) space

-- a sign of two characters
double : (c d : ℕ) (sign : Sign) → ((rest : List ℕ) → skip false (c ∷ d ∷ rest) ≡ c ∷ d ∷ rest) → ((rest : List ℕ) → found (c ∷ d ∷ rest) ≡ Some (Mark sign, rest)) → Spells Any (c ∷ d ∷ []) (Mark sign ∷ [])
double c d sign stays at = record { read = λ total rest q. found_next total (c ∷ d ∷ rest) rest (Mark sign) (stays rest) (at rest) }

pub carets : Spells Any (codes "^^") (Mark Carets ∷ [])
carets = double 94 94 Carets (λ rest. refl) (λ rest. refl)

pub and_sign : Spells Any (codes " && ") (Mark And ∷ [])
and_sign = and_then space (and_then (double 38 38 And (λ rest. refl) (λ rest. refl)) space)

pub or_sign : Spells Any (codes " || ") (Mark Or ∷ [])
or_sign = and_then space (and_then (double 124 124 Or (λ rest. refl) (λ rest. refl)) space)

-- `!` before what is no `=`
abbrev pub NoEqual : List ℕ → Type 0
NoEqual = Before (λ c. not (c == 61))

found_bang : (d : ℕ) (rest : List ℕ) → (d == 61) ≡ false → found (33 ∷ d ∷ rest) ≡ Some (Mark Bang, d ∷ rest)
found_bang d rest e = ap (λ b. or_else (option_map (λ sign. (Mark sign, rest)) (cond b (Some Differs) None)) (Some (Mark Bang, d ∷ rest))) e

pub bang : Spells NoEqual (codes "!") (Mark Bang ∷ [])
bang = spells_before (λ total d rest e. found_next total (33 ∷ d ∷ rest) (d ∷ rest) (Mark Bang) refl (found_bang d rest (not_true (d == 61) e)))

-- a dot at the end of a line
found_dot : (d : ℕ) (rest : List ℕ) → ends d ≡ true → found (46 ∷ d ∷ rest) ≡ Some (Mark Dot, d ∷ rest)
found_dot d rest e = each_end (λ d. found (46 ∷ d ∷ rest) ≡ Some (Mark Dot, d ∷ rest)) (refl, refl, refl, refl, refl) d e

bare_dot : Spells Ends (codes ".") (Mark Dot ∷ [])
bare_dot = spells_before (λ total d rest e. found_next total (46 ∷ d ∷ rest) (d ∷ rest) (Mark Dot) refl (found_dot d rest e))

pub dot : Spells Ends (codes " .") (Mark Dot ∷ [])
dot = and_then space bare_dot
