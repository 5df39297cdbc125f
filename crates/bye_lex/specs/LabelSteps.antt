-- The machine of labels of blank nodes.
use Rattle.std.specs.Prelude.{ℕ, Bool, cond, ◌==◌, ◌||◌, List, [], ◌∷◌, ◌++◌, Option, Some, None}
use Rattle.bye_terms.specs.Characters.{is_label_start, is_label_part}
use Rattle.bye_lex.specs.declared.label.LabelAt.{LabelAt}
use Rattle.bye_lex.specs.declared.label.LabelAt.TheVariants.{Start, Underscore, Colon, In, Dotted}

-- one character more
abbrev pub step : LabelAt → ℕ → Option LabelAt
step Start c = cond (c == 95) (Some Underscore) None
step Underscore c = cond (c == 58) (Some Colon) None
step Colon c = cond (is_label_start c) (Some (In (c ∷ []))) None
step (In label) c = cond (is_label_part c) (Some (In (label ++ c ∷ []))) (cond (c == 46) (Some (Dotted label (46 ∷ []))) None)
step (Dotted label dots) c = cond (is_label_part c) (Some (In ((label ++ dots) ++ c ∷ []))) (cond (c == 46) (Some (Dotted label (dots ++ 46 ∷ []))) None)

-- the character goes on in a label, or is a dot that may
abbrev pub goes_on : ℕ → Bool
goes_on c = is_label_part c || c == 46

-- what was read, where it is a token
abbrev pub final : LabelAt → Option (List ℕ)
final Start = None
final Underscore = None
final Colon = None
final (In label) = Some label
final (Dotted label dots) = None

-- the longest label at the front of what was read
abbrev pub longest : LabelAt → Option (List ℕ)
longest Start = None
longest Underscore = None
longest Colon = None
longest (In label) = Some label
longest (Dotted label dots) = Some label
