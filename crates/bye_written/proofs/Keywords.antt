-- Words as they are written.
use Rattle.std.proofs.Common.{◌≡◌, refl, ℕ, false, List, [], ◌∷◌, ◌++◌, Some, ◌∙◌, ap, codes}
use Rattle.bye_pattern.specs.declared.kind.Kind.{Kind}
use Rattle.bye_pattern.specs.declared.kind.Kind.TheVariants as kinds
use Rattle.bye_pattern.specs.Printed.{kind_text}
use Rattle.bye_tokens.specs.Fronts.{found}
use Rattle.bye_tokens.specs.Reading.{before}
use Rattle.bye_tokens.specs.Splitting.{skip}
use Rattle.bye_tokens.specs.Words.{word_of}
use Rattle.bye_tokens.specs.declared.sign.Sign.TheVariants.{Open, OpenGroup}
use Rattle.bye_tokens.specs.declared.token.Token.TheVariants.{Keyword, Mark}
use Rattle.bye_tokens.specs.declared.word.Word.{Word}
use Rattle.bye_tokens.specs.declared.word.Word.TheVariants as words
use Rattle.bye_tokens.proofs.Cuts.{before_is}
use Rattle.bye_written.specs.Written.{kind_word}
use Rattle.bye_written.proofs.Joined.{found_next, Spells, Any, Ends, AtEnds, each_end, spells_before, joined, and_then, space}
use Rattle.bye_written.proofs.Signs.{open_bracket, open_group}

-- the machine stops at the character after the word
abbrev Stops : List ℕ → List ℕ → ℕ → Type 0
Stops own rest d = found (own ++ d ∷ rest) ≡ Some (Keyword (word_of (before (own ++ d ∷ rest) (d ∷ rest))), d ∷ rest)

word : (own : List ℕ) (w : Word) → ((rest : List ℕ) → skip false (own ++ rest) ≡ own ++ rest) → ((rest : List ℕ) → AtEnds (Stops own rest)) → word_of own ≡ w → Spells Ends own (Keyword w ∷ [])
word own w stays stops is = spells_before (λ total d rest e.
    found_next total (own ++ d ∷ rest) (d ∷ rest) (Keyword w) (stays (d ∷ rest))
    (each_end (Stops own rest) (stops rest) d e ∙ ap (λ t. Some (Keyword (word_of t), d ∷ rest)) (before_is (own ++ d ∷ rest) own (d ∷ rest) refl) ∙ ap (λ w. Some (Keyword w, d ∷ rest)) is))

pub select : Spells Ends (codes "SELECT") (Keyword words.Select ∷ [])
select = word (codes "SELECT") words.Select (λ rest. refl) (λ rest. (refl, refl, refl, refl, refl)) refl

pub distinct : Spells Ends (codes " DISTINCT") (Keyword words.Distinct ∷ [])
distinct = and_then space (word (codes "DISTINCT") words.Distinct (λ rest. refl) (λ rest. (refl, refl, refl, refl, refl)) refl)

-- a word, a space and an opening brace
pub where_group : Spells Any (codes "WHERE {\n") (Keyword words.Where ∷ Mark OpenGroup ∷ [])
where_group = joined (word (codes "WHERE") words.Where (λ rest. refl) (λ rest. (refl, refl, refl, refl, refl)) refl) (and_then space open_group) (λ rest q. refl)

pub optional_group : Spells Any (codes "OPTIONAL {\n") (Keyword words.Optional ∷ Mark OpenGroup ∷ [])
optional_group = joined (word (codes "OPTIONAL") words.Optional (λ rest. refl) (λ rest. (refl, refl, refl, refl, refl)) refl) (and_then space open_group) (λ rest q. refl)

-- a word and an opening bracket
pub filter_of : Spells Any (codes "FILTER (") (Keyword words.Filter ∷ Mark Open ∷ [])
filter_of = joined (word (codes "FILTER") words.Filter (λ rest. refl) (λ rest. (refl, refl, refl, refl, refl)) refl) (and_then space open_bracket) (λ rest q. refl)

call : {own : List ℕ} {w : Word} → Spells Ends own (Keyword w ∷ []) → Spells Any (own ++ codes "(") (Keyword w ∷ Mark Open ∷ [])
call x = joined x open_bracket (λ rest q. refl)

pub bound_of : Spells Any (codes "bound(") (Keyword words.Bound ∷ Mark Open ∷ [])
bound_of = call (word (codes "bound") words.Bound (λ rest. refl) (λ rest. (refl, refl, refl, refl, refl)) refl)

pub same_term_of : Spells Any (codes "sameTerm(") (Keyword words.SameTerm ∷ Mark Open ∷ [])
same_term_of = call (word (codes "sameTerm") words.SameTerm (λ rest. refl) (λ rest. (refl, refl, refl, refl, refl)) refl)

pub kind_of : (kind : Kind) → Spells Any (kind_text kind) (Keyword (kind_word kind) ∷ Mark Open ∷ [])
kind_of kinds.Iri = call (word (codes "isIRI") words.IsIri (λ rest. refl) (λ rest. (refl, refl, refl, refl, refl)) refl)
kind_of kinds.Blank = call (word (codes "isBlank") words.IsBlank (λ rest. refl) (λ rest. (refl, refl, refl, refl, refl)) refl)
kind_of kinds.Literal = call (word (codes "isLiteral") words.IsLiteral (λ rest. refl) (λ rest. (refl, refl, refl, refl, refl)) refl)
