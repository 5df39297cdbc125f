-- Numbers, strings and language tags at the front of a text.
use Rattle.std.proofs.Common.{◌≡◌, refl, ℕ, true, List, [], ◌∷◌, ◌++◌, sym, ◌∙◌, ap, codes}
use Rattle.bye_lex.specs.Marks.{TagToken}
use Rattle.bye_lex.specs.NumberSteps.{step, form}
use Rattle.bye_lex.specs.Strings.{StringToken, around}
use Rattle.bye_lex.specs.StringSteps as string
use Rattle.bye_lex.specs.TagSteps as tag
use Rattle.bye_lex.specs.declared.number.Number.{Number}
use Rattle.bye_lex.specs.declared.number.NumberAt.TheVariants as numbers
use Rattle.bye_lex.specs.declared.quoting.Quote.TheVariants.{Double, Single}
use Rattle.bye_lex.specs.declared.quoting.Quoting.{Quoting}
use Rattle.bye_lex.specs.declared.quoting.Quoting.TheVariants.{Short, Long}
use Rattle.bye_lex.specs.declared.string.StringAt.TheVariants as strings
use Rattle.bye_lex.specs.declared.style.Style.TheVariants.{Query}
use Rattle.bye_lex.specs.declared.tag.TagAt.TheVariants as tags
use Rattle.bye_lex.proofs.Branches.{heads}
use Rattle.bye_lex.proofs.NumberExact.{NumberLeft, number_exact, begins_number, first_number}
use Rattle.bye_lex.proofs.NumberExact as number_exactly
use Rattle.bye_lex.proofs.StringExact.{string_exact, can_start}
use Rattle.bye_lex.proofs.StringMeaning as string_meaning
use Rattle.bye_lex.proofs.TagExact as tag_exactly
use Rattle.bye_tokens.specs.Fronts.{string_front, tag_front, number_front}
use Rattle.bye_tokens.specs.Kinds.{seen, NumberToken}
use Rattle.bye_tokens.specs.declared.token.Token.{Token}
use Rattle.bye_tokens.specs.declared.token.Token.TheVariants.{Quoted, Tagged, Numeral}
use Rattle.bye_tokens.proofs.Literals.{one_of}
use Rattle.bye_tokens.proofs.Longest.{Told, told, told_seen, told_valued, Starts, OneValue, one_machine, one_valued}

-- strings
pub string_told : (text : List ℕ) → Told (seen Quoted (StringToken Query)) text (string_front text)
string_told text =
    told_seen Quoted (StringToken Query) text _
    (told (string_meaning.Left Query) (string.step Query) string.final (string_exact Query) strings.Start text (can_start Query) refl)

pub one_string : OneValue (StringToken Query)
one_string = one_machine (string_meaning.Left Query) (string.step Query) string.final (string_exact Query) strings.Start

quote_first : (k : Quoting) (c : ℕ) (t tail : List ℕ) → c ∷ t ≡ around k ++ tail → one_of (codes "\"'") c ≡ true
quote_first (Short Double) c t tail e = ap (one_of (codes "\"'")) (heads c 34 t tail e).0
quote_first (Short Single) c t tail e = ap (one_of (codes "\"'")) (heads c 39 t tail e).0
quote_first (Long Double) c t tail e = ap (one_of (codes "\"'")) (heads c 34 t (34 ∷ 34 ∷ tail) e).0
quote_first (Long Single) c t tail e = ap (one_of (codes "\"'")) (heads c 39 t (39 ∷ 39 ∷ tail) e).0

quote_some : (k : Quoting) (tail : List ℕ) → [] ≡ around k ++ tail → ⊥
quote_some (Short q) tail e = cc
quote_some (Long q) tail e = cc

pub string_starts : Starts (seen Quoted (StringToken Query)) (one_of (codes "\"'"))
string_starts = record {
  some = λ v h. let t = h.1 in quote_some t.quoting t.tail t.spelled;
  first = λ c t v h. let k = h.1 in quote_first k.quoting c t k.tail k.spelled;
}

-- tags
pub tag_told : (text : List ℕ) → Told (seen Tagged TagToken) text (tag_front text)
tag_told text =
    told_seen Tagged TagToken text _
    (told tag_exactly.Left tag.step tag.final tag_exactly.tag_exact tags.Start text (tag_exactly.can tags.Start) refl)

pub one_tag : OneValue TagToken
one_tag text v w h k = (heads 64 64 v w (sym h.0 ∙ k.0)).1

pub tag_starts : Starts (seen Tagged TagToken) (one_of (codes "@"))
tag_starts = record {
  some = λ v h. let e = h.1.0 in cc;
  first = λ c t v h. ap (one_of (codes "@")) (heads c 64 t h.0 h.1.0).0;
}

-- numbers
abbrev ANumber : List ℕ → Token → Type 0
ANumber = seen (λ (v : Number × List ℕ). Numeral v.0 v.1) NumberToken

to : (text : List ℕ) (f : Number) → NumberLeft numbers.Start text f → ANumber text (Numeral f text)
to text f h = ((f, text), (h, refl), refl)

from : (text : List ℕ) (v : Token) → ANumber text v → (f : Number) × NumberLeft numbers.Start text f × (v ≡ Numeral f text)
from text v h = (h.0.0, h.1.0, h.2 ∙ ap (λ t. Numeral h.0.0 t) h.1.1)

pub number_told : (text : List ℕ) → Told ANumber text (number_front text)
number_told text = told_valued (NumberLeft numbers.Start) ANumber Numeral to from text _ (told NumberLeft step form number_exact numbers.Start text (number_exactly.can numbers.Start) refl)

pub one_number : OneValue ANumber
one_number = one_valued (NumberLeft numbers.Start) ANumber Numeral from (one_machine NumberLeft step form number_exact numbers.Start)

pub number_starts : Starts ANumber begins_number
number_starts = record { some = λ v h. let e = h.1.0 in cc; first = λ c t v h. first_number h.0.0 c t h.1.0 }
