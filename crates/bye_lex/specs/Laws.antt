-- That a reader has one answer: the cases of `Reads` exclude one another, and each tells its value and its place.
use Rattle.std.specs.Prelude.{◌≡◌, ℕ, true, List, ◌⊎◌, Result, Err}
use Rattle.std.specs.Str.{all_scalars}
use Rattle.bye_lex.specs.Answers.{Reads}
use Rattle.bye_lex.specs.Iris.{IriToken}
use Rattle.bye_lex.specs.Strings.{StringToken}
use Rattle.bye_lex.specs.declared.style.Style.{Style}
use Rattle.bye_lex.specs.Marks.{LabelToken, TagToken, NameToken}
use Rattle.bye_lex.specs.declared.fault.LexErr.{LexErr}
use Rattle.bye_lex.specs.declared.fault.LexErr.TheVariants.{Memory}

-- a text in the rule stands for one value
abbrev pub OneValue : {V : Type 0} → (List ℕ → V → Type 0) → Type 0
OneValue {V} L = (text : List ℕ) (value other : V) → L text value → L text other → value ≡ other

-- But for want of memory a reader has one answer. The text is of scalar values, as the characters of UTF-8 are.
abbrev pub OneAnswer : {V : Type 0} → (List ℕ → V → Type 0) → Type 0
OneAnswer {V} L = (text : List ℕ) (from : ℕ) (answer other : Result (V × ℕ) LexErr) → all_scalars text ≡ true → Reads L text from answer → Reads L text from other
    → (answer ≡ Err Memory) ⊎ ((other ≡ Err Memory) ⊎ (answer ≡ other))

-- the reader of each token has one answer
pub record ReadersAnswerOnce : Type 0 where
  pub iri : (style : Style) → OneAnswer (IriToken style)
  pub string : (style : Style) → OneAnswer (StringToken style)
  pub label : OneAnswer LabelToken
  pub tag : OneAnswer TagToken
  pub name : OneAnswer NameToken
