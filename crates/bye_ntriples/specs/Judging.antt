-- What a reader makes of bytes that are left over after whole characters.
use Rattle.std.specs.Prelude.{◌≡◌, ℕ, Bool, true, false, List, ◌⊎◌, ⊤}
use Rattle.bye_lex.specs.Utf8.{BeginsLabelPart}
use Rattle.bye_ntriples.specs.DocSteps.{DocAt, is_over_there}
use Rattle.bye_ntriples.specs.declared.fault.NtErr.{NtErr}
use Rattle.bye_ntriples.specs.declared.fault.NtErr.TheVariants as faults

-- they begin a character, and no triple too many waits, or the character may go on in its label
pub record CanGoOn (d : DocAt) (left : List ℕ) (begins : Bool) : Type 0 where
  pub begun : begins ≡ true
  pub either : (is_over_there d ≡ false) ⊎ BeginsLabelPart left

-- why the document does not go on at this place
abbrev pub CannotGoOn : DocAt → List ℕ → Bool → ℕ → NtErr → Type 0
CannotGoOn d left begins place (faults.Syntax at) = ⊥
CannotGoOn d left begins place (faults.NotUtf8 at) = (begins ≡ false) × ((is_over_there d ≡ false) × (at ≡ place))
CannotGoOn d left begins place faults.TooMany = (is_over_there d ≡ true) × ((begins ≡ false) ⊎ (BeginsLabelPart left → ⊥))
CannotGoOn d left begins place faults.Memory = ⊤
