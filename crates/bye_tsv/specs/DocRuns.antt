-- Runs of characters within a field, taken at once.
use Rattle.std.specs.Prelude.{◌≡◌, ◌≤◌, ℕ, true, not, List, ◌++◌, Some, None, length}
use Rattle.std.specs.List.{list_all}
use Rattle.std.specs.Str.{encode_utf8_all}
use Rattle.bye_lex.specs.Running.{run}
use Rattle.bye_tsv.specs.FieldSteps.{step}
use Rattle.bye_tsv.specs.DocSteps.{DocAt, IsSound, is_border, passed, walk}
use Rattle.bye_tsv.specs.declared.fault.Bounds.{Bounds}
use Rattle.bye_tsv.specs.declared.field.FieldAt.{FieldAt}
use Rattle.bye_tsv.specs.declared.place.Place.{Place}
use Rattle.bye_tsv.specs.declared.place.Place.TheVariants as places

-- the field goes on over a front of the text in which it does not end
pub record FieldRuns (before : FieldAt) (text : List ℕ) (after : FieldAt) (rest : List ℕ) : Type 0 where
  pub own : List ℕ
  pub parts : text ≡ own ++ rest
  pub inner : list_all (λ c. not (is_border c)) own ≡ true
  pub runs : run step before own ≡ Some after

-- at another place than in a field nothing is taken
abbrev pub PlaceRuns : Place → List ℕ → Place → List ℕ → Type 0
PlaceRuns (places.Field f) text after rest = (g : FieldAt) × (after ≡ places.Field g) × FieldRuns f text g rest
PlaceRuns places.Start text after rest = (after ≡ places.Start) × (rest ≡ text)
PlaceRuns places.Mark text after rest = (after ≡ places.Mark) × (rest ≡ text)
PlaceRuns (places.Name n) text after rest = (after ≡ places.Name n) × (rest ≡ text)
PlaceRuns places.HeaderReturn text after rest = (after ≡ places.HeaderReturn) × (rest ≡ text)
PlaceRuns places.Begin text after rest = (after ≡ places.Begin) × (rest ≡ text)
PlaceRuns places.Return text after rest = (after ≡ places.Return) × (rest ≡ text)

-- a document that no count has passed comes to the same from there
pub record DocRuns (before : DocAt) (text : List ℕ) (after : DocAt) (rest : List ℕ) : Type 0 where
  pub walks : (bounds : Bounds) → passed bounds before ≡ None → walk bounds before text ≡ walk bounds after rest
  pub sound : IsSound before → IsSound after
  pub shorter : length rest ≤ length text
  pub within : (total : ℕ) → length (encode_utf8_all text) ≤ total → length (encode_utf8_all rest) ≤ total
