-- The words of features are in ASCII.
use Rattle.std.proofs.Common.{◌≡◌, refl, true}
use Rattle.bye_terms.specs.Ascii.{is_ascii}
use Rattle.bye_descent.specs.Features.{feature_text}
use Rattle.bye_descent.specs.declared.feature.Feature.{Feature}
use Rattle.bye_descent.specs.declared.feature.Feature.TheVariants as features

pub feature_ascii : (feature : Feature) → is_ascii (feature_text feature) ≡ true
feature_ascii features.Ask = refl
feature_ascii features.Construct = refl
feature_ascii features.Describe = refl
feature_ascii features.Base = refl
feature_ascii features.Reduced = refl
feature_ascii features.From = refl
feature_ascii features.Named = refl
feature_ascii features.Union = refl
feature_ascii features.Minus = refl
feature_ascii features.Graph = refl
feature_ascii features.Service = refl
feature_ascii features.Bind = refl
feature_ascii features.Values = refl
feature_ascii features.Select = refl
feature_ascii features.Exists = refl
feature_ascii features.Not = refl
feature_ascii features.Order = refl
feature_ascii features.Group = refl
feature_ascii features.Having = refl
feature_ascii features.Limit = refl
feature_ascii features.Offset = refl
feature_ascii features.Insert = refl
feature_ascii features.Delete = refl
feature_ascii features.Load = refl
feature_ascii features.Clear = refl
feature_ascii features.Create = refl
feature_ascii features.Drop = refl
feature_ascii features.Copy = refl
feature_ascii features.Move = refl
feature_ascii features.Add = refl
feature_ascii features.With = refl
feature_ascii features.BlankNode = refl
feature_ascii features.Square = refl
feature_ascii features.Bracket = refl
feature_ascii features.Caret = refl
feature_ascii features.Bar = refl
feature_ascii features.Slash = refl
feature_ascii features.Star = refl
feature_ascii features.Plus = refl
feature_ascii features.Dash = refl
feature_ascii features.Question = refl
feature_ascii features.Bang = refl
feature_ascii features.Or = refl
feature_ascii features.Equal = refl
feature_ascii features.Differs = refl
feature_ascii features.Less = refl
feature_ascii features.Greater = refl
feature_ascii features.AtMost = refl
feature_ascii features.AtLeast = refl
