-- The places of names in a list, as a look-up tells them.
use Rattle.std.proofs.Common.{◌≡◌, refl, ℕ, List, Option, Some, None, is_some, MatchOption, sym, ◌∙◌, ap, get_or, slice_get, position}
use Rattle.std.specs.Cmp.Lexicographic.{bytes_decides}
use Rattle.std.specs.List.{list_any}
use Rattle.std.specs.Str.{bytes_eq}
use Rattle.std.proofs.lemmas.List.Quantifiers.{position-Some}
use Rattle.std.proofs.lemmas.Option.{slice_get-get_or}
use Rattle.bye_terms.specs.Members.{In}
use Rattle.bye_terms.proofs.Lists.{none_of}
use Rattle.bye_terms.proofs.Tests.{not_both}
use Rattle.bye_table.specs.Mappings.{Name}

pub placed : (vs : List Name) (v : Name) (o : Option ℕ) → o ≡ position (bytes_eq v) vs → is_some o ≡ list_any (bytes_eq v) vs
    → MatchOption o (In vs v → ⊥) (λ place. slice_get vs place ≡ Some v)
placed vs v None e any = λ h. not_both (bytes_eq v v) ((bytes_decides v v).1 refl) (none_of (bytes_eq v) vs (sym any) v h)
placed vs v (Some place) e any =
    let at = position-Some (bytes_eq v) vs place v (sym e) in
    slice_get-get_or vs place v at.0 ∙ ap Some (sym ((bytes_decides v (get_or vs place v)).0 at.1))
