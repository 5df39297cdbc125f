-- Trees as they stand in memory.
use Rattle.std.proofs.Common.{◌≡◌, refl, suc, ◌&&◌, List, [], ◌∷◌, map, Some, option_map, sym, ap, ◌∙◌, length}
use Rattle.std.specs.List.{list_all}
use Rattle.serde_json.specs.Data.{Data}
use Rattle.serde_json.specs.Find.{as_array}
use Rattle.serde_json.specs.View.{view, items_view, members_view}
use Rattle.serde_json.specs.declared.value.Value.{Value}
use Rattle.serde_json.proofs.Views.{Entry}
use Rattle.bye_json.specs.Documents.{is_object}
use Rattle.bye_json.specs.Trees.{listed, as_list, count}

listed_view : (vs : List Value) → listed (items_view vs) ≡ map view vs
listed_view [] = refl
listed_view (v ∷ vs) = ap (λ ds. view v ∷ ds) (listed_view vs)

-- the items of an array
pub items_are : (d : Data) (vs : List Value) → Some (items_view vs) ≡ as_array d → Some (map view vs) ≡ as_list d
items_are d vs e = ap (λ ds. Some ds) (sym (listed_view vs)) ∙ ap (option_map listed) e

-- whether all of them are objects
pub objects_viewed : (vs : List Value) → list_all (λ v. is_object (view v)) vs ≡ list_all is_object (map view vs)
objects_viewed [] = refl
objects_viewed (v ∷ vs) = ap (λ b. is_object (view v) && b) (objects_viewed vs)

-- how many members there are
pub count_view : (es : List Entry) → count (members_view es) ≡ length es
count_view [] = refl
count_view (e ∷ es) = ap suc (count_view es)
