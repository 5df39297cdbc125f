-- The trees that JSON texts are read as (RFC 8259). A string is its bytes in UTF-8; an object has each of its members once, in the
-- byte order of their names.
use Rattle.std.specs.Prelude.{◌≡◌, ℕ, suc, List, [], ◌∷◌, ◌++◌, Option, Some, option_map}
use Rattle.std.specs.Str.{IsUtf8, chars}
use Rattle.serde_json.specs.Data.{Data, Items, no_items, item, Members, no_members, member}
use Rattle.serde_json.specs.Find.{as_array, as_str}
use Rattle.serde_json.specs.Read.{read}
use Rattle.bye_terms.specs.Reading.{◌>>=◌}

-- the bytes are a JSON text of this value
abbrev pub IsJson : List ℕ → Data → Type 0
IsJson bytes d = IsUtf8 bytes × (read bytes ≡ Some d)

-- the items of an array, in their order
abbrev pub listed : Items → List Data
listed no_items = []
listed (item d ds) = d ∷ listed ds

-- the value as a list, where it is an array
abbrev pub as_list : Data → Option (List Data)
as_list d = option_map listed (as_array d)

-- the value as a text, where it is a string
abbrev pub as_text : Data → Option (List ℕ)
as_text d = option_map chars (as_str d)

-- the names of members, as texts
abbrev pub names_of : Members → List (List ℕ)
names_of no_members = []
names_of (member k d ms) = chars k ∷ names_of ms

-- how many members there are
abbrev pub count : Members → ℕ
count no_members = 0
count (member k d ms) = suc (count ms)

-- the lists that the elements stand for, one after another, where each stands for one
abbrev pub gather : {A B : Type 0} → (A → Option (List B)) → List A → Option (List B)
gather f [] = Some []
gather f (x ∷ xs) = f x >>= (λ here. option_map (λ rest. here ++ rest) (gather f xs))

-- one element alone
abbrev pub alone : {B : Type 0} → Option B → Option (List B)
alone o = option_map (λ y. y ∷ []) o

-- what the elements stand for, where each stands for something
abbrev pub collect : {A B : Type 0} → (A → Option B) → List A → Option (List B)
collect f xs = gather (λ x. alone (f x)) xs
