-- What opening a file does, where a folder tells its files.
use Rattle.std.specs.Prelude.{◌≡◌, ℕ, List, Option, Some, None, ⊤}

-- the bytes left are those of the file that was found
abbrev pub IsLeftOf : Option (List ℕ) → Option (List ℕ) → Type 0
IsLeftOf None left = ⊥
IsLeftOf (Some bytes) left = left ≡ Some bytes

-- where the files are told, one has that name, and its bytes are left
abbrev pub Opens : Option (List ℕ → Option (List ℕ)) → List ℕ → Option (List ℕ) → Type 0
Opens None name left = ⊤
Opens (Some files) name left = IsLeftOf (files name) left

-- the files are told, and none has that name
abbrev pub Lacks : Option (List ℕ → Option (List ℕ)) → List ℕ → Type 0
Lacks None name = ⊥
Lacks (Some files) name = files name ≡ None
