-- What the definitions say of one another.
use Rattle.std.specs.Prelude.{◌≡◌, ◌⊎◌, ◌↔◌, ℕ, List, [], ◌∷◌, Result, Err}
use Rattle.std.specs.List.{AllByRecursion}
use Rattle.std.specs.Cmp.Lexicographic.{slice_cmp}
use Rattle.std.specs.Ordering.{nat_cmp}
use Rattle.std.specs.declared.cmp.Ordering.TheVariants.{Less}
use Rattle.std.specs.Str.{encode_utf8_all}
use Rattle.bye_terms.specs.Members.{EachOnce, In}
use Rattle.bye_table.specs.Mappings.{Name}
use Rattle.bye_table.specs.Tables.{TableValue}
use Rattle.bye_json.specs.Answers.{JsonAnswer}
use Rattle.bye_json.specs.Documents.{JsonDoc}
use Rattle.bye_json.specs.Written.{by_name}
use Rattle.bye_json.specs.declared.json_err.JsonErr.{JsonErr}
use Rattle.bye_json.specs.declared.json_err.JsonErr.TheVariants as faults

-- bytes are a document of one table at most
abbrev pub OneTable : Type 0
OneTable = (bytes : List ℕ) (one other : TableValue) → JsonDoc bytes one → JsonDoc bytes other → one ≡ other

-- but for want of memory, bytes have one answer
abbrev pub OneAnswer : Type 0
OneAnswer =
    (bytes : List ℕ) (vars rows : ℕ) (answer other : Result TableValue JsonErr) → JsonAnswer bytes vars rows answer → JsonAnswer bytes vars rows other
    → (answer ≡ Err faults.Memory) ⊎ ((other ≡ Err faults.Memory) ⊎ (answer ≡ other))

-- each name comes before those after it, in the order of their bytes
abbrev pub Ascends : List Name → Type 0
Ascends [] = Unit {0}
Ascends (v ∷ vs) = AllByRecursion (λ w. slice_cmp nat_cmp (encode_utf8_all v) (encode_utf8_all w) ≡ Less) vs × Ascends vs

-- variables in the byte order of their names are the same ones, and ascend
abbrev pub SortsNames : Type 0
SortsNames = (vars : List Name) → EachOnce vars → Ascends (by_name vars) × ((v : Name) → In (by_name vars) v ↔ In vars v)
