-- A document has one table.
use Rattle.std.proofs.Common.{◌≡◌, ℕ, List, Option, Some, sym, ap, ◌∙◌}
use Rattle.serde_json.specs.Data.{Data}
use Rattle.bye_terms.proofs.Readings.{some_same}
use Rattle.bye_table.specs.Tables.{TableValue}
use Rattle.bye_json.specs.Documents.{Lists, Shape, lists_of, name_of, row_of}
use Rattle.bye_json.specs.Laws.{OneTable}
use Rattle.bye_json.specs.Trees.{IsJson, collect}

-- two results of one reading are equal
pub same_result : {A : Type 0} {o p : Option A} {x y : A} → o ≡ p → o ≡ Some x → p ≡ Some y → x ≡ y
same_result same e f = some_same (sym e ∙ same ∙ f)

pub same_tree : (bytes : List ℕ) (d e : Data) → IsJson bytes d → IsJson bytes e → d ≡ e
same_tree bytes d e one other = some_same (sym one.1 ∙ other.1)

pub same_lists : (d e : Data) (one other : Lists) → d ≡ e → lists_of d ≡ Some one → lists_of e ≡ Some other → one ≡ other
same_lists d e one other same h k = same_result (ap lists_of same) h k

same_table : (one other : TableValue) → one.vars ≡ other.vars → one.rows ≡ other.rows → one ≡ other
same_table one other vars rows = (λ i. record { vars = vars i; rows = rows i })

shapes : (d e : Data) (one other : TableValue) → d ≡ e → Shape d one → Shape e other → one ≡ other
shapes d e one other same s t =
    let lists = same_lists d e s.lists t.lists same s.has t.has in
    let vars = same_result (ap (λ l. collect name_of l.vars) lists) s.names.0 t.names.0 in
    same_table one other vars (same_result (λ i. collect (row_of (vars i)) (lists i).bindings) s.rows t.rows)

pub one_table : OneTable
one_table bytes one other a b = shapes a.tree b.tree one other (same_tree bytes a.tree b.tree a.json b.json) a.shape b.shape
