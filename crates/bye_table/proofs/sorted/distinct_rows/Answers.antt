use Rattle.std.proofs.Common.{rules, ◌≡◌, map, sym, ◌∙◌, ap, subst}
use Rattle.std.specs.Cmp.Lexicographic.{slice_cmp}
use Rattle.std.specs.List.{AllByRecursion}
use Rattle.std.specs.Ordering.{is_eq, is_lt}
use Rattle.std.specs.declared.cmp.Ordering.{Ordering}
use Rattle.std.proofs.lemmas.Fn.{dedup_same}
use Rattle.std.proofs.lemmas.List.Sorted.{answers_always}
use Rattle.std.proofs.lemmas.Result.{IfOk-weaker}
use Rattle.bye_table.specs.Cells.{Cells, HasCells, found}
use Rattle.bye_table.specs.Mappings.{Pairs}
use Rattle.bye_table.specs.Sorted.{IsSortedSet, cell_cmp}
use Rattle.bye_table.specs.Tables.{IsTable}
use Rattle.bye_table.specs.declared.sorted.Celled.{Celled}
use Rattle.bye_table.proofs.SortedSets.{kept_rows, kept_table, test_ranks}
use Rattle.bye_table.proofs.sorted.distinct_rows.Goals as goal

pub returns : goal.returns
returns c =
    let table = c.args.table.now in
    let row : Celled → Pairs = λ x. x.row.now in
    let cells : Celled → Cells = λ x. found x.cells.items in
    let by : Celled → Celled → Ordering = λ x y. slice_cmp cell_cmp (cells x) (cells y) in
    let items = c.in_ok-celled.celled.items in
    let sorted = c.sort_unstable_by.new.self.items in
    let kept = c.dedup_by.new.self.items in
    let same = c.sort_unstable_by.ensures.permutation in
    let up = c.sort_unstable_by.ensures.sorted (λ x y. is_lt (by x y)) (test_ranks row cells) (answers_always _ _ _ (λ f a r g h. search rules)) in
    let is = dedup_same _ (λ x y. is_eq (by x y)) _ (λ x y b f u v h. search rules) _ _ c.dedup_by.ensures.filtered in
    let rows : map row items ≡ table.rows = c.in_ok-celled.ensures.rows ∙ c.rows.ensures.rows in
    let all = subst (λ vars. AllByRecursion (λ x. HasCells vars (row x) (cells x)) items) c.vars.ensures.vars c.in_ok-celled.ensures.cells in
    let set = kept_rows row cells table items sorted kept c.vars.ensures.table rows all same up is in
    let valid = kept_table row cells table items sorted kept c.vars.ensures.table rows same is in
    record {
      sorted = IfOk-weaker c.copy_rows.result _ _ (λ v e. subst (λ rs. IsSortedSet table (record { vars = table.vars; rows = rs })) (sym (e ∙ ap (map row) c.as_slice.ensures.value)) set) c.copy_rows.ensures;
      table = IfOk-weaker c.copy_rows.result _ _ (λ v e. subst (λ rs. IsTable (record { vars = table.vars; rows = rs })) (sym (e ∙ ap (map row) c.as_slice.ensures.value)) valid) c.copy_rows.ensures;
    }
