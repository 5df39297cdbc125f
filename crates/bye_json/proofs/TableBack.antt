-- The written document of a table is read as the table.
use Rattle.std.proofs.Common.{◌≡◌, refl, ◌≤◌, true, cond, List, [], ◌∷◌, map, codes, Some, None, option_map, ap, ◌∙◌, arith}
use Rattle.std.specs.List.{AllByRecursion, list_all}
use Rattle.std.proofs.lemmas.Str.{chars-encodes}
use Rattle.json.specs.Tree as tree
use Rattle.json.proofs.Printed.Utf8.{IsUtf8-are_ascii}
use Rattle.serde_json.specs.Data.{Data}
use Rattle.serde_json.specs.Read.{max_depth}
use Rattle.serde_json.specs.View.{items_of}
use Rattle.serde_json.specs.Written.{items_outline, outline}
use Rattle.bye_terms.specs.Members.{EachOnce}
use Rattle.bye_terms.specs.Reading.{◌>>=◌}
use Rattle.bye_table.specs.Mappings.{Name, Pairs}
use Rattle.bye_table.specs.Tables.{IsOverVars, TableValue}
use Rattle.bye_json.specs.Documents.{JsonDoc, Lists, as_name, as_objects, is_object, lists_of, name_of, row_of}
use Rattle.bye_json.specs.ReadingBack.{AreSameRows, HasTerms, IsRdfTable, IsVariable, ReadsBack, in_order, row_in_order}
use Rattle.bye_json.specs.Trees.{collect, listed}
use Rattle.bye_json.specs.Written.{by_name, json_text, row_object, text, tree_of}
use Rattle.bye_json.proofs.Clear.{AreClear, IsClear, reads_back, text_utf8}
use Rattle.bye_json.proofs.RowBack.{row_back, row_clear, row_depth, same_mapping}
use Rattle.bye_json.proofs.Steps.{collect_all}
use Rattle.bye_json.proofs.TermBack.{utf8}

-- the lists of the document
listed_of : (ds : List Data) → listed (items_of ds) ≡ ds
listed_of [] = refl
listed_of (d ∷ ds) = ap (λ ds. d ∷ ds) (listed_of ds)

all_objects : (sorted : List Name) (rows : List Pairs) → list_all is_object (map (row_object sorted) rows) ≡ true
all_objects sorted [] = refl
all_objects sorted (row ∷ rows) = all_objects sorted rows

lists : TableValue → Lists
lists table = record { vars = map text table.vars; bindings = map (row_object (by_name table.vars)) table.rows }

lists_back : (table : TableValue) → lists_of (tree_of table) ≡ Some (lists table)
unfolding lists_of tree_of lists
lists_back table =
    let bindings = map (row_object (by_name table.vars)) table.rows in
    (λ i. Some (listed_of (map text table.vars) i) >>= (λ vars. option_map (λ bindings. record { vars = vars; bindings = bindings }) (as_objects (listed_of bindings i))))
    ∙ ap (λ b. option_map (λ bindings. record { vars = map text table.vars; bindings = bindings }) (cond b (Some bindings) None)) (all_objects (by_name table.vars) table.rows)

-- their elements
name_back : (v : Name) → IsVariable v → name_of (text v) ≡ Some v
name_back v is = ap as_name (chars-encodes v is.scalars) ∙ ap (λ b. cond b (Some v) None) is.name

names_back : (vars : List Name) → AllByRecursion IsVariable vars → collect name_of (map text vars) ≡ Some vars
names_back [] names = refl
names_back (v ∷ vars) names = collect_all name_of (text v) (map text vars) v vars (name_back v names.0) (names_back vars names.1)

rows_back : (vars : List Name) (rows : List Pairs) → AllByRecursion IsVariable vars → AllByRecursion HasTerms rows
    → collect (row_of vars) (map (row_object (by_name vars)) rows) ≡ Some (map (row_in_order vars) rows)
rows_back vars [] names terms = refl
rows_back vars (row ∷ rows) names terms =
    collect_all (row_of vars) (row_object (by_name vars) row) _ (row_in_order vars row) _ (row_back vars row names terms.0) (rows_back vars rows names terms.1)

same_rows : (vars : List Name) (rows : List Pairs) → AllByRecursion (IsOverVars vars) rows → AreSameRows rows (map (row_in_order vars) rows)
same_rows vars [] over = tt
same_rows vars (row ∷ rows) over = (same_mapping vars row over.0, same_rows vars rows over.1)

-- the tree is read from its text
names_clear : (vars : List Name) → AllByRecursion IsVariable vars → AreClear (items_of (map text vars))
names_clear [] names = tt
names_clear (v ∷ vars) names = (utf8 v names.0.scalars, names_clear vars names.1)

rows_clear : (vars : List Name) (rows : List Pairs) → EachOnce vars → AllByRecursion IsVariable vars → AllByRecursion HasTerms rows → AreClear (items_of (map (row_object (by_name vars)) rows))
rows_clear vars [] once names terms = tt
rows_clear vars (row ∷ rows) once names terms = (row_clear vars row once names terms.0, rows_clear vars rows once names terms.1)

tree_clear : (table : TableValue) → IsRdfTable table → IsClear (tree_of table)
unfolding tree_of
tree_clear table rdf = (
  IsUtf8-are_ascii (codes "head") refl,
  (
    (IsUtf8-are_ascii (codes "vars") refl, (names_clear table.vars rdf.names, (tt, tt))),
    (
      (refl, tt),
      (
        IsUtf8-are_ascii (codes "results") refl,
        ((IsUtf8-are_ascii (codes "bindings") refl, (rows_clear table.vars table.rows rdf.is.once rdf.names rdf.terms, (tt, tt))), (tt, tt)),
      ),
    ),
  ),
)

names_depth : (vars : List Name) → tree.items_depth (items_outline (items_of (map text vars))) ≤ 0
names_depth [] = omega arith
names_depth (v ∷ vars) = omega (arith, names_depth vars)

rows_depth : (sorted : List Name) (rows : List Pairs) → tree.items_depth (items_outline (items_of (map (row_object sorted) rows))) ≤ 2
rows_depth sorted [] = omega arith
rows_depth sorted (row ∷ rows) = omega (arith, row_depth row sorted, rows_depth sorted rows)

tree_depth : (table : TableValue) → tree.depth (outline (tree_of table)) ≤ max_depth
unfolding tree_of
tree_depth table = omega (arith, names_depth table.vars, rows_depth (by_name table.vars) table.rows)

document : (table : TableValue) → IsRdfTable table → JsonDoc (json_text table) (in_order table)
unfolding lists
document table rdf = record {
  tree = tree_of table;
  json = (text_utf8 (tree_of table) (tree_clear table rdf), reads_back (tree_of table) (tree_clear table rdf) (tree_depth table));
  shape = record {
    lists = lists table;
    has = lists_back table;
    names = (names_back table.vars rdf.names, rdf.is.once);
    rows = rows_back table.vars table.rows rdf.names rdf.terms;
  };
}

pub table_back : ReadsBack
table_back table rdf = (document table rdf, (refl, same_rows table.vars table.rows rdf.is.over))
