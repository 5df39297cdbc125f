use Rattle.std.proofs.Common.{◌≡◌, refl, ◌≤◌, length, inl, inr, sym, subst, arith}
use Rattle.std.proofs.lemmas.Result.{err_from_is_err_and}
use Rattle.bye_cli.specs.Words.{Run}
use Rattle.bye_cli.specs.Documents.{Files, OfGraph, OfQuery, HasVerdict, Triples, Asks, Good}
use Rattle.bye_cli.specs.Causes.{IsUnread}
use Rattle.bye_cli.specs.Running.{IsRunnable}
use Rattle.bye_tree.specs.Selects.{select_of}
use Rattle.bye_cli.proofs.Unread.{reached_unread}
use Rattle.bye_cli.proofs.Ran.{few_triples, as_written, no_table}
use Rattle.bye_cli.proofs.running.ran.Goals as goal

pub returns-in_err-triples-clause-cause : goal.returns-in_err-triples-clause-cause
returns-in_err-triples-clause-cause g c = let p = err_from_is_err_and c.from_residual.result c.from_residual.ensures.1 in
    rw (p.1, p.2) (λ words is. reached_unread _ words (Run c.args.graph_name.now c.args.query_name.now c.args.form) (OfGraph, c.args.graph_name.now) _ _ _ c.in_err-triples.field-0.0 is (inl refl) (omega arith)
    c.in_err-triples.ensures.unread)

pub returns-in_err-select-clause-cause : goal.returns-in_err-select-clause-cause
returns-in_err-select-clause-cause g c = let p = err_from_is_err_and c.from_residual-in_err-select.result c.from_residual-in_err-select.ensures.1 in
    let unread = subst (λ (files : Files). IsUnread files (OfQuery, c.args.query_name.now) (g.F.Source.faults c.read_document.new.folder) (g.F.Source.faults c.read_document-2.new.folder) c.in_err-select.field-0.0) c.in_ok-triples.ensures.files c.in_err-select.ensures.unread in
    rw (p.1, p.2) (λ words is. reached_unread _ words (Run c.args.graph_name.now c.args.query_name.now c.args.form) (OfQuery, c.args.query_name.now) _ (g.F.Source.faults c.read_document.new.folder) _ c.in_err-select.field-0.0 is
    (inr (Triples c.in_ok-triples.triples.items, c.in_ok-triples.ensures.read, inl refl)) c.in_ok-triples.ensures.later unread)

pub answer_table-requires : goal.answer_table-requires
answer_table-requires g c = few_triples _ _ c.in_ok-triples.triples.items c.in_ok-triples.ensures.read

pub returns-in_err-bytes-clause-cause : goal.returns-in_err-bytes-clause-cause
returns-in_err-bytes-clause-cause g c = let p = err_from_is_err_and c.from_residual-in_err-bytes.result c.from_residual-in_err-bytes.ensures.1 in
    rw (p.1, p.2) (λ words is. (Run c.args.graph_name.now c.args.query_name.now c.args.form, is))

pub returns-in_err-table-clause-cause : goal.returns-in_err-table-clause-cause
returns-in_err-table-clause-cause g c = let p = err_from_is_err_and c.from_residual-in_err-table.result c.from_residual-in_err-table.ensures.1 in
    let held = subst (λ (files : Files). HasVerdict files (OfQuery, c.args.query_name.now) (Good (Asks (select_of c.in_ok-select.select)))) c.in_ok-triples.ensures.files c.in_ok-select.ensures.read in
    rw (p.1, p.2) (λ words is. no_table _ words _ _ c.in_err-table.field-0.0 c.args.graph_name.now c.args.query_name.now c.args.form c.in_ok-triples.triples.items (select_of c.in_ok-select.select) is
    c.in_ok-triples.ensures.read held c.in_err-table.ensures.cause)

pub returns-clause-answer : goal.returns-clause-answer
returns-clause-answer g c = λ words is.
    let held = subst (λ (files : Files). HasVerdict files (OfQuery, c.args.query_name.now) (Good (Asks (select_of c.in_ok-select.select)))) c.in_ok-triples.ensures.files c.in_ok-select.ensures.read in
    let asked : IsRunnable (g.F.Folder.files c.args.folder.now) words c.in_ok-triples.triples.items (select_of c.in_ok-select.select) c.args.form = record {
      graph_name = c.args.graph_name.now;
      query_name = c.args.query_name.now;
      run = is;
      graph_held = c.in_ok-triples.ensures.read;
      query_held = held;
    } in
    inr (inr (inr (record {
      graph = c.in_ok-triples.triples.items;
      query = select_of c.in_ok-select.select;
      form = c.args.form;
      asked = asked;
      table = c.in_ok-table.table;
      answers = c.in_ok-table.ensures.table;
      as_written = as_written c.in_ok-triples.triples.items (select_of c.in_ok-select.select) held.bytes c.in_ok-table.table held.judged c.in_ok-table.ensures.table;
      written = c.in_ok-bytes.ensures;
    })))
