use Rattle.std.proofs.Common.{◌≡◌, refl, ◌<◌, length, Bool, false, ◌==◌, List, inl, inr, sym, subst, arith}
use Rattle.std.proofs.lemmas.Result.{err_from_is_err_and}
use Rattle.std.specs.List.{AllByRecursion}
use Rattle.bye_terms.specs.Terms.{IsTriple, Statement}
use Rattle.bye_table.specs.Mappings.{Pairs}
use Rattle.bye_cli.specs.Documents.{Files, OfGraph, OfTable, HasVerdict, Triples, Rows, Good}
use Rattle.bye_cli.specs.Words.{Learn}
use Rattle.bye_cli.specs.Problem.{IsGiven, IsAsked, IsWritten}
use Rattle.bye_cli.specs.Causes.{IsUnread}
use Rattle.bye_words.specs.declared.role.Role.TheVariants.{Wanted}
use Rattle.bye_cli.proofs.Asked.{is_answer}
use Rattle.bye_cli.proofs.Learned.{held_triples}
use Rattle.bye_cli.proofs.Unread.{reached_unread}
use Rattle.bye_cli.proofs.learning.learned.Goals as goal

not_empty : (rows : List Pairs) (b : Bool) → b ≡ (length rows == 0) → b ≡ false → 0 < length rows
not_empty rows b e f = grind arith

pub returns-in_err-graph-clause-cause : goal.returns-in_err-graph-clause-cause
returns-in_err-graph-clause-cause g c = let p = err_from_is_err_and c.from_residual.result c.from_residual.ensures.1 in
    rw (p.1, p.2) (λ words is. reached_unread _ words (Learn c.args.graph_name.now c.args.wanted_name.now c.args.tables) (OfGraph, c.args.graph_name.now) _ _ _ c.in_err-graph.field-0.0 is (inl refl) (omega arith)
    c.in_err-graph.ensures.unread)

pub returns-in_err-wanted-clause-cause : goal.returns-in_err-wanted-clause-cause
returns-in_err-wanted-clause-cause g c = let p = err_from_is_err_and c.from_residual-in_err-wanted.result c.from_residual-in_err-wanted.ensures.1 in
    let unread = subst (λ (files : Files). IsUnread files (OfTable Wanted c.args.tables, c.args.wanted_name.now) (g.F.Source.faults c.read_document.new.folder) (g.F.Source.faults c.read_document-2.new.folder) c.in_err-wanted.field-0.0) c.in_ok-graph.ensures.files c.in_err-wanted.ensures.unread in
    rw (p.1, p.2) (λ words is. reached_unread _ words (Learn c.args.graph_name.now c.args.wanted_name.now c.args.tables) (OfTable Wanted c.args.tables, c.args.wanted_name.now) _ (g.F.Source.faults c.read_document.new.folder) _ c.in_err-wanted.field-0.0 is
    (inr (Triples c.in_ok-graph.graph.items, c.in_ok-graph.ensures.read, inl refl)) c.in_ok-graph.ensures.later unread)

pub returns-in_err-answer-clause-cause : goal.returns-in_err-answer-clause-cause
returns-in_err-answer-clause-cause g c = let p = err_from_is_err_and c.from_residual-in_err-answer.result c.from_residual-in_err-answer.ensures.1 in
    rw (p.1, p.2) (λ words is. (Learn c.args.graph_name.now c.args.wanted_name.now c.args.tables, is))

pub returns-clause-answer : goal.returns-clause-answer
returns-clause-answer g c =
    let wanted_held = subst (λ (files : Files). HasVerdict files (OfTable Wanted c.args.tables, c.args.wanted_name.now) (Good (Rows c.in_ok-wanted.wanted))) c.in_ok-graph.ensures.files c.in_ok-wanted.ensures.read in
    let written = subst (λ (graph : List Statement). IsWritten graph c.in_ok-wanted.wanted c.in_ok-answer.answer.ending c.in_ok-answer.answer.bytes.items) c.as_slice.ensures.value c.in_ok-answer.ensures in
    let row : 0 < length c.in_ok-wanted.wanted.rows = subst (λ (rows : List Pairs). 0 < length rows) c.rows.ensures.rows (not_empty c.rows.result.now c.is_empty.result c.is_empty.ensures c.if-is_empty.false) in
    λ words is.
    let given : IsGiven (g.F.Folder.files c.args.folder.now) words c.in_ok-graph.graph.items c.in_ok-wanted.wanted = record {
      graph_name = c.args.graph_name.now;
      wanted_name = c.args.wanted_name.now;
      tables = c.args.tables;
      learn = is;
      graph_held = c.in_ok-graph.ensures.read;
      wanted_held = wanted_held;
    } in
    let asked : IsAsked (g.F.Folder.files c.args.folder.now) words c.in_ok-graph.graph.items c.in_ok-wanted.wanted = record { given = given; some_row = row } in
    is_answer _ _ _ _ c.in_ok-answer.answer.ending c.in_ok-answer.answer.bytes.items asked written

pub written-requires-clause-triples : goal.written-requires-clause-triples
written-requires-clause-triples g c = subst (AllByRecursion IsTriple) (sym c.as_slice.ensures.value) (held_triples _ _ c.in_ok-graph.graph.items c.in_ok-graph.ensures.read)
