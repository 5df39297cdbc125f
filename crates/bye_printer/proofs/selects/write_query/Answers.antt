use Rattle.std.proofs.Common.{List, ℕ, sym, subst}
use Rattle.bye_tree.specs.Selects.{select_of}
use Rattle.bye_grammar.specs.Documents.{QueryDoc}
use Rattle.bye_printer.proofs.selects.write_query.Goals as goal

pub returns-clause-read : goal.returns-clause-read
returns-clause-read c =
    let query = select_of c.args.select.now in
    subst (λ (bytes : List ℕ). QueryDoc bytes query) (sym c.in_ok-bytes.ensures.bytes) (c.written_texts_are_read.ensures query c.in_ok-bytes.ensures.kept c.in_ok-bytes.ensures.valid c.in_ok-bytes.ensures.scalars)
