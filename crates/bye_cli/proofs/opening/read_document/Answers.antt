use Rattle.std.proofs.Common.{ℕ, Err, ap, subst, ◌∙◌}
use Rattle.bye_words.specs.declared.role.Role.{Role}
use Rattle.bye_cli.specs.Documents.{HoldsLonger}
use Rattle.bye_cli.specs.Refusals.{refusal_of}
use Rattle.bye_cli.proofs.Unread.{unread}
use Rattle.bye_cli.proofs.opening.read_document.Goals as goal

pub returns-in-Err-clause-unread : goal.returns-in-Err-clause-unread
returns-in-Err-clause-unread g c =
    let files = g.F.Folder.files c.args.folder.now in
    unread files (g.R.Reader.kind c.args.reader.now) c.args.name.now (g.F.Source.faults c.args.folder.now) (g.F.Source.faults c.file_bytes.new.folder) c.in-Err.err c.unread.result
    (c.unread.ensures ∙ ap (λ (role : Role). refusal_of role c.in-Err.err) c.role.ensures)
    (λ e. subst (λ (limit : ℕ). HoldsLonger files c.args.name.now limit) c.limit.ensures (c.in-Err.ensures.long (ap Err e)))
    (λ e. c.in-Err.ensures.failed (ap Err e))
