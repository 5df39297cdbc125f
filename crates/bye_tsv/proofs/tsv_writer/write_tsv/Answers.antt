use Rattle.std.proofs.Common.{sym, ◌∙◌, ap, subst}
use Rattle.std.specs.Str.{encode_utf8_all}
use Rattle.std.proofs.lemmas.Result.{IfOk-weaker}
use Rattle.bye_tsv.specs.Documents.{TsvDoc}
use Rattle.bye_tsv.specs.ReadBack.{in_order}
use Rattle.bye_tsv.specs.Written.{tsv_text}
use Rattle.bye_tsv.proofs.ReadBack.{reads_back_as, same_rows}
use Rattle.bye_tsv.proofs.tsv_writer.write_tsv.Goals as goal

pub returns : goal.returns
returns c =
    let table = c.args.table.now in
    let back = reads_back_as table c.as_rdf.ensures.table c.as_rdf.ensures.valid in
    let text = IfOk-weaker c.write_lines.result _ _ (λ bytes e. e ∙ ap (λ t. encode_utf8_all (tsv_text t)) c.as_rdf.ensures.same) c.write_lines.ensures in
    record {
      text = text;
      document = IfOk-weaker c.write_lines.result _ _ (λ bytes e. subst (λ b. TsvDoc b (in_order table)) (sym e) back) text;
      same = same_rows table c.as_rdf.ensures.table;
    }
