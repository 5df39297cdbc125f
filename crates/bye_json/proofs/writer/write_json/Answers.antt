use Rattle.std.proofs.Common.{◌++◌, sym, ap, ◌∙◌, subst}
use Rattle.json.specs.Print.{print}
use Rattle.serde_json.proofs.Texts.{print-outline}
use Rattle.bye_json.specs.Documents.{JsonDoc}
use Rattle.bye_json.specs.ReadingBack.{in_order}
use Rattle.bye_json.specs.Tokens.{tokens_of}
use Rattle.bye_json.specs.Written.{tree_of}
use Rattle.bye_json.proofs.TableBack.{table_back}
use Rattle.bye_json.proofs.writer.write_json.Goals as goal

pub returns-clause-text : goal.returns-clause-text
returns-clause-text c =
    let adds = c.in_ok-write_table.ensures in
    c.into_inner.ensures.items
    ∙ (λ i. (adds.before ∙ c.new-out.ensures.before ∙ c.new.ensures.items) i ++ print ((adds.tokens ∙ ap (λ ts. ts ++ tokens_of (tree_of c.args.table.now)) c.new-out.ensures.tokens) i))
    ∙ print-outline (tree_of c.args.table.now)

pub returns-clause-document : goal.returns-clause-document
returns-clause-document c = subst (λ bytes. JsonDoc bytes (in_order c.args.table.now)) (sym (returns-clause-text c)) (table_back c.args.table.now c.tell_table.ensures).0

pub returns-clause-same : goal.returns-clause-same
returns-clause-same c = (table_back c.args.table.now c.tell_table.ensures).1
