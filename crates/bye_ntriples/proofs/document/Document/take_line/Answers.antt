use Rattle.std.proofs.Common.{refl, ◌++◌, ◌∷◌, ◌<◌, [], sym, ◌∙◌, ap, subst}
use Rattle.bye_ntriples.specs.Answers.{triple_limit}
use Rattle.bye_ntriples.specs.DocSteps.{DocAt, walk}
use Rattle.bye_ntriples.specs.PlainLines.{plain_line}
use Rattle.bye_ntriples.proofs.PlainWalks.{taken, shorter}
use Rattle.bye_ntriples.proofs.document.Document.take_line.Goals as goal

pub returns-clause-same : goal.returns-clause-same
unfolding triple_limit
returns-clause-same c =
    let few = subst (λ n. n < 1048576) (c.len.ensures ∙ c.self.inside.triples.ok.0) c.if-len-ge-TRIPLE_LIMIT.false in
    let read = ap plain_line (sym (c.new-after.ensures ∙ c.rest.ensures)) ∙ sym (rw c.in-Some.is at c.in_ok-triple.ensures) in
    ap (λ (d : DocAt). walk d c.args.rest.now) (sym c.self.view_is)
    ∙ taken c.self.inside.triples.items c.push_item.new.items.items c.self.inside.at c.args.rest.now c.plain_line.new.rest c.in-Some.triple (c.if-not-is_begin.ensures refl) few read
    (c.in_ok-push_item.ensures.ok ∙ ap (λ t. c.self.inside.triples.items ++ t ∷ []) c.into_triple.ensures)

pub returns-clause-taken : goal.returns-clause-taken
returns-clause-taken c =
    let read = ap plain_line (sym (c.new-after.ensures ∙ c.rest.ensures)) ∙ sym (rw c.in-Some.is at c.in_ok-triple.ensures) in
    shorter c.args.rest.now (c.in-Some.triple, c.plain_line.new.rest) read
