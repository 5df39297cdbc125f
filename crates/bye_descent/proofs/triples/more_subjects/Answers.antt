use Rattle.std.proofs.Common.{◌++◌, sym, ◌∙◌, ap, subst, ◌<◌, length}
use Rattle.std.specs.List.{flat_map}
use Rattle.bye_parts.specs.Readers.{begins, Got}
use Rattle.bye_tokens.specs.declared.sign.Sign.TheVariants as signs
use Rattle.bye_grammar.specs.Reading.{read_same}
use Rattle.bye_grammar.specs.TokenKinds.{of, a_sign, subjects}
use Rattle.bye_descent.specs.Told.{Stopped}
use Rattle.bye_descent.proofs.Takes.{shorter}
use Rattle.bye_descent.proofs.Rules.{takes_same}
use Rattle.bye_descent.proofs.Loops.{trail_on, trail_end, trail_last, trail_stops, grown, at_end, after_shorter}
use Rattle.bye_descent.proofs.triples.more_subjects.Goals as goal

pub returns-then-not-begins_with_subject : goal.returns-then-not-begins_with_subject
returns-then-not-begins_with_subject c =
    let env = c.args.prefixes.now in
    let all = c.rounds.all.items in
    at_end all _ _ (trail_last (of (a_sign signs.Dot)) (of subjects) (read_same env) (takes_same env) (λ vs. all ++ flat_map (λ qs. qs) vs) c.rounds.left _ c.rounds.invariant (sym c.rounds-test.ensures) (ap (λ ts. begins (of subjects) ts) (sym c.in_ok-skip.ensures) ∙ sym c.if-not-begins_with_subject.ensures))
    ∙ ap (λ ts. Got all ts) (sym c.in_ok-skip.ensures)

pub rounds-smaller : goal.rounds-smaller
rounds-smaller c =
    after_shorter c.rounds.left (length c.same.new.left)
    (subst (λ ts. length c.same.new.left < length ts) c.in_ok-skip.ensures (shorter (takes_same c.args.prefixes.now) c.skip.new.self c.same.new.left c.in-Ok.more.items c.in-Ok.ensures))

pub rounds-preserved : goal.rounds-preserved
rounds-preserved c =
    let env = c.args.prefixes.now in
    let all = c.rounds.all.items in
    let more = c.append.new.all.items in
    trail_on (of (a_sign signs.Dot)) (of subjects) (read_same env) (takes_same env) (λ vs. all ++ flat_map (λ qs. qs) vs) c.rounds.left _ c.rounds.invariant
    (λ vs. more ++ flat_map (λ qs. qs) vs) c.in-Ok.more.items c.same.new.left (grown (λ qs. qs) all more c.in-Ok.more.items c.in_ok-append-in-Ok.ensures) (sym c.rounds-test.ensures)
    (ap (λ ts. begins (of subjects) ts) (sym c.in_ok-skip.ensures) ∙ sym c.if-not-begins_with_subject.ensures) (ap (read_same env) (sym c.in_ok-skip.ensures) ∙ c.in-Ok.ensures)

pub returns-in-Err : goal.returns-in-Err
returns-in-Err c =
    let env = c.args.prefixes.now in
    let all = c.rounds.all.items in
    trail_stops (of (a_sign signs.Dot)) (of subjects) (read_same env) (takes_same env) (λ vs. all ++ flat_map (λ qs. qs) vs) c.rounds.left _ c.rounds.invariant c.in-Err.stop c.same.new.left (sym c.rounds-test.ensures)
    (ap (λ ts. begins (of subjects) ts) (sym c.in_ok-skip.ensures) ∙ sym c.if-not-begins_with_subject.ensures) (subst (λ ts. Stopped c.in-Err.stop c.same.new.left (read_same env ts)) c.in_ok-skip.ensures c.in-Err.ensures)

pub returns : goal.returns
returns c =
    let env = c.args.prefixes.now in
    let all = c.rounds.all.items in
    at_end all c.rounds.left _ (trail_end (of (a_sign signs.Dot)) (of subjects) (read_same env) (takes_same env) (λ vs. all ++ flat_map (λ qs. qs) vs) c.rounds.left _ c.rounds.invariant (sym c.rounds-test.ensures))
