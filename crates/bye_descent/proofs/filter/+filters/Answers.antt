use Rattle.std.proofs.Common.{◌++◌, ◌∷◌, [], sym, ◌∙◌, ap, subst, map}
use Rattle.bye_tokens.specs.declared.sign.Sign.TheVariants as signs
use Rattle.bye_tree.specs.Exprs.{expr_of}
use Rattle.bye_grammar.specs.Reading.{read_primary, read_next_unary, read_next_conjunction}
use Rattle.bye_grammar.specs.TokenKinds.{of, a_sign}
use Rattle.bye_descent.specs.Told.{ToldAs}
use Rattle.bye_descent.proofs.Takes.{shorter}
use Rattle.bye_descent.proofs.Rules.{takes_next_unary, takes_next_conjunction}
use Rattle.bye_descent.proofs.Depths.{primary_call}
use Rattle.bye_descent.proofs.Loops.{round_on, round_end, round_stops, longer, at_end, told_stop, mapped_join}
use Rattle.bye_descent.proofs.filter.+filters.Goals as goal

pub more_unaries-rounds-smaller : goal.more_unaries-rounds-smaller
more_unaries-rounds-smaller t c = shorter (takes_next_unary c.args.prefixes.now c.args.place c.args.depth) c.rounds.left c.next_unary.new.left (expr_of c.in-Ok.e) c.in-Ok.ensures

pub more_unaries-rounds-preserved : goal.more_unaries-rounds-preserved
more_unaries-rounds-preserved t c =
    let env = c.args.prefixes.now in
    let all = map expr_of c.rounds.all.items in
    let more = map expr_of c.push_item.new.items.items in
    round_on (of (a_sign signs.And)) (read_next_unary c.args.place (read_primary env c.args.place c.args.depth)) (takes_next_unary env c.args.place c.args.depth) (λ es. all ++ es) c.rounds.left _ c.rounds.invariant
    (λ es. more ++ es) (expr_of c.in-Ok.e) c.next_unary.new.left (longer all more (expr_of c.in-Ok.e) (ap (λ xs. map expr_of xs) c.in_ok-push_item-in-Ok.ensures.ok ∙ mapped_join expr_of c.rounds.all.items (c.in-Ok.e ∷ []))) (sym c.rounds-test.ensures) c.in-Ok.ensures

pub more_unaries-returns-in-Err : goal.more_unaries-returns-in-Err
more_unaries-returns-in-Err t c =
    let env = c.args.prefixes.now in
    told_stop (λ v. map expr_of v.items) c.give_up.result c.in-Err.stop c.next_unary.new.left _ c.give_up.ensures
    (round_stops (of (a_sign signs.And)) (read_next_unary c.args.place (read_primary env c.args.place c.args.depth)) (takes_next_unary env c.args.place c.args.depth) (λ es. map expr_of c.rounds.all.items ++ es) c.rounds.left _ c.rounds.invariant
    c.in-Err.stop c.next_unary.new.left (sym c.rounds-test.ensures) c.in-Err.ensures)

pub more_unaries-returns : goal.more_unaries-returns
more_unaries-returns t c =
    let env = c.args.prefixes.now in
    at_end (map expr_of c.rounds.all.items) c.rounds.left _ (round_end (of (a_sign signs.And)) (read_next_unary c.args.place (read_primary env c.args.place c.args.depth)) (takes_next_unary env c.args.place c.args.depth) (λ es. map expr_of c.rounds.all.items ++ es) c.rounds.left _ c.rounds.invariant (sym c.rounds-test.ensures))

pub more_conjunctions-rounds-smaller : goal.more_conjunctions-rounds-smaller
more_conjunctions-rounds-smaller t c = shorter (takes_next_conjunction c.args.prefixes.now c.args.place c.args.depth) c.rounds.left c.next_conjunction.new.left (expr_of c.in-Ok.e) c.in-Ok.ensures

pub more_conjunctions-rounds-preserved : goal.more_conjunctions-rounds-preserved
more_conjunctions-rounds-preserved t c =
    let env = c.args.prefixes.now in
    let all = map expr_of c.rounds.all.items in
    let more = map expr_of c.push_item.new.items.items in
    round_on (of (a_sign signs.Or)) (read_next_conjunction c.args.place (read_primary env c.args.place c.args.depth)) (takes_next_conjunction env c.args.place c.args.depth) (λ es. all ++ es) c.rounds.left _ c.rounds.invariant
    (λ es. more ++ es) (expr_of c.in-Ok.e) c.next_conjunction.new.left (longer all more (expr_of c.in-Ok.e) (ap (λ xs. map expr_of xs) c.in_ok-push_item-in-Ok.ensures.ok ∙ mapped_join expr_of c.rounds.all.items (c.in-Ok.e ∷ []))) (sym c.rounds-test.ensures) c.in-Ok.ensures

pub more_conjunctions-returns-in-Err : goal.more_conjunctions-returns-in-Err
more_conjunctions-returns-in-Err t c =
    let env = c.args.prefixes.now in
    told_stop (λ v. map expr_of v.items) c.give_up.result c.in-Err.stop c.next_conjunction.new.left _ c.give_up.ensures
    (round_stops (of (a_sign signs.Or)) (read_next_conjunction c.args.place (read_primary env c.args.place c.args.depth)) (takes_next_conjunction env c.args.place c.args.depth) (λ es. map expr_of c.rounds.all.items ++ es) c.rounds.left _ c.rounds.invariant
    c.in-Err.stop c.next_conjunction.new.left (sym c.rounds-test.ensures) c.in-Err.ensures)

pub more_conjunctions-returns : goal.more_conjunctions-returns
more_conjunctions-returns t c =
    let env = c.args.prefixes.now in
    at_end (map expr_of c.rounds.all.items) c.rounds.left _ (round_end (of (a_sign signs.Or)) (read_next_conjunction c.args.place (read_primary env c.args.place c.args.depth)) (takes_next_conjunction env c.args.place c.args.depth) (λ es. map expr_of c.rounds.all.items ++ es) c.rounds.left _ c.rounds.invariant (sym c.rounds-test.ensures))

pub primary-returns : goal.primary-returns
primary-returns t c =
    subst (λ o. ToldAs expr_of c.call.result c.call.new.left o) (sym (primary_call c.args.prefixes.now c.args.place c.args.depth c.args.left.now (sym c.if-begins_with_sign.ensures))) c.call.ensures
