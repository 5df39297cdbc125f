use Rattle.std.proofs.Common.{◌++◌, sym, ◌∙◌, ap, map}
use Rattle.std.specs.List.{flat_map}
use Rattle.bye_tree.specs.Written.{element_of}
use Rattle.bye_grammar.specs.declared.place.Place.TheVariants as places
use Rattle.bye_grammar.specs.Reading.{read_element, read_optional_group, read_group, read_filter}
use Rattle.bye_grammar.specs.TokenKinds.{of, elements}
use Rattle.bye_descent.proofs.Takes.{shorter}
use Rattle.bye_descent.proofs.Rules.{takes_element}
use Rattle.bye_descent.proofs.Loops.{round_on, round_end, round_stops, grown, at_end, told_stop, mapped_join}
use Rattle.bye_descent.proofs.group.+groups.Goals as goal

pub more_elements-rounds-smaller : goal.more_elements-rounds-smaller
more_elements-rounds-smaller t c = shorter (takes_element c.args.prefixes.now c.args.place c.args.depth) c.rounds.left c.next_elements.new.left (map element_of c.in-Ok.more.items) c.in-Ok.ensures

pub more_elements-rounds-preserved : goal.more_elements-rounds-preserved
more_elements-rounds-preserved t c =
    let env = c.args.prefixes.now in
    let all = map element_of c.rounds.all.items in
    let more = map element_of c.append.new.all.items in
    let next = map element_of c.in-Ok.more.items in
    round_on (of elements) (read_element env (read_optional_group (read_group env places.Inner c.args.depth)) (read_filter env c.args.place c.args.depth)) (takes_element env c.args.place c.args.depth) (λ es. all ++ flat_map (λ e. e) es) c.rounds.left _ c.rounds.invariant
    (λ es. more ++ flat_map (λ e. e) es) next c.next_elements.new.left (grown (λ e. e) all more next (ap (λ xs. map element_of xs) c.in_ok-append-in-Ok.ensures ∙ mapped_join element_of c.rounds.all.items c.in-Ok.more.items)) (sym c.rounds-test.ensures) c.in-Ok.ensures

pub more_elements-returns-in-Err : goal.more_elements-returns-in-Err
more_elements-returns-in-Err t c =
    let env = c.args.prefixes.now in
    told_stop (λ v. map element_of v.items) c.give_up.result c.in-Err.stop c.next_elements.new.left _ c.give_up.ensures
    (round_stops (of elements) (read_element env (read_optional_group (read_group env places.Inner c.args.depth)) (read_filter env c.args.place c.args.depth)) (takes_element env c.args.place c.args.depth) (λ es. map element_of c.rounds.all.items ++ flat_map (λ e. e) es) c.rounds.left _ c.rounds.invariant
    c.in-Err.stop c.next_elements.new.left (sym c.rounds-test.ensures) c.in-Err.ensures)

pub more_elements-returns : goal.more_elements-returns
more_elements-returns t c =
    let env = c.args.prefixes.now in
    at_end (map element_of c.rounds.all.items) c.rounds.left _ (round_end (of elements) (read_element env (read_optional_group (read_group env places.Inner c.args.depth)) (read_filter env c.args.place c.args.depth)) (takes_element env c.args.place c.args.depth) (λ es. map element_of c.rounds.all.items ++ flat_map (λ e. e) es) c.rounds.left _ c.rounds.invariant (sym c.rounds-test.ensures))
