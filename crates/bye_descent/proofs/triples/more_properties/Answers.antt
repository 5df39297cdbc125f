use Rattle.std.proofs.Common.{◌++◌, sym}
use Rattle.std.specs.List.{flat_map}
use Rattle.bye_tokens.specs.declared.sign.Sign.TheVariants as signs
use Rattle.bye_grammar.specs.Reading.{read_next_property}
use Rattle.bye_grammar.specs.TokenKinds.{of, a_sign}
use Rattle.bye_descent.proofs.Takes.{shorter}
use Rattle.bye_descent.proofs.Rules.{takes_next_property}
use Rattle.bye_descent.proofs.Loops.{round_on, round_end, round_stops, grown, at_end}
use Rattle.bye_descent.proofs.triples.more_properties.Goals as goal

pub rounds-smaller : goal.rounds-smaller
rounds-smaller c = shorter (takes_next_property c.args.prefixes.now c.args.s.now) c.rounds.left c.next_property.new.left c.in-Ok.more.items c.in-Ok.ensures

pub rounds-preserved : goal.rounds-preserved
rounds-preserved c =
    let env = c.args.prefixes.now in
    round_on (of (a_sign signs.Semicolon)) (read_next_property env c.args.s.now) (takes_next_property env c.args.s.now) (λ vs. c.rounds.all.items ++ flat_map (λ qs. qs) vs) c.rounds.left _ c.rounds.invariant
    (λ vs. c.append.new.all.items ++ flat_map (λ qs. qs) vs) c.in-Ok.more.items c.next_property.new.left (grown (λ qs. qs) c.rounds.all.items c.append.new.all.items c.in-Ok.more.items c.in_ok-append-in-Ok.ensures) (sym c.rounds-test.ensures) c.in-Ok.ensures

pub returns-in-Err : goal.returns-in-Err
returns-in-Err c =
    let env = c.args.prefixes.now in
    round_stops (of (a_sign signs.Semicolon)) (read_next_property env c.args.s.now) (takes_next_property env c.args.s.now) (λ vs. c.rounds.all.items ++ flat_map (λ qs. qs) vs) c.rounds.left _ c.rounds.invariant
    c.in-Err.stop c.next_property.new.left (sym c.rounds-test.ensures) c.in-Err.ensures

pub returns : goal.returns
returns c =
    let env = c.args.prefixes.now in
    at_end c.rounds.all.items c.rounds.left _ (round_end (of (a_sign signs.Semicolon)) (read_next_property env c.args.s.now) (takes_next_property env c.args.s.now) (λ vs. c.rounds.all.items ++ flat_map (λ qs. qs) vs) c.rounds.left _ c.rounds.invariant (sym c.rounds-test.ensures))
