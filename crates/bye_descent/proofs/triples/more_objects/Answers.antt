use Rattle.std.proofs.Common.{◌++◌, sym, map}
use Rattle.bye_tokens.specs.declared.sign.Sign.TheVariants as signs
use Rattle.bye_grammar.specs.Reading.{read_next_object}
use Rattle.bye_grammar.specs.TokenKinds.{of, a_sign}
use Rattle.bye_grammar.specs.Values.{pattern}
use Rattle.bye_descent.proofs.Takes.{shorter}
use Rattle.bye_descent.proofs.Rules.{takes_next_object}
use Rattle.bye_descent.proofs.Loops.{round_on, round_end, round_stops, longer_mapped, at_end}
use Rattle.bye_descent.proofs.triples.more_objects.Goals as goal

pub rounds-smaller : goal.rounds-smaller
rounds-smaller c = shorter (takes_next_object c.args.prefixes.now) c.rounds.left c.next_object.new.left c.in-Ok.o c.in-Ok.ensures

pub rounds-preserved : goal.rounds-preserved
rounds-preserved c =
    let env = c.args.prefixes.now in
    let h = pattern c.args.s.now c.args.p.now in
    round_on (of (a_sign signs.Comma)) (read_next_object env) (takes_next_object env) (λ os. c.rounds.all.items ++ map h os) c.rounds.left _ c.rounds.invariant
    (λ os. c.push_triple.new.all.items ++ map h os) c.in-Ok.o c.next_object.new.left (longer_mapped h c.rounds.all.items c.push_triple.new.all.items c.in-Ok.o c.in_ok-push_triple-in-Ok.ensures) (sym c.rounds-test.ensures) c.in-Ok.ensures

pub returns-in-Err : goal.returns-in-Err
returns-in-Err c =
    let env = c.args.prefixes.now in
    round_stops (of (a_sign signs.Comma)) (read_next_object env) (takes_next_object env) (λ os. c.rounds.all.items ++ map (pattern c.args.s.now c.args.p.now) os) c.rounds.left _ c.rounds.invariant
    c.in-Err.stop c.next_object.new.left (sym c.rounds-test.ensures) c.in-Err.ensures

pub returns : goal.returns
returns c =
    let env = c.args.prefixes.now in
    at_end c.rounds.all.items c.rounds.left _ (round_end (of (a_sign signs.Comma)) (read_next_object env) (takes_next_object env) (λ os. c.rounds.all.items ++ map (pattern c.args.s.now c.args.p.now) os) c.rounds.left _ c.rounds.invariant (sym c.rounds-test.ensures))
