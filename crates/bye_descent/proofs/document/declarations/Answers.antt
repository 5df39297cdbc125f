use Rattle.std.proofs.Common.{◌++◌, sym}
use Rattle.bye_tokens.specs.declared.word.Word.TheVariants as words
use Rattle.bye_grammar.specs.Reading.{read_declaration}
use Rattle.bye_grammar.specs.TokenKinds.{of, a_word}
use Rattle.bye_descent.proofs.Takes.{shorter}
use Rattle.bye_descent.proofs.Rules.{takes_declaration}
use Rattle.bye_descent.proofs.Loops.{round_on, round_end, round_stops, longer, at_end}
use Rattle.bye_descent.proofs.document.declarations.Goals as goal

pub rounds-smaller : goal.rounds-smaller
rounds-smaller c = shorter takes_declaration c.rounds.left c.declaration.new.left c.in-Ok.one c.in-Ok.ensures

pub rounds-preserved : goal.rounds-preserved
rounds-preserved c =
    let all = c.rounds.declared.items in
    let more = c.push_item.new.items.items in
    round_on (of (a_word words.Prefix)) read_declaration takes_declaration (λ ds. all ++ ds) c.rounds.left _ c.rounds.invariant
    (λ ds. more ++ ds) c.in-Ok.one c.declaration.new.left (longer all more c.in-Ok.one c.in_ok-push_item-in-Ok.ensures.ok) (sym c.rounds-test.ensures) c.in-Ok.ensures

pub returns-in-Err : goal.returns-in-Err
returns-in-Err c = round_stops (of (a_word words.Prefix)) read_declaration takes_declaration (λ ds. c.rounds.declared.items ++ ds) c.rounds.left _ c.rounds.invariant c.in-Err.stop c.declaration.new.left (sym c.rounds-test.ensures) c.in-Err.ensures

pub returns : goal.returns
returns c = at_end c.rounds.declared.items c.rounds.left _ (round_end (of (a_word words.Prefix)) read_declaration takes_declaration (λ ds. c.rounds.declared.items ++ ds) c.rounds.left _ c.rounds.invariant (sym c.rounds-test.ensures))
