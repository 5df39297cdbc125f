use Rattle.std.proofs.Common.{◌≡◌, ◌++◌, ◌∷◌, [], sym, ◌∙◌, ap, subst, reverse}
use Rattle.bye_tokens.specs.declared.token.Placed.{Placed}
use Rattle.bye_parts.specs.Readers.{Got}
use Rattle.bye_grammar.specs.Fits as fits
use Rattle.bye_grammar.specs.Reading.{read_one}
use Rattle.bye_grammar.specs.TokenKinds as kinds
use Rattle.bye_grammar.specs.TokenKinds.{of}
use Rattle.bye_descent.specs.Told.{Stopped}
use Rattle.bye_descent.proofs.Takes.{shorter, takes_token}
use Rattle.bye_descent.proofs.Looking.{last_first}
use Rattle.bye_descent.proofs.Loops.{run_goes, run_end, run_stops, longer, at_end}
use Rattle.bye_descent.proofs.names.more_names.Goals as goal

pub rounds-smaller : goal.rounds-smaller
rounds-smaller c = shorter (takes_token (λ (t : Placed). fits.new_variable (reverse c.rounds.seen.keys) t.token)) c.rounds.left c.new_variable.new.left c.in-Ok.v c.in-Ok.ensures.told

pub rounds-preserved : goal.rounds-preserved
rounds-preserved c =
    let vs = c.rounds.all.items in
    let more = c.push_item.new.items.items in
    let grown = c.in_ok-push_item-in-Ok.ensures.ok in
    let same = c.rounds.invariant.0 in
    let read = subst (λ vs. read_one (fits.new_variable (reverse vs)) c.rounds.left ≡ Got c.in-Ok.v c.new_variable.new.left) same c.in-Ok.ensures.told in (
      c.in-Ok.ensures.keys ∙ ap (λ vs. vs ++ c.in-Ok.v ∷ []) same ∙ sym grown,
      run_goes (of (kinds.Variable ∷ [])) (λ seen (t : Placed). fits.new_variable seen t.token) (reverse vs) (λ ws. vs ++ ws) c.rounds.left c.new_variable.new.left c.in-Ok.v _ (λ ws. more ++ ws) (reverse more) (longer vs more c.in-Ok.v grown) (ap (λ xs. reverse xs) grown ∙ last_first vs c.in-Ok.v) c.rounds.invariant.1 (sym c.rounds-test.ensures) read,
    )

pub returns-in-Err : goal.returns-in-Err
returns-in-Err c =
    let vs = c.rounds.all.items in
    let stopped = subst (λ vs. Stopped c.in-Err.stop c.new_variable.new.left (read_one (fits.new_variable (reverse vs)) c.rounds.left)) c.rounds.invariant.0 c.in-Err.ensures.told in
    run_stops (of (kinds.Variable ∷ [])) (λ seen (t : Placed). fits.new_variable seen t.token) (reverse vs) (λ ws. vs ++ ws) c.rounds.left c.new_variable.new.left _ c.in-Err.stop c.rounds.invariant.1 (sym c.rounds-test.ensures) stopped

pub returns : goal.returns
returns c =
    let vs = c.rounds.all.items in
    at_end vs c.rounds.left _ (run_end (of (kinds.Variable ∷ [])) (λ seen (t : Placed). fits.new_variable seen t.token) (reverse vs) (λ ws. vs ++ ws) c.rounds.left _ c.rounds.invariant.1 (sym c.rounds-test.ensures))
