use Rattle.std.proofs.Common.{◌≡◌, length}
use Rattle.bye_terms.specs.Characters.{is_iri_char}
use Rattle.bye_tokens.specs.Reading.{after_all}
use Rattle.bye_tokens.proofs.run.after_iri_chars.Given as goal

abbrev pub invariant-loop-c : goal.invariant-loop-c
invariant-loop-c l = after_all is_iri_char l.rest ≡ after_all is_iri_char l.initial.rest

abbrev pub decreases-loop-c : goal.decreases-loop-c
decreases-loop-c l = length l.rest
