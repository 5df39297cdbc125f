use Rattle.bye_words.proofs.Pairs.{even_pairs, pairs_even}
use Rattle.bye_words.proofs.settings.Settings.new.Goals as goal

pub returns-then-words-eq0-clause-some : goal.returns-then-words-eq0-clause-some
returns-then-words-eq0-clause-some c = even_pairs c.args.words.now c.if-words-eq0.true

pub returns-else-words-eq0-clause-none : goal.returns-else-words-eq0-clause-none
returns-else-words-eq0-clause-none c = λ settings e. c.if-words-eq0.false (pairs_even c.args.words.now settings e)
