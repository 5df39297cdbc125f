use Rattle.std.proofs.Common.{sym, ◌∙◌}
use Rattle.bye_ntriples.proofs.PlainWalks.{one_less}
use Rattle.bye_ntriples.proofs.document.Document.walk.Goals as goal

pub loop-rest-smaller : goal.loop-rest-smaller
loop-rest-smaller c = one_less c.loop-rest.rest c.next.new.self c.in-Some.c (sym (c.in_ok-take_line.ensures.kept c.if-branch.false) ∙ c.in-Some.ensures)
