use Rattle.bye_member.proofs.answering.lines.Given as goal

abbrev pub ghosts-counted_lines : goal.ghosts-counted_lines
ghosts-counted_lines a = record { name = a.blank.name; parts = a.blank.parts }
