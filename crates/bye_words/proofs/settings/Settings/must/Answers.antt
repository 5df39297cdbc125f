use Rattle.std.proofs.Common.{sym, subst}
use Rattle.bye_terms.specs.Members.{In}
use Rattle.bye_terms.proofs.Texts.{ascii_chars}
use Rattle.bye_words.specs.Forms.{names_in}
use Rattle.bye_words.proofs.settings.Settings.must.Goals as goal

pub unreachable-requires : goal.unreachable-requires
unreachable-requires c = c.in-None.ensures (subst (λ name. In (names_in c.args.self.now) name) (sym (ascii_chars c.args.name.now c.requires.ascii)) c.requires.there)

pub returns : goal.returns
returns c = subst (λ name. In c.args.self.now (name, c.in-Some.value.now)) (ascii_chars c.args.name.now c.requires.ascii) c.in-Some.ensures
