use Rattle.std.proofs.Common.{◌≡◌, refl, codes, inl, inr, subst}
use Rattle.bye_terms.specs.Members.{In}
use Rattle.bye_terms.proofs.Texts.{ascii_chars}
use Rattle.bye_words.specs.Forms.{names_in}
use Rattle.bye_words.specs.Pairs.{Word}
use Rattle.bye_cli.proofs.Settings.{as_kind}
use Rattle.bye_cli.proofs.command.answers_form.Goals as goal

pub written_form-requires : goal.written_form-requires
written_form-requires c =
    as_kind c.args.settings.now c.in-Some.word.now c.requires (subst (λ (name : Word). In c.args.settings.now (name, c.in-Some.word.now)) (ascii_chars (codes "--as") refl) c.in-Some.ensures)

pub returns-in-Some : goal.returns-in-Some
returns-in-Some c =
    inl (subst (λ (value : Word). In c.args.settings.now (codes "--as", value)) c.written_form.ensures
    (subst (λ (name : Word). In c.args.settings.now (name, c.in-Some.word.now)) (ascii_chars (codes "--as") refl) c.in-Some.ensures))

pub returns-in-None : goal.returns-in-None
returns-in-None c = inr (subst (λ (name : Word). In (names_in c.args.settings.now) name → ⊥) (ascii_chars (codes "--as") refl) c.in-None.ensures, refl)
