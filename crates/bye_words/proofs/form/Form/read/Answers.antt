use Rattle.std.proofs.Common.{◌≡◌, subst, List}
use Rattle.std.specs.List.{flat_map}
use Rattle.bye_words.specs.Pairs.{Setting, setting_words}
use Rattle.bye_words.specs.Forms.{AreOf}
use Rattle.bye_words.specs.Tables.{form_of}
use Rattle.bye_words.proofs.Pairs.{same_pairs}
use Rattle.bye_words.proofs.form.Form.read.Goals as goal

pub returns-else-fits-clause-none : goal.returns-else-fits-clause-none
returns-else-fits-clause-none c = λ settings line.
    let first = c.in_ok-command.ensures.cases in
    let pairs = c.in_ok-settings.ensures.some in
    let parts = line.parts in
    let same : flat_map setting_words settings ≡ flat_map setting_words c.in_ok-settings.settings = cc in
    let fits = c.fits.ensures.1 (subst (λ (s : List Setting). AreOf (form_of c.args.self.now) s) (same_pairs _ _ same) line.of_form) in
    let none = c.if-fits.false in
    cc
