use Rattle.std.proofs.Common.{refl, codes, sym, ◌∙◌, ⊎_elim}
use Rattle.bye_terms.proofs.Texts.{ascii_chars}
use Rattle.bye_terms.proofs.Tests.{not_both}
use Rattle.bye_cli.proofs.table_form.read_form.Goals as goal

pub returns-then-is_word : goal.returns-then-is_word
returns-then-is_word c = sym (c.is_word.ensures.0 c.if-is_word.true) ∙ ascii_chars (codes "tsv") refl

pub returns-else-is_word : goal.returns-else-is_word
returns-else-is_word c =
    ⊎_elim (λ e. absurd (not_both c.is_word.result (c.is_word.ensures.1 (ascii_chars (codes "tsv") refl ∙ e)) c.if-is_word.false)) (λ k. ⊎_elim (λ e. sym e) (λ k. absurd k) k) c.requires
