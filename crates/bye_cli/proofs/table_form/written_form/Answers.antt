use Rattle.std.proofs.Common.{refl, codes, sym, ◌∙◌, ⊎_elim}
use Rattle.bye_terms.proofs.Texts.{ascii_chars}
use Rattle.bye_terms.proofs.Tests.{not_both}
use Rattle.bye_cli.proofs.table_form.written_form.Goals as goal

pub returns-then-is_word : goal.returns-then-is_word
returns-then-is_word c = sym (c.is_word.ensures.0 c.if-is_word.true) ∙ ascii_chars (codes "tsv") refl

pub returns-then-is_word-2 : goal.returns-then-is_word-2
returns-then-is_word-2 c = sym (c.is_word-else-is_word.ensures.0 c.if-is_word-2.true) ∙ ascii_chars (codes "json") refl

pub returns-else-is_word-2 : goal.returns-else-is_word-2
returns-else-is_word-2 c =
    ⊎_elim (λ e. absurd (not_both c.is_word.result (c.is_word.ensures.1 (ascii_chars (codes "tsv") refl ∙ e)) c.if-is_word.false))
    (λ k. ⊎_elim (λ e. absurd (not_both c.is_word-else-is_word.result (c.is_word-else-is_word.ensures.1 (ascii_chars (codes "json") refl ∙ e)) c.if-is_word-2.false)) (λ k. ⊎_elim (λ e. sym e) (λ k. absurd k) k) k) c.requires
