use Rattle.std.proofs.Common.{codes, refl}
use Rattle.bye_terms.proofs.Texts.{ascii_chars}
use Rattle.bye_words.proofs.table.forms.Goals as goal

pub returns : goal.returns
returns c = simp (
  ascii_chars (codes "learn") refl,
  ascii_chars (codes "convert") refl,
  ascii_chars (codes "--graph") refl,
  ascii_chars (codes "--wanted") refl,
  ascii_chars (codes "--tables") refl,
  ascii_chars (codes "--table") refl,
  ascii_chars (codes "--from") refl,
  ascii_chars (codes "--to") refl,
  ascii_chars (codes "run") refl,
  ascii_chars (codes "--query") refl,
  ascii_chars (codes "--as") refl,
  ascii_chars (codes "tsv") refl,
  ascii_chars (codes "json") refl,
  ascii_chars (codes "csv") refl,
)
