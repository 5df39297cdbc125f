use Rattle.std.proofs.Common.{◌≡◌, List, ℕ, sym, ◌∙◌, ap}
use Rattle.std.specs.Str.{chars}
use Rattle.bye_terms.proofs.Texts.{ascii_chars}
use Rattle.bye_descent.specs.Features.{feature_text}
use Rattle.bye_words.specs.declared.fault.Fault.TheVariants.{LeftOut}
use Rattle.bye_words.specs.declared.refusal.Refusal.TheVariants.{Document}
use Rattle.bye_words.specs.declared.role.Role.TheVariants.{Query}
use Rattle.bye_cli.proofs.Features.{feature_ascii}
use Rattle.bye_cli.proofs.query_reader.left_out.Goals as goal

pub returns : goal.returns
returns c =
    ap (λ (word : List ℕ). Document Query (LeftOut c.args.place word))
    (c.in_ok-word.ensures ∙ (ap chars c.word.ensures ∙ ascii_chars (feature_text c.args.feature) (feature_ascii c.args.feature)))
