use Rattle.std.proofs.Common.{◌≡◌, ◌++◌, OnOk, subst, List, ℕ}
use Rattle.bye_terms.proofs.Texts.{ascii_chars}
use Rattle.bye_terms.proofs.text.Text.push_ascii.Goals as goal

pub returns-clause-ok : goal.returns-clause-ok
returns-clause-ok c =
    subst (λ (text : List ℕ). OnOk c.push_str.result (c.push_str.new.self ≡ c.args.self.now ++ text)) (ascii_chars c.args.s.now c.requires) c.push_str.ensures.ok
