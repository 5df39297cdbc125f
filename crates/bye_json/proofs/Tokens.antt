-- Tokens that are written one after another.
use Rattle.std.proofs.Common.{List, ◌++◌, ap, ◌∙◌, append_assoc}
use Rattle.json.specs.Token.{Token}
use Rattle.json.specs.Written.{Written}
use Rattle.bye_json.specs.Tokens.{Adds}

pub adds_then : (old mid new : Written) (ts us : List Token) → Adds old ts mid → Adds mid us new → Adds old (ts ++ us) new
adds_then old mid new ts us a b = record {
  before = b.before ∙ a.before;
  tokens = b.tokens ∙ ap (λ front. front ++ us) a.tokens ∙ append_assoc old.tokens ts us;
}
