use Rattle.std.proofs.Common.{◌≡◌, ◌++◌, [], List, ℕ, ◌∙◌, ap, subst, OnOk}
use Rattle.std.specs.Str.{chars, encode_utf8_all}
use Rattle.std.proofs.lemmas.Str.{chars-encodes}
use Rattle.bye_terms.specs.Spellings.{term_text}
use Rattle.bye_terms.specs.Valid.{IsRdfTerm}
use Rattle.bye_terms.specs.declared.term.Term.{Term}
use Rattle.bye_lex.specs.Written.{written, WrittenAsOrdered}
use Rattle.bye_lex.specs.declared.style.Style.TheVariants.{Query}
use Rattle.bye_printer.proofs.patterns.push_term.Goals as goal

-- what was put into no bytes is read as the spelling of the term
read_back : (t term : Term) (empty bytes slice text : List ℕ) → WrittenAsOrdered → IsRdfTerm term → t ≡ term → empty ≡ [] → bytes ≡ empty ++ encode_utf8_all (written Query t) → slice ≡ bytes → text ≡ slice
    → chars text ≡ term_text term
read_back t term empty bytes slice text law valid same none put is read =
    ap chars (read ∙ is ∙ put ∙ (λ i. none i ++ encode_utf8_all (written Query (same i))) ∙ ap encode_utf8_all (law term).1) ∙ chars-encodes (term_text term) valid.scalars

pub returns-clause-text : goal.returns-clause-text
returns-clause-text c =
    subst (λ (text : List ℕ). OnOk c.push_str.result (c.push_str.new.self ≡ c.args.out.now ++ text))
    (read_back _ _ _ _ _ _ c.written_as_ordered.ensures c.as_rdf.ensures.valid c.as_rdf.ensures.same c.new-spelled.ensures.items c.in_ok-push_term.ensures.ok c.as_slice.ensures.value c.in-Ok.ensures.cases.0) c.push_str.ensures.ok
