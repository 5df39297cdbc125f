use Rattle.std.proofs.Common.{◌≡◌, refl, ◌++◌, [], List, ℕ, sym, ◌∙◌, ap, subst, OnOk}
use Rattle.std.specs.Str.{chars, encode_utf8_all, IsUtf8}
use Rattle.std.proofs.lemmas.Str.{chars-encodes}
use Rattle.bye_terms.specs.Spellings.{term_text}
use Rattle.bye_terms.specs.Valid.{IsRdfTerm}
use Rattle.bye_terms.specs.declared.term.Term.{Term}
use Rattle.bye_lex.specs.Written.{written, WrittenAsOrdered}
use Rattle.bye_lex.specs.declared.style.Style.TheVariants.{Query}
use Rattle.bye_pattern.proofs.printer.push_term.Goals as goal

-- what was put into no bytes is the spelling of the term
spelled : (t term : Term) (empty bytes slice : List ℕ) → WrittenAsOrdered → t ≡ term → empty ≡ [] → bytes ≡ empty ++ encode_utf8_all (written Query t) → slice ≡ bytes
    → slice ≡ encode_utf8_all (term_text term)
spelled t term empty bytes slice law same none put is =
    is ∙ put ∙ (λ i. none i ++ encode_utf8_all (written Query (same i))) ∙ ap encode_utf8_all (law term).1

is_utf8 : (term : Term) (bytes : List ℕ) → IsRdfTerm term → bytes ≡ encode_utf8_all (term_text term) → IsUtf8 bytes
is_utf8 term bytes valid is = subst IsUtf8 (sym is) (term_text term, (valid.scalars, refl))

read_back : (term : Term) (bytes text : List ℕ) → IsRdfTerm term → bytes ≡ encode_utf8_all (term_text term) → text ≡ bytes → chars text ≡ term_text term
read_back term bytes text valid is same = ap chars (same ∙ is) ∙ chars-encodes (term_text term) valid.scalars

pub unreachable-requires : goal.unreachable-requires
unreachable-requires c =
    let is = spelled _ _ _ _ _ c.written_as_ordered.ensures c.as_rdf.ensures.same c.new-spelled.ensures.items c.in_ok-push_term.ensures.ok c.as_slice.ensures.value in
    c.in-Err.ensures.cases.0 (is_utf8 c.args.term.now _ c.as_rdf.ensures.valid is)

pub returns : goal.returns
returns c =
    let is = spelled _ _ _ _ _ c.written_as_ordered.ensures c.as_rdf.ensures.same c.new-spelled.ensures.items c.in_ok-push_term.ensures.ok c.as_slice.ensures.value in
    subst (λ (text : List ℕ). OnOk c.push_str.result (c.push_str.new.self ≡ c.args.out.now ++ text)) (read_back c.args.term.now _ _ c.as_rdf.ensures.valid is c.in-Ok.ensures.cases.0) c.push_str.ensures.ok
